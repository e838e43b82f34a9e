-- Spellings are read, each as the one value that it is of.
use Rattle.std.proofs.Common.{◌≡◌, ℕ, ◌+◌, ◌-◌, ◌*◌, ◌^◌, ◌<◌, ◌≤◌, true, List, ◌++◌, length, drop, replicate, Option, Some, None, refl, sym, ap, ◌∙◌, arith}
use Rattle.std.specs.Int.{w16, to_be_bytes}
use Rattle.std.proofs.lemmas.List.{length-append, length-replicate}
use Rattle.std.proofs.lemmas.List.Elements.{recursion_from_All}
use Rattle.byte_forms.specs.FormLaws.{apart, u16_is_form, u64_is_form}
use Rattle.schemes.specs.declared.packet.Home.{Home}
use Rattle.packet_bytes.specs.Layout.{most_ports, home_size}
use Rattle.packet_bytes.specs.Laws.{PacketsAreRead, OnePacket, AddressesAreRead, OneAddress}
use Rattle.packet_bytes.specs.Refusals.{ports_refusal, home_refusal, packet_refusal, address_refusal}
use Rattle.packet_bytes.specs.Spelling.{ports_text, packet_text, home_text, address_text, ArePorts, IsHome}
use Rattle.packet_bytes.proofs.Places.{length_ports, zeros_pass, ports_form, ports_is_form, ports_are, refusal_is}

-- ---- ports

length_text : (ports : List ℕ) → length ports ≤ most_ports → length (ports_text ports) ≡ 1 + 2 * most_ports
length_text ports few =
    let n = most_ports - length ports in
    let zeros : List ℕ = replicate n 0 in
    omega (arith, length_ports (ports ++ zeros), length-append ports zeros, length-replicate {A = ℕ} n 0, few)

ports_read : (ports : List ℕ) → length ports ≤ most_ports → ports_refusal (ports_text ports) ≡ None
ports_read ports few =
    let n = 2 * (most_ports - length ports) in
    refusal_is (ports_text ports) ports (replicate n 0) true (ports_are ports) few (zeros_pass n)

fits : (ports : List ℕ) → ArePorts ports → ports_form.Fits ports
fits ports are = (omega arith, are.few, recursion_from_All (λ port. port < 2 ^ 16) ports are.each)

same_ports : (a b : List ℕ) → ArePorts a → ArePorts b → ports_text a ≡ ports_text b → a ≡ b
same_ports a b are_a are_b e = (apart ports_is_form a b _ _ (fits a are_a) (fits b are_b) (sym (ports_are a) ∙ e ∙ ports_are b)).0

-- ---- packets

pub packets_are_read : PacketsAreRead
packets_are_read bytes k spells =
    let text = spells.text in
    let few = spells.fits.label.1.few in
    let size : length (packet_text k) ≡ 43 = omega (arith, length_text k.label.lights few) in
    ap packet_refusal text ∙ (rw size (ports_read k.label.lights few))

pub one_packet : OnePacket
one_packet bytes j k sj sk =
    let a = sj.fits in
    let b = sk.fits in
    let generation = apart u64_is_form j.generation k.generation _ _ a.generation b.generation (sym sj.text ∙ sk.text) in
    let destination = apart u16_is_form j.destination k.destination _ _ a.destination b.destination generation.1 in
    let root = apart u16_is_form j.root k.root _ _ a.root b.root destination.1 in
    let first = apart u16_is_form j.label.first k.label.first _ _ a.label.0 b.label.0 root.1 in
    let hops = apart u16_is_form j.hops_left k.hops_left _ _ a.hops_left b.hops_left first.1 in
    let lights = same_ports j.label.lights k.label.lights a.label.1 b.label.1 hops.1 in
    λ i. record { generation = generation.0 i; destination = destination.0 i; root = root.0 i; label = record { first = first.0 i; lights = lights i }; hops_left = hops.0 i }

-- ---- addresses

pub length_home : (o : Option Home) → IsHome o → length (home_text o) ≡ home_size
length_home None fits = refl
length_home (Some h) fits = omega (arith, length_text h.label.lights fits.1.1.few)

home_read : (o : Option Home) → IsHome o → home_refusal (home_text o) ≡ None
home_read None fits = refl
home_read (Some h) fits = ports_read h.label.lights fits.1.1.few

same_home : (o p : Option Home) → IsHome o → IsHome p → home_text o ≡ home_text p → o ≡ p
same_home None None fo fp e = refl
same_home None (Some h) fo fp e = absurd cc
same_home (Some g) None fo fp e = absurd cc
same_home (Some g) (Some h) fo fp e =
    let rest : to_be_bytes w16 g.landmark ++ (to_be_bytes w16 g.label.first ++ ports_text g.label.lights) ≡ to_be_bytes w16 h.landmark ++ (to_be_bytes w16 h.label.first ++ ports_text h.label.lights) = ap (λ (l : List ℕ). drop 1 l) e in
    let landmark = apart u16_is_form g.landmark h.landmark _ _ fo.0 fp.0 rest in
    let first = apart u16_is_form g.label.first h.label.first _ _ fo.1.0 fp.1.0 landmark.1 in
    let lights = same_ports g.label.lights h.label.lights fo.1.1 fp.1.1 first.1 in
    λ i. Some (record { landmark = landmark.0 i; label = record { first = first.0 i; lights = lights i } })

pub addresses_are_read : AddressesAreRead
addresses_are_read bytes a spells =
    let size : length (address_text a) ≡ 42 = omega (arith, length_home a.home spells.fits.home) in
    ap address_refusal spells.text ∙ (rw size (home_read a.home spells.fits.home))

pub one_address : OneAddress
one_address bytes a b sa sb =
    let fa = sa.fits in
    let fb = sb.fits in
    let generation = apart u64_is_form a.generation b.generation _ _ fa.generation fb.generation (sym sa.text ∙ sb.text) in
    let node = apart u16_is_form a.node b.node _ _ fa.node fb.node generation.1 in
    let home = same_home a.home b.home fa.home fb.home node.1 in
    λ i. record { generation = generation.0 i; node = node.0 i; home = home i }
