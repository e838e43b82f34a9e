-- The fields of packets in bytes.
use Rattle.std.proofs.Common.{◌≡◌, ℕ, ◌+◌, ◌-◌, ◌*◌, List, [], ◌++◌, length, get_or, replicate, ap, ◌∙◌, arith, inl, inr}
use Rattle.std.specs.Prelude.{slice_get}
use Rattle.std.specs.Int.{w16, to_be_bytes}
use Rattle.std.proofs.lemmas.Bool.{cases_lt, le-ltb, lt-ltb}
use Rattle.std.proofs.lemmas.List.{get_or_append_left, length-append}
use Rattle.std.proofs.lemmas.Nat.{from_be_bytes-to_be_bytes_2}
use Rattle.std.proofs.lemmas.Option.{slice_get-get_or, slice_get_past}
use Rattle.schemes.specs.declared.packet.Packet.{Packet}
use Rattle.packet_bytes.specs.Layout.{most_ports}
use Rattle.packet_bytes.specs.Spelling.{SpellsPacket, packet_text}
use Rattle.byte_forms.specs.Reading.{u16_of}
use Rattle.router_table.proofs.FormTexts.{length_number}
use Rattle.table_view.specs.Parts.{light_of}
use Rattle.table_view.proofs.Places.{u16_behind, u16_item}

module _ (bytes : List ℕ) (k : Packet) (spelled : SpellsPacket bytes k) where
  at_place : (at : ℕ) → u16_of bytes at ≡ u16_of (packet_text k) at
  at_place at = ap (λ (t : List ℕ). u16_of t at) spelled.text

  pub destination_is : u16_of bytes 8 ≡ k.destination
  destination_is = at_place 8 ∙ from_be_bytes-to_be_bytes_2 k.destination spelled.fits.destination

  pub root_is : u16_of bytes 10 ≡ k.root
  root_is = at_place 10 ∙ from_be_bytes-to_be_bytes_2 k.root spelled.fits.root

  pub first_is : u16_of bytes 12 ≡ k.label.first
  first_is = at_place 12 ∙ from_be_bytes-to_be_bytes_2 k.label.first spelled.fits.label.0

  pub hops_are : u16_of bytes 14 ≡ k.hops_left
  hops_are = at_place 14 ∙ from_be_bytes-to_be_bytes_2 k.hops_left spelled.fits.hops_left

  count_is : get_or bytes 16 0 ≡ length k.label.lights
  count_is = ap (λ (t : List ℕ). get_or t 16 0) spelled.text

  pub light_is : (depth : ℕ) → slice_get k.label.lights depth ≡ light_of bytes depth
  light_is depth = elim (cases_lt depth (length k.label.lights)) [
    | inl lt ↦ (
        let lights = k.label.lights in
        let zeros : List ℕ = replicate (most_ports - length lights) 0 in
        let same : get_or (lights ++ zeros) depth 0 ≡ get_or lights depth 0 = get_or_append_left lights zeros 0 depth lt in
        let item = u16_item (to_be_bytes w16) 2 length_number (lights ++ zeros) depth 0 (omega (arith, lt, length-append lights zeros)) (get_or lights depth 0) [] (spelled.fits.label.1.each depth 0 lt) (ap (to_be_bytes w16) same) in
        let there : u16_of bytes (17 + 2 * depth) ≡ get_or lights depth 0 = at_place (17 + 2 * depth) ∙ u16_behind (packet_text k) 17 (2 * depth) ∙ item in
        rw (count_is, lt-ltb depth (length lights) lt, there) (slice_get-get_or lights depth 0 lt))
    | inr le ↦ rw (count_is, le-ltb depth (length k.label.lights) le) (slice_get_past k.label.lights depth le)
  ]
