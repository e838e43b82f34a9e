-- What a scheme's answers to a launch say.
use Rattle.std.proofs.Common.{◌≡◌, ◌<◌, ℕ, nat_lt, true, false, ◌&&◌, cond, is_some, Option, Some, None, Result, Ok, Err, refl, sym, ap, ◌∙◌, subst, arith}
use Rattle.std.proofs.lemmas.Bool.Decides.{nat_tests}
use Rattle.schemes.specs.declared.packet.Packet.{Packet}
use Rattle.schemes.specs.declared.packet.Refused as scheme
use Rattle.schemes.specs.declared.packet.Refused.TheVariants as by_scheme
use Rattle.schemes.specs.declared.parts.Parts.{Parts}
use Rattle.schemes.specs.Tables.{Tables, tables}
use Rattle.schemes.specs.Service.{address, address_given, decide, packet_by, by_directory, through_home}
use Rattle.generations.specs.Boards.{scheme_of}
use Rattle.forwarders.specs.declared.refused.Refused.{Refused}
use Rattle.forwarders.specs.declared.refused.Refused.TheVariants.{NoNode, Unreachable}
use Rattle.forwarders.specs.Answers.{Shelf, by_name, by}
use Rattle.event_model.specs.Trips.{launch_to, launch_in}
use Rattle.event_laws.proofs.Every.{on_bool}

both_below : (u v n : ℕ) → (nat_lt u n && nat_lt v n) ≡ true → (u < n) × (v < n)
both_below u v n e = (grind (arith, nat_tests), grind (arith, nat_tests))

not_below : (u v n : ℕ) → (nat_lt u n && nat_lt v n) ≡ false → u < n → v < n → ⊥
not_below u v n e a b = grind (arith, nat_tests)

above : (v n : ℕ) → nat_lt v n ≡ false → v < n → ⊥
above v n e lt = grind (arith, nat_tests)

-- ---- what u answers to the scheme's own address of v

pub record IsSent (t : Tables) (u v : ℕ) (k : Packet) : Type 0 where
  pub from : u < t.nodes
  pub to : v < t.nodes
  pub generation : k.generation ≡ t.generation

data Decides (t : Tables) (u v : ℕ) : Result Packet scheme.Refused → Type 0 where
  no_node : (u < t.nodes → v < t.nodes → ⊥) → Decides t u v (Err by_scheme.NoNode)
  apart : u < t.nodes → v < t.nodes → Decides t u v (Err by_scheme.Unreachable)
  sends : (k : Packet) → IsSent t u v k → Decides t u v (Ok k)

decides : (t : Tables) (u v : ℕ) → Decides t u v (decide t u (address t v))
decides t u v = on_bool (λ b. Decides t u v (cond b (by_directory t u (address t v) (t.listed u v)) (Err by_scheme.NoNode))) (nat_lt u t.nodes && nat_lt v t.nodes)
    (λ e.
    let both = both_below u v t.nodes e in
    elim (t.listed u v) as (λ o. Decides t u v (by_directory t u (address t v) o)) [
      | Some l ↦ sends (packet_by t v u l) (record { from = both.0; to = both.1; generation = refl })
      | None ↦ elim (address t v).home as (λ h. Decides t u v (through_home t u (address t v) h)) [
        | None ↦ apart both.0 both.1
        | Some h ↦ elim (is_some (t.entry u h.landmark)) as (λ b. Decides t u v (cond b (Ok (packet_by t v h.landmark h.label)) (Err by_scheme.Unreachable))) [
          | true ↦ sends (packet_by t v h.landmark h.label) (record { from = both.0; to = both.1; generation = refl })
          | false ↦ apart both.0 both.1
        ]
      ]
    ])
    (λ e. no_node (not_below u v t.nodes e))

pub sent_is : (t : Tables) (u v : ℕ) (k : Packet) → decide t u (address t v) ≡ Ok k → IsSent t u v k
sent_is t u v k e = go (subst (Decides t u v) e (decides t u v))
  where
    go : Decides t u v (Ok k) → IsSent t u v k
    go (sends j is) = is

-- ---- by the newest generation of a shelf

-- what is answered where the newest generation of a shelf has this scheme
pub data Launches (t : Tables) (u v : ℕ) : Result Packet Refused → Type 0 where
  missing : (u < t.nodes → v < t.nodes → ⊥) → Launches t u v (Err NoNode)
  unreachable : u < t.nodes → v < t.nodes → decide t u (address t v) ≡ Err by_scheme.Unreachable → Launches t u v (Err Unreachable)
  launches : (k : Packet) → decide t u (address t v) ≡ Ok k → Launches t u v (Ok k)

as_decided : (t : Tables) (u v : ℕ) (o : Result Packet scheme.Refused) → decide t u (address t v) ≡ o → Decides t u v o → Launches t u v (by_name o)
as_decided t u v o e (no_node not) = missing not
as_decided t u v o e (apart a b) = unreachable a b e
as_decided t u v o e (sends k is) = launches k e

-- at the scheme's own address
pub launched_in : (shelf : Shelf) (u v n : ℕ) (p : Parts) → scheme_of n shelf ≡ Some p → p.generation ≡ n → Launches (tables p) u v (launch_in shelf u v (Some n))
launched_in shelf u v n p found named =
    let t = tables p in
    let there : scheme_of p.generation shelf ≡ Some p = ap (λ (g : ℕ). scheme_of g shelf) named ∙ found in
    subst (λ (o : Option Parts). Launches t u v (launch_to shelf u (by (λ (s : Tables). address_given s v) o))) (sym found)
    (on_bool (λ b. Launches t u v (launch_to shelf u (by_name (cond b (Ok (address t v)) (Err by_scheme.NoNode))))) (nat_lt v p.nodes)
    (λ _. subst (λ (o : Option Parts). Launches t u v (by (λ (s : Tables). decide s u (address t v)) o)) (sym there) (as_decided t u v (decide t u (address t v)) refl (decides t u v)))
    (λ e. missing (λ _ b. above v p.nodes e b)))
