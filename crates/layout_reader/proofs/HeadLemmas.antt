-- The heads of the slots.
use Rattle.std.proofs.Common.{◌≡◌, ℕ, zero, suc, ◌+◌, ◌*◌, ◌^◌, ◌<◌, ◌≤◌, List, ◌++◌, get_or, take, drop, refl, sym, ◌∙◌, ap, arith}
use Rattle.std.specs.Int.{w16, w32, w64, to_be_bytes, from_be_bytes}
use Rattle.std.proofs.lemmas.List.{take_at, drop-take, drop-drop, take-take, take-append-drop}
use Rattle.std.proofs.lemmas.Nat.{from_be_bytes-to_be_bytes_8}
use Rattle.disk_trait.specs.Disk.{bytes_at}
use Rattle.disk_trait.specs.Places.{byte_of}
use Rattle.layout_reader.specs.Heads.{start_of, epoch_in, HasHeadIn, IsNewestIn, HasNoNewest}

-- four parts
pub parts : (bytes e c n m : List ℕ) → e ≡ take 8 bytes → c ≡ take 8 (drop 8 bytes) → n ≡ take 2 (drop 8 (drop 8 bytes)) → m ≡ drop 2 (drop 8 (drop 8 bytes)) → bytes ≡ e ++ (c ++ (n ++ m))
parts bytes e c n m is_e is_c is_n is_m =
    let last : n ++ m ≡ drop 8 (drop 8 bytes) = ap (λ (l : List ℕ). l ++ m) is_n ∙ ap (λ (l : List ℕ). take 2 (drop 8 (drop 8 bytes)) ++ l) is_m ∙ take-append-drop 2 (drop 8 (drop 8 bytes)) in
    let mid : c ++ (n ++ m) ≡ drop 8 bytes = ap (λ (l : List ℕ). c ++ l) last ∙ ap (λ (l : List ℕ). l ++ drop 8 (drop 8 bytes)) is_c ∙ take-append-drop 8 (drop 8 bytes) in
    sym (ap (λ (l : List ℕ). e ++ l) mid ∙ ap (λ (l : List ℕ). l ++ drop 8 bytes) is_e ∙ take-append-drop 8 bytes)

-- the second slot begins behind the first
pub product : (room slot : ℕ) → slot < 2 → room * slot ≤ room
product room zero lt = omega arith
product room (suc zero) lt = omega arith
product room (suc (suc k)) lt = absurd (omega (arith, lt))

-- a gate and what stands behind it
pub gate_and : (content bytes : List ℕ) (at n : ℕ) → bytes ≡ bytes_at content at (n + 1) → (get_or content at 0 ≡ get_or bytes 0 0) × (bytes_at content (at + 1) n ≡ drop 1 bytes)
gate_and content bytes at n is = (
  ap (λ k. get_or content k 0) (omega arith) ∙ sym (byte_of content at (n + 1) 0 0 (omega arith)) ∙ ap (λ (l : List ℕ). get_or l 0 0) (sym is),
  ap (λ (l : List ℕ). take n l) (drop_one content at) ∙ sym (drop-take 1 n (drop at content)) ∙ ap (λ k. drop 1 (take k (drop at content))) (omega arith) ∙ ap (drop 1) (sym is),
)
  where
    drop_one : (content : List ℕ) (at : ℕ) → drop (at + 1) content ≡ drop 1 (drop at content)
    drop_one content at = ap (λ k. drop k content) (omega arith) ∙ sym (drop-drop 1 at content)

module _ (room slot gate epoch count nodes edges : ℕ) (image : List ℕ) (fits : epoch < 2 ^ 64) (head : HasHeadIn room slot gate epoch count nodes edges image) where
  pub head_epoch : epoch_in room slot image ≡ epoch
  head_epoch =
      ap (from_be_bytes w64) (sym (take-take 8 22 (drop (start_of room slot + 1) image) (omega arith)) ∙ ap (take 8) head.text ∙ take_at (to_be_bytes w64 epoch) (to_be_bytes w64 count ++ (to_be_bytes w16 nodes ++ to_be_bytes w32 edges)) 8 refl)
      ∙ from_be_bytes-to_be_bytes_8 epoch fits

module _ (room g0 e0 c0 n0 m0 g1 e1 c1 n1 m1 : ℕ) (image : List ℕ) (fits0 : e0 < 2 ^ 64) (fits1 : e1 < 2 ^ 64) (first : HasHeadIn room 0 g0 e0 c0 n0 m0 image) (second : HasHeadIn room 1 g1 e1 c1 n1 m1 image) where
  pub newest_first : g0 ≡ 1 → (g1 ≡ 1 → e1 < e0) → IsNewestIn room 0 g1 image
  newest_first is older = record {
    is_open = first.gate_is ∙ is;
    other_is = second.gate_is;
    older = λ is_open. rw (head_epoch room 1 g1 e1 c1 n1 m1 image fits1 second, head_epoch room 0 g0 e0 c0 n0 m0 image fits0 first) (older is_open);
  }

  pub newest_second : g1 ≡ 1 → (g0 ≡ 1 → e0 < e1) → IsNewestIn room 1 g0 image
  newest_second is older = record {
    is_open = second.gate_is ∙ is;
    other_is = first.gate_is;
    older = λ is_open. rw (head_epoch room 1 g1 e1 c1 n1 m1 image fits1 second, head_epoch room 0 g0 e0 c0 n0 m0 image fits0 first) (older is_open);
  }

  -- where neither is the newest by its head, neither is
  pub none_newest : ((g0 ≡ 1) × (g1 ≡ 1 → e1 < e0) → ⊥) → ((g1 ≡ 1) × (g0 ≡ 1 → e0 < e1) → ⊥) → HasNoNewest room image
  none_newest not_first not_second zero other_gate lt newest = not_first (
    sym first.gate_is ∙ newest.is_open,
    λ one.
        let older = newest.older (sym newest.other_is ∙ second.gate_is ∙ one) in
        omega (arith, older, head_epoch room 0 g0 e0 c0 n0 m0 image fits0 first, head_epoch room 1 g1 e1 c1 n1 m1 image fits1 second),
  )
  none_newest not_first not_second (suc zero) other_gate lt newest = not_second (
    sym second.gate_is ∙ newest.is_open,
    λ one.
        let older = newest.older (sym newest.other_is ∙ first.gate_is ∙ one) in
        omega (arith, older, head_epoch room 0 g0 e0 c0 n0 m0 image fits0 first, head_epoch room 1 g1 e1 c1 n1 m1 image fits1 second),
  )
  none_newest not_first not_second (suc (suc k)) other_gate lt newest = absurd (omega (arith, lt))

-- one slot is the newest
pub one_newest : (room i j gate_i gate_j : ℕ) (image : List ℕ) → i < 2 → j < 2 → IsNewestIn room i gate_i image → IsNewestIn room j gate_j image → i ≡ j
one_newest room zero zero gi gj image li lj a b = refl
one_newest room (suc zero) (suc zero) gi gj image li lj a b = refl
one_newest room zero (suc zero) gi gj image li lj a b =
    let x = a.older (sym a.other_is ∙ b.is_open) in
    let y = b.older (sym b.other_is ∙ a.is_open) in
    absurd (omega (arith, x, y))
one_newest room (suc zero) zero gi gj image li lj a b =
    let x = a.older (sym a.other_is ∙ b.is_open) in
    let y = b.older (sym b.other_is ∙ a.is_open) in
    absurd (omega (arith, x, y))
one_newest room zero (suc (suc j)) gi gj image li lj a b = absurd (omega (arith, lj))
one_newest room (suc zero) (suc (suc j)) gi gj image li lj a b = absurd (omega (arith, lj))
one_newest room (suc (suc i)) j gi gj image li lj a b = absurd (omega (arith, li))
