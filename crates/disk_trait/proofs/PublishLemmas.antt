-- Text is published: the views after each of the four calls.
use Rattle.std.proofs.Common.{Result, OnOk, IsTrue, ◌≡◌, inl, inr, ℕ, ◌+◌, ◌≤◌, List, [], ◌∷◌, length, get_or, take, drop, sym, ◌∙◌, ap, subst, arith, add-zero}
use Rattle.std.proofs.lemmas.List.{take-take, drop-drop}
use Rattle.std.proofs.lemmas.Result.{on_ok_weaker}
use Rattle.disk_trait.specs.Disk.{DiskView, MayLeave, Torn, IsDeviceCall, LeavesOnly, IsSettled, HasTextBehind, IsPublished, IsPublishing, IsTornFrom, started, one_call_more, bytes_at, overwritten}
use Rattle.disk_trait.specs.Places.{written, byte_of, above}
use Rattle.disk_trait.specs.declared.disk.DeviceFault.{DeviceFault}
use Rattle.disk_trait.proofs.Torn.{torn_same}

abbrev Answer : Type 0
Answer = Result (Unit {0}) DeviceFault

-- where nothing is torn nothing changes
torn_nowhere : (old new : List ℕ) → Torn 0 0 old new → new ≡ old
torn_nowhere old new torn = torn.after

-- behind the gate, and then the gate itself
torn_both : (first mid last : List ℕ) (gate n : ℕ) → Torn (gate + 1) n first mid → Torn gate 1 mid last → Torn gate (n + 1) first last
torn_both first mid last gate n behind here = record {
  as_long = here.as_long ∙ behind.as_long;
  before = here.before ∙ sym (take-take gate (gate + 1) mid (omega arith)) ∙ ap (take gate) behind.before ∙ take-take gate (gate + 1) first (omega arith);
  after =
      let at : gate + (n + 1) ≡ gate + 1 + n = omega arith in
      ap (λ k. drop k last) at ∙ sym (drop-drop n (gate + 1) last) ∙ ap (drop n) here.after ∙ drop-drop n (gate + 1) mid ∙ behind.after ∙ ap (λ k. drop k first) (sym at);
}

module _ (v0 v1 v2 v3 v4 : DiskView) (gate : ℕ) (text : List ℕ) (model : IsTrue v0.keeps_model) where
  abbrev P : List ℕ → Type 0
  P = IsPublishing v0 gate text

  abbrev IsBehind : List ℕ → Type 0
  IsBehind image = (before : List ℕ) × MayLeave v0 before × Torn (gate + 1) (length text) before image

  so_far : (image : List ℕ) → IsBehind image → P image
  so_far image is = (is.0, is.1, inl is.2)

  module _ (r1 : Answer) (first : IsDeviceCall (gate + 1) (length text) v0 v1 r1) where
    model1 : IsTrue v1.keeps_model
    model1 = subst IsTrue (sym first.ran.model) model

    behind : (image : List ℕ) → MayLeave v1 image → IsBehind image
    behind image left = (first.moves model).torn image left

    pub after_write : LeavesOnly v0 v1 P
    after_write = one_call_more v0 v0 v1 P (started v0 P (λ image left. so_far image (image, left, torn_same image (gate + 1) (length text)))) (first.moves model) (λ image left. so_far image (behind image left))

    module _ (r2 : Answer) (second : IsDeviceCall 0 0 v1 v2 r2) where
      model2 : IsTrue v2.keeps_model
      model2 = subst IsTrue (sym second.ran.model) model1

      kept : (image : List ℕ) → MayLeave v2 image → IsBehind image
      kept image left = let from = (second.moves model1).torn image left in subst IsBehind (sym (torn_nowhere from.0 image from.2)) (behind from.0 from.1)

      pub after_sync : LeavesOnly v0 v2 P
      after_sync = one_call_more v0 v1 v2 P after_write (second.moves model1) (λ image left. so_far image (kept image left))

      module _ (r3 : Answer) (third : IsDeviceCall gate 1 v2 v3 r3) (fits : gate + 1 ≤ length v0.content)
          (content : IsTrue v0.keeps_model → v1.content ≡ overwritten v0.content (gate + 1) text) (settled : IsTrue v1.keeps_model → IsSettled v2) where
        model3 : IsTrue v3.keeps_model
        model3 = subst IsTrue (sym third.ran.model) model2

        text_there : (image : List ℕ) → MayLeave v2 image → bytes_at image (gate + 1) (length text) ≡ text
        text_there image left =
            ap (λ (l : List ℕ). bytes_at l (gate + 1) (length text)) (settled model1 image left ∙ torn_nowhere v1.content v2.content (second.moves model1).content ∙ content model)
            ∙ written v0.content (gate + 1) text fits

        shown : (image : List ℕ) → MayLeave v3 image → (before : List ℕ) × MayLeave v0 before × HasTextBehind gate text before image
        shown image left =
            let mid = (third.moves model2).torn image left in
            let from = kept mid.0 mid.1 in (
              from.0,
              from.1,
              record {
                torn = torn_both from.0 mid.0 image gate (length text) from.2 mid.2;
                text = above mid.0 image gate 1 (gate + 1) (length text) mid.2 (omega arith) ∙ text_there mid.0 mid.1;
              },
            )

        now_shown : (image : List ℕ) → MayLeave v3 image → P image
        now_shown image left = let is = shown image left in (is.0, is.1, inr is.2)

        pub after_gate : LeavesOnly v0 v3 P
        after_gate = one_call_more v0 v2 v3 P after_sync (third.moves model2) now_shown

        module _ (r4 : Answer) (fourth : IsDeviceCall 0 0 v3 v4 r4) where
          before_last : (image : List ℕ) → MayLeave v4 image → MayLeave v3 image
          before_last image left = let from = (fourth.moves model3).torn image left in subst (λ (l : List ℕ). MayLeave v3 l) (sym (torn_nowhere from.0 image from.2)) from.1

          pub after_all : LeavesOnly v0 v4 P
          after_all = one_call_more v0 v3 v4 P after_gate (fourth.moves model3) (λ image left. now_shown image (before_last image left))

          pub stands : (IsTrue v2.keeps_model → v3.content ≡ overwritten v2.content gate (1 ∷ [])) → gate ≤ length v2.content → (IsTrue v3.keeps_model → OnOk r4 (IsSettled v4)) → OnOk r4 ((image : List ℕ) → MayLeave v4 image → IsPublished v0 gate text image)
          stands gate_written within last = on_ok_weaker r4 (λ last_settled image left.
              let is = shown image (before_last image left) in
              let one : bytes_at image gate 1 ≡ 1 ∷ [] =
              ap (λ (l : List ℕ). bytes_at l gate 1) (last_settled image left ∙ torn_nowhere v3.content v4.content (fourth.moves model3).content ∙ gate_written model2) ∙ written v2.content gate (1 ∷ []) within in
              record {
                before = is.0;
                was = is.1;
                shows = is.2;
                is_open = ap (λ k. get_or image k 0) (sym (add-zero gate)) ∙ sym (byte_of image gate 1 0 0 (omega arith)) ∙ ap (λ (l : List ℕ). get_or l 0 0) one;
              }) (last model3)

-- a gate is closed: the views after each of the two calls
module _ (v0 v1 v2 : DiskView) (gate : ℕ) (model : IsTrue v0.keeps_model) (r1 : Answer) (first : IsDeviceCall gate 1 v0 v1 r1) where
  torn_now : (image : List ℕ) → MayLeave v1 image → IsTornFrom v0 gate 1 image
  torn_now image left = (first.moves model).torn image left

  pub closing : LeavesOnly v0 v1 (IsTornFrom v0 gate 1)
  closing = one_call_more v0 v0 v1 (IsTornFrom v0 gate 1) (started v0 (IsTornFrom v0 gate 1) (λ image left. (image, left, torn_same image gate 1))) (first.moves model) torn_now

  module _ (r2 : Answer) (second : IsDeviceCall 0 0 v1 v2 r2) where
    closing_model : IsTrue v1.keeps_model
    closing_model = subst IsTrue (sym first.ran.model) model

    pub closed : LeavesOnly v0 v2 (IsTornFrom v0 gate 1)
    closed = one_call_more v0 v1 v2 (IsTornFrom v0 gate 1) closing (second.moves closing_model) (λ image left.
        let from = (second.moves closing_model).torn image left in subst (IsTornFrom v0 gate 1) (sym (torn_nowhere from.0 image from.2)) (torn_now from.0 from.1))

    pub shut : (IsTrue v0.keeps_model → v1.content ≡ overwritten v0.content gate (0 ∷ [])) → gate ≤ length v0.content → (IsTrue v1.keeps_model → OnOk r2 (IsSettled v2)) → OnOk r2 ((image : List ℕ) → MayLeave v2 image → get_or image gate 0 ≡ 0)
    shut gate_written within last = on_ok_weaker r2 (λ settled image left.
        let zero_there : bytes_at image gate 1 ≡ 0 ∷ [] =
        ap (λ (l : List ℕ). bytes_at l gate 1) (settled image left ∙ torn_nowhere v1.content v2.content (second.moves closing_model).content ∙ gate_written model) ∙ written v0.content gate (0 ∷ []) within in
        ap (λ k. get_or image k 0) (sym (add-zero gate)) ∙ sym (byte_of image gate 1 0 0 (omega arith)) ∙ ap (λ (l : List ℕ). get_or l 0 0) zero_there) (last closing_model)
