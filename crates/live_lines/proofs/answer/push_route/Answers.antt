use Rattle.std.proofs.Common.{◌≡◌, ◌++◌, ◌∙◌, OnOk, List, ℕ, ap, append_assoc, decimal, subst}
use Rattle.std.specs.String.{string_bytes}
use Rattle.live_lines.proofs.answer.push_route.Goals as goal

-- a text with six pieces behind it, one after the other
six_more : (old a b c d e f t u v w x : List ℕ) → t ≡ old ++ a → u ≡ t ++ b → v ≡ u ++ c → w ≡ v ++ d → x ≡ w ++ e
    → x ++ f ≡ old ++ (a ++ (b ++ (c ++ (d ++ (e ++ f)))))
six_more old a b c d e f t u v w x first second third fourth fifth =
    ap (λ (s : List ℕ). s ++ f) (fifth ∙ ap (λ (s : List ℕ). s ++ e) (fourth ∙ ap (λ (s : List ℕ). s ++ d) (third ∙ ap (λ (s : List ℕ). s ++ c) (second ∙ ap (λ (s : List ℕ). s ++ b) first))))
    ∙ append_assoc ((((old ++ a) ++ b) ++ c) ++ d) e f ∙ append_assoc (((old ++ a) ++ b) ++ c) d (e ++ f) ∙ append_assoc ((old ++ a) ++ b) c (d ++ (e ++ f))
    ∙ append_assoc (old ++ a) b (c ++ (d ++ (e ++ f))) ∙ append_assoc old a (b ++ (c ++ (d ++ (e ++ f))))

pub returns : goal.returns
returns c =
    subst (λ (t : List ℕ). OnOk c.push_number-2.result (string_bytes c.push_number-2.new.text ≡ t))
    (six_more _ _ _ _ _ _ (decimal c.args.length) _ _ _ _ _ c.in_ok-push_str.ensures.bytes c.in_ok-push_number.ensures c.in_ok-push_str-2.ensures.bytes c.in_ok-push_stops.ensures c.in_ok-push_str-3.ensures.bytes)
    c.push_number-2.ensures
