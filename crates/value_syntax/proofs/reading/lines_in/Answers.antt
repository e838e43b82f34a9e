use Rattle.std.proofs.Common.{rules, arith, ◌≡◌, ◌==◌, ◌∙◌, ◌++◌, ◌∷◌, [], ℕ, List, Bor, sym, ap, map, length, true, false}
use Rattle.std.proofs.lemmas.Bool.Decides.{nat_tests}
use Rattle.value_syntax.proofs.Written.{lines_without_last, lines_with_last}
use Rattle.value_syntax.proofs.reading.lines_in.Goals as goal
use Rattle.value_syntax.proofs.reading.lines_in.Goals.{then-not-is_empty+in_ok-push, else-not-is_empty}
use Rattle.std.specs.List.{slice_split}

pub returns : goal.returns
returns c =
    let all = c.in_ok-lines.lines.items in
    let before = c.pop.new.self.items in
    let last = c.in-Some.last in
    let is : all ≡ before ++ last ∷ [] = c.in-Some.ensures.items in
    elim c.if-not-is_empty.branch [
      | then-not-is_empty+in_ok-push w ↦
          let same : c.if-not-is_empty.lines.items ≡ all = search rules in
          let some : (length last.now == 0) ≡ false = sym w.if-not-is_empty.ensures in
          ap (λ (xs : List (Bor (List ℕ))). map (λ x. x.now) xs) same ∙ lines_with_last all before last (slice_split (λ b. b == 10) c.args.text.now) c.in_ok-lines.ensures is some
      | else-not-is_empty w ↦
          let same : c.if-not-is_empty.lines.items ≡ before = search rules in
          let none : length last.now ≡ 0 = let empty : (length last.now == 0) ≡ true = sym w.if-not-is_empty.ensures in grind (arith, nat_tests) in
          ap (λ (xs : List (Bor (List ℕ))). map (λ x. x.now) xs) same ∙ lines_without_last all before last (slice_split (λ b. b == 10) c.args.text.now) c.in_ok-lines.ensures is none
    ]
