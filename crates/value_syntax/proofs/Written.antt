-- Lists that are written as texts.
use Rattle.std.proofs.Common.{◌≡◌, ◌∙◌, ◌<◌, ◌≤◌, ◌^◌, ◌+◌, ◌==◌, arith, All, ℕ, zero, suc, refl, sym, ap, ap₂, List, [], ◌∷◌, ◌++◌, map, length, take, get_or, false, Option, None, Some, Bor, codes, decimal}
use Rattle.std.proofs.lemmas.Fmt.{decimal_is_IsNumeral}
use Rattle.std.proofs.lemmas.List.Elements.{recursion_from_All}
use Rattle.std.proofs.lemmas.Str.Parse.{digit_at}
use Rattle.graph_edits.specs.declared.edits.Op.{Op}
use Rattle.value_syntax.specs.OpText.{op_text}
use Rattle.value_syntax.specs.declared.line.ScriptLine.{ScriptLine}
use Rattle.value_syntax.specs.declared.line.ScriptLine.TheVariants.{Edit, Route}
use Rattle.std.specs.List.{AllByRecursion}
use Rattle.value_syntax.specs.Scripts.{IsChange, MayStand, line_words, without_empty_last, words_of}

some_same : {A : Type 0} (o : Option A) (a b : A) → o ≡ Some a → o ≡ Some b → a ≡ b
some_same o a b is other = cc

-- where the one list reads as the other is written, each place does
pub read_at : {A B C : Type 0} (P : B → Type 0) (f : A → C) (g : B → C) (bs : List B) (xs : List A) (i : ℕ) (d : A) → i < length xs → AllByRecursion P bs → map g bs ≡ map f xs
    → (b : B) × P b × (f (get_or xs i d) ≡ g b) × (take (suc i) bs ≡ take i bs ++ b ∷ [])
read_at P f g bs [] i d lt fit same = absurd (omega arith)
read_at P f g [] (x ∷ xs) i d lt fit same = absurd (cc)
read_at P f g (b ∷ bs) (x ∷ xs) zero d lt fit same = (b, fit.0, cc, refl)
read_at P f g (b ∷ bs) (x ∷ xs) (suc i) d lt fit same =
    let rest : map g bs ≡ map f xs = cc in
    let next = read_at P f g bs xs i d (omega arith) fit.1 rest in
    (next.0, next.1, next.2, ap (λ taken. b ∷ taken) next.3)

-- the place that no text stands at
abbrev pub nowhere : Bor (List ℕ)
nowhere = record { ref_ptr = (0, 0); now = [] }

-- A loop reads the text at place i, as the only item that is written so, or as none. Where all texts are written as these
-- items are, one is read there, and it is theirs.
module _ {B C : Type 0} (P : B → Type 0) (f : Bor (List ℕ) → C) (g : B → C) (xs : List (Bor (List ℕ))) (i : ℕ) (found : Option B) (lt : i < length xs)
    (only : (b : B) → P b → f (get_or xs i nowhere) ≡ g b → found ≡ Some b) (bs : List B) (fit : All P bs) (same : map g bs ≡ map f xs) where
  next : (b : B) × P b × (f (get_or xs i nowhere) ≡ g b) × (take (suc i) bs ≡ take i bs ++ b ∷ [])
  next = read_at P f g bs xs i nowhere lt (recursion_from_All P bs fit) same

  its_own : found ≡ Some next.0
  its_own = only next.0 next.1 next.2

  pub none_missed : ((b : B) → found ≡ Some b → ⊥) → ⊥
  none_missed none = none next.0 its_own

  pub one_read : (b : B) (old new : List B) → found ≡ Some b → old ≡ take i bs → new ≡ old ++ b ∷ [] → new ≡ take (i + 1) bs
  one_read b old new is before pushed =
      let one : b ≡ next.0 = some_same found b next.0 is its_own in
      let one_more : suc i ≡ i + 1 = omega arith in
      pushed ∙ ap₂ (λ (read : List B) (x : B). read ++ x ∷ []) before one ∙ sym next.3 ∙ ap (λ n. take n bs) one_more

-- an empty last part goes
pub empty_goes : (parts : List (List ℕ)) (last : List ℕ) → length last ≡ 0 → without_empty_last (parts ++ last ∷ []) ≡ parts
empty_goes [] last none = rw none refl
empty_goes (p ∷ []) last none = ap (λ ps. p ∷ ps) (empty_goes [] last none)
empty_goes (p ∷ q ∷ ps) last none = ap (λ rest. p ∷ rest) (empty_goes (q ∷ ps) last none)

-- another one stays
pub other_stays : (parts : List (List ℕ)) (last : List ℕ) → (length last == 0) ≡ false → without_empty_last (parts ++ last ∷ []) ≡ parts ++ last ∷ []
other_stays [] last some = rw some refl
other_stays (p ∷ []) last some = ap (λ ps. p ∷ ps) (other_stays [] last some)
other_stays (p ∷ q ∷ ps) last some = ap (λ rest. p ∷ rest) (other_stays (q ∷ ps) last some)

-- the words of each text
pub words_of_each : (xs : List (Bor (List ℕ))) → map words_of (map (λ x. x.now) xs) ≡ map (λ x. words_of x.now) xs
words_of_each [] = refl
words_of_each (x ∷ xs) = ap (λ rest. words_of x.now ∷ rest) (words_of_each xs)

-- no number is written as the word of a route
no_route : (n : ℕ) → n < 2 ^ 64 → decimal n ≡ codes "route" → ⊥
no_route n small is =
    let some : 0 < length (decimal n) = omega (arith, ap (λ (xs : List ℕ). length xs) is) in
    let range = digit_at (decimal n) 0 (decimal_is_IsNumeral n small).0.1 some in
    let first : get_or (decimal n) 0 0 ≡ 114 = ap (λ (xs : List ℕ). get_or xs 0 0) is in
    omega (arith, range.0, range.1, first)

-- words that are an edit's are no other line's
pub edit_alone : (editors session : ℕ) (ops : List Op) (words : List (List ℕ)) (read : Option (ℕ × List Op)) → session < 2 ^ 8 → read ≡ Some (session, ops) → words ≡ decimal session ∷ map op_text ops
    → ((s : ℕ) (os : List Op) → s < editors → IsChange os → words ≡ decimal s ∷ map op_text os → read ≡ Some (s, os))
    → (line : ScriptLine) → MayStand editors line → words ≡ line_words line → Some (Edit session ops) ≡ Some line
edit_alone editors session ops words read small is written only (Edit s os) stand same =
    let other : read ≡ Some (s, os) = only s os stand.0 stand.1 same in
    let pair : (session, ops) ≡ (s, os) = cc in
    let one : session ≡ s = ap (λ (p : ℕ × List Op). p.0) pair in
    let all : ops ≡ os = ap (λ (p : ℕ × List Op). p.1) pair in
    ap₂ (λ (n : ℕ) (xs : List Op). Some (Edit n xs)) one all
edit_alone editors session ops words read small is written only (Route from to) stand same =
    let first : decimal session ≡ codes "route" = cc in
    absurd (no_route session (omega (arith, small)) first)

-- ends that are read are those of one packet
pub one_route : (a b from to : ℕ) (read : Option (ℕ × ℕ)) → read ≡ Some (a, b) → read ≡ Some (from, to) → Some (Route a b) ≡ Some (Route from to)
one_route a b from to read is other =
    let pair : (a, b) ≡ (from, to) = cc in
    let one : a ≡ from = ap (λ (p : ℕ × ℕ). p.0) pair in
    let all : b ≡ to = ap (λ (p : ℕ × ℕ). p.1) pair in
    ap₂ (λ (n m : ℕ). Some (Route n m)) one all

-- nothing is read where nothing was read
pub nothing_read : {A B : Type 0} (a : A) (b : B) (read : Option A) → read ≡ None → read ≡ Some a → None ≡ Some b
nothing_read a b read is other = absurd (cc)

-- three words
pub three : (ws : List (Bor (List ℕ))) (d : Bor (List ℕ)) → 3 ≤ length ws → length ws < 4 → map (λ x. x.now) ws ≡ (get_or ws 0 d).now ∷ (get_or ws 1 d).now ∷ (get_or ws 2 d).now ∷ []
three [] d least most = absurd (omega arith)
three (a ∷ []) d least most = absurd (omega arith)
three (a ∷ b ∷ []) d least most = absurd (omega arith)
three (a ∷ b ∷ c ∷ []) d least most = refl
three (a ∷ b ∷ c ∷ e ∷ ws) d least most = absurd (omega arith)

pub three_words : (ws : List (Bor (List ℕ))) (d : Bor (List ℕ)) (x y z : List ℕ) → 3 ≤ length ws → length ws < 4 → (get_or ws 0 d).now ≡ x → (get_or ws 1 d).now ≡ y → (get_or ws 2 d).now ≡ z
    → map (λ w. w.now) ws ≡ x ∷ y ∷ z ∷ []
three_words ws d x y z least most first second third =
    three ws d least most ∙ ap (λ (w : List ℕ). w ∷ (get_or ws 1 d).now ∷ (get_or ws 2 d).now ∷ []) first ∙ ap₂ (λ (v w : List ℕ). x ∷ v ∷ w ∷ []) second third

-- a last text more
now_with_last : (xs : List (Bor (List ℕ))) (last : Bor (List ℕ)) → map (λ x. x.now) (xs ++ last ∷ []) ≡ map (λ x. x.now) xs ++ last.now ∷ []
now_with_last [] last = refl
now_with_last (x ∷ xs) last = ap (λ rest. x.now ∷ rest) (now_with_last xs last)

-- where the last part is empty, the others are the lines
pub lines_without_last : (all xs : List (Bor (List ℕ))) (last : Bor (List ℕ)) (parts : List (List ℕ)) → map (λ x. x.now) all ≡ parts → all ≡ xs ++ last ∷ [] → length last.now ≡ 0
    → map (λ x. x.now) xs ≡ without_empty_last parts
lines_without_last all xs last parts are is none =
    let whole : map (λ x. x.now) xs ++ last.now ∷ [] ≡ parts = sym (now_with_last xs last) ∙ ap (λ (ys : List (Bor (List ℕ))). map (λ x. x.now) ys) (sym is) ∙ are in
    sym (empty_goes (map (λ x. x.now) xs) last.now none) ∙ ap without_empty_last whole

-- where it isn't, all are
pub lines_with_last : (all xs : List (Bor (List ℕ))) (last : Bor (List ℕ)) (parts : List (List ℕ)) → map (λ x. x.now) all ≡ parts → all ≡ xs ++ last ∷ [] → (length last.now == 0) ≡ false
    → map (λ x. x.now) all ≡ without_empty_last parts
lines_with_last all xs last parts are is some =
    let whole : map (λ x. x.now) xs ++ last.now ∷ [] ≡ parts = sym (now_with_last xs last) ∙ ap (λ (ys : List (Bor (List ℕ))). map (λ x. x.now) ys) (sym is) ∙ are in
    are ∙ sym whole ∙ sym (other_stays (map (λ x. x.now) xs) last.now some) ∙ ap without_empty_last whole
