-- What parts of a line do to the bytes that a reader has left, where those are known.
use Rattle.std.proofs.Common.{◌≡◌, ◌≢◌, ◌<◌, ◌≤◌, ◌+◌, ◌++◌, ℕ, Bool, true, false, nat_lt, List, [], ◌∷◌, Option, Some, None, IfSome, Result, Ok, Err, IfOk, length, take, refl, sym, ap, subst, ◌∙◌, arith, append_assoc, append-nil, length-append}
use denote.Ref.{Bor}
use mir.Val.{bool_byte}
use Rattle.std.proofs.lemmas.Bool.{ltb-true}
use Rattle.std.proofs.lemmas.List.{take_at}
use Rattle.std.proofs.lemmas.List.Elements.{All-append}
use Rattle.std.specs.Io.{StartsWith}
use Rattle.std.specs.Io.BufRead.{DropsConsumable, FillKeeps}
use Rattle.std.specs.Io.KnownBytes.{Consumes, IsAtEnd, Keeps}
use Rattle.std.proofs.BufReadLemmas.{Consumes_shown}
use Rattle.std.proofs.KnownBytes.{Consumes-trans, starts_with_rest}
use Rattle.input_lines.specs.Lines.{after_line, first_line, line_feed, longest_line}
use Rattle.input_lines.specs.Reading.{DropsLine, Grows, IsFurther, IsNext, IsTooLong, SkipsPart, Unfed, feed_of}
use Rattle.input_lines.specs.declared.line.NextLine.{NextLine}
use Rattle.input_lines.specs.declared.line.NextLine.TheVariants.{Line, LongerLine}
use Rattle.input_lines.proofs.LineLemmas.{after_fed, after_joined, first_and_feed, first_fed, first_grows, first_joined, first_short, first_taken, first_unfed}

-- ---- what is shown

-- a line and its feed are a front
fed_part : (shown : List ℕ) (n : ℕ) → length (first_line shown) < length shown → n ≡ length (first_line shown) + 1 → take n shown ≡ first_line shown ++ line_feed ∷ []
fed_part shown n short size =
    let line = first_line shown in
    let feed = line_feed ∷ [] in
    let split : shown ≡ (line ++ feed) ++ after_line shown = first_and_feed shown short ∙ sym (append_assoc line feed (after_line shown)) in
    ap (take n) split ∙ take_at (line ++ feed) (after_line shown) n (length-append line feed ∙ sym size)

-- what isn't fed is all
part_whole : (shown : List ℕ) (n : ℕ) → n ≡ length (first_line shown) → take n shown ≡ first_line shown ++ []
part_whole shown n size = ap (λ k. take k shown) size ∙ first_taken shown ∙ sym (append-nil (first_line shown))

-- bytes that begin with what is shown have no shorter first line
pub too_long : (a : Option (List ℕ)) (before shown : List ℕ) → IfSome a (λ xs. StartsWith xs shown) → longest_line < length before + length (first_line shown) → IsTooLong a before
too_long None before shown front long = tt
too_long (Some xs) before shown front long =
    let rest = starts_with_rest xs shown front in
    let more = subst (λ l. length (first_line shown) ≤ length (first_line l)) (sym rest) (first_grows shown _) in
    omega (arith, more, long)

-- ---- what is read

-- bytes with no line feed, and then a line feed, are the first line
pub fed_next : (a b : Option (List ℕ)) (line : List ℕ) → Unfed line → length line ≤ longest_line → Consumes a b (line ++ line_feed ∷ []) → IfSome a (λ xs. IsNext xs Line line)
fed_next None b line unfed short read = tt
fed_next (Some x) None line unfed short read = absurd read
fed_next (Some x) (Some y) line unfed short read =
    let whole : x ≡ line ++ line_feed ∷ y = read ∙ append_assoc line (line_feed ∷ []) y in
    let first : first_line x ≡ line = ap first_line whole ∙ first_joined line (line_feed ∷ y) unfed ∙ ap (λ l. line ++ l) (first_fed line_feed y refl) ∙ append-nil line in
    let long = ap (λ (l : List ℕ). length l) whole in
    let same = ap (λ (l : List ℕ). length l) first in
    (omega (arith, long, length-append line (line_feed ∷ y)), omega (arith, same, short), sym first)

pub fed_drops : (a b : Option (List ℕ)) (line : List ℕ) → Unfed line → Consumes a b (line ++ line_feed ∷ []) → DropsLine a b
fed_drops None b line unfed read = tt
fed_drops (Some x) None line unfed read = absurd read
fed_drops (Some x) (Some y) line unfed read =
    let whole : x ≡ line ++ line_feed ∷ y = read ∙ append_assoc line (line_feed ∷ []) y in
    ap Some (sym (ap after_line whole ∙ after_joined line (line_feed ∷ y) unfed ∙ after_fed line_feed y refl))

-- a line that has grown is what was read
pub grown_read : (z a b : Option (List ℕ)) (before after behind : List ℕ) → Consumes z a before → Grows a b before after behind → Consumes z b (after ++ behind)
grown_read z a b before after behind read grows =
    subst (Consumes z b) (sym (append_assoc before grows.part behind) ∙ ap (λ l. l ++ behind) (sym grows.grown)) (Consumes-trans z a b before (grows.part ++ behind) read grows.read)

pub grown_unfed : (a b : Option (List ℕ)) (before after behind : List ℕ) → Unfed before → Grows a b before after behind → Unfed after
grown_unfed a b before after behind unfed grows =
    subst Unfed (sym grows.grown) (All-append (λ byte. byte ≢ line_feed) before grows.part unfed grows.unfed)

-- the end of the bytes ends a line
pub last_next : (line : List ℕ) → 0 < length line → length line ≤ longest_line → Unfed line → IsNext line Line line
last_next line some short unfed =
    let whole : first_line line ≡ line = sym (ap first_line (append-nil line)) ∙ first_joined line [] unfed ∙ append-nil line in
    let same = ap (λ (l : List ℕ). length l) whole in
    (some, omega (arith, same, short), sym whole)

pub end_next : (z a : Option (List ℕ)) (line : List ℕ) (next : NextLine) → Consumes z a line → IsAtEnd a → IsNext line next line → IfSome z (λ xs. IsNext xs next line)
end_next None a line next read end is = tt
end_next (Some x) None line next read end is = absurd read
end_next (Some x) (Some y) line next read end is =
    subst (λ l. IsNext l next line) (sym (read ∙ ap (λ l. line ++ l) end ∙ append-nil line)) is

pub end_drops : (z a b : Option (List ℕ)) (line : List ℕ) → Consumes z a line → Unfed line → IsAtEnd a → Keeps a b → DropsLine z b
end_drops None a b line read unfed end kept = tt
end_drops (Some x) None b line read unfed end kept = absurd read
end_drops (Some x) (Some y) None line read unfed end kept = absurd kept
end_drops (Some x) (Some y) (Some w) line read unfed end kept =
    ap Some (kept ∙ end ∙ sym (ap after_line (read ∙ ap (λ l. line ++ l) end) ∙ after_joined line [] unfed))

-- a line that is too long with what is shown is longer
pub longer_next : (z a : Option (List ℕ)) (line : List ℕ) → Consumes z a line → Unfed line → IsTooLong a line → IfSome z (λ xs. longest_line < length (first_line xs))
longer_next None a line read unfed long = tt
longer_next (Some x) None line read unfed long = absurd read
longer_next (Some x) (Some y) line read unfed long =
    let first = ap (λ (l : List ℕ). length l) (ap first_line read ∙ first_joined line y unfed) in
    omega (arith, first, length-append line (first_line y), long)

-- what is left behind a line that was read in part is left behind the whole
pub rest_drops : (z a b : Option (List ℕ)) (line : List ℕ) → Consumes z a line → Unfed line → DropsLine a b → DropsLine z b
rest_drops None a b line read unfed drops = tt
rest_drops (Some x) None b line read unfed drops = absurd read
rest_drops (Some x) (Some y) b line read unfed drops = drops ∙ ap Some (sym (ap after_line read ∙ after_joined line y unfed))

pub kept_drops : (a b c : Option (List ℕ)) → Keeps a b → DropsLine b c → DropsLine a c
kept_drops None b c kept drops = tt
kept_drops (Some x) None c kept drops = absurd kept
kept_drops (Some x) (Some y) c kept drops = drops ∙ ap (λ l. Some (after_line l)) kept

-- ---- where a reader stands then

pub kept_further : (a b c : Option (List ℕ)) → Keeps a b → IsFurther b c → IsFurther a c
kept_further None b c kept further = ([], tt)
kept_further (Some x) None c kept further = absurd kept
kept_further (Some x) (Some y) None kept further = absurd further.1
kept_further (Some x) (Some y) (Some z) kept further = (further.0, sym kept ∙ further.1)

pub further_more : (z a b : Option (List ℕ)) (bs : List ℕ) → Consumes z a bs → IsFurther a b → IsFurther z b
further_more z a b bs read further = (bs ++ further.0, Consumes-trans z a b bs further.0 read further.1)

-- ---- what a step over what is shown does

-- a part that is read whole, with its line feed where there is one
shown_part : (shown line : List ℕ) (n : ℕ) (fed : Bool) → line ≡ first_line shown → nat_lt (length line) (length shown) ≡ fed → n ≡ length line + bool_byte fed → take n shown ≡ line ++ feed_of fed
shown_part shown line n true is short size =
    let lt : length (first_line shown) < length shown = subst (λ l. length l < length shown) is (ltb-true _ _ short) in
    fed_part shown n lt (size ∙ ap (λ (l : List ℕ). length l + 1) is) ∙ ap (λ l. l ++ line_feed ∷ []) (sym is)
shown_part shown line n false is short size =
    let same : n ≡ length (first_line shown) = omega (arith, size, ap (λ (l : List ℕ). length l) is) in
    part_whole shown n same ∙ ap (λ l. l ++ []) (sym is)

-- it is no more than is shown
used_within : (shown line : List ℕ) (fed : Bool) → line ≡ first_line shown → nat_lt (length line) (length shown) ≡ fed → length line + bool_byte fed ≤ length shown
used_within shown line true is short = omega (arith, ltb-true (length line) (length shown) short)
used_within shown line false is short = omega (arith, ap (λ (l : List ℕ). length l) is, first_short shown)

-- `fill_buf` shows bytes, and `consume` takes their first line, with its line feed where there is one
pub part_read : {E : Type 0} (a b c : Option (List ℕ)) (limit : Option ℕ) (r : Result (Bor (List ℕ)) E) (shown : Bor (List ℕ)) (line : List ℕ) (fed : Bool)
    → line ≡ first_line shown.now → nat_lt (length line) (length shown.now) ≡ fed
    → r ≡ Ok shown → FillKeeps a b limit r → IfSome a (λ xs. StartsWith xs shown.now) → IfSome a (λ xs. length shown.now ≡ 0 → xs ≡ [])
    → DropsConsumable b c limit (length line + bool_byte (nat_lt (length line) (length shown.now)))
    → Unfed line × Consumes a c (line ++ feed_of fed)
part_read a b c limit r shown line fed is short shows fills front end drops =
    let kept = subst (FillKeeps a b limit) shows fills in
    let used = used_within shown.now line _ is refl in
    let read = Consumes_shown a b c limit shown.now _ used front end kept.0 kept.1 drops in
    let part = shown_part shown.now line _ fed is short (ap (λ b. length line + bool_byte b) short) in
    (subst Unfed (sym is) (first_unfed shown.now), subst (Consumes a c) part read.0)

pub shown_skips : (a b : Option (List ℕ)) (line : List ℕ) (fed : Bool) → Unfed line × Consumes a b (line ++ feed_of fed) → SkipsPart a b fed
shown_skips a b line true read = fed_drops a b line read.0 read.1
shown_skips a b line false read = (line, read.0, subst (Consumes a b) (append-nil line) read.1)

-- ---- over a result

pub longer_given : {E : Type 0} (r : Result NextLine E) (z : Option (List ℕ)) (line : List ℕ) → IfOk r (λ next. next ≡ LongerLine) → IfSome z (λ xs. longest_line < length (first_line xs)) → IfOk r (λ next. IfSome z (λ xs. IsNext xs next line))
longer_given (Ok next) z line is long = subst (λ n. IfSome z (λ xs. IsNext xs n line)) (sym is) long
longer_given (Err e) z line is long = tt
