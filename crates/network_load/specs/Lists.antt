-- What the lines of a list of edges say.
use Rattle.std.specs.Prelude.{◌==◌, ◌+◌, ◌≤◌, ◌&&◌, ℕ, List, [], ◌∷◌, ◌++◌, Bool, true, false, Option, Some, None, Result, Ok, Err, IfErr, IfNone, IfOk, OnSome, cond, decimal, nat_le}
use Rattle.std.specs.List.{flat_map, slice_split}
use Rattle.std.specs.Option.{option_map_or}
use Rattle.std.specs.Str.{bytes_eq}
use Rattle.std.specs.Str.Parse.{digits_value}
use Rattle.value_syntax.specs.Scripts.{lines_of}
use Rattle.network_load.specs.declared.list.Edge.{Edge}

-- what stands between such bytes, in front of them and behind
abbrev pub parts_at : ℕ → List ℕ → List (List ℕ)
parts_at c text = slice_split (λ b. b == c) text

-- the text, where it isn't empty
abbrev pub unless_empty : {A : Type 0} → List A → List (List A)
unless_empty [] = []
unless_empty (x ∷ xs) = (x ∷ xs) ∷ []

-- the words of a line: what stands between blanks, tabs and carriage returns, where something does
abbrev pub words_of : List ℕ → List (List ℕ)
words_of text = flat_map unless_empty (flat_map (parts_at 13) (flat_map (parts_at 9) (parts_at 32 text)))

-- the text begins with this byte
abbrev pub begins : ℕ → List ℕ → Bool
begins c [] = false
begins c (b ∷ bs) = b == c

-- a line of these words says nothing: there is none, or the first begins with `#`
abbrev pub says_nothing : List (List ℕ) → Bool
says_nothing [] = true
says_nothing (word ∷ words) = begins 35 word

-- the number up to `most` that the word is the plain decimal form of: that which its digits write
abbrev pub plain_number : ℕ → List ℕ → Option ℕ
plain_number most word = cond (bytes_eq word (decimal (digits_value 10 word)) && nat_le (digits_value 10 word) most) (Some (digits_value 10 word)) None

-- the edge of these numbers, where all three are there
abbrev pub edge_of : ℕ → Option ℕ → Option ℕ → Option ℕ → Option Edge
edge_of line (Some a) (Some b) (Some weight) = Some (record { line = line; a = a; b = b; weight = weight })
edge_of line a b weight = None

-- the edge that the words of a line say, whose nodes are numbers up to `last`: there are three, two nodes and a weight below 2 ^ 32
abbrev pub edge_said : ℕ → ℕ → List (List ℕ) → Option Edge
edge_said last line (a ∷ b ∷ weight ∷ []) = edge_of line (plain_number last a) (plain_number last b) (plain_number 4294967295 weight)
edge_said last line words = None

-- what the line of that number says behind others: nothing, or an edge; it is refused by its number, where it says no edge though it should
abbrev pub with_line : ℕ → ℕ → List ℕ → List Edge → Result (List Edge) ℕ
with_line last line text edges =
    cond (says_nothing (words_of text)) (Ok edges) (option_map_or (λ edge. Ok (edges ++ edge ∷ [])) (edge_said last line (words_of text)) (Err line))

-- the rest behind one step, unless that is refused
abbrev pub then_by : {S T E : Type 0} → (S → Result T E) → Result S E → Result T E
then_by rest (Ok state) = rest state
then_by rest (Err why) = Err why

-- what f makes of a state by each of these in turn, which are numbered from that number on; or why it refuses one
abbrev pub after_each : {S A E : Type 0} → (ℕ → A → S → Result S E) → ℕ → List A → S → Result S E
after_each f number [] state = Ok state
after_each f number (x ∷ xs) state = then_by (after_each f (number + 1) xs) (f number x state)

-- the edges that the lines of a text say, in order, or the number of the first line that is refused
abbrev pub list_says : ℕ → List ℕ → Result (List Edge) ℕ
list_says last text = after_each (with_line last) 1 (lines_of text) []

-- both ends are numbers up to `last`
abbrev pub HasEndsTo : ℕ → Edge → Type 0
HasEndsTo last edge = (edge.a ≤ last) × (edge.b ≤ last)

-- ---- answers

-- what is accepted is so
abbrev pub IfAccepted : {A R E : Type 0} → Result (Result A R) E → (A → Type 0) → Type 0
IfAccepted result IsSo = IfOk result (λ answer. IfOk answer IsSo)

-- why it is refused is so
abbrev pub IfRefused : {A R E : Type 0} → Result (Result A R) E → (R → Type 0) → Type 0
IfRefused result IsSo = IfOk result (λ answer. IfErr answer IsSo)

-- where nothing is read, though there was no error, it is so
abbrev pub IfNoneRead : {A E : Type 0} → Result (Option A) E → Type 0 → Type 0
IfNoneRead result IsSo = IfOk result (λ o. IfNone o IsSo)

-- where something is read, it is so
abbrev pub OnRead : {A E : Type 0} → Result (Option A) E → Type 0 → Type 0
OnRead result IsSo = IfOk result (λ o. OnSome o IsSo)
