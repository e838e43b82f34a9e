-- A script is text: each of its bytes is ASCII.
use Rattle.std.proofs.Common.{◌≡◌, ◌∙◌, ◌<◌, ◌==◌, ◌^◌, arith, ℕ, List, [], ◌∷◌, ◌++◌, All, map, length, cond, codes, decimal, Option, Some, None, refl, sym, ap, subst, true, false, Bool}
use Rattle.std.specs.Prelude.{IfSome}
use Rattle.std.specs.List.{join_with_byte, slice_split}
use Rattle.std.specs.Str.{IsAscii, IsUtf8}
use Rattle.std.proofs.lemmas.Bool.{eqb-true}
use Rattle.std.proofs.lemmas.Fmt.{IsAscii-decimal}
use Rattle.std.proofs.lemmas.List.Elements.{All-cons, All-head, All-nil, All-tail}
use Rattle.std.proofs.lemmas.List.Splits.{join_with_byte-slice_split}
use Rattle.std.proofs.lemmas.Str.{IsAscii-append, IsUtf8-from_ascii}
use Rattle.std.proofs.lemmas.Str.Ascii.{IsAscii-cons, IsAscii-nil}
use Rattle.graph_edits.specs.declared.edits.Op.{Op}
use Rattle.graph_edits.specs.declared.edits.Op.TheVariants.{Add, Set, Cut}
use Rattle.value_syntax.specs.OpText.{Fits, edge_text, op_text, pair_text}
use Rattle.value_syntax.specs.Scripts.{IsWritten, MayStand, line_words, lines_of, without_empty_last, words_of}
use Rattle.commands.specs.Serves.{IsNoScript}
use Rattle.value_syntax.specs.declared.line.ScriptLine.{ScriptLine}
use Rattle.value_syntax.specs.declared.line.ScriptLine.TheVariants.{Edit, Route}

-- ---- what is written

of_pair : (a b : ℕ) → a < 2 ^ 64 → b < 2 ^ 64 → IsAscii (pair_text a b)
of_pair a b first second = IsAscii-append (decimal a) (58 ∷ decimal b) (IsAscii-decimal a first) (IsAscii-cons 58 (decimal b) (omega arith) (IsAscii-decimal b second))

of_edge : (a b w : ℕ) → a < 2 ^ 64 → b < 2 ^ 64 → w < 2 ^ 64 → IsAscii (edge_text a b w)
of_edge a b w first second third = IsAscii-append (decimal a) (58 ∷ pair_text b w) (IsAscii-decimal a first) (IsAscii-cons 58 (pair_text b w) (omega arith) (of_pair b w second third))

-- three letters and a text behind a colon
of_kind : (a b c : ℕ) (text : List ℕ) → a < 128 → b < 128 → c < 128 → IsAscii text → IsAscii (a ∷ b ∷ c ∷ 58 ∷ text)
of_kind a b c text first second third is =
    IsAscii-cons a (b ∷ c ∷ 58 ∷ text) first (IsAscii-cons b (c ∷ 58 ∷ text) second (IsAscii-cons c (58 ∷ text) third (IsAscii-cons 58 text (omega arith) is)))

of_op : (op : Op) → Fits op → IsAscii (op_text op)
of_op (Add a b w) (first, second, third) = of_kind 97 100 100 (edge_text a b w) (omega arith) (omega arith) (omega arith) (of_edge a b w (omega (arith, first)) (omega (arith, second)) (omega (arith, third)))
of_op (Set a b w) (first, second, third) = of_kind 115 101 116 (edge_text a b w) (omega arith) (omega arith) (omega arith) (of_edge a b w (omega (arith, first)) (omega (arith, second)) (omega (arith, third)))
of_op (Cut a b) (first, second) = of_kind 99 117 116 (pair_text a b) (omega arith) (omega arith) (omega arith) (of_pair a b (omega (arith, first)) (omega (arith, second)))

of_ops : (ops : List Op) → All Fits ops → All IsAscii (map op_text ops)
of_ops [] fit = All-nil IsAscii
of_ops (op ∷ ops) fit = All-cons IsAscii (op_text op) (map op_text ops) (of_op op (All-head Fits op ops fit)) (of_ops ops (All-tail Fits op ops fit))

of_route : IsAscii (codes "route")
of_route =
    IsAscii-cons 114 (111 ∷ 117 ∷ 116 ∷ 101 ∷ []) (omega arith) (IsAscii-cons 111 (117 ∷ 116 ∷ 101 ∷ []) (omega arith)
    (IsAscii-cons 117 (116 ∷ 101 ∷ []) (omega arith) (IsAscii-cons 116 (101 ∷ []) (omega arith) (IsAscii-cons 101 [] (omega arith) IsAscii-nil))))

of_line : (editors : ℕ) → editors < 2 ^ 64 → (line : ScriptLine) → MayStand editors line → All IsAscii (line_words line)
of_line editors few (Edit session change) (there, some) =
    All-cons IsAscii (decimal session) (map op_text change) (IsAscii-decimal session (omega (arith, few, there))) (of_ops change some.2)
of_line editors few (Route from to) (first, second) =
    All-cons IsAscii (codes "route") (decimal from ∷ decimal to ∷ []) of_route
    (All-cons IsAscii (decimal from) (decimal to ∷ []) (IsAscii-decimal from (omega (arith, first)))
    (All-cons IsAscii (decimal to) [] (IsAscii-decimal to (omega (arith, second))) (All-nil IsAscii)))

of_lines : (editors : ℕ) → editors < 2 ^ 64 → (lines : List ScriptLine) → All (MayStand editors) lines → All (λ words. All IsAscii words) (map line_words lines)
of_lines editors few [] stand = All-nil (λ words. All IsAscii words)
of_lines editors few (line ∷ lines) stand =
    All-cons (λ words. All IsAscii words) (line_words line) (map line_words lines) (of_line editors few line (All-head (MayStand editors) line lines stand)) (of_lines editors few lines (All-tail (MayStand editors) line lines stand))

-- ---- what it is cut from

-- pieces with a byte between
of_pieces : (c : ℕ) → c < 128 → (pieces : List (List ℕ)) → All IsAscii pieces → IsAscii (join_with_byte c pieces)
of_pieces c small [] all = IsAscii-nil
of_pieces c small (x ∷ []) all = All-head IsAscii x [] all
of_pieces c small (x ∷ y ∷ xs) all =
    IsAscii-append x (c ∷ join_with_byte c (y ∷ xs)) (All-head IsAscii x (y ∷ xs) all)
    (IsAscii-cons c (join_with_byte c (y ∷ xs)) small (of_pieces c small (y ∷ xs) (All-tail IsAscii x (y ∷ xs) all)))

-- a text that is cut at a byte
of_cut : (c : ℕ) → c < 128 → (text : List ℕ) → All IsAscii (slice_split (λ b. b == c) text) → IsAscii text
of_cut c small text all = subst IsAscii (join_with_byte-slice_split c text) (of_pieces c small (slice_split (λ b. b == c) text) all)

-- each of some lines
of_each : (lines : List (List ℕ)) → All (λ words. All IsAscii words) (map words_of lines) → All IsAscii lines
of_each [] all = All-nil IsAscii
of_each (line ∷ lines) all =
    All-cons IsAscii line lines (of_cut 32 (omega arith) line (All-head (λ words. All IsAscii words) (words_of line) (map words_of lines) all))
    (of_each lines (All-tail (λ words. All IsAscii words) (words_of line) (map words_of lines) all))

-- a last part that is left out where it is empty
of_last : (part : List ℕ) (none : Bool) → (length part == 0) ≡ none → All IsAscii (cond none [] (part ∷ [])) → IsAscii part
of_last part false is all = All-head IsAscii part [] all
of_last [] true is all = IsAscii-nil
of_last (b ∷ bs) true is all = let zero : length (b ∷ bs) ≡ 0 = eqb-true (length (b ∷ bs)) 0 is in absurd (omega (arith, zero))

-- the parts of which all but an empty last one are lines
of_parts : (parts : List (List ℕ)) → All IsAscii (without_empty_last parts) → All IsAscii parts
of_parts [] all = all
of_parts (part ∷ []) all = All-cons IsAscii part [] (of_last part (length part == 0) refl all) (All-nil IsAscii)
of_parts (part ∷ next ∷ parts) all =
    All-cons IsAscii part (next ∷ parts) (All-head IsAscii part (without_empty_last (next ∷ parts)) all) (of_parts (next ∷ parts) (All-tail IsAscii part (without_empty_last (next ∷ parts)) all))

of_script : (editors : ℕ) → editors < 2 ^ 64 → (text : List ℕ) (lines : List ScriptLine) → All (MayStand editors) lines → IsWritten text lines → IsAscii text
of_script editors few text lines stand written =
    of_cut 10 (omega arith) text (of_parts (slice_split (λ b. b == 10) text) (of_each (lines_of text)
    (subst (λ (all : List (List (List ℕ))). All (λ words. All IsAscii words) all) (sym written) (of_lines editors few lines stand))))

-- what is no text is no script
pub no_text : (given : Option (List ℕ)) (bytes : List ℕ) (editors : ℕ) → editors < 2 ^ 64 → IfSome given (λ xs. bytes ≡ xs) → (IsUtf8 bytes → ⊥) → IsNoScript given editors
no_text None bytes editors few same not = tt
no_text (Some text) bytes editors few same not = λ lines stand written. not (subst IsUtf8 (sym same) (IsUtf8-from_ascii text (of_script editors few text lines stand written)))

-- nor is what has no lines
pub no_lines : (given : Option (List ℕ)) (bytes : List ℕ) (editors : ℕ) → IfSome given (λ xs. bytes ≡ xs) → ((lines : List ScriptLine) → All (MayStand editors) lines → IsWritten bytes lines → ⊥) → IsNoScript given editors
no_lines None bytes editors same none = tt
no_lines (Some text) bytes editors same none = subst (λ (xs : List ℕ). (lines : List ScriptLine) → All (MayStand editors) lines → IsWritten xs lines → ⊥) same none

-- the bytes that a reader gave, read to its end
pub read_bytes : (given : Option (List ℕ)) (bytes all start : List ℕ) → bytes ≡ all → start ≡ [] → IfSome given (λ xs. all ≡ start ++ xs) → IfSome given (λ xs. bytes ≡ xs)
read_bytes None bytes all start same empty read = tt
read_bytes (Some text) bytes all start same empty read = same ∙ read ∙ ap (λ (xs : List ℕ). xs ++ text) empty
