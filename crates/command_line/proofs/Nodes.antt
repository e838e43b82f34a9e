-- Nodes, pairs of them, and the texts that they have.
use Rattle.std.proofs.Common.{◌≡◌, ◌∙◌, ◌<◌, ◌^◌, ◌+◌, ◌*◌, ◌%◌, append_assoc, arith, ℕ, refl, sym, ap, ap₂, List, [], ◌∷◌, ◌++◌, map, length, take, get_or, codes, decimal, subst, Option, Some, Result, Ok, Err, IsErrAnd}
use Rattle.std.proofs.lemmas.List.{map-append, take_more}
use Rattle.std.proofs.lemmas.Fmt.{decimal_injective}
use Rattle.std.proofs.lemmas.List.Elements.{recursion_from_All}
use Rattle.std.specs.Borrow.{Bor}
use Rattle.std.specs.List.{AllByRecursion}
use Rattle.clap.specs.Walk.{Row, Text, all_of, first_of, texts}
use Rattle.value_syntax.proofs.Written.{nowhere, read_at}
use Rattle.command_line.specs.Asked.{AreEnds, AreNodes, IsNumber, IsWithin, nodes_of}
use Rattle.command_line.specs.Readings.{IsNumberRefusal, Reads}
use Rattle.command_line.specs.declared.refused.WordsRefused.{WordsRefused}
use Rattle.command_line.specs.declared.refused.WordsRefused.TheVariants as why

-- a value is refused as a part of it is
pub part_refused : {T V : Type 0} (value : T → V) (Given : V → Type 0) (r : Result T WordsRefused) (refused : WordsRefused) → IsErrAnd r (λ e. e ≡ refused) → IsNumberRefusal refused
    → ((v : V) → Given v → refused ≡ why.Memory) → Reads value Given r
part_refused value Given (Ok x) refused is number only = absurd is
part_refused value Given (Err e) refused is number only = record {
  found = tt;
  same = λ v given. tt;
  only = λ v given. subst (λ (w : WordsRefused). w ≡ why.Memory) (sym is) (only v given);
  refusals = subst (λ (w : WordsRefused). IsNumberRefusal w) (sym is) number;
}

-- ---- nodes and their texts

abbrev IsNode : ℕ → Type 0
IsNode node = node < 2 ^ 16

each_one : (a b : List ℕ) → AllByRecursion IsNode a → AllByRecursion IsNode b → map decimal a ≡ map decimal b → a ≡ b
each_one [] [] fits others same = refl
each_one [] (y ∷ b) fits others same = absurd (cc)
each_one (x ∷ a) [] fits others same = absurd (cc)
each_one (x ∷ a) (y ∷ b) fits others same =
    let first : decimal x ≡ decimal y = cc in
    let rest : map decimal a ≡ map decimal b = cc in
    ap₂ (λ (n : ℕ) (ns : List ℕ). n ∷ ns) (decimal_injective x y (omega (arith, fits.0)) (omega (arith, others.0)) first) (each_one a b fits.1 others.1 rest)

-- texts are those of one list of nodes
pub one_nodes : (given : Option (List Text)) (a b : List ℕ) → AreNodes given a → AreNodes given b → a ≡ b
one_nodes given a b here there = each_one a b (recursion_from_All IsNode a here.1) (recursion_from_All IsNode b there.1) (sym here.0 ∙ there.0)

-- nodes whose texts were read, and the one of the next text
pub one_text_more : (ns : List ℕ) (node : ℕ) (given : List (Bor Text)) (i : ℕ) → i < length given → (get_or given i nowhere).now ≡ decimal node → map decimal ns ≡ texts (take i given)
    → map decimal (ns ++ node ∷ []) ≡ texts (take (i + 1) given)
one_text_more ns node given i lt is same =
    map-append decimal ns (node ∷ [])
    ∙ ap₂ (λ (ts us : List Text). ts ++ us) same (ap (λ (t : Text). t ∷ []) (sym is))
    ∙ sym (map-append (λ (t : Bor Text). t.now) (take i given) (get_or given i nowhere ∷ []))
    ∙ ap texts (sym (take_more given i nowhere lt))

-- a text that is refused is that of no node, where all are those of nodes
pub node_refused : (given : List (Bor Text)) (nodes : List ℕ) (i : ℕ) (refused : WordsRefused) → i < length given → AreNodes (Some (texts given)) nodes
    → ((n : ℕ) → ((get_or given i nowhere).now ≡ decimal n) × IsWithin 0 65535 n → refused ≡ why.Memory) → refused ≡ why.Memory
node_refused given nodes i refused lt are only =
    let here = read_at IsNode (λ (x : Bor Text). x.now) decimal nodes given i nowhere lt (recursion_from_All IsNode nodes are.1) (sym are.0) in
    only here.0 (here.2, (omega arith, omega (arith, here.1)))

-- ---- the nodes of pairs

-- what the nodes of pairs are asked for by
pub ends_of : (rows : List Row) (nodes : List ℕ) → AreEnds rows nodes
    → (from to : ℕ) × (more : List ℕ) × IsNumber (first_of (codes "from") rows) 0 65535 from × IsNumber (first_of (codes "to") rows) 0 65535 to × AreNodes (all_of (codes "more") rows) more × (nodes ≡ from ∷ to ∷ more)
ends_of rows [] are = absurd are
ends_of rows (from ∷ []) are = absurd are
ends_of rows (from ∷ to ∷ more) are = (from, to, more, are.0, are.1, are.2, refl)

-- one list of pairs has these nodes
pub one_pairs : (a b : List (ℕ × ℕ)) → nodes_of a ≡ nodes_of b → a ≡ b
one_pairs [] [] same = refl
one_pairs [] (q ∷ b) same = absurd (cc)
one_pairs (p ∷ a) [] same = absurd (cc)
one_pairs (p ∷ a) (q ∷ b) same =
    let first : p.0 ≡ q.0 = cc in
    let second : p.1 ≡ q.1 = cc in
    let rest : nodes_of a ≡ nodes_of b = cc in
    ap₂ (λ (x : ℕ × ℕ) (xs : List (ℕ × ℕ)). x ∷ xs) (ap₂ (λ (x y : ℕ). (x, y)) first second) (one_pairs a b rest)

-- their number is even
even_nodes : (pairs : List (ℕ × ℕ)) → length (nodes_of pairs) ≡ 2 * length pairs
even_nodes [] = refl
even_nodes (p ∷ pairs) = let rest = even_nodes pairs in omega arith

pub never_odd : (pairs : List (ℕ × ℕ)) (from to : ℕ) (more rest : List ℕ) → more ≡ rest → nodes_of pairs ≡ from ∷ to ∷ rest → length more % 2 ≡ 1 → ⊥
never_odd pairs from to more rest same are odd =
    let even = even_nodes pairs in
    let all : length (nodes_of pairs) ≡ length (from ∷ to ∷ rest) = ap length are in
    let some : length more ≡ length rest = ap length same in
    omega arith

one_pair_more : (pairs : List (ℕ × ℕ)) (from to : ℕ) → nodes_of (pairs ++ (from, to) ∷ []) ≡ nodes_of pairs ++ from ∷ to ∷ []
one_pair_more [] from to = refl
one_pair_more (p ∷ pairs) from to = ap (λ (ns : List ℕ). p.0 ∷ p.1 ∷ ns) (one_pair_more pairs from to)

two_more : (ns : List ℕ) (i : ℕ) → i + 1 < length ns → take (i + 2) ns ≡ take i ns ++ get_or ns i 0 ∷ get_or ns (i + 1) 0 ∷ []
two_more ns i lt =
    let next : i + 2 ≡ i + 1 + 1 = omega arith in
    ap (λ (n : ℕ). take n ns) next ∙ take_more ns (i + 1) 0 lt ∙ ap (λ (xs : List ℕ). xs ++ get_or ns (i + 1) 0 ∷ []) (take_more ns i 0 (omega arith))
    ∙ append_assoc (take i ns) (get_or ns i 0 ∷ []) (get_or ns (i + 1) 0 ∷ [])

-- and one pair more
pub next_pair : (pairs : List (ℕ × ℕ)) (from to : ℕ) (more : List ℕ) (i a b : ℕ) → a ≡ get_or more (2 * i) 0 → b ≡ get_or more (2 * i + 1) 0 → nodes_of pairs ≡ from ∷ to ∷ take (2 * i) more → 2 * i + 1 < length more
    → nodes_of (pairs ++ (a, b) ∷ []) ≡ from ∷ to ∷ take (2 * (i + 1)) more
next_pair pairs from to more i a b first second made lt =
    let next : 2 * (i + 1) ≡ 2 * i + 2 = omega arith in
    one_pair_more pairs a b ∙ ap (λ (xs : List ℕ). xs ++ a ∷ b ∷ []) made ∙ ap₂ (λ (x y : ℕ). (from ∷ to ∷ take (2 * i) more) ++ x ∷ y ∷ []) first second
    ∙ ap (λ (xs : List ℕ). from ∷ to ∷ xs) (sym (two_more more (2 * i) lt) ∙ ap (λ (n : ℕ). take n more) (sym next))
