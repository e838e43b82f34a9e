-- Nodes that are written with commas between.
use Rattle.std.proofs.Common.{arith, ◌≡◌, ◌≢◌, ◌<◌, ◌^◌, ◌++◌, ◌∷◌, ◌∙◌, [], ℕ, List, refl, sym, ap, subst, length, get_or, decimal, Option, Some, None, append_assoc}
use Rattle.std.specs.Prelude.{MatchOption}
use Rattle.std.specs.List.{flat_map}
use Rattle.std.proofs.lemmas.List.{flat_map_more}
use Rattle.std.proofs.lemmas.Fmt.{decimal_is_IsNumeral}
use Rattle.std.proofs.lemmas.Str.Parse.{digit_at}
use Rattle.std.proofs.lemmas.Str.Pattern.{IsSplitOnceResult, split_after, split_parts}
use Rattle.std.proofs.lemmas.Grind.{common_steps}
use Rattle.std.proofs.lemmas.List.Elements.{All-head, All-tail}
use Rattle.value_syntax.proofs.Texts.{split_none, split_some}
use denote.Ref.{Bor}
use Rattle.value_syntax.specs.WordsText.{AreNodes, nodes_text}

-- no digit is a comma
pub no_comma : (n : ℕ) → n < 2 ^ 16 → (i : ℕ) → i < length (decimal n) → get_or (decimal n) i 0 ≢ 44
no_comma n small i within is =
    let wide : n < 2 ^ 64 = omega (arith, small) in
    let range = digit_at (decimal n) i (decimal_is_IsNumeral n wide).0.1 within in
    omega (arith, range.0, range.1)

-- a node with a comma behind it
abbrev pub with_comma : ℕ → List ℕ
with_comma node = decimal node ++ 44 ∷ []

-- each node with a comma behind it
abbrev pub front_text : List ℕ → List ℕ
front_text nodes = flat_map with_comma nodes

-- a last node more
pub text_with_last : (nodes : List ℕ) (last : ℕ) → nodes_text (nodes ++ last ∷ []) ≡ front_text nodes ++ decimal last
text_with_last [] last = refl
text_with_last (node ∷ []) last = simp append_assoc
text_with_last (node ∷ next ∷ nodes) last = ap (λ t. decimal node ++ 44 ∷ t) (text_with_last (next ∷ nodes) last) ∙ simp append_assoc

-- a node more, which isn't the last
pub text_with_more : (nodes : List ℕ) (node : ℕ) (behind : List ℕ) → front_text (nodes ++ node ∷ []) ++ behind ≡ front_text nodes ++ (decimal node ++ 44 ∷ behind)
text_with_more nodes node behind = ap (λ t. t ++ behind) (sym (flat_map_more with_comma [] nodes node)) ∙ simp append_assoc

-- what a split at a comma found
abbrev pub PartsOf : List ℕ → Option (Bor (List ℕ) × Bor (List ℕ)) → Type 0
PartsOf rest found = MatchOption found ((i : ℕ) → i < length rest → get_or rest i 0 ≢ 44) (λ x. (rest ≡ x.0.now ++ 44 ∷ x.1.now) × ((i : ℕ) → i < length x.0.now → get_or x.0.now i 0 ≢ 44))

-- a list with a node in front, of which the rest are nodes too
pub record StartsWith (left : List ℕ) (front behind : List ℕ) : Type 0 where
  pub node : ℕ
  pub others : List ℕ
  pub is : left ≡ node ∷ others
  pub fits : node < 2 ^ 16
  pub nodes : AreNodes others
  pub front_is : front ≡ decimal node
  pub behind_is : behind ≡ nodes_text others

-- a text with a comma has one at that place
comma_within : (xs ys zs : List ℕ) → zs ≡ xs ++ 44 ∷ ys → (length xs < length zs) × (get_or zs (length xs) 0 ≡ 44)
comma_within xs ys zs is = (grind (arith, common_steps, is), grind (arith, common_steps, is))

-- a comma in the text stands behind the first node
pub first_node : (left rest : List ℕ) (found : Option (Bor (List ℕ) × Bor (List ℕ))) (front behind : Bor (List ℕ)) → found ≡ Some (front, behind) → IsSplitOnceResult 44 rest found
    → AreNodes left → rest ≡ nodes_text left → StartsWith left front.now behind.now
first_node [] rest found front behind is split nodes written = absurd (nodes.0 refl)
first_node (node ∷ []) rest found front behind is split nodes written =
    let small : node < 2 ^ 16 = All-head (λ node. node < 2 ^ 16) node [] nodes.1 in
    let parts : rest ≡ front.now ++ 44 ∷ behind.now = (subst (PartsOf rest) is (split_parts 44 rest found split (omega arith))).0 in
    let there = comma_within front.now behind.now (decimal node) (sym written ∙ parts) in
    absurd (no_comma node small (length front.now) there.0 there.1)
first_node (node ∷ next ∷ nodes) rest found front behind is split all written =
    let small : node < 2 ^ 16 = All-head (λ node. node < 2 ^ 16) node (next ∷ nodes) all.1 in
    let after = split_after 44 rest (decimal node) (nodes_text (next ∷ nodes)) found split (omega arith) written (no_comma node small) in
    let both = split_some found (decimal node) (nodes_text (next ∷ nodes)) front behind is after in
    record {
      node = node;
      others = next ∷ nodes;
      is = refl;
      fits = small;
      nodes = ((λ empty. cc), All-tail (λ node. node < 2 ^ 16) node (next ∷ nodes) all.1);
      front_is = both.0;
      behind_is = both.1;
    }

-- a text without a comma is one node
pub only_node : (left rest : List ℕ) (found : Option (Bor (List ℕ) × Bor (List ℕ))) → found ≡ None → IsSplitOnceResult 44 rest found
    → AreNodes left → rest ≡ nodes_text left → (node : ℕ) × (left ≡ node ∷ []) × (node < 2 ^ 16) × (rest ≡ decimal node)
only_node [] rest found is split nodes written = absurd (nodes.0 refl)
only_node (node ∷ []) rest found is split nodes written = (node, refl, All-head (λ node. node < 2 ^ 16) node [] nodes.1, written)
only_node (node ∷ next ∷ nodes) rest found is split all written =
    let small : node < 2 ^ 16 = All-head (λ node. node < 2 ^ 16) node (next ∷ nodes) all.1 in
    let after = split_after 44 rest (decimal node) (nodes_text (next ∷ nodes)) found split (omega arith) written (no_comma node small) in
    absurd (split_none found (decimal node) (nodes_text (next ∷ nodes)) is after)

-- the list so far with the node read, and what is left of the list
pub one_further : (all before left others items : List ℕ) (node first : ℕ) → all ≡ before ++ left → left ≡ first ∷ others → node ≡ first → items ≡ before ++ node ∷ [] → all ≡ items ++ others
one_further all before left others items node first whole parts same read =
    let step : before ++ (node ∷ others) ≡ (before ++ node ∷ []) ++ others = simp append_assoc in
    whole ∙ ap (λ l. before ++ l) (parts ∙ ap (λ n. n ∷ others) (sym same)) ∙ step ∙ ap (λ l. l ++ others) (sym read)
