-- Lists of trees and lists of numbers: what holds of each, of some one, and how many numbers there are.
use Rattle.std.proofs.Common.{◌≡◌, ℕ, zero, suc, ◌+◌, ◌-◌, ◌≤◌, ◌<◌, ◌==◌, ◌⊎◌, inl, inr, Bool, true, cond, refl, sym, ap, subst, ◌∙◌, arith, List, [], ◌∷◌, ◌++◌, map, nat_lt}
use Rattle.std.specs.Prelude.{Some, is_some}
use Rattle.std.proofs.lemmas.Bool.{both_ways, cases_Bool, cases_lt, cond_both, eqb-false}
use Rattle.std.proofs.lemmas.Bool.Decides.{nat_tests}
use Rattle.route_tree.specs.Rose.{Tree, tree_size}
use Rattle.route_tree.specs.Order.{fronted}
use Rattle.heavy_labels.proofs.OneOf.{in_left, in_right}
use Rattle.graph_edits.specs.Edges.{Network, IsSound, below as up_to, weight_in}
use Rattle.schemes.specs.Ports.{filtered, index_of, neighbours, port_to}
use Rattle.schemes.proofs.Basics.Walks.{neighbours_are, edge_inside}

abbrev pub Each : (Tree → Type 0) → List Tree → Type 0
Each P [] = Unit {0}
Each P (s ∷ ss) = P s × Each P ss

abbrev pub Any : (Tree → Type 0) → List Tree → Type 0
Any P [] = ⊥
Any P (s ∷ ss) = P s ⊎ Any P ss

each_append : (P : Tree → Type 0) (xs ys : List Tree) → Each P xs → Each P ys → Each P (xs ++ ys)
each_append P [] ys a b = b
each_append P (s ∷ xs) ys a b = (a.0, each_append P xs ys a.1 b)

any_left : (P : Tree → Type 0) (xs ys : List Tree) → Any P xs → Any P (xs ++ ys)
any_left P [] ys a = absurd a
any_left P (s ∷ xs) ys (inl a) = inl a
any_left P (s ∷ xs) ys (inr a) = inr (any_left P xs ys a)

any_right : (P : Tree → Type 0) (xs ys : List Tree) → Any P ys → Any P (xs ++ ys)
any_right P [] ys a = a
any_right P (s ∷ xs) ys a = inr (any_right P xs ys a)

-- the heavy one moved to the front: the same trees
pub each_fronted : (P : Tree → Type 0) (m : ℕ) (passed ss : List Tree) → Each P passed → Each P ss → Each P (fronted m passed ss)
each_fronted P m passed [] a b = a
each_fronted P m passed (s ∷ ss) a b =
    cond_both (tree_size s == m) (s ∷ (passed ++ ss)) (fronted m (passed ++ s ∷ []) ss) (Each P)
    (λ _. (b.0, each_append P passed ss a b.1))
    (λ _. each_fronted P m (passed ++ s ∷ []) ss (each_append P passed (s ∷ []) a (b.0, tt)) b.1)

pub any_fronted : (P : Tree → Type 0) (m : ℕ) (passed ss : List Tree) → Any P passed ⊎ Any P ss → Any P (fronted m passed ss)
any_fronted P m passed [] h = elim h [ inl a ↦ a | inr b ↦ absurd b ]
any_fronted P m passed (s ∷ ss) h =
    cond_both (tree_size s == m) (s ∷ (passed ++ ss)) (fronted m (passed ++ s ∷ []) ss) (Any P)
    (λ _. elim h [ inl a ↦ inr (any_left P passed ss a) | inr (inl p) ↦ inl p | inr (inr b) ↦ inr (any_right P passed ss b) ])
    (λ _. any_fronted P m (passed ++ s ∷ []) ss
    (elim h [ inl a ↦ inl (any_left P passed (s ∷ []) a) | inr (inl p) ↦ inl (any_right P passed (s ∷ []) (inl p)) | inr (inr b) ↦ inr b ]))

abbrev pub Within : ℕ → List ℕ → Type 0
Within x [] = ⊥
Within x (y ∷ ys) = (x ≡ y) ⊎ Within x ys

pub each_filtered : (P : Tree → Type 0) (f : ℕ → Tree) (b : ℕ → Bool) → ((x : ℕ) → b x ≡ true → P (f x)) → (xs : List ℕ) → Each P (map f (filtered b xs))
each_filtered P f b h [] = tt
each_filtered P f b h (x ∷ xs) = cond_both (b x) (x ∷ filtered b xs) (filtered b xs) (λ z. Each P (map f z)) (λ e. (h x e, each_filtered P f b h xs)) (λ _. each_filtered P f b h xs)

pub any_filtered : (P : Tree → Type 0) (f : ℕ → Tree) (b : ℕ → Bool) (x : ℕ) → b x ≡ true → P (f x) → (xs : List ℕ) → Within x xs → Any P (map f (filtered b xs))
any_filtered P f b x e p [] w = absurd w
any_filtered P f b x e p (y ∷ ys) (inl s) =
    cond_both (b y) (y ∷ filtered b ys) (filtered b ys) (λ z. Any P (map f z)) (λ _. inl (subst (λ z. P (f z)) s p)) (λ g. absurd (both_ways (b y) g (subst (λ z. b z ≡ true) s e)))
any_filtered P f b x e p (y ∷ ys) (inr w) =
    let rest = any_filtered P f b x e p ys w in
    cond_both (b y) (y ∷ filtered b ys) (filtered b ys) (λ z. Any P (map f z)) (λ _. inr rest) (λ _. rest)

pub within_filtered : (b : ℕ → Bool) (x : ℕ) → b x ≡ true → (xs : List ℕ) → Within x xs → Within x (filtered b xs)
within_filtered b x e [] w = absurd w
within_filtered b x e (y ∷ ys) (inl s) = cond_both (b y) (y ∷ filtered b ys) (filtered b ys) (Within x) (λ _. inl s) (λ g. absurd (both_ways (b y) g (subst (λ z. b z ≡ true) s e)))
within_filtered b x e (y ∷ ys) (inr w) = (let rest = within_filtered b x e ys w in cond_both (b y) (y ∷ filtered b ys) (filtered b ys) (Within x) (λ _. inr rest) (λ _. rest))

pub within_up_to : (n x : ℕ) → x < n → Within x (up_to n)
within_up_to zero x h = absurd (omega arith)
within_up_to (suc n) x h = elim (cases_lt x n) [ inl l ↦ in_left x (up_to n) (n ∷ []) (within_up_to n x l) | inr l ↦ in_right x (up_to n) (n ∷ []) (inl (omega arith)) ]

pub index_found : (y : ℕ) (xs : List ℕ) → Within y xs → (q : ℕ) × (index_of y xs ≡ Some q)
index_found y [] w = absurd w
index_found y (x ∷ xs) w = elim (cases_Bool (x == y)) [
  | inl e ↦ (0, rw e refl)
  | inr e ↦ elim w [ inl s ↦ absurd (eqb-false x y e (sym s)) | inr v ↦ (let r = index_found y xs v in (r.0 + 1, rw (e, r.1) refl)) ]
]

-- a neighbour has a port
pub port_found : (m : Network) → IsSound m → (x y w : ℕ) → weight_in m x y ≡ Some w → (q : ℕ) × (port_to m x y ≡ Some q)
port_found m s x y w e =
    index_found y (neighbours m x) (subst (Within y) (sym (neighbours_are m x)) (within_filtered (λ z. is_some (weight_in m x z)) y (rw e refl) (up_to m.nodes) (within_up_to m.nodes y (edge_inside m s x y w e).1.0)))

-- Where each number below c is the image of one below n, c is at most n.
abbrev pub Covers : (ℕ → ℕ) → ℕ → ℕ → Type 0
Covers g n c = (i : ℕ) → i < c → (x : ℕ) × ((x < n) × (g x ≡ i))

-- what is above j one less
abbrev closed_up : ℕ → ℕ → ℕ
closed_up j k = cond (nat_lt j k) (k - 1) k

closed_below : (j k : ℕ) → k < j → closed_up j k ≡ k
closed_below j k h = grind (arith, nat_tests)

closed_above : (j k : ℕ) → j ≤ k → closed_up j (k + 1) ≡ k
closed_above j k h = grind (arith, nat_tests)

pub at_most : (n : ℕ) (g : ℕ → ℕ) (c : ℕ) → Covers g n c → c ≤ n
at_most n g zero h = omega arith
at_most zero g (suc c) h = absurd (let k = h 0 (omega arith) in omega (arith, k.1.0))
at_most (suc n) g (suc c) h = (let k = at_most n (λ x. closed_up (g n) (g x)) c closed in omega (arith, k))
  where
    -- the number at an image other than n's
    other : (i j : ℕ) → j < suc c → (g n ≡ j → ⊥) → closed_up (g n) j ≡ i → (x : ℕ) × ((x < n) × (closed_up (g n) (g x) ≡ i))
    other i j l ne e = (let k = h j l in let s : k.0 ≡ n → ⊥ = λ q. ne (ap g (sym q) ∙ k.1.1) in (k.0, (omega (arith, k.1.0, s), ap (closed_up (g n)) k.1.1 ∙ e)))

    closed : Covers (λ x. closed_up (g n) (g x)) n c
    closed i l = elim (cases_lt i (g n)) [
      | inl b ↦ other i i (omega arith) (λ e. omega (arith, b, e)) (closed_below (g n) i b)
      | inr b ↦ other i (i + 1) (omega arith) (λ e. omega (arith, b, e)) (closed_above (g n) i b)
    ]
