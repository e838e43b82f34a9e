-- The degrees of the nodes that are not settled yet.
use Rattle.std.proofs.Common.{◌≡◌, ℕ, zero, suc, ◌+◌, ◌<◌, Bool, true, false, cond, List, [], ◌∷◌, length, set, replicate, refl, ap, subst, arith}
use Rattle.std.specs.List.{sum_by}
use Rattle.std.proofs.lemmas.List.Sums.{sum_by_push}
use Rattle.graph_edits.specs.Edges.{Network, below, degree_of, all_degrees}
use Rattle.distances.specs.Search.{flag_at}

-- the sum of f over the places, from k on, whose flag does not stand
abbrev pub open_sum : (ℕ → ℕ) → ℕ → List Bool → ℕ
open_sum f k [] = 0
open_sum f k (b ∷ bs) = cond b 0 (f k) + open_sum f (suc k) bs

pub open_sum_set : (f : ℕ → ℕ) (k : ℕ) (done : List Bool) (x : ℕ) → x < length done → flag_at done x ≡ false → open_sum f k (set done x true) + f (k + x) ≡ open_sum f k done
open_sum_set f k [] x lt is = absurd (omega arith)
open_sum_set f k (b ∷ bs) zero lt is =
    let here : f (k + 0) ≡ f k = ap f (let e : k + 0 ≡ k = omega arith in e) in
    let first : cond {A = ℕ} b 0 (f k) ≡ f k = ap (λ c. cond {A = ℕ} c 0 (f k)) is in
    let sum : 0 + open_sum f (suc k) bs + f (k + 0) ≡ cond {A = ℕ} b 0 (f k) + open_sum f (suc k) bs = omega (arith, here, first) in
    sum
open_sum_set f k (b ∷ bs) (suc x) lt is =
    let rest = open_sum_set f (suc k) bs x (omega arith) is in
    let here : f (k + suc x) ≡ f (suc k + x) = ap f (let e : k + suc x ≡ suc k + x = omega arith in e) in
    let sum : cond {A = ℕ} b 0 (f k) + open_sum f (suc k) (set bs x true) + f (k + suc x) ≡ cond {A = ℕ} b 0 (f k) + open_sum f (suc k) bs = omega (arith, rest, here) in
    sum

open_sum_more : (f : ℕ → ℕ) (k n : ℕ) → open_sum f k (replicate (suc n) false) ≡ open_sum f k (replicate n false) + f (k + n)
open_sum_more f k zero =
    let here : f (k + 0) ≡ f k = ap f (let e : k + 0 ≡ k = omega arith in e) in
    let sum : f k + 0 ≡ 0 + f (k + 0) = omega (arith, here) in
    sum
open_sum_more f k (suc n) =
    let rest = open_sum_more f (suc k) n in
    let here : f (k + suc n) ≡ f (suc k + n) = ap f (let e : k + suc n ≡ suc k + n = omega arith in e) in
    let sum : f k + open_sum f (suc k) (replicate (suc n) false) ≡ f k + open_sum f (suc k) (replicate n false) + f (k + suc n) = omega (arith, rest, here) in
    sum

open_sum_all : (f : ℕ → ℕ) (n : ℕ) → open_sum f 0 (replicate n false) ≡ sum_by f (below n)
open_sum_all f zero = refl
open_sum_all f (suc n) =
    let more = open_sum_more f 0 n in
    let rest = open_sum_all f n in
    let push = sum_by_push f (below n) n in
    let here : f (0 + n) ≡ f n = ap f (let e : 0 + n ≡ n = omega arith in e) in
    omega (arith, more, rest, push, here)

-- the degrees of the nodes that are not settled
abbrev pub open_degrees : Network → List Bool → ℕ
open_degrees g done = open_sum (λ x. degree_of g x) 0 done

pub open_degrees_start : (g : Network) → open_degrees g (replicate g.nodes false) ≡ all_degrees g
open_degrees_start g = open_sum_all (λ x. degree_of g x) g.nodes

pub open_degrees_set : (g : Network) (done : List Bool) (x : ℕ) → x < length done → flag_at done x ≡ false → open_degrees g (set done x true) + degree_of g x ≡ open_degrees g done
open_degrees_set g done x lt is = subst (λ k. open_degrees g (set done x true) + degree_of g k ≡ open_degrees g done) (let e : 0 + x ≡ x = omega arith in e) (open_sum_set (λ x. degree_of g x) 0 done x lt is)
