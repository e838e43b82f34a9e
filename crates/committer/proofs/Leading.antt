-- What a committer took and settled leads from its beginning to the state of its store.
use Rattle.std.proofs.Common.{arith, ◌≡◌, ◌+◌, ◌-◌, ◌≤◌, ℕ, List, [], ◌++◌, length, take, drop, refl, ap, sym, ◌∙◌, subst, append-nil, length-append}
use Rattle.std.proofs.lemmas.List.{take_all, take-append-le}
use Rattle.graph_edits.specs.Edges.{Network}
use Rattle.layout_2.specs.State.{State}
use Rattle.requests.specs.declared.request.Request.{Request}
use Rattle.schemes.specs.declared.parts.Parts.{Parts}
use Rattle.schemes.specs.Tables.{tables}
use Rattle.schemes.specs.Service.{Serves}
use Rattle.group_commit.specs.Settling.{Settled, settle}
use Rattle.group_commit.proofs.SettlingLemmas.{settle-append}
use Rattle.request_lists.proofs.Steps.{first_count, settled_on}
use Rattle.committer.specs.Ties.{IsLed, before_held}
use Rattle.committer.proofs.Settles.{settles}

-- ---- how it goes on

-- where nothing is held, all was taken before
all_before : (got : List Request) → before_held [] got ≡ got
all_before got = take_all (length got - 0) got (omega arith)

-- at the beginning nothing was taken
pub led_first : (first : State) (held got : List Request) (state : State) → held ≡ [] → got ≡ [] → state ≡ first → IsLed first held got state
led_first first held got state none nothing same =
    subst (λ (p : List Request × (List Request × State)). IsLed first p.0 p.1.0 p.1.1) (λ i. (sym none i, (sym nothing i, sym same i))) (record { last = refl; led = refl })

-- requests were taken, where none were held
pub led_now : (first : State) (held now got got' : List Request) (state state' : State) → IsLed first held got state → held ≡ [] → got' ≡ got ++ now → state' ≡ state → IsLed first now got' state'
led_now first held now got got' state state' is none front same =
    let cut : length (got ++ now) - length now ≡ length got = let l = length-append got now in omega (arith, l) in
    let before : before_held now (got ++ now) ≡ got = ap (λ (n : ℕ). take n (got ++ now)) cut ∙ (take-append-le (length got) got now (omega arith) ∙ take_all (length got) got (omega arith)) in
    let was : before_held held got ≡ got = ap (λ (l : List Request). before_held l got) none ∙ all_before got in
    subst (λ (l : List Request). IsLed first now l state') (sym front) (record {
      last = ap (λ (l : List Request). l ++ now) before;
      led = same ∙ (is.led ∙ ap (λ (l : List Request). (settle first l).state) (was ∙ sym before));
    })

-- what was held was settled
pub led_settled : (first : State) (held held' got : List Request) (state state' : State) → IsLed first held got state → held' ≡ [] → state' ≡ (settle state held).state → IsLed first held' got state'
led_settled first held held' got state state' is none same =
    let whole : (settle first got).state ≡ (settle state held).state =
    ap (λ (l : List Request). (settle first l).state) (sym is.last) ∙ (ap (λ (s : Settled). s.state) (settle-append first (before_held held got) held) ∙ ap (λ (s : State). (settle s held).state) (sym is.led)) in
    subst (λ (l : List Request). IsLed first l got state') (sym none) (record {
      last = append-nil (before_held [] got) ∙ all_before got;
      led = same ∙ (sym whole ∙ ap (λ (l : List Request). (settle first l).state) (sym (all_before got)));
    })

-- the same is held, in the same state
pub led_still : (first : State) (held held' got : List Request) (state state' : State) → IsLed first held got state → held' ≡ held → state' ≡ state → IsLed first held' got state'
led_still first held held' got state state' is same still = subst (λ (p : List Request × State). IsLed first p.0 got p.1) (λ i. (sym same i, sym still i)) is

-- ---- a generation of an earlier state

-- two beginnings of a list that lead to the same count lead to the same graph
same_graph : (first : State) (got : List Request) (a b : ℕ) → a ≤ b → (settle first (take a got)).state.count ≡ (settle first (take b got)).state.count → (settle first (take a got)).state.graph ≡ (settle first (take b got)).state.graph
same_graph first got a b le same =
    let mid : State = (settle first (take a got)).state in
    let rest : List Request = drop a (take b got) in
    let on : (settle first (take b got)).state ≡ (settle mid rest).state = ap (λ (t : Settled). t.state) (settled_on first got a b le) in
    let then = settles mid rest in
    let count : (settle mid rest).state.count ≡ (settle first (take b got)).state.count = ap (λ (x : State). x.count) (sym on) in
    let more = then.count in
    sym (ap (λ (x : State). x.graph) on ∙ then.graph (omega (arith, more, count, same)))

-- its number is one that the store has reached
pub earlier_reached : (first : State) (held got : List Request) (state : State) (at number : ℕ) → IsLed first held got state → at + length held ≤ length got → number ≡ (settle first (take at got)).state.count → number ≤ state.count
earlier_reached first held got state at number is few same =
    let most = first_count first got at (length got - length held) (omega (arith, few)) in
    let now : state.count ≡ (settle first (before_held held got)).state.count = ap (λ (s : State). s.count) is.led in
    omega (arith, most, now, same)

-- and where that is its count, the graph is the store's
pub earlier_serves : (first : State) (held got : List Request) (state : State) (at number : ℕ) (scheme : Parts) → IsLed first held got state → at + length held ≤ length got → number ≡ (settle first (take at got)).state.count
    → Serves (settle first (take at got)).state.graph (tables scheme) → number ≡ state.count → Serves state.graph (tables scheme)
earlier_serves first held got state at number scheme is few same serves here =
    let now : state.count ≡ (settle first (before_held held got)).state.count = ap (λ (s : State). s.count) is.led in
    let graph = same_graph first got at (length got - length held) (omega (arith, few)) (sym same ∙ (here ∙ now)) in
    subst (λ (m : Network). Serves m (tables scheme)) (graph ∙ sym (ap (λ (s : State). s.graph) is.led)) serves
