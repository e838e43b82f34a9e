-- How the lists of a life go on.
use Rattle.std.proofs.Common.{◌≡◌, ◌≢◌, ◌≤◌, ◌<◌, ◌+◌, ℕ, Bool, true, false, List, [], ◌∷◌, ◌++◌, length, take, drop, map, Option, Some, None, refl, sym, ap, ◌∙◌, subst, append-nil, arith, length-append, le_refl}
use Rattle.std.specs.Option.{option_map}
use mathlib.Core.List.{IsPrefix}
use Rattle.std.specs.List.{range_with_len}
use Rattle.std.proofs.lemmas.Bool.{false_from_ne_true}
use Rattle.std.proofs.lemmas.List.{take-append-le, take-append-drop, take-take, take-map}
use Rattle.std.proofs.lemmas.List.FromFn.{length-range_with_len}
use Rattle.schemes.specs.declared.parts.Parts.{Parts}
use Rattle.schemes.specs.Tables.{tables}
use Rattle.schemes.specs.Service.{Serves}
use Rattle.requests.specs.Tickets.{Rises}
use Rattle.requests.specs.Requests.{asked_by}
use Rattle.requests.specs.declared.request.Request.{Request}
use Rattle.requests.proofs.TicketLemmas.{rises_take}
use Rattle.layout_2.specs.State.{State, asked, AreInTurn}
use Rattle.generations.specs.declared.posting.Mark.{Mark}
use Rattle.generations.specs.declared.posting.Notice.{Notice}
use Rattle.generations.specs.declared.posting.Notice.TheVariants.{Marked, Failed, Built}
use Rattle.generations.specs.Notices.{told_to, counts_of, marks_in, newest_in, says_down}
use Rattle.generations.specs.Lawful.{AreCounted}
use Rattle.generations.proofs.Lawfulness.{lawful_none, lawful_marks, lawful_down, lawful_generation, marks_push, still_up}
use Rattle.group_commit.specs.Settling.{Settled, settle}
use Rattle.group_commit.specs.Laws.{both}
use Rattle.group_commit.proofs.SettlingLemmas.{settle-append, settled_count, one_mark_each, counts_go_on}
use Rattle.request_lists.specs.declared.builds.Builds.{Builds}
use Rattle.request_lists.specs.declared.builds.Builds.TheVariants.{Beside}
use Rattle.request_lists.specs.Lists.{AreListed, IsAhead}
use Rattle.request_lists.proofs.Cuts.{just_marks, durable_beside, durable_none, durable_push, durable_same, durable_more}
use Rattle.generations.proofs.Numbers.{same_newest, now_newest, all_below}

-- ---- what is settled

-- more of the requests are fewer of them, and those between
pub split_at : (requests : List Request) (a b : ℕ) → a ≤ b → take b requests ≡ take a requests ++ drop a (take b requests)
split_at requests a b le = sym (take-append-drop a (take b requests)) ∙ ap (λ (l : List Request). l ++ drop a (take b requests)) (take-take a b requests le)

-- settling of more is that of fewer, and that of those between from there
pub settled_on : (first : State) (requests : List Request) (a b : ℕ) → a ≤ b
    → settle first (take b requests) ≡ both (settle first (take a requests)) (settle (settle first (take a requests)).state (drop a (take b requests)))
settled_on first requests a b le = ap (settle first) (split_at requests a b le) ∙ settle-append first (take a requests) (drop a (take b requests))

-- the first requests rise where all do
pub first_rise : (tickets : List ℕ) (n : ℕ) (requests : List Request) → AreInTurn tickets requests → Rises tickets (asked (take n requests))
first_rise tickets n requests turn = subst (Rises tickets) (take-map asked_by n requests) (rises_take tickets n (asked requests) turn.0)

-- the marks of requests in turn rise
marks_rise : (first : State) (n : ℕ) (requests : List Request) → AreInTurn first.tickets requests → Rises first.tickets (map told_to (settle first (take n requests)).marks)
marks_rise first n requests turn = subst (Rises first.tickets) (sym (one_mark_each first (take n requests))) (first_rise first.tickets n requests turn)

-- and their counts go on one by one
marks_counted : (first : State) (requests : List Request) → AreCounted first.count (counts_of (settle first requests).marks)
marks_counted first requests =
    let is = counts_go_on first requests in
    let many : length (counts_of (settle first requests).marks) ≡ length (settle first requests).accepted = ap (λ (l : List ℕ). length l) is ∙ length-range_with_len (first.count + 1) (length (settle first requests).accepted) in
    is ∙ ap (range_with_len (first.count + 1)) (sym many)

-- while the store is up no failure was told
none_failed : {builds : Builds} → (first : State) (told : List Notice) (requests : List Request) (done taken : ℕ) (state : State) (down : Bool) → AreListed builds first told requests done taken state down → down ≡ false → says_down told ≡ false
none_failed first told requests done taken state down is up = false_from_ne_true (says_down told) (λ e. (let d = is.ended e in cc))

no_marks : (told : List Notice) (p : Notice) (ms : List Mark) → marks_in (told ++ p ∷ []) ≡ marks_in told ++ [] → marks_in told ≡ ms → marks_in (told ++ p ∷ []) ≡ ms
no_marks told p ms e is = e ∙ (append-nil (marks_in told) ∙ is)

-- ---- the steps

-- at the beginning
pub listed_first : {builds : Builds} → (first : State) (down : Bool) → AreListed builds first [] [] 0 0 first down
listed_first first down = record {
  started = le_refl 0;
  within = le_refl 0;
  in_turn = (tt, tt);
  state_is = refl;
  marks = refl;
  lawful = lawful_none first.tickets first.count;
  ended = λ e. absurd cc;
  behind = λ g e. absurd cc;
  durable = durable_none first [];
}

-- one request more left the queue
pub listed_taken : {builds : Builds} → (first : State) (told : List Notice) (requests : List Request) (done taken : ℕ) (state : State) (down : Bool) → AreListed builds first told requests done taken state down → taken < length requests
    → AreListed builds first told requests done (taken + 1) state down
listed_taken first told requests done taken state down is more = record {
  started = let a = is.started in omega (arith, a);
  within = omega (arith, more);
  in_turn = is.in_turn;
  state_is = is.state_is;
  marks = is.marks;
  lawful = is.lawful;
  ended = is.ended;
  behind = is.behind;
  durable = is.durable;
}

-- one request more was let in
pub listed_asked : {builds : Builds} → (first : State) (told : List Notice) (requests : List Request) (done taken : ℕ) (state : State) (down : Bool) (r : Request) → AreListed builds first told requests done taken state down
    → AreInTurn first.tickets (requests ++ r ∷ []) → AreListed builds first told (requests ++ r ∷ []) done taken state down
listed_asked first told requests done taken state down r is turn =
    let fits : done ≤ length requests = let a = is.started in let b = is.within in omega (arith, a, b) in
    let same : take done (requests ++ r ∷ []) ≡ take done requests = take-append-le done requests (r ∷ []) fits in
    record {
      started = is.started;
      within = let a = is.within in let l = length-append requests (r ∷ []) in omega (arith, a, l);
      in_turn = turn;
      state_is = is.state_is ∙ ap (λ (l : List Request). (settle first l).state) (sym same);
      marks = is.marks ∙ ap (λ (l : List Request). (settle first l).marks) (sym same);
      lawful = is.lawful;
      ended = is.ended;
      behind = is.behind;
      durable = durable_more first requests (r ∷ []) told is.durable;
    }

-- requests more were let in and left the queue, where all had left it
pub listed_filled : {builds : Builds} → (first : State) (told : List Notice) (requests more : List Request) (done : ℕ) (state : State) (down : Bool) → AreListed builds first told requests done (length requests) state down → AreInTurn first.tickets (requests ++ more)
    → AreListed builds first told (requests ++ more) done (length (requests ++ more)) state down
listed_filled first told requests more done state down is turn =
    let fits : done ≤ length requests = is.started in
    let same : take done (requests ++ more) ≡ take done requests = take-append-le done requests more fits in
    record {
      started = let l = length-append requests more in omega (arith, fits, l);
      within = le_refl (length (requests ++ more));
      in_turn = turn;
      state_is = is.state_is ∙ ap (λ (l : List Request). (settle first l).state) (sym same);
      marks = is.marks ∙ ap (λ (l : List Request). (settle first l).marks) (sym same);
      lawful = is.lawful;
      ended = is.ended;
      behind = is.behind;
      durable = durable_more first requests more told is.durable;
    }

-- what is held was settled, and its marks are told
pub listed_marks : {builds : Builds} → (first : State) (told : List Notice) (requests : List Request) (done taken : ℕ) (state : State) (down : Bool) → AreListed builds first told requests done taken state down → down ≡ false
    → AreListed builds first (told ++ Marked (settle state (drop done (take taken requests))).marks ∷ []) requests taken taken (settle state (drop done (take taken requests))).state down
listed_marks first told requests done taken state down is up =
    let held : List Request = drop done (take taken requests) in
    let t : Settled = settle state held in
    let whole : settle first (take taken requests) ≡ both (settle first (take done requests)) t = settled_on first requests done taken is.started ∙ ap (λ (s : State). both (settle first (take done requests)) (settle s held)) (sym is.state_is) in
    let all : marks_in told ++ t.marks ≡ (settle first (take taken requests)).marks = ap (λ (ms : List Mark). ms ++ t.marks) is.marks ∙ ap (λ (s : Settled). s.marks) (sym whole) in
    let newest : newest_in (told ++ Marked t.marks ∷ []) ≡ newest_in told = same_newest told (Marked t.marks) refl in
    record {
      started = le_refl taken;
      within = is.within;
      in_turn = is.in_turn;
      state_is = ap (λ (s : Settled). s.state) (sym whole);
      marks = marks_push told (Marked t.marks) ∙ all;
      lawful = lawful_marks first.tickets first.count told t.marks is.lawful (none_failed first told requests done taken state down is up)
          (subst (λ (ms : List Mark). Rises first.tickets (map told_to ms)) (sym all) (marks_rise first taken requests is.in_turn))
          (subst (λ (ms : List Mark). AreCounted first.count (counts_of ms)) (sym all) (marks_counted first (take taken requests)));
      ended = λ e. absurd (let f = still_up told (Marked t.marks) (none_failed first told requests done taken state down is up) refl in cc);
      behind = λ g at. let b = is.behind g (sym newest ∙ at) in let c = settled_count state held in omega (arith, b, c);
      durable = durable_same first requests told (Marked t.marks) is.durable refl;
    }

-- that the device failed is told
pub listed_down : {builds : Builds} → (first : State) (told : List Notice) (requests : List Request) (done taken : ℕ) (state : State) (down : Bool) → AreListed builds first told requests done taken state down → down ≡ false
    → AreListed builds first (told ++ Failed ∷ []) requests done taken state true
listed_down first told requests done taken state down is up = record {
  started = is.started;
  within = is.within;
  in_turn = is.in_turn;
  state_is = is.state_is;
  marks = no_marks told Failed (settle first (take done requests)).marks (marks_push told Failed) is.marks;
  lawful = lawful_down first.tickets first.count told is.lawful (none_failed first told requests done taken state down is up);
  ended = λ e. refl;
  behind = λ g at. is.behind g (sym (same_newest told Failed refl) ∙ at);
  durable = durable_same first requests told Failed is.durable refl;
}

-- a generation of the store's state is told, where the newest is another
pub listed_built : {builds : Builds} → (first : State) (told : List Notice) (requests : List Request) (done taken : ℕ) (state : State) (down : Bool) (scheme : Parts) → AreListed builds first told requests done taken state down → down ≡ false
    → option_map (λ g. g.0) (newest_in told) ≢ Some state.count → scheme.generation ≡ state.count → Serves state.graph (tables scheme)
    → AreListed builds first (told ++ Built state.count scheme ∷ []) requests done taken state down
listed_built {builds} first told requests done taken state down scheme is up other named serves =
    let p : Notice = Built state.count scheme in
    let alive = none_failed first told requests done taken state down is up in
    record {
      started = is.started;
      within = is.within;
      in_turn = is.in_turn;
      state_is = is.state_is;
      marks = no_marks told p (settle first (take done requests)).marks (marks_push told p) is.marks;
      lawful = lawful_generation first.tickets first.count told state.count scheme is.lawful alive (all_below told state.count is.lawful.numbers is.behind other);
      ended = λ e. absurd (let f = still_up told p alive refl in cc);
      behind = λ g at. let same : (state.count, scheme) ≡ g = (let h = sym (now_newest told state.count scheme) ∙ at in cc) in let e : state.count ≡ g.0 = ap (λ (x : ℕ × Parts). x.0) same in omega (arith, e);
      durable = durable_push first requests told p is.durable (λ number s e.
          let n : state.count ≡ number = cc in
          let q : scheme ≡ s = cc in
          record {
            at = done;
            within = let a = is.started in let b = is.within in omega (arith, a, b);
            marks = just_marks builds (settle first (take done requests)).marks (marks_in told) is.marks;
            number_is = sym n ∙ ap (λ (x : State). x.count) is.state_is;
            named = ap (λ (x : Parts). x.generation) (sym q) ∙ (named ∙ n);
            serves = subst (λ (x : State × Parts). Serves x.0.graph (tables x.1)) (λ i. (is.state_is i, q i)) serves;
          });
    }

-- the marks of the first of the settled requests come first
first_marks : (first : State) (requests : List Request) (at done : ℕ) → at ≤ done → IsPrefix (settle first (take at requests)).marks (settle first (take done requests)).marks
first_marks first requests at done le = ((settle (settle first (take at requests)).state (drop at (take done requests))).marks, sym (ap (λ (s : Settled). s.marks) (settled_on first requests at done le)))

-- and they lead to no higher count
pub first_count : (first : State) (requests : List Request) (at done : ℕ) → at ≤ done → (settle first (take at requests)).state.count ≤ (settle first (take done requests)).state.count
first_count first requests at done le =
    let on : (settle first (take done requests)).state ≡ (settle (settle first (take at requests)).state (drop at (take done requests))).state = ap (λ (s : Settled). s.state) (settled_on first requests at done le) in
    let more = settled_count (settle first (take at requests)).state (drop at (take done requests)) in
    let same : (settle first (take done requests)).state.count ≡ (settle (settle first (take at requests)).state (drop at (take done requests))).state.count = ap (λ (s : State). s.count) on in
    omega (arith, more, same)

-- the newest has another number than one above it
pub not_newest : (told : List Notice) (number : ℕ) → IsAhead number told → option_map (λ g. g.0) (newest_in told) ≢ Some number
not_newest told number ahead same = by (newest_in told) refl
  where
    by : (o : Option (ℕ × Parts)) → newest_in told ≡ o → ⊥
    by None e = absurd (let none : option_map (λ g. g.0) (newest_in told) ≡ None = ap (option_map (λ g. g.0)) e in let both = sym none ∙ same in cc)
    by (Some g) e = absurd (let a = ahead g e in let some : option_map (λ g. g.0) (newest_in told) ≡ Some g.0 = ap (option_map (λ g. g.0)) e in let both : Some g.0 ≡ Some number = sym some ∙ same in let n : g.0 ≡ number = cc in omega (arith, a, n))

-- a generation of an earlier state is told, whose number is above that of the newest
pub listed_earlier : (first : State) (told : List Notice) (requests : List Request) (done taken : ℕ) (state : State) (down : Bool) (at number : ℕ) (scheme : Parts) → AreListed Beside first told requests done taken state down → down ≡ false
    → at ≤ done → number ≡ (settle first (take at requests)).state.count → IsAhead number told → scheme.generation ≡ number → Serves (settle first (take at requests)).state.graph (tables scheme)
    → AreListed Beside first (told ++ Built number scheme ∷ []) requests done taken state down
listed_earlier first told requests done taken state down at number scheme is up le counts ahead named serves =
    let p : Notice = Built number scheme in
    let alive = none_failed first told requests done taken state down is up in
    let few : number ≤ state.count = (let c = first_count first requests at done le in let s : state.count ≡ (settle first (take done requests)).state.count = ap (λ (x : State). x.count) is.state_is in omega (arith, c, s, counts)) in
    record {
      started = is.started;
      within = is.within;
      in_turn = is.in_turn;
      state_is = is.state_is;
      marks = no_marks told p (settle first (take done requests)).marks (marks_push told p) is.marks;
      lawful = lawful_generation first.tickets first.count told number scheme is.lawful alive
          (all_below told number is.lawful.numbers (λ g e. let a = ahead g e in omega (arith, a)) (not_newest told number ahead));
      ended = λ e. absurd (let f = still_up told p alive refl in cc);
      behind = λ g e. let same : (number, scheme) ≡ g = (let h = sym (now_newest told number scheme) ∙ e in cc) in let n : number ≡ g.0 = ap (λ (x : ℕ × Parts). x.0) same in omega (arith, n, few);
      durable = durable_push first requests told p is.durable (λ n s e.
          let same : number ≡ n = cc in
          let q : scheme ≡ s = cc in
          record {
            at = at;
            within = let a = is.started in let b = is.within in omega (arith, a, b, le);
            marks = subst (λ (ms : List Mark). IsPrefix (settle first (take at requests)).marks ms) (sym is.marks) (first_marks first requests at done le);
            number_is = sym same ∙ counts;
            named = ap (λ (x : Parts). x.generation) (sym q) ∙ (named ∙ same);
            serves = subst (λ (x : Parts). Serves (settle first (take at requests)).state.graph (tables x)) q serves;
          });
    }

-- a list whose generations were built in turn
pub listed_beside : (builds : Builds) (first : State) (told : List Notice) (requests : List Request) (done taken : ℕ) (state : State) (down : Bool) → AreListed builds first told requests done taken state down
    → AreListed Beside first told requests done taken state down
listed_beside builds first told requests done taken state down is = record {
  started = is.started;
  within = is.within;
  in_turn = is.in_turn;
  state_is = is.state_is;
  marks = is.marks;
  lawful = is.lawful;
  ended = is.ended;
  behind = is.behind;
  durable = durable_beside builds first requests told is.durable;
}
