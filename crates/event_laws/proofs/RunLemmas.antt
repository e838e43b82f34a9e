-- Prefix states go on, and so do runs.
use Rattle.std.proofs.Common.{◌≡◌, ◌<◌, ◌≤◌, ◌-◌, ℕ, List, [], ◌∷◌, ◌++◌, length, take, drop, Bool, false, Some, arith, sym, ap, ◌∙◌, subst, ⊎_elim, length-append, ◌+◌, true, refl}
use Rattle.std.proofs.Math.Nat.{le_refl, le_trans}
use Rattle.std.proofs.lemmas.List.{take-append-le, take-append-drop}
use Rattle.std.proofs.Math.Seq.{take-length, take-append_seam}
use Rattle.disk_trait.specs.Disk.{DiskView, MayLeave, Unchanged, LeavesOnly}
use Rattle.requests.specs.declared.request.Request.{Request}
use Rattle.layout_2.specs.State.{State, after}
use Rattle.layout_2.specs.Standing.{StandsFor}
use Rattle.group_commit.specs.Settling.{Settled, settle}
use Rattle.group_commit.specs.Laws.{SettlesInParts, AcceptedLead, CountRises}
use Rattle.event_laws.specs.History.{Lists, settled, state_at, Whole, EndBy, IsPrefixState, IsTied, lists_begun}
use Rattle.event_laws.specs.Happenings.{took, listed_held, state_held, tried, IsEither, Happens, stays, waits, refused, lost, won}
use Rattle.event_laws.specs.Runs.{moment_of, LeavesPrefix, Holds, IsRun}
use Rattle.event_laws.proofs.Every.{all_as, all_push}

-- what settling is good for, as far as it is used here
pub record Laws : Type 0 where
  pub in_parts : SettlesInParts
  pub lead : AcceptedLead
  pub count_rises : CountRises

-- a cut behind all groups, and one more behind it that isn't cut
pub whole_ends : (n : ℕ) (groups : List (ℕ × ℕ)) → EndBy n groups → Whole n groups
whole_ends n [] ends = tt
whole_ends n (g ∷ gs) ends = (λ h. absurd (let e = ends.0 in let f = h.1 in omega arith), whole_ends n gs ends.1)

pub whole_push : (j : ℕ) (groups : List (ℕ × ℕ)) (g : ℕ × ℕ) → Whole j groups → ((g.0 < j) × (j < g.1) → ⊥) → Whole j (groups ++ g ∷ [])
whole_push j [] g whole outside = (outside, tt)
whole_push j (x ∷ xs) g whole outside = (whole.0, whole_push j xs g whole.1 outside)

-- the state after all that was taken
pub held_state : (laws : Laws) (first : State) (a : Lists) → IsTied first a → state_held a ≡ state_at first a.taken (length a.taken)
held_state laws first a tied =
    ap (λ s. settled s (listed_held a)) tied.state
    ∙ sym (ap (λ (r : Settled). r.state) (laws.in_parts first (take a.done a.taken) (drop a.done a.taken)))
    ∙ ap (λ l. settled first l) (take-append-drop a.done a.taken ∙ sym (take-length a.taken))

-- the count doesn't fall
pub held_count : (laws : Laws) (a : Lists) → a.state.count ≤ (state_held a).count
held_count laws a = let e = laws.count_rises a.state (listed_held a) in omega arith

-- the first of the accepted requests lead to the state at a place
pub after_first : (laws : Laws) (first : State) (taken : List Request) (at : ℕ) → after first (take ((state_at first taken at).count - first.count) (settle first taken).accepted) ≡ Some (state_at first taken at)
after_first laws first taken at =
    let some : List Request = (settle first (take at taken)).accepted in
    let rest : List Request = (settle (state_at first taken at) (drop at taken)).accepted in
    let parts : (settle first taken).accepted ≡ some ++ rest =
    ap (λ l. (settle first l).accepted) (sym (take-append-drop at taken)) ∙ ap (λ (r : Settled). r.accepted) (laws.in_parts first (take at taken) (drop at taken)) in
    let many : (state_at first taken at).count - first.count ≡ length some = let e = laws.count_rises first (take at taken) in omega arith in
    ap (after first) (ap (λ n. take n (settle first taken).accepted) many ∙ ap (take (length some)) parts ∙ take-append_seam some rest) ∙ laws.lead first (take at taken)

-- ---- the lists are longer

pub took_more : (first : State) (a : Lists) (more : List Request) (least : ℕ) (image : List ℕ) → IsPrefixState first a least image → IsPrefixState first (took a more) least image
took_more first a more least image is =
    let same : take is.at (a.taken ++ more) ≡ take is.at a.taken = take-append-le is.at a.taken more is.within in
    record {
      at = is.at;
      within = let w = is.within in omega (arith, length-append a.taken more);
      answered = is.answered;
      holds = subst (λ l. least ≤ (settled first l).count) (sym same) is.holds;
      whole = is.whole;
      stands = subst (λ l. StandsFor (settled first l) image) (sym same) is.stands;
    }

-- ---- what the image has of a group

-- nothing was given
pub now_stands : (first : State) (a : Lists) (least : ℕ) (image : List ℕ) → IsTied first a → least ≤ a.state.count → StandsFor a.state image → IsPrefixState first a least image
now_stands first a least image tied holds stands = record {
  at = a.done;
  within = tied.within;
  answered = λ _. le_refl a.done;
  holds = subst (λ (s : State). least ≤ s.count) tied.state holds;
  whole = tied.whole;
  stands = subst (λ s. StandsFor s image) tied.state stands;
}

module _ (first : State) (a : Lists) (done : ℕ) (state : State) (down : Bool) where
  -- the lists are tied behind a group that isn't cut
  pub tied_tried : IsTied first a → done ≤ length a.taken → state ≡ state_at first a.taken done → Whole done a.groups → ((a.done < done) × (done < length a.taken) → ⊥) → IsTied first (tried a done state down)
  tied_tried tied within is whole outside = record {
    within = within;
    state = is;
    whole = whole_push done a.groups (a.done, length a.taken) whole outside;
    ends = all_push (λ (g : ℕ × ℕ). g.1 ≤ length a.taken) a.groups (a.done, length a.taken) tied.ends (le_refl (length a.taken));
  }

  -- nothing of it, where the store was up: a prefix state stays one
  pub tried_more : (least : ℕ) (image : List ℕ) → a.down ≡ false → a.done ≤ done → IsPrefixState first a least image → IsPrefixState first (tried a done state down) least image
  tried_more least image up le is =
      let at_most : is.at ≤ a.done = is.answered up in
      record {
        at = is.at;
        within = is.within;
        answered = λ _. le_trans at_most le;
        holds = is.holds;
        whole = whole_push is.at a.groups (a.done, length a.taken) is.whole (λ h. let low : a.done < is.at = h.0 in absurd (omega arith));
        stands = is.stands;
      }

  -- all of it
  pub held_stands : (laws : Laws) (least : ℕ) (image : List ℕ) → IsTied first a → (down ≡ false → length a.taken ≤ done) → least ≤ (state_held a).count → StandsFor (state_held a) image → IsPrefixState first (tried a done state down) least image
  held_stands laws least image tied le holds stands = record {
    at = length a.taken;
    within = le_refl (length a.taken);
    answered = le;
    holds = subst (λ (s : State). least ≤ s.count) (held_state laws first a tied) holds;
    whole = whole_push (length a.taken) a.groups (a.done, length a.taken) (whole_ends (length a.taken) a.groups tied.ends) (λ h. let low : length a.taken < length a.taken = h.1 in absurd (omega arith));
    stands = subst (λ s. StandsFor s image) (held_state laws first a tied) stands;
  }

  -- one or the other
  pub either_stands : (laws : Laws) (least : ℕ) (image : List ℕ) → IsTied first a → a.down ≡ false → a.done ≤ done → (down ≡ false → length a.taken ≤ done) → least ≤ a.state.count → IsEither a image → IsPrefixState first (tried a done state down) least image
  either_stands laws least image tied up le all holds is = ⊎_elim
      (λ here. tried_more least image up le (now_stands first a least image tied holds here))
      (held_stands laws least image tied all (le_trans holds (held_count laws a)))
      is

pub begins : (first : State) (disk : DiskView) → ((image : List ℕ) → MayLeave disk image → StandsFor first image) → IsRun first disk (lists_begun first) []
begins first disk stands = record {
  tied = record { within = le_refl 0; state = refl; whole = tt; ends = tt };
  now = λ image left. record { at = 0; within = le_refl 0; answered = λ _. le_refl 0; holds = le_refl first.count; whole = tt; stands = stands image left };
  holds = tt;
}

-- every moment goes on
holds_on : (first : State) (v w : DiskView) (a b : Lists) (ms : List (ℕ × ℕ)) → v.clock ≤ w.clock → a.state.count ≤ b.state.count
    → ((t least : ℕ) → t ≤ v.clock → least ≤ a.state.count → LeavesPrefix first v a t least → LeavesPrefix first w b t least) → Holds first v a ms → Holds first w b ms
holds_on first v w a b ms later rise step h = all_as (λ (m : ℕ × ℕ) is. (le_trans is.0 later, le_trans is.1 rise, step m.0 m.1 is.0 is.1 is.2)) ms h

pub now_counts : (first : State) (v : DiskView) (a : Lists) (ms : List (ℕ × ℕ)) → IsRun first v a ms → IsRun first v a (ms ++ moment_of v a ∷ [])
now_counts first v a ms run = record {
  tied = run.tied;
  now = run.now;
  holds = all_push (λ (m : ℕ × ℕ). (m.0 ≤ v.clock) × (m.1 ≤ a.state.count) × LeavesPrefix first v a m.0 m.1) ms (moment_of v a) run.holds (le_refl v.clock, le_refl a.state.count, run.now);
}

pub stays_run : (first : State) (v w : DiskView) (a : Lists) (ms : List (ℕ × ℕ)) → IsRun first v a ms → Unchanged v w → IsRun first w a ms
stays_run first v w a ms run same = record {
  tied = run.tied;
  now = λ image left. run.now image (subst (λ (t : ℕ). v.left_since t image) same.clock (same.left w.clock image left));
  holds = holds_on first v w a a ms (let e = same.clock in omega arith) (le_refl a.state.count) (λ t least le small was image left. was image (same.left t image left)) run.holds;
}

module _ (first : State) (v w : DiskView) (a b : Lists) (ms : List (ℕ × ℕ)) (run : IsRun first v a ms) where
  -- to these lists, with one moment more
  goes : (c : Lists) → b ≡ c → v.clock ≤ w.clock → a.state.count ≤ c.state.count → IsTied first c → ((t least : ℕ) → t ≤ v.clock → least ≤ a.state.count → LeavesPrefix first v a t least → LeavesPrefix first w c t least)
      → LeavesPrefix first w c w.clock c.state.count → IsRun first w b (ms ++ moment_of w b ∷ [])
  goes c same later rise tied step now = subst (λ (l : Lists). IsRun first w l (ms ++ moment_of w l ∷ [])) (sym same)
      (now_counts first w c ms (record { tied = tied; now = now; holds = holds_on first v w a c ms later rise step run.holds }))

  -- by a commit that leaves what was there, or else this
  leaves : (P : List ℕ → Type 0) (c : Lists) → b ≡ c → LeavesOnly v w P → a.state.count ≤ c.state.count → IsTied first c → ((least : ℕ) (image : List ℕ) → IsPrefixState first a least image → IsPrefixState first c least image)
      → ((least : ℕ) (image : List ℕ) → least ≤ a.state.count → P image → IsPrefixState first c least image) → LeavesPrefix first w c w.clock c.state.count → IsRun first w b (ms ++ moment_of w b ∷ [])
  leaves P c same only rise tied on new now =
      goes c same only.later rise tied (λ t least le small before image left. ⊎_elim (λ was. on least image (before image was)) (new least image small) (only.since t image le left)) now

pub goes_on : (laws : Laws) (first : State) (v w : DiskView) (a b : Lists) (number : ℕ) (ms : List (ℕ × ℕ)) → IsRun first v a ms → Happens v w a b number → IsRun first w b (ms ++ moment_of w b ∷ [])
goes_on laws first v w a b number ms run (stays is) =
    let longer = length-append a.taken is.more in
    let tied : IsTied first (took a is.more) = record {
      within = let x = run.tied.within in omega (arith, longer);
      state = run.tied.state ∙ ap (λ l. settled first l) (sym (take-append-le a.done a.taken is.more run.tied.within));
      whole = run.tied.whole;
      ends = all_as (λ (g : ℕ × ℕ) (le : g.1 ≤ length a.taken). omega (arith, longer)) a.groups run.tied.ends;
    } in
    goes first v w a b ms run (took a is.more) is.lists (let e = is.clock in omega arith) (le_refl a.state.count) tied
    (λ t least le small before image left. took_more first a is.more least image (before image (is.left t image left)))
    (λ image left. took_more first a is.more a.state.count image (run.now image (is.left v.clock image (subst (λ t. w.left_since t image) is.clock left))))
goes_on laws first v w a b number ms run (waits is) =
    let new : (least : ℕ) (image : List ℕ) → least ≤ a.state.count → StandsFor a.state image → IsPrefixState first a least image = λ least image. now_stands first a least image run.tied in
    leaves first v w a b ms run (StandsFor a.state) a is.lists is.leaves (le_refl a.state.count) run.tied (λ least image was. was) new (λ image left. new a.state.count image (le_refl a.state.count) (is.leaves.now image left))
goes_on laws first v w a b number ms run (refused is) =
    let c : Lists = tried a a.done a.state false in
    let on : (least : ℕ) (image : List ℕ) → IsPrefixState first a least image → IsPrefixState first c least image = λ least image. tried_more first a a.done a.state false least image is.up (le_refl a.done) in
    let new : (least : ℕ) (image : List ℕ) → least ≤ a.state.count → StandsFor a.state image → IsPrefixState first c least image = λ least image small here. on least image (now_stands first a least image run.tied small here) in
    leaves first v w a b ms run (StandsFor a.state) c is.lists is.leaves (le_refl a.state.count) (tied_tried first a a.done a.state false run.tied run.tied.within run.tied.state run.tied.whole (λ h. let low = h.0 in absurd (omega arith))) on new
    (λ image left. new a.state.count image (le_refl a.state.count) (is.leaves.now image left))
goes_on laws first v w a b number ms run (lost is) =
    let c : Lists = tried a a.done a.state true in
    let new : (least : ℕ) (image : List ℕ) → least ≤ a.state.count → IsEither a image → IsPrefixState first c least image = λ least image. either_stands first a a.done a.state true laws least image run.tied is.up (le_refl a.done) (λ e. cc) in
    leaves first v w a b ms run (IsEither a) c is.lists is.leaves (le_refl a.state.count) (tied_tried first a a.done a.state true run.tied run.tied.within run.tied.state run.tied.whole (λ h. let low = h.0 in absurd (omega arith)))
    (λ least image. tried_more first a a.done a.state true least image is.up (le_refl a.done)) new (λ image left. new a.state.count image (le_refl a.state.count) (is.leaves.now image left))
goes_on laws first v w a b number ms run (won is) =
    let all = length a.taken in
    let next = state_held a in
    leaves first v w a b ms run (IsEither a) (tried a all next false) is.lists is.leaves (held_count laws a)
    (tied_tried first a all next false run.tied (le_refl all) (held_state laws first a run.tied) (whole_ends all a.groups run.tied.ends) (λ h. let low = h.1 in absurd (omega arith)))
    (λ least image. tried_more first a all next false least image is.up run.tied.within)
    (λ least image. either_stands first a all next false laws least image run.tied is.up run.tied.within (λ _. le_refl all))
    (λ image left. held_stands first a all next false laws next.count image run.tied (λ _. le_refl all) (le_refl next.count) (is.stands image left))

-- ---- clock and count

same_count : (a b c : Lists) (number : ℕ) → b ≡ c → c.state.count ≡ a.state.count → number ≡ 0 → b.state.count ≡ a.state.count + number
same_count a b c number e same none = ap (λ (l : Lists). l.state.count) e ∙ same ∙ (omega arith)

pub moments_rise : (laws : Laws) (v w : DiskView) (a b : Lists) (number : ℕ) → Happens v w a b number → (v.clock ≤ w.clock) × (b.state.count ≡ a.state.count + number)
moments_rise laws v w a b number (stays x) = ((let e = x.clock in omega arith), same_count a b (took a x.more) number x.lists refl x.none)
moments_rise laws v w a b number (waits x) = (x.leaves.later, same_count a b a number x.lists refl x.none)
moments_rise laws v w a b number (refused x) = (x.leaves.later, same_count a b (tried a a.done a.state false) number x.lists refl x.none)
moments_rise laws v w a b number (lost x) = (x.leaves.later, same_count a b (tried a a.done a.state true) number x.lists refl x.none)
moments_rise laws v w a b number (won x) = (x.leaves.later, ap (λ (l : Lists). l.state.count) x.lists ∙ laws.count_rises a.state (listed_held a) ∙ ap (λ n. a.state.count + n) (sym x.number_is))
