-- What a report of a life says, taken apart and put together, and lives one after another.
use Rattle.std.proofs.Common.{arith, ◌≡◌, ◌≤◌, ◌++◌, [], ◌∷◌, ℕ, List, sym, ap, ◌∙◌, subst, ⊎_elim, Bool, IsTrue, false, Option, Some, None, map, refl, append-nil}
use Rattle.std.proofs.Math.Nat.{le_refl}
use Rattle.std.proofs.lemmas.List.{take-take}
use Rattle.disk_trait.specs.Disk.{DiskView, Unchanged, OnlyRead}
use Rattle.disk_trait.specs.declared.disk.Disk.{Ghosts}
use Rattle.graph_edits.specs.Edges.{Network}
use Rattle.requests.specs.declared.request.Request.{Request}
use Rattle.layout_2.specs.State.{State, state_with}
use Rattle.layout_2.specs.Standing.{StandsFor, OneState}
use Rattle.layout_2.specs.Fronts.{LacksMagic, HasOtherVersion, HasThisVersion}
use Rattle.layout_2.specs.Refusals.{TellsOf}
use Rattle.layout_reader.specs.declared.refusals.OpenRefused.{OpenRefused}
use Rattle.layout_reader.specs.declared.refusals.OpenRefused.TheVariants.{NotFormatted, BadVersion, Damaged, Device, Memory}
use Rattle.generations.specs.declared.posting.Notice.{Notice}
use Rattle.group_commit.specs.Settling.{settle}
use Rattle.event_model.specs.declared.event.Event.{Event}
use Rattle.event_model.specs.declared.reply.Reply.{Reply}
use Rattle.event_model.specs.declared.reply.Reply.TheVariants.{Rebuilt}
use Rattle.event_model.specs.Machines.{Machine, begun}
use Rattle.event_model.specs.Answers.{RebuildAnswers}
use Rattle.event_laws.specs.History.{Lists, lists_begun as none_yet, state_at, IsPrefixState}
use Rattle.event_laws.specs.Runs.{IsRun}
use Rattle.event_laws.specs.Listed.{IsListed}
use Rattle.event_laws.specs.OneLife.{history_of, life_of as life_in}
use Rattle.event_laws.specs.QueueLaws.{AcknowledgedStay}
use Rattle.event_laws.specs.Queues.{all_let_in}
use Rattle.event_laws.specs.Replies.{RunRoutes}
use Rattle.event_laws.specs.LaterLives.{IsLife, Follows, AreChained as AreJoined}
use Rattle.event_laws.specs.OnceLaws.{ExactlyOnce}
use Rattle.interleave.specs.declared.world.World.{World}
use Rattle.interleave.specs.WorldWords.{lists_of, machine_of, world_view}
use Rattle.interleave.specs.Crashes.{HoldsSince, HasWorlds}
use Rattle.interleave.specs.Desks.{WorldRun}
use Rattle.interleave.proofs.Going.{desks_run}
use Rattle.life_chain.specs.declared.life.Life.{Life}
use Rattle.life_chain.specs.declared.report.LifeReport.{LifeReport}
use Rattle.life_chain.specs.Groups.{nothing_given, given_by}
use Rattle.life_chain.specs.Reports.{opened_of, taken_of, ended_with, life_of}
use Rattle.life_chain.specs.Sound.{ServesOpened, IsSafe, IsSoundIn, AreEach}
use Rattle.life_chain.specs.Lived.{IsLived, IsServed, IsAnswered, IsRefusedOpening, AreLived}
use Rattle.life_chain.specs.Chains.{IsFirst, IsNextOf, AreChained, AreExactlyOnce, IsLastRefused}
use Rattle.life_chain.specs.Laws.{GoOn, AreNext}
use Rattle.life_chain.proofs.EventLemmas.{come_to, Fits, nothing_yet, life_fits}

-- ---- taken apart

-- the end of a life, in the words of its report
pub record Ended (first : State) (life : Life) (report : LifeReport) (content : List ℕ) : Type 0 where
  pub due : Option Notice
  pub state : State
  pub down : Bool
  pub listed : IsListed first (ended_with report due state down)
  pub safe : IsSafe first life report (ended_with report due state down) (ended_with report due state down) content

pub ended_of : {D : Type 0} → (model : Ghosts D) → (by_word : D → ℕ → D → Type 0) → (disk left : D) (life : Life) (report : LifeReport) → IsLived model by_word disk life report left → Ended (opened_of report) life report (model.view left).content
ended_of model by_word disk left life report lived =
    let m : Machine = machine_of lived.stopped in
    let first : State = opened_of report in
    let content : List ℕ = (model.view left).content in
    record {
      due = m.due;
      state = m.state;
      down = m.down;
      listed = subst (λ (n : Machine). IsListed first n) lived.answered.reported lived.answered.listed;
      safe = subst (λ (n : Machine). IsSafe first life report n n content) lived.answered.reported (lived.sound.safe.now content lived.sound.crashed.image);
    }

-- the store's state at the end is that after the settled requests
pub settled_is : (first : State) (life : Life) (report : LifeReport) (content : List ℕ) → (end : Ended first life report content) → end.state ≡ state_at first (taken_of report) report.stored.done
settled_is first life report content end =
    end.listed.lists.state_is
    ∙ ap (λ (l : List Request). (settle first l).state) (sym (take-take report.stored.done report.stored.taken report.stored.asked.items end.listed.lists.started))

-- ---- put together

-- a state by its parts
pub by_parts : (count n : ℕ) (graph g : Network) (tickets t : List ℕ) → count ≡ n → graph ≡ g → tickets ≡ t → state_with count graph tickets ≡ state_with n g t
by_parts count n graph g tickets t e f h = cc

-- what a rebuild posts at the beginning of a life
pub served : (first : State) (capacity n : ℕ) (words : List ℕ) (reply : Reply) (built : Machine) → RebuildAnswers words (begun capacity n first false) reply built → IsServed first words reply built
served first capacity n words (Rebuilt generation) built is = ⊎_elim
    (λ had. absurd (let none : ◌≡◌ {A = Option ℕ} None (Some first.count) = had.0 in cc))
    (λ made. (is.1, (made.1.0, (made.1.1.0, ap (λ (m : Machine). m.postings) made.1.1.1))))
    is.2
served first capacity n words reply built is = tt

-- .. which serves the network
pub serves_opened : (first : State) (words : List ℕ) (reply : Reply) (built : Machine) → IsServed first words reply built → ServesOpened first reply built
serves_opened first words (Rebuilt generation) built is = (is.0, (is.1.0, (is.1.1.0.serves, is.1.1.1)))
serves_opened first words reply built is = tt

-- what was asked, taken and settled in a life whose report has it all
pub record Counted (life : Life) (report : LifeReport) : Type 0 where
  pub asked : report.stored.asked.items ≡ all_let_in life.events.items report.replies.items
  pub taken : report.stored.taken ≡ (given_by nothing_given life.events.items report.replies.items).taken
  pub done : report.stored.done ≡ (given_by nothing_given life.events.items report.replies.items).done

pub counted_is : (first : State) (life : Life) (report : LifeReport) (built m : Machine) → m ≡ ended_with report m.due m.state m.down → RebuildAnswers life.words.items (begun life.capacity life.sessions first false) report.rebuilt built
    → m.asked ≡ built.asked ++ all_let_in life.events.items report.replies.items → RunRoutes first built life.events.items report.replies.items m → Counted life report
counted_is first life report built m e rebuilt asked_is answers =
    let fits = life_fits first life.capacity life.sessions life.words.items report.rebuilt built life.events.items report.replies.items m rebuilt answers in
    record {
      asked =
          sym (ap (λ (n : Machine). n.asked) e) ∙ (asked_is ∙ ap (λ (l : List Request). l ++ all_let_in life.events.items report.replies.items) (nothing_yet first life.capacity life.sessions life.words.items report.rebuilt built rebuilt).0);
      taken = sym (ap (λ (n : Machine). n.taken) e) ∙ fits.taken;
      done = sym (ap (λ (n : Machine). n.done) e) ∙ fits.done;
    }

-- no group that is told of is in part in an image that holds what it has to
pub safe_is : (first : State) (life : Life) (report : LifeReport) (m : Machine) → Fits (come_to m) (given_by nothing_given life.events.items report.replies.items) → (was : Machine) (image : List ℕ) → HoldsSince first was m image
    → IsSafe first life report was m image
safe_is first life report m fits was image h = record { holds = h; whole = fits.whole h.prefix.at h.prefix.whole h.prefix.answered }

-- a disk that was only read, and then stayed as it is seen, was only read
pub read_same : (u v w : DiskView) → OnlyRead u v → Unchanged v w → OnlyRead u w
read_same u v w read same = record {
  later = let a = read.later in let b = same.clock in omega arith;
  content = same.content ∙ read.content;
  left = λ image now. read.left image (subst (λ (t : ℕ). v.left_since t image) same.clock (same.left w.clock image now));
  since = λ t image le now. read.since t image le (same.left t image now);
}

-- what a crash leaves since the disk was handed over, where all that it might leave then stood for what was opened
pub handed_is : {D : Type 0} → (model : Ghosts D) → AcknowledgedStay → (first : State) (disk : D) (started stopped : World D model) (events : List Event) (replies : List Reply) → HasWorlds started events replies stopped
    → IsTrue (world_view started).keeps_model → IsListed first (machine_of started) → lists_of started ≡ none_yet first → IsRun first (world_view started) (lists_of started) [] → OnlyRead (model.view disk) (world_view started)
    → IsRun first (model.view disk) (none_yet first) [] → (image : List ℕ) → (world_view stopped).left_since (model.view disk).clock image → HoldsSince first (machine_of started) (machine_of stopped) image
handed_is model stay first disk started stopped events replies ran kept listed none base read handed image left =
    let clock : ℕ = (model.view disk).clock in
    let here : (i : List ℕ) → (world_view started).left_since clock i → IsPrefixState first (lists_of started) first.count i =
    λ i was. subst (λ (a : Lists). IsPrefixState first a first.count i) (sym none) (⊎_elim (handed.now i) (handed.now i) (read.since clock i (le_refl clock) was)) in
    let rises : first.count ≤ (lists_of started).state.count = subst (λ (a : Lists). first.count ≤ a.state.count) (sym none) (le_refl first.count) in
    let with_it : IsRun first (world_view started) (lists_of started) ((clock, first.count) ∷ []) = record { tied = base.tied; now = base.now; holds = ((read.later, rises, here), tt) } in
    let prefix : IsPrefixState first (lists_of stopped) first.count image = (ran.goes_on kept first ((clock, first.count) ∷ []) with_it).holds.0.2 image left in
    let same : first.count ≡ (machine_of started).state.count = sym (ap (λ (a : Lists). a.state.count) none) in
    let safe : IsPrefixState first (history_of (machine_of stopped)) (machine_of started).state.count image = subst (λ (k : ℕ). IsPrefixState first (history_of (machine_of stopped)) k image) same prefix in
    record {
      prefix = safe;
      acknowledged = stay first (machine_of started) events replies (machine_of stopped) safe.at listed (desks_run started stopped events replies ran.each ran.steps) safe.holds;
    }

-- a life that opened to this state
pub record LivedFrom {D : Type 0} (model : Ghosts D) (by_word : D → ℕ → D → Type 0) (disk : D) (first : State) (life : Life) (report : LifeReport) (left : D) : Type 0 where
  pub started : World D model
  pub worlds : List (World D model)
  pub stopped : World D model
  pub sound : IsSoundIn model by_word disk first life report started worlds stopped left
  pub answered : IsAnswered first life report (machine_of started) (machine_of stopped)
  pub ran : WorldRun started life.events.items report.replies.items worlds stopped

-- .. which is that of its report
pub lived_is : {D : Type 0} → (model : Ghosts D) → (by_word : D → ℕ → D → Type 0) → (disk left : D) (first : State) (life : Life) (report : LifeReport) → opened_of report ≡ first → LivedFrom model by_word disk first life report left
    → IsLived model by_word disk life report left
lived_is model by_word disk left first life report is from =
    let here : LivedFrom model by_word disk (opened_of report) life report left = subst (λ (s : State). LivedFrom model by_word disk s life report left) (sym is) from in
    record { started = here.started; worlds = here.worlds; stopped = here.stopped; sound = here.sound; answered = here.answered; ran = here.ran }

-- what a refusal tells of the front, refusal by refusal
pub tells : (refused : OpenRefused) (content : List ℕ) → (refused ≡ NotFormatted → LacksMagic content) → (refused ≡ BadVersion → HasOtherVersion content) → (refused ≡ Damaged → HasThisVersion content)
    → (refused ≡ Memory → HasThisVersion content) → TellsOf refused content
tells NotFormatted content a b d m = a refl
tells BadVersion content a b d m = b refl
tells Damaged content a b d m = d refl
tells Device content a b d m = tt
tells Memory content a b d m = m refl

-- a listed life keeps what tickets have to do with
abbrev pub TicketsKept : Type 0
TicketsKept = (first : State) (m : Machine) → IsListed first m → IsLife (life_in first m)

-- lives behind lives
pub are_one : {D : Type 0} (Is : D → Life → LifeReport → D → Type 0) (Refused : D → OpenRefused → D → Type 0) → GoOn Is Refused
are_one Is Refused disk mid left [] more [] others refused so rest = subst (λ d. AreEach Is Refused d more others refused left) so rest
are_one Is Refused disk mid left (x ∷ xs) more (r ∷ rs) others refused so rest = (so.0, (so.1.0, are_one Is Refused so.0 mid left xs more rs others refused so.1.1 rest))
are_one Is Refused disk mid left xs more rs others refused so rest = absurd so

module _ {D : Type 0} (model : Ghosts D) (by_word : D → ℕ → D → Type 0) where
  -- one life more
  pub one_more : (disk mid left : D) (lives : List Life) (reports : List LifeReport) (life : Life) (report : LifeReport) → AreLived model by_word disk lives reports None mid → IsLived model by_word mid life report left
      → AreLived model by_word disk (lives ++ life ∷ []) (reports ++ report ∷ []) None left
  one_more disk mid left lives reports life report so lived = are_one (IsLived model by_word) (IsRefusedOpening model) disk mid left lives (life ∷ []) reports (report ∷ []) None so (left, (lived, refl))

  -- up to one that couldn't open
  pub up_to : (disk mid left : D) (lives : List Life) (reports : List LifeReport) (life : Life) (rest : List Life) (refused : OpenRefused) → AreLived model by_word disk lives reports None mid → IsRefusedOpening model mid refused left
      → AreLived model by_word disk (lives ++ life ∷ rest) reports (Some refused) left
  up_to disk mid left lives reports life rest refused so why =
      subst (λ (l : List LifeReport). AreLived model by_word disk (lives ++ life ∷ rest) l (Some refused) left) (append-nil reports) (are_one (IsLived model by_word) (IsRefusedOpening model) disk mid left lives (life ∷ rest) reports [] (Some refused) so why)

  -- the first of them opened to what the first content stands for
  pub first_opened : (disk left : D) (lives : List Life) (reports : List LifeReport) (refused : Option OpenRefused) → AreLived model by_word disk lives reports refused left → IsFirst reports (model.view disk).content
  first_opened disk left lives [] refused so = tt
  first_opened disk left [] (r ∷ rs) refused so = absurd so
  first_opened disk left (x ∷ xs) (r ∷ rs) refused so = so.1.0.sound.opened

  -- where the first content stands for something, only the device or memory refuses an opening
  pub last_refused : (disk left : D) (lives : List Life) (reports : List LifeReport) (refused : Option OpenRefused) → AreLived model by_word disk lives reports refused left
      → (s : State) → StandsFor s (model.view disk).content → IsLastRefused refused
  last_refused disk left lives reports None so s stands = tt
  last_refused disk left [] [] (Some refused) so s stands = absurd so
  last_refused disk left [] (r ∷ rs) (Some refused) so s stands = absurd so
  last_refused disk left (x ∷ xs) [] (Some refused) so s stands = λ fault. so.not_opened.none fault s stands
  last_refused disk left (x ∷ xs) (r ∷ rs) (Some refused) so s stands =
      let m : Machine = machine_of so.1.0.stopped in
      let prefix = (so.1.0.sound.safe.now (model.view so.0).content so.1.0.sound.crashed.image).holds.prefix in
      last_refused so.0 left xs rs (Some refused) so.1.1 (state_at (opened_of r) (history_of m).taken prefix.at) prefix.stands

  -- ---- each life is the next one of the life before

  next_of : OneState → (disk left : D) (life : Life) (report next : LifeReport) → IsLived model by_word disk life report left → StandsFor (opened_of next) (model.view left).content → IsNextOf life report next
  next_of one disk left life report next lived stands =
      let end : Ended (opened_of report) life report (model.view left).content = ended_of model by_word disk left life report lived in
      let prefix = end.safe.holds.prefix in
      let same : opened_of next ≡ state_at (opened_of report) (taken_of report) prefix.at = one (opened_of next) (state_at (opened_of report) (taken_of report) prefix.at) (model.view left).content stands prefix.stands in
      let settled : end.state ≡ state_at (opened_of report) (taken_of report) report.stored.done = settled_is (opened_of report) life report (model.view left).content end in
      record {
        at = prefix.at;
        within = prefix.within;
        state = same;
        whole = prefix.whole;
        given_whole = end.safe.whole;
        holds = subst (λ (s : State). s.count ≤ next.count) settled (subst (λ (s : State). end.state.count ≤ s.count) (sym same) prefix.holds);
        acknowledged = end.safe.holds.acknowledged;
      }

  pub are_chained : OneState → (disk left : D) (lives : List Life) (reports : List LifeReport) (refused : Option OpenRefused) → AreLived model by_word disk lives reports refused left → AreChained lives reports
  are_chained one disk left lives [] refused so = tt
  are_chained one disk left [] (r ∷ rs) refused so = absurd so
  are_chained one disk left (x ∷ xs) (r ∷ []) refused so = tt
  are_chained one disk left (x ∷ []) (r ∷ (next ∷ more)) refused so = absurd so.1.1
  are_chained one disk left (x ∷ (y ∷ ys)) (r ∷ (next ∷ more)) refused so = (next_of one disk so.0 x r next so.1.0 so.1.1.1.0.sound.opened, are_chained one so.0 left (y ∷ ys) (next ∷ more) refused so.1.1)

  -- ---- exactly once

  follows : (life : Life) (report next : LifeReport) → IsNextOf life report next → Follows (life_of report) (life_of next)
  follows life report next is = record { at = is.at; state = is.state; holds = is.holds }

  is_life : TicketsKept → (disk left : D) (life : Life) (report : LifeReport) → IsLived model by_word disk life report left → IsLife (life_of report)
  is_life kept disk left life report lived =
      let end : Ended (opened_of report) life report (model.view left).content = ended_of model by_word disk left life report lived in
      kept (opened_of report) (ended_with report end.due end.state end.down) end.listed

  joined : TicketsKept → OneState → (disk left : D) (lives : List Life) (report : LifeReport) (reports : List LifeReport) (refused : Option OpenRefused) → AreLived model by_word disk lives (report ∷ reports) refused left → AreJoined (life_of report) (map life_of reports)
  joined kept one disk left [] report reports refused so = absurd so
  joined kept one disk left (x ∷ xs) report [] refused so = is_life kept disk so.0 x report so.1.0
  joined kept one disk left (x ∷ []) report (next ∷ rest) refused so = absurd so.1.1
  joined kept one disk left (x ∷ (y ∷ ys)) report (next ∷ rest) refused so =
      (is_life kept disk so.0 x report so.1.0, follows x report next (next_of one disk so.0 x report next so.1.0 so.1.1.1.0.sound.opened), joined kept one so.0 left (y ∷ ys) next rest refused so.1.1)

  pub exactly_once : TicketsKept → ExactlyOnce → OneState → (disk left : D) (lives : List Life) (reports : List LifeReport) (refused : Option OpenRefused) → AreLived model by_word disk lives reports refused left → AreExactlyOnce reports
  exactly_once kept law one disk left lives [] refused so = tt
  exactly_once kept law one disk left lives (report ∷ reports) refused so = λ n. law (life_of report) (map life_of reports) (joined kept one disk left lives report reports refused so) n

  pub are_next : TicketsKept → ExactlyOnce → OneState → AreNext model by_word
  are_next kept law one disk left lives reports refused so = (are_chained one disk left lives reports refused so, exactly_once kept law one disk left lives reports refused so)
