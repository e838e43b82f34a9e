-- The one list of a service that no fault ended.
use Rattle.std.proofs.Common.{◌≡◌, Bool, true, inl, inr, ◌<◌, ◌++◌, ◌∷◌, [], ℕ, zero, suc, List, Option, Some, None, Result, Ok, Err, IfOk, OnOk, IsTrue, length, sym, ap, subst, ◌∙◌, arith}
use Rattle.std.specs.Prelude.{IsOkAnd, IsSomeAnd, slice_index_or, take}
use Rattle.std.specs.Io.KnownBytes.{Appends}
use mathlib.Core.Logic.{∥∥₁_map}
use Rattle.disk_trait.specs.declared.disk.Disk.{Ghosts}
use Rattle.disk_trait.specs.Disk.{DiskView, IsSameDevice, LeavesOnly, OnlyRead, joined, reading_leaves}
use Rattle.requests.specs.declared.request.Request.{Request}
use Rattle.layout_2.specs.State.{State}
use Rattle.layout_2.specs.Standing.{KeepsThrough, OneState, StandsFor}
use Rattle.checkpoint.specs.Opening.{IsOpened}
use Rattle.checkpoint.specs.declared.store.Store.{Store}
use Rattle.checkpoint.specs.StoreWords.{state_of, view_of}
use Rattle.schemes.specs.declared.parts.Parts.{Parts}
use Rattle.generations.specs.declared.posting.Notice.{Notice}
use Rattle.generations.specs.declared.posting.Notice.TheVariants.{Marked, Failed, Built}
use Rattle.generations.specs.Notices.{generations_in}
use Rattle.generations.specs.Beginnings.{Beginning, GoesOn, Opening}
use Rattle.generations.specs.Lawful.{IsLawful}
use Rattle.forwarders.specs.Arrivals.{IsLawfulList}
use Rattle.forwarders.proofs.Published.{Among}
use Rattle.committer.specs.declared.committer.Committer.{Committer}
use Rattle.committer.specs.CommitterWords.{store_of, got_of, posts_of}
use Rattle.committer.specs.Listed.{IsListedFrom}
use Rattle.group_commit.specs.Settling.{settle}
use Rattle.request_lists.specs.declared.builds.Builds.{Builds}
use Rattle.request_lists.specs.Posted.{ArePosted}
use Rattle.intake.specs.Turns.{of}
use Rattle.service_actors.specs.declared.stop_cause.StopCause.{StopCause}
use Rattle.packet_ways.specs.Carried.{AreNamed}
use Rattle.packet_ways.specs.Standing.{IsNewest}
use Rattle.packet_ways.proofs.Newest.{published_on}
use Rattle.generations.proofs.Lawfulness.{lawful_first}
use Rattle.generations.proofs.Sharing.{goes_self, goes_trans}
use Rattle.committer_thread.specs.Pace.{IsUpToDate}
use Rattle.committer_thread.specs.Kept.{HasSettled, IsLeftBy, IsOnCourse, IsServedDisk, StandsForBeginning}
use Rattle.committer_thread.proofs.Settling.{on_course_posted, read_leaves, served_leaves, served_same}
use Rattle.live_lines.specs.declared.answer.Answer.{Answer}
use Rattle.line_exchange.specs.declared.messages.Stream.{Ghosts as Streams}
use Rattle.line_exchange.specs.Inputs.{Input}
use Rattle.line_exchange.specs.OneList.{AreAnswersIn, AreGone, AreSaid}
use Rattle.line_exchange.specs.Prints.{AreAllLines, HasPrintedBy}
use Rattle.line_exchange.specs.declared.tally.Tally.{Tally}
use Rattle.line_exchange.specs.PutLines.{AreNotedFirst, puts_in}
use Rattle.line_exchange.specs.Tallies.{AreDropped}
use Rattle.line_workers.specs.Submits.{ArePutBy}
use Rattle.logbook.specs.Pages.{Book}
use Rattle.put_lines.specs.declared.put_line.PutLine.{PutLine}
use Rattle.put_lines.specs.Lines.{lines_of_session}
use Rattle.put_lines.proofs.Appending.{lines_on}
use Rattle.requests.specs.Tickets.{last_of}
use Rattle.generations.proofs.Prefixes.{prefix_shorter, prefix_trans, prefix_whole}
use Rattle.live_service.specs.Noting.{AreAllNoted, AreSamePuts}
use Rattle.live_service.specs.declared.ending.Ending.{Ending}
use mathlib.Core.List.{IsPrefix}
use Rattle.live_service.proofs.Ended.{of_back}
use Rattle.live_service.specs.ServedList.{AreOfOneList, EndsServed, HasAnswered, HasPrintedOn, HasServedAll, HasServedOn, builds_of}

-- ---- the committer

no_ok : {T : Type 0} (e : StopCause) (t : T) → Err e ≡ Ok t → ⊥
no_ok e t is = cc

same_ok : {T : Type 0} (s t : T) → ◌≡◌ {A = Result T StopCause} (Ok s) (Ok t) → s ≡ t
same_ok s t is = cc

-- the newest generation is that of the state after all that was taken
newest_of : {builds : Builds} {D R : Type 0} {V : _} → (first now : Committer D R V) → IsOnCourse builds first now → IsUpToDate now
    → IsNewest (record { opening = (posts_of now).opening; log = (posts_of now).posted }) (settle (state_of (store_of first)) (got_of now)).state.count
newest_of first now on shown =
    subst (λ (s : State). IsNewest (record { opening = (posts_of now).opening; log = (posts_of now).posted }) s.count) on.state shown.newest

-- what a committer posted that nothing stopped, what was noted, and the store that it gives back
pub served_all : {D R J : Type 0} {V : _} → (first now : Committer D R V) (store : Store D V) (stream : Streams J) (own : Result Bool StopCause) (result : Result Ending StopCause) (opening : Opening) (ending : Ending)
    → IsServedDisk (store_of first) result (view_of store) → IsListedFrom (builds_of stream.input) (state_of (store_of first)) first → OnOk own (IsOnCourse (builds_of stream.input) first now) → OnOk own ((posts_of now).opening ≡ opening) → IfOk own (λ left. IsTrue left → IsUpToDate now)
    → ending.board ≡ record { opening = (posts_of now).opening; log = (posts_of now).posted } → ending.lines.book ≡ stream.book → OnOk result (own ≡ Ok true) → IfOk result (λ e. e ≡ ending)
    → OnOk result ((session : ℕ) → AreAllNoted stream.input stream.editors ending.puts ending.lines.lines session (of session (got_of now))) → store ≡ store_of now → EndsServed opening stream (store_of first) result (view_of store)
served_all first now store stream own (Err e) opening ending disk listed on named shown is noted ok same put left = record { disk = disk; named = tt; all = tt }
served_all first now store stream (Err e) (Ok b) opening ending disk listed on named shown is noted ok same put left = absurd (no_ok e true ok)
served_all first now store stream (Ok u) (Ok b) opening ending disk listed on named shown is noted ok same put left =
    let whole = on.listed (state_of (store_of first)) listed in
    let newest = newest_of first now on (shown (same_ok u true ok)) in
    let board : Beginning = record { opening = (posts_of now).opening; log = (posts_of now).posted } in
    let posted : Ending = record { board = board; puts = ending.puts; lines = ending.lines } in
    let here : b ≡ posted = same ∙ (λ i. record { board = is i; puts = ending.puts; lines = ending.lines }) in
    record {
      disk = disk;
      named = (ap (λ (c : Ending). c.board.opening) here ∙ named, ap (λ (c : Ending). c.lines.book) here ∙ noted);
      all = subst (λ (c : Ending). HasServedAll (store_of first) stream.input stream.editors c (view_of store)) (sym here)
          (subst (λ s. HasServedAll (store_of first) stream.input stream.editors posted (view_of s)) (sym left)
          (record {
            taken = got_of now;
            begins = whole.begins;
            posted = on_course_posted first now on (state_of (store_of first)) listed;
            newest = newest;
            settled = on.settled;
            stands = on.stands;
            of_input = put;
          }));
    }

-- what holds where an engine ended so that asks for all of that
pub put_of_all : (result : Result Ending StopCause) (all : Bool) (P : Type 0) → OnOk result (all ≡ true) → (all ≡ true → P) → OnOk result P
put_of_all (Ok b) all P is then = then is
put_of_all (Err e) all P is then = tt

-- what is known is of the engine's board, and of its book
pub same_board : (engine : Result Ending StopCause) (tally : Tally) (opening : Opening) (book : Book) → tally.known.opening ≡ opening → tally.lines.book ≡ book → IfOk engine (λ e. (e.board.opening ≡ opening) × (e.lines.book ≡ book))
    → IfOk engine (λ e. (tally.known.opening ≡ e.board.opening) × (tally.lines.book ≡ e.lines.book))
same_board (Ok e) tally opening book same noted is = (same ∙ sym is.0, noted ∙ sym is.1)
same_board (Err e) tally opening book same noted is = tt

-- the board of an engine that nothing stopped has all that was known, and as many verdicts were told as lines were noted
pub served_on : {D J : Type 0} {V : _} → (opening : Opening) (stream : Streams J) (store : Store D V) (engine : Result Ending StopCause) (tally : Tally) (back : D)
    → IsOkAnd engine (λ e. GoesOn tally.known e.board × AreSamePuts tally e) → EndsServed opening stream store engine (V.view back) → HasServedOn store stream.input stream.editors tally (Some back)
served_on opening stream store (Ok ending) tally back on ends = record { ending = ending; on = on.0; told = on.1; all = ends.all }
served_on opening stream store (Err e) tally back on ends = absurd on

-- ---- which lines put requests

-- two beginnings of one list that are as long are the same
same_first : (xs ys zs : List PutLine) → IsPrefix xs zs → IsPrefix ys zs → length xs ≡ length ys → xs ≡ ys
same_first xs ys zs one two long = prefix_whole xs ys (prefix_shorter xs ys zs one two (omega (arith, long))) (omega (arith, long))

-- the lines of verdicts are those that were noted
put_by_told : (input : Input) (editors : ℕ) (tally : Tally) (ending : Ending) (answers : List Answer) (session : ℕ) (requests : List Request) → AreNotedFirst tally.puts tally.lines.lines answers → AreSamePuts tally ending
    → AreAllNoted input editors ending.puts ending.lines.lines session requests → ArePutBy input editors (lines_of_session session (puts_in answers)) requests
put_by_told input editors tally ending answers session requests told same noted =
    let all = lines_of_session session same.all in
    let one : IsPrefix (lines_of_session session (puts_in answers)) all =
    prefix_trans (lines_of_session session (puts_in answers)) (lines_of_session session tally.lines.lines) all (told.first session) (lines_on session tally.lines.lines same.all same.told) in
    let two : IsPrefix noted.noted all = prefix_trans noted.noted (lines_of_session session ending.lines.lines) all noted.first (lines_on session ending.lines.lines same.all same.noted) in
    let long : length (lines_of_session session (puts_in answers)) ≡ length noted.noted = sym (told.counted session) ∙ (ap (λ (ps : List ℕ). last_of ps session) (sym same.puts) ∙ noted.many) in
    subst (λ (ls : List PutLine). ArePutBy input editors ls requests) (sym (same_first (lines_of_session session (puts_in answers)) noted.noted all one two long)) noted.put

-- ---- a whole list

among_at : (gs : List (ℕ × Parts)) (n : ℕ) (p : Parts) (k : ℕ) → k < length gs → slice_index_or gs k (n, p) ≡ (n, p) → Among gs n p
among_at [] n p k lt e = absurd (omega (arith, lt))
among_at (g ∷ gs) n p zero lt e = (let same : g ≡ (n, p) = e in inl (ap (λ (h : ℕ × Parts). h.0) same, ap (λ (h : ℕ × Parts). h.1) same))
among_at (g ∷ gs) n p (suc k) lt e = inr (among_at gs n p k (omega (arith, lt)) e)

-- where a generation stands in a list
abbrev pub IsCutAt : List Notice → ℕ → Parts → Type 0
IsCutAt log n p = (before : List Notice) × (after : List Notice) × (log ≡ before ++ Built n p ∷ after)

cut_more : (q : Notice) (log : List Notice) (n : ℕ) (p : Parts) → IsCutAt log n p → IsCutAt (q ∷ log) n p
cut_more q log n p cut = (q ∷ cut.0, cut.1, ap (λ (l : List Notice). q ∷ l) cut.2)

cut_at : (log : List Notice) (n : ℕ) (p : Parts) → Among (generations_in log) n p → IsCutAt log n p
cut_at [] n p h = absurd h
cut_at (Marked ms ∷ log) n p h = cut_more (Marked ms) log n p (cut_at log n p h)
cut_at (Failed ∷ log) n p h = cut_more Failed log n p (cut_at log n p h)
cut_at (Built m q ∷ log) n p (inl same) = ([], log, λ i. Built (same.0 i) (same.1 i) ∷ log)
cut_at (Built m q ∷ log) n p (inr behind) = cut_more (Built m q) log n p (cut_at log n p behind)

-- each scheme of what is posted is of the generation under whose number it stands
are_named : (builds : Builds) (first : State) (taken : List Request) (all : Beginning) → ArePosted builds first taken all.log → AreNamed all
are_named builds first taken all posted number p has =
    let cut = cut_at all.log number p (among_at (generations_in all.log) number p has.0 has.1 has.2) in
    (posted.durable cut.0 cut.1 number p cut.2).named

lawful_list : (builds : Builds) (first : State) (taken : List Request) (all : Beginning) → (all.opening.starts ≡ first.tickets) × (all.opening.count ≡ first.count) → ArePosted builds first taken all.log → IsLawfulList all
lawful_list builds first taken all begins posted = subst (λ (x : List ℕ × ℕ). IsLawful x.0 x.1 all.log) (λ i. (sym begins.0 i, sym begins.1 i)) posted.lawful

-- what each list says that goes on from what is known, a lawful one says
answers_by : (known board : Beginning) (input : Input) (editors : ℕ) (answers : List Answer) → IsLawfulList board → AreNamed board → GoesOn known board → AreSaid known input editors answers → AreAnswersIn board input editors answers
answers_by known board input editors answers lawful are_named on said k answer at = ∥∥₁_map (said k answer at) (λ x. record { asked = x.asked; by = x.by; fits = x.fits; said = x.said board lawful are_named on })

-- and so does a beginning of it
beginning_lawful : (seen board : Beginning) → GoesOn seen board → IsLawfulList board → IsLawfulList seen
beginning_lawful seen board on lawful =
    subst (λ (o : Opening). IsLawful o.starts o.count seen.log) on.0 (lawful_first board.opening.starts board.opening.count seen.log board.log on.1 lawful)

gone_by : (known board : Beginning) (input : Input) (editors : ℕ) (answers : List Answer) → IsLawfulList board → AreNamed board → GoesOn known board → AreGone (λ seen before. AreSaid seen input editors before) known input editors answers
    → AreGone (λ seen before. AreAnswersIn seen input editors before) board input editors answers
gone_by known board input editors answers lawful are_named on are k at =
    ∥∥₁_map (are k at) (λ x.
    let here = goes_trans x.seen known board x.on on in
    record {
      seen = x.seen;
      on = here;
      earlier = answers_by x.seen x.seen input editors (take k answers) (beginning_lawful x.seen board here lawful) (λ number p has. are_named number p (published_on x.seen board number p here has)) (goes_self x.seen) x.earlier;
      gone = x.gone;
    })

-- ---- the device

-- an opening, and what was settled behind it
opened_leaves : (state : State) (disk opened new : DiskView) (taken : List Request) → OnlyRead disk opened → KeepsThrough disk state → IsTrue opened.keeps_model → HasSettled state taken opened new
    → LeavesOnly disk new (StandsForBeginning state taken)
opened_leaves state disk opened new taken reads keeps model done =
    joined disk opened new (StandsFor state) (StandsForBeginning state taken) (StandsForBeginning state taken) (reading_leaves disk opened (StandsFor state) reads keeps) (done.any_moment model)
    (λ image here. (0, omega arith, here)) (λ image here. here)

-- what is left of a device that was opened
pub opened_left : {D T : Type 0} {V : _} → (disk : D) (store : Store D V) (engine : Result T StopCause) (back : Option D) → OneState → IsOpened (V.view disk) store → IsSomeAnd back (λ d. IsServedDisk store engine (V.view d)) → IsLeftBy V disk back
opened_left {V = V} disk store engine back one opened came = (let left = of_back (λ d. IsServedDisk store engine (V.view d)) back came in record {
  ran = served_same disk store engine back opened.ran left;
  any_moment = λ model state stands keeps.
      served_leaves state disk store engine back (one (state_of store) state (V.view disk).content (opened.of_model model).stands stands) (opened.of_model model).reads keeps (subst IsTrue (sym opened.ran.model) model) left;
})

-- .. and of one that was only read
pub read_left : {D : Type 0} (model : Ghosts D) (disk back : D) → IsSameDevice (model.view disk) (model.view back) → (IsTrue (model.view disk).keeps_model → OnlyRead (model.view disk) (model.view back)) → IsLeftBy model disk (Some back)
read_left model disk back same reads = record { ran = same; any_moment = λ keeps_model state stands keeps. read_leaves state (model.view disk) (model.view back) (reads keeps_model) keeps }

of_one_list : {D : Type 0} {V : _} → (text : Answer → List ℕ) (disk back : D) (store : Store D V) (tally : Tally) (ending : Ending) (input : Input) (editors : ℕ) (old new : Option (List ℕ)) → IsOpened (V.view disk) store
    → HasServedAll store input editors ending (V.view back) → GoesOn tally.known ending.board → AreSamePuts tally ending → (has : HasPrintedBy text tally input editors (Appends old new)) → AreOfOneList V disk back input editors has.answers
of_one_list {V = V} text disk back store tally ending input editors old new opened all on told has =
    let board = ending.board in
    let lawful = lawful_list (builds_of input) (state_of store) all.taken board all.begins all.posted in
    let named = are_named (builds_of input) (state_of store) all.taken board all.posted in
    let still : IsTrue (V.view disk).keeps_model → IsTrue (view_of store).keeps_model = λ model. subst IsTrue (sym opened.ran.model) model in
    record {
      first = state_of store;
      held = λ model. (opened.of_model model).stands;
      taken = all.taken;
      board = board;
      begins = all.begins;
      of_input = λ session. put_by_told input editors tally ending has.answers session (of session all.taken) has.noted told (all.of_input session);
      posted = all.posted;
      newest = all.newest;
      said = answers_by tally.known board input editors has.answers lawful named on has.said;
      gone = gone_by tally.known board input editors has.answers lawful named on has.gone;
      in_turn = has.in_turn.rises;
      dropped = subst (λ (starts : List ℕ). AreDropped starts has.answers) (sym (ap (λ (o : Opening). o.starts) on.0) ∙ all.begins.0) has.dropped;
      awaited = has.awaited;
      backed = has.backed;
      measured = has.measured;
      no_older = has.no_older;
      any_moment = λ model keeps. opened_leaves (state_of store) (V.view disk) (view_of store) (V.view back) all.taken (opened.of_model model).reads keeps (still model) all.settled;
      left = λ model. all.stands (subst IsTrue (sym all.settled.same.model) (still model));
    }

-- the answers of an input or a script are of one list
pub answered : {D J : Type 0} {V : _} → (text : Answer → List ℕ) (disk : D) (stream : Streams J) (store : Store D V) (old new : Option (List ℕ)) (back : Option D) → IsOpened (V.view disk) store
    → HasPrintedOn text stream store old new back → IsSomeAnd back (λ d. HasAnswered text V disk d stream.input stream.editors old new)
answered {V = V} text disk stream store old new back opened has = of back has.on.all
  where
    of : (b : Option _) → IsSomeAnd b (λ d. HasServedAll store stream.input stream.editors has.on.ending (V.view d)) → IsSomeAnd b (λ d. HasAnswered text V disk d stream.input stream.editors old new)
    of None all = absurd all
    of (Some d) all = record {
      answers = has.printed.answers;
      all = subst (λ (n : ℕ). AreAllLines stream.input n) (sym has.printed.many) has.whole;
      printed = has.printed.printed;
      one_list = of_one_list text disk d store has.tally has.on.ending stream.input stream.editors old new opened all has.on.on has.on.told has.printed;
    }
