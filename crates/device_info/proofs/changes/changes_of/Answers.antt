use Rattle.std.proofs.Common.{◌∙◌, ap, refl, sym, subst, List, ℕ}
use Rattle.journal.specs.RequestForm.{request_form, request_is_form}
use Rattle.journal.proofs.Lists.{one_list}
use Rattle.layout_reader.proofs.LoadLemmas.{not_loaded}
use Rattle.layout_reader.proofs.ReadLemmas.{is_read_on, still}
use Rattle.layout_2.specs.Form.{layout_form}
use Rattle.layout_2.specs.Layout.{journal_of}
use Rattle.layout_2.specs.Loading.{state_of, stands_for}
use Rattle.layout_2.specs.Records.{Spells, entries_of}
use Rattle.device_info.specs.Changes.{AreListedIn}
use Rattle.device_info.proofs.changes.changes_of.Goals as goal

pub returns-in-Ok-clause-read : goal.returns-in-Ok-clause-read
returns-in-Ok-clause-read g c =
    is_read_on (g.D.Disk.view c.args.disk.now) (g.D.Disk.view c.load.new.disk) (g.D.Disk.view c.requests_in.new.disk) c.in_ok-loaded.ensures.ok.read c.in-Ok.ensures.read

pub returns-in-Ok-clause-changes : goal.returns-in-Ok-clause-changes
returns-in-Ok-clause-changes g c model =
    let l = c.in_ok-loaded.loaded in
    let found = c.in_ok-loaded.ensures.ok in
    let content = (g.D.Disk.view c.args.disk.now).content in
    let by = (found.of_model model).in_use.stands in
    let there = c.in-Ok.ensures.listed (still (g.D.Disk.view c.args.disk.now) (g.D.Disk.view c.load.new.disk) found.read.ran model) in
    let listed : AreListedIn l.slot content c.in-Ok.requests.items = subst (λ (bytes : List ℕ). AreListedIn l.slot bytes c.in-Ok.requests.items) (found.read.reads model).content there in
    record {
      state = state_of l;
      stands = stands_for l content found.parts by;
      before = refl;
      requests = listed.2 ∙ ap entries_of (one_list request_form request_is_form (journal_of l.slot) listed.0 l.journal.groups content listed.1 by.records);
    }

pub returns-clause-refused : goal.returns-clause-refused
returns-clause-refused g c =
    let l = c.in_ok-loaded.loaded in
    let found = c.in_ok-loaded.ensures.ok in
    let old = g.D.Disk.view c.args.disk.now in
    let mid = g.D.Disk.view c.load.new.disk in
    let why = c.in-Err.ensures in
    not_loaded layout_form old mid (g.D.Disk.view c.requests_in.new.disk) c.in-Err.refused found.read why.not_read why.later (λ model. (found.of_model model).this_version)
    (λ model fault. absurd (why.refused (still old mid found.read.ran model) fault l.journal.groups
    (subst (λ (bytes : List ℕ). Spells (journal_of l.slot) l.journal.groups bytes) (sym (found.read.reads model).content) (found.of_model model).in_use.stands.records)))
