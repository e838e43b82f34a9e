use Rattle.std.proofs.Common.{arith, sym, ◌∙◌, ap, length, ◌≡◌, subst}
use Rattle.std.specs.Prelude.{Err, None}
use Rattle.graph_edits.specs.Changes.{fold_within}
use Rattle.journal.specs.Records.{Spells}
use Rattle.layout_reader.specs.Loading.{held_by}
use Rattle.layout_reader.specs.Refusals.{IsFormatFault}
use Rattle.layout_reader.specs.Sizes.{journal_of}
use Rattle.layout_reader.specs.State.{changes_of}
use Rattle.layout_reader.specs.Slots.{LeadsNowhere}
use Rattle.layout_reader.proofs.OpenLemmas.{too_many, refused_there, only_damaged}
use Rattle.layout_reader.proofs.Results.{handed_on}
use Rattle.layout_reader.proofs.opening.load_records.Goals as goal

pub returns-then-base_count-len-clause-refused : goal.returns-then-base_count-len-clause-refused
returns-then-base_count-len-clause-refused g c model fault =
    let form = g.L.Layout.form in
    let slot = c.args.checkpoint.chosen.slot in
    let content = (g.D.Disk.view c.args.disk.now).content in
    let groups = c.in-Ok.scanned.0.groups in
    let spells = subst (λ a. Spells g.L.Layout.entries a groups content) (c.journal_area-area.ensures.is ∙ ap (λ s. journal_of s slot) c.sizes.ensures.are) ((g.met.L.Layout.same_entries _ groups content).0 (c.in-Ok.ensures.ok model)) in
    too_many form g.met.L.Layout.is_form slot (held_by c.args.checkpoint) groups content spells (omega (arith, c.if-base_count-len.true, c.len.ensures, ap length c.in-Ok.ensures.entries))

pub returns-in_err-apply_all-clause-refused : goal.returns-in_err-apply_all-clause-refused
returns-in_err-apply_all-clause-refused g c model =
    let form = g.L.Layout.form in
    let slot = c.args.checkpoint.chosen.slot in
    let base = held_by c.args.checkpoint in
    let content = (g.D.Disk.view c.args.disk.now).content in
    let groups = c.in-Ok.scanned.0.groups in
    let spells = subst (λ a. Spells g.L.Layout.entries a groups content) (c.journal_area-area.ensures.is ∙ ap (λ s. journal_of s slot) c.sizes.ensures.are) ((g.met.L.Layout.same_entries _ groups content).0 (c.in-Ok.ensures.ok model)) in
    let told = c.in_err-apply_all.ensures in
    let why = c.in_err-apply_all.field-0.0 in
    let entries_are = c.deref.ensures.value ∙ c.in-Ok.ensures.entries in
    handed_on (λ e. IsFormatFault e → LeadsNowhere form slot base content) c.from_residual.result why c.from_residual.ensures.1
    (λ fault. only_damaged (LeadsNowhere form slot base content) why fault (λ is. told.others.0 (ap Err is)) (λ is. told.others.1 (ap Err is))
    (λ is. refused_there form g.met.L.Layout.is_form slot base groups content spells
    (λ in_turn. subst (λ entries. fold_within form.sizes.most_edges base.graph (changes_of form entries) ≡ None) entries_are
    (told.damaged (ap Err is) (subst (λ entries. form.AreInTurn base.tickets entries) (sym entries_are) in_turn)))))
