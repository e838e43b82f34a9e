use Rattle.std.proofs.Common.{sym, List, ℕ, ◌≡◌, subst, ◌∙◌, ap, arith}
use Rattle.disk_trait.specs.Disk.{bytes_at}
use Rattle.layout_reader.specs.Choosing.{HasHead, IsChosen}
use Rattle.layout_reader.specs.Loading.{IsNotLoaded}
use Rattle.layout_reader.specs.Sizes.{header, slot_room}
use Rattle.layout_reader.specs.Heads.{HasNoNewest}
use Rattle.layout_reader.specs.Slots.{HasCheckpoint}
use Rattle.layout_reader.specs.State.{state_with}
use Rattle.layout_reader.proofs.HeadLemmas.{head_epoch}
use Rattle.layout_reader.proofs.LoadLemmas.{not_loaded}
use Rattle.layout_reader.proofs.ReadLemmas.{still, is_read_on}
use Rattle.layout_reader.proofs.OpenLemmas.{none_before}
use Rattle.layout_reader.proofs.NewestLemmas.{nowhere_newest}
use Rattle.layout_reader.proofs.Results.{handed_on}
use Rattle.layout_reader.proofs.opening.read_checkpoint.Goals as goal

pub returns-in_err-chosen-clause-refused : goal.returns-in_err-chosen-clause-refused
returns-in_err-chosen-clause-refused g c =
    let form = g.L.Layout.form in
    let v0 = g.D.Disk.view c.args.disk.now in
    let v1 = g.D.Disk.view c.read_header.new.disk in
    let v2 = g.D.Disk.view c.choose_slot.new.disk in
    let front = c.in_ok-nodes.ensures in
    let told = c.in_err-chosen.ensures in
    let why = c.in_err-chosen.field-0.0 in
    let room = c.slot_room.ensures.is ∙ ap slot_room c.sizes-sizes.ensures.are in
    handed_on (IsNotLoaded form v0 v2) c.from_residual-in_err-chosen.result why c.from_residual-in_err-chosen.ensures.1 (not_loaded form v0 v1 v2 why front.read told.not_read told.later front.this_version
    (λ model fault.
    let none = subst (λ k. HasNoNewest k v1.content) room (told.refused (still v0 v1 front.read.ran model) fault) in
    none_before form v0 v1 (front.read.reads model) (nowhere_newest form g.met.L.Layout.is_form v1.content none)))

pub returns-in_err-graph-clause-refused : goal.returns-in_err-graph-clause-refused
returns-in_err-graph-clause-refused g c =
    let form = g.L.Layout.form in
    let v0 = g.D.Disk.view c.args.disk.now in
    let v1 = g.D.Disk.view c.read_header.new.disk in
    let v2 = g.D.Disk.view c.choose_slot.new.disk in
    let v3 = g.D.Disk.view c.read_base.new.disk in
    let front = c.in_ok-nodes.ensures in
    let found = c.in_ok-chosen.ensures in
    let told = c.in_err-graph.ensures in
    let chosen = c.in_ok-chosen.chosen in
    let why = c.in_err-graph.field-0.0 in
    let room = c.slot_room.ensures.is ∙ ap slot_room c.sizes-sizes.ensures.are in
    let read = is_read_on v0 v1 v2 front.read found.read in
    handed_on (IsNotLoaded form v0 v3) c.from_residual-in_err-graph.result why c.from_residual-in_err-graph.ensures.1 (not_loaded form v0 v2 v3 why read told.not_read told.later front.this_version
    (λ model fault.
    let here = sym (read.reads model).content in
    let there = still v0 v1 front.read.ran model in
    let is = subst (λ (l : List ℕ). IsChosen (slot_room form.sizes) chosen l) (sym (found.read.reads there).content) (subst (λ k. IsChosen k chosen v1.content) room (found.ok there)) in
    none_before form v0 v2 (read.reads model) (told.refused (still v0 v2 read.ran model) (subst (λ (l : List ℕ). bytes_at l 0 10 ≡ header form.sizes c.in_ok-nodes.nodes) here (front.ok model)) is fault)))

pub returns-clause-has_base : goal.returns-clause-has_base
returns-clause-has_base g c model =
    let form = g.L.Layout.form in
    let v0 = g.D.Disk.view c.args.disk.now in
    let v1 = g.D.Disk.view c.read_header.new.disk in
    let v2 = g.D.Disk.view c.choose_slot.new.disk in
    let front = c.in_ok-nodes.ensures in
    let found = c.in_ok-chosen.ensures in
    let read = is_read_on v0 v1 v2 front.read found.read in
    let chosen = c.in_ok-chosen.chosen in
    let h = chosen.head in
    let based = c.in_ok-graph.ensures in
    let base = state_with h.count c.in_ok-graph.graph c.in_ok-graph.tickets in
    let room = c.slot_room.ensures.is ∙ ap slot_room c.sizes-sizes.ensures.are in
    let is : IsChosen (slot_room form.sizes) chosen v0.content = subst (λ (l : List ℕ). IsChosen (slot_room form.sizes) chosen l) (front.read.reads model).content (subst (λ k. IsChosen k chosen v1.content) room (found.ok (still v0 v1 front.read.ran model))) in
    let here = (read.reads model).content in
    record {
      as_long = front.long;
      head = front.ok model ∙ ap (header form.sizes) (sym based.nodes);
      newest = is.newest;
      text = subst (λ (l : List ℕ). HasCheckpoint form chosen.slot h.epoch base l) here (based.text (still v0 v2 read.ran model) (subst (λ (l : List ℕ). HasHead (slot_room form.sizes) chosen.slot h l) (sym here) is.head));
      lawful = based.lawful;
      tickets = based.tickets;
      epoch_fits = based.epoch;
      epoch_there = head_epoch (slot_room form.sizes) chosen.slot h.gate h.epoch h.count h.nodes h.edges v0.content (omega (arith, based.epoch)) is.head;
    }
