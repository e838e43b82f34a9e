use Rattle.std.proofs.Common.{List, ℕ, ◌+◌, ◌*◌, arith, sym, ◌∙◌, ap, subst}
use Rattle.std.specs.Prelude.{Err}
use Rattle.std.specs.List.{AllByRecursion}
use Rattle.std.specs.FinMap.{entries}
use Rattle.disk_trait.specs.Disk.{bytes_at}
use Rattle.layout_reader.specs.EdgeTexts.{IsEdge}
use Rattle.layout_reader.specs.Sizes.{slot_start}
use Rattle.layout_reader.specs.State.{state_with}
use Rattle.layout_reader.proofs.Maps.{all_edges, each_edge}
use Rattle.layout_reader.specs.Refusals.{IsFormatFault}
use Rattle.layout_reader.specs.Standing.{StandsForNone}
use Rattle.layout_reader.proofs.ReadLemmas.{still}
use Rattle.layout_reader.proofs.Results.{handed_on}
use Rattle.layout_reader.proofs.BaseLemmas.{has_text, sound_head, their_edges, their_nodes, their_tickets}
use Rattle.layout_reader.proofs.base.read_base.Goals as goal

pub returns-then-not-is_sound-clause-refused : goal.returns-then-not-is_sound-clause-refused
returns-then-not-is_sound-clause-refused g c model front found fault state is =
    let h = c.args.chosen.head in
    let content = (g.D.Disk.view c.args.disk.now).content in
    let sound = sound_head g.L.Layout.form g.met.L.Layout.is_form c.args.chosen.slot c.args.chosen.other_gate h.gate h.epoch h.count h.nodes h.edges c.args.nodes content c.requires.slot found.newest found.head (omega arith) (omega arith) (omega arith) (omega arith) c.requires.few front state is in
    let most = ap (λ s. s.most_edges) c.sizes-sizes.ensures.are in
    let yes = c.is_sound.ensures.1 (sound.0, sound.1, sound.2, omega (arith, sound.3, most)) in
    let no = c.if-not-is_sound.true in
    cc

pub returns-in_err-tickets-clause-refused : goal.returns-in_err-tickets-clause-refused
returns-in_err-tickets-clause-refused g c model front found =
    let h = c.args.chosen.head in
    let form = g.L.Layout.form in
    let content = (g.D.Disk.view c.args.disk.now).content in
    handed_on (λ e. IsFormatFault e → StandsForNone form content) c.from_residual.result c.in_err-tickets.field-0.0 c.from_residual.ensures.1
    (λ fault state is.
    let theirs = their_tickets form g.met.L.Layout.is_form c.args.chosen.slot c.args.chosen.other_gate h.gate h.epoch h.count h.nodes h.edges c.args.nodes content c.requires.slot found.newest found.head (omega arith) (omega arith) (omega arith) (omega arith) c.requires.few front state is in
    c.in_err-tickets.ensures.refused model fault is.base.tickets is.by.tickets (theirs ∙ ap (λ k. bytes_at content (k + 23) form.sizes.tickets_len) (sym (c.slot_start-behind.ensures.is ∙ ap (λ s. slot_start s c.args.chosen.slot) c.sizes-sizes.ensures.are))))

pub read_edges-requires-clause-few : goal.read_edges-requires-clause-few
read_edges-requires-clause-few g c = omega (arith, c.requires.few, c.sizes-sizes.ensures.fit.nodes)

pub returns-in-Ok-clause-lawful : goal.returns-in-Ok-clause-lawful
returns-in-Ok-clause-lawful g c =
    let graph = c.in-Ok.graph in
    let found = c.in-Ok.ensures in
    let sound = c.is_sound.ensures.0 c.if-not-is_sound.false in
    record {
      some_nodes = omega (arith, found.nodes, c.requires.some);
      few_nodes = omega (arith, found.nodes, c.requires.few);
      few_edges = omega (arith, found.count, sound.3, ap (λ s. s.most_edges) c.sizes-sizes.ensures.are);
      each = λ q w is. subst (λ n. IsEdge n (q, w)) (sym found.nodes) (each_edge c.args.nodes graph.edges found.sound q w is);
    }

pub returns-in-Ok-clause-text : goal.returns-in-Ok-clause-text
returns-in-Ok-clause-text g c model head =
    let h = c.args.chosen.head in
    let form = g.L.Layout.form in
    let slot = c.args.chosen.slot in
    let v0 = g.D.Disk.view c.args.disk.now in
    let v1 = g.D.Disk.view c.read_tickets.new.disk in
    let found = c.in-Ok.ensures in
    let sound = c.is_sound.ensures.0 c.if-not-is_sound.false in
    let start = c.slot_start-behind.ensures.is ∙ ap (λ s. slot_start s slot) c.sizes-sizes.ensures.are in
    let behind = ap (λ (k : ℕ). k + 23 + c.sizes-sizes.result.tickets_len) start ∙ ap (λ (s : ℕ). slot_start form.sizes slot + 23 + s) (ap (λ s. s.tickets_len) c.sizes-sizes.ensures.are) in
    has_text form g.met.L.Layout.is_form slot h.gate h.epoch (state_with h.count c.in-Ok.graph c.in_ok-tickets.tickets) h.edges h.nodes v0.content head (sound.2 ∙ sym found.nodes) (sym found.count) c.in_ok-tickets.ensures.are
    (ap (λ k. bytes_at v0.content (k + 23) form.sizes.tickets_len) (sym start) ∙ sym (c.in_ok-tickets.ensures.text model))
    (ap (λ k. bytes_at v0.content k (8 * h.edges)) (sym behind) ∙ sym (found.text ∙ c.deref.ensures.value ∙ c.in_ok-bytes.ensures.bytes (still v0 v1 c.in_ok-tickets.ensures.read.ran model) ∙ ap (λ (l : List ℕ). bytes_at l (c.slot_start-behind.result + 23 + c.sizes-sizes.result.tickets_len) (8 * h.edges)) (c.in_ok-tickets.ensures.read.reads model).content))

pub returns-in-Err-Damaged-clause-refused : goal.returns-in-Err-Damaged-clause-refused
returns-in-Err-Damaged-clause-refused g c model front found fault state is =
    let h = c.args.chosen.head in
    let form = g.L.Layout.form in
    let laws = g.met.L.Layout.is_form in
    let v0 = g.D.Disk.view c.args.disk.now in
    let v1 = g.D.Disk.view c.read_tickets.new.disk in
    let content = v0.content in
    let slot = c.args.chosen.slot in
    let other_gate = c.args.chosen.other_gate in
    let edges = their_edges form laws slot other_gate h.gate h.epoch h.count h.nodes h.edges c.args.nodes content c.requires.slot found.newest found.head (omega arith) (omega arith) (omega arith) (omega arith) c.requires.few front state is in
    let nodes = their_nodes form laws slot other_gate h.gate h.epoch h.count h.nodes h.edges c.args.nodes content c.requires.slot found.newest found.head (omega arith) (omega arith) (omega arith) (omega arith) c.requires.few front state is in
    let start = c.slot_start-behind.ensures.is ∙ ap (λ s. slot_start s slot) c.sizes-sizes.ensures.are in
    let behind = ap (λ (k : ℕ). k + 23 + c.sizes-sizes.result.tickets_len) start ∙ ap (λ (s : ℕ). slot_start form.sizes slot + 23 + s) (ap (λ s. s.tickets_len) c.sizes-sizes.ensures.are) in
    let bytes = c.in_ok-bytes.ensures.bytes (still v0 v1 c.in_ok-tickets.ensures.read.ran model) ∙ ap (λ (l : List ℕ). bytes_at l (c.slot_start-behind.result + 23 + c.sizes-sizes.result.tickets_len) (8 * h.edges)) (c.in_ok-tickets.ensures.read.reads model).content
    ∙ ap (λ k. bytes_at content k (8 * h.edges)) behind in
    c.in-Err-Damaged.ensures.damaged (ap Err c.in-Err-Damaged.field-0-is) is.base.graph.edges (subst (λ n. AllByRecursion (λ e. IsEdge n e) (entries is.base.graph.edges)) nodes (all_edges is.base.graph.nodes is.base.graph.edges is.by.lawful.each))
    (sym (c.deref.ensures.value ∙ bytes ∙ edges))
