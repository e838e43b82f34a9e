use Rattle.std.proofs.Common.{sym, List, ℕ, ◌≡◌, length, subst, ◌∙◌, ap, arith}
use Rattle.disk_trait.specs.Disk.{only_read}
use Rattle.layout_2.specs.Layout.{device_len, slot_start}
use Rattle.layout_2.specs.State.{first_state}
use Rattle.layout_2.specs.Standing.{StandsFor}
use Rattle.layout_reader.proofs.ReadLemmas.{still}
use Rattle.checkpoint.specs.Formatting.{with_gates, formatted}
use Rattle.checkpoint.proofs.FormatLemmas.{fresh_stands}
use Rattle.checkpoint.proofs.formatting.put_all.Goals as goal

pub returns-clause-ok : goal.returns-clause-ok
returns-clause-ok g c model =
    let v0 = g.D.Disk.view c.args.disk.now in
    let v1 = g.D.Disk.view c.put_front.new.disk in
    let v2 = g.D.Disk.view c.put_gates.new.disk in
    let v3 = g.D.Disk.view c.sync.new.self in
    let m1 = still v0 v1 c.put_front.ensures.ran model in
    let m2 = still v1 v2 c.put_gates.ensures.ran m1 in
    let front = c.in_ok-put_front.ensures in
    let gates = c.in_ok-put_gates.ensures in
    let same = (only_read v2 v3 c.sync.result c.sync.ensures.call m2).content in
    let long : length v2.content ≡ device_len = c.put_gates.ensures.ran.as_long ∙ c.put_front.ensures.ran.as_long ∙ c.requires.long in
    subst (λ (l : List ℕ). StandsFor (first_state c.args.nodes) l) (sym same)
    (fresh_stands c.args.nodes c.requires.some c.requires.few v2.content long (gates.below m1 0 10 (omega arith) ∙ front.header model) (gates.below m1 (slot_start 0) 535 (omega arith) ∙ front.slot model) (gates.journal m1) (gates.other m1))

pub returns-clause-written : goal.returns-clause-written
unfolding formatted
returns-clause-written g c model =
    let v0 = g.D.Disk.view c.args.disk.now in
    let v1 = g.D.Disk.view c.put_front.new.disk in
    let v2 = g.D.Disk.view c.put_gates.new.disk in
    let v3 = g.D.Disk.view c.sync.new.self in
    let m1 = still v0 v1 c.put_front.ensures.ran model in
    let m2 = still v1 v2 c.put_gates.ensures.ran m1 in
    (only_read v2 v3 c.sync.result c.sync.ensures.call m2).content ∙ c.in_ok-put_gates.ensures.written m1 ∙ ap with_gates (c.in_ok-put_front.ensures.written model)
