use Rattle.std.proofs.Common.{◌∙◌, ap, sym, refl, arith, List, [], ◌∷◌, ℕ, get_or}
use Rattle.disk_trait.specs.Places.{below, byte_below, byte_of}
use Rattle.layout_reader.proofs.ReadLemmas.{still}
use Rattle.layout_2.specs.Layout.{journal_start, slot_start}
use Rattle.checkpoint.specs.Formatting.{with_gates}
use Rattle.checkpoint.proofs.FormatLemmas.{written_twice}
use Rattle.checkpoint.proofs.formatting.put_gates.Goals as goal

pub returns-clause-journal : goal.returns-clause-journal
returns-clause-journal g c model =
    let v0 = g.D.Disk.view c.args.disk.now in
    let v1 = g.D.Disk.view c.put.new.disk in
    let v2 = g.D.Disk.view c.put-2.new.disk in
    byte_below v1.content v2.content (slot_start 1) 1 (journal_start 0) 1 (c.in_ok-put-2.ensures.elsewhere (still v0 v1 c.put.ensures.ran model)) (omega arith)
    ∙ sym (byte_of v1.content (journal_start 0) 1 0 1 (omega arith)) ∙ ap (λ (l : List ℕ). get_or l 0 1) (c.in_ok-put.ensures.there model)

pub returns-clause-other : goal.returns-clause-other
returns-clause-other g c model =
    let v0 = g.D.Disk.view c.args.disk.now in
    let v1 = g.D.Disk.view c.put.new.disk in
    let v2 = g.D.Disk.view c.put-2.new.disk in
    sym (byte_of v2.content (slot_start 1) 1 0 0 (omega arith)) ∙ ap (λ (l : List ℕ). get_or l 0 0) (c.in_ok-put-2.ensures.there (still v0 v1 c.put.ensures.ran model))

pub returns-clause-below : goal.returns-clause-below
returns-clause-below g c model from n low =
    let v0 = g.D.Disk.view c.args.disk.now in
    let v1 = g.D.Disk.view c.put.new.disk in
    let v2 = g.D.Disk.view c.put-2.new.disk in
    below v1.content v2.content (slot_start 1) 1 from n (c.in_ok-put-2.ensures.elsewhere (still v0 v1 c.put.ensures.ran model)) (omega arith) ∙ below v0.content v1.content (journal_start 0) 1 from n (c.in_ok-put.ensures.elsewhere model) low

pub returns-clause-written : goal.returns-clause-written
unfolding with_gates
returns-clause-written g c model =
    let v0 = g.D.Disk.view c.args.disk.now in
    let v1 = g.D.Disk.view c.put.new.disk in
    let v2 = g.D.Disk.view c.put-2.new.disk in
    written_twice v0.content v1.content v2.content (journal_start 0) (slot_start 1) (0 ∷ []) (0 ∷ []) (0 ∷ []) (0 ∷ [])
    (c.in_ok-put.ensures.written model) (c.in_ok-put-2.ensures.written (still v0 v1 c.put.ensures.ran model)) refl refl
