use Rattle.std.proofs.Common.{rules, Vec, ◌≡◌, ◌++◌, ◌∷◌, [], List, ℕ, length, map, IsTrue, arith, ap, sym, subst, ◌∙◌}
use Rattle.std.specs.Prelude.{Option, IfSome}
use Rattle.std.specs.declared.alloc.Global.{Global}
use Rattle.journal.specs.Records.{records, entries_of}
use Rattle.journal.specs.Scanning.{BeginsWith, IsNextRecord}
use Rattle.disk_trait.specs.Disk.{read_on}
use Rattle.journal.proofs.AreaLemmas.{length_push}
use Rattle.journal.proofs.JournalLemmas.{scanned-push}
use Rattle.journal.proofs.Scans.{entries-push, front_more, damaged_here, holds_still, far_enough}
use Rattle.journal.proofs.journal.Journal.scan.Goals as goal

pub returns-in-Err-Malformed-clause-damaged : goal.returns-in-Err-Malformed-clause-damaged
returns-in-Err-Malformed-clause-damaged g c = λ model e.
    let inv = c.loop.invariant in
    let found = inv.found model in
    let old = g.D.Disk.view c.args.disk.now in
    let model1 : IsTrue (g.D.Disk.view c.loop.disk).keeps_model = subst IsTrue (sym inv.ran.model) model in
    let holds = holds_still c.turn.new.self old (g.D.Disk.view c.loop.disk) (g.D.Disk.view c.turn.new.disk) found.reads (c.turn.ensures.reads model1) (c.in-Ok-turn.ensures.holds model1) in
    damaged_here g.E.Entry.form g.met.E.Entry.is_form c.args.area (map (λ (v : Vec g.row.E.Denot Global). v.items) c.loop.scanned.items) old.content c.loop.at c.min-n.result c.part.result.now
    inv.at_is (c.part.ensures.bytes old.content holds) c.part.ensures.len found.front
    (omega (arith, c.min-n.ensures, inv.inside)) (far_enough g.E.Entry.form g.met.E.Entry.is_form c.args.area c.loop.at c.min-n.result (λ lt. omega (arith, c.min-n.ensures, lt, inv.inside))) (search rules) (search rules)

pub loop-preserved : goal.loop-preserved
loop-preserved g c =
    let inv = c.loop.invariant in
    let group = c.in-Ok-Some.group.items in
    let size = c.in-Ok-Some.size in
    let next : IsNextRecord g.E.Entry.form c.part.result.now group size =
    subst (λ (o : Option (Vec g.row.E.Denot Global × ℕ)). IfSome o (λ x. IsNextRecord g.E.Entry.form c.part.result.now x.0.items x.1)) c.in-Ok-Some.field-0-is c.in-Ok-Some.ensures.next in
    let before = map (λ (v : Vec g.row.E.Denot Global). v.items) c.loop.scanned.items in
    let after = map (λ (v : Vec g.row.E.Denot Global). v.items) c.with_entry-scanned.result.items in
    let groups : after ≡ before ++ group ∷ [] = ap (λ (l : List (Vec g.row.E.Denot Global)). map (λ (v : Vec g.row.E.Denot Global). v.items) l) c.with_entry-scanned.ensures ∙ scanned-push g.E.Entry.form g.met.E.Entry.is_form c.loop.scanned.items c.in-Ok-Some.group in
    let items : c.append.new.self.items ≡ c.loop.entries.items ++ group = search rules in
    record {
      counter = omega (arith, next.size_is, inv.counter);
      inside = omega (arith, next.shorter, c.part.ensures.len, c.min-n.ensures, inv.inside);
      at_is = ap (λ (gs : List (List g.row.E.Denot)). length (records g.E.Entry.form gs)) groups ∙ omega (arith, length_push g.E.Entry.form before group, next.size_is, inv.at_is);
      entries = items ∙ ap (λ (l : List g.row.E.Denot). l ++ group) inv.entries ∙ sym (entries-push g.E.Entry.form g.met.E.Entry.is_form before group) ∙ ap entries_of (sym groups);
      wide = search rules;
      ran = search rules;
      no_failure = search rules;
      found = λ model.
          let found = inv.found model in
          let old = g.D.Disk.view c.args.disk.now in
          let model1 : IsTrue (g.D.Disk.view c.loop.disk).keeps_model = subst IsTrue (sym inv.ran.model) model in
          let reads = c.turn.ensures.reads model1 in
          let holds = holds_still c.turn.new.self old (g.D.Disk.view c.loop.disk) (g.D.Disk.view c.turn.new.disk) found.reads reads (c.in-Ok-turn.ensures.holds model1) in
          let more = front_more g.E.Entry.form g.met.E.Entry.is_form c.args.area before old.content c.loop.at c.min-n.result c.part.result.now inv.at_is (c.part.ensures.bytes old.content holds) c.part.ensures.len found.front group size next in
          record {
            reads = read_on old (g.D.Disk.view c.loop.disk) (g.D.Disk.view c.turn.new.disk) found.reads reads;
            holds = holds;
            front = subst (λ (gs : List (List g.row.E.Denot)). BeginsWith g.E.Entry.form c.args.area gs old.content) (sym groups) more;
          };
    }
