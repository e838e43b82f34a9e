use Rattle.std.proofs.Common.{rules, ◌≡◌, ◌+◌, length, arith, ap, ◌∙◌}
use Rattle.disk_trait.specs.Disk.{weaker}
use Rattle.journal.specs.Records.{record_of}
use Rattle.journal.proofs.AreaLemmas.{length_record, length_text, any_moment, at_last}
use Rattle.journal.proofs.JournalLemmas.{next_here, grown, end_grown, end_fits, all_grown}
use Rattle.journal.proofs.journal.Journal.append.Goals as goal

pub returns-in-Err-clause-any_moment : goal.returns-in-Err-clause-any_moment
returns-in-Err-clause-any_moment g c model known =
    let s = c.self.inside in
    let now = c.args.self.now in
    let next = next_here g.E.Entry.form g.met.E.Entry.is_form s.area s.scanned.items s.appended.items s.end now c.self.view_is c.self.invariant.0 c.args.entries.now c.in_ok-text.ensures.is_group c.if-not-has_room.ensures.yes c.deref.result.now (search rules) in
    weaker _ _ _ _ (c.publish.ensures.any_moment model) (any_moment g.E.Entry.form now.area now.groups c.args.entries.now (s.area.start + s.end) c.deref.result.now next (g.D.Disk.view c.args.disk.now) known)

pub returns-clause-any_moment : goal.returns-clause-any_moment
returns-clause-any_moment g c model known =
    let s = c.self.inside in
    let now = c.args.self.now in
    let next = next_here g.E.Entry.form g.met.E.Entry.is_form s.area s.scanned.items s.appended.items s.end now c.self.view_is c.self.invariant.0 c.args.entries.now c.in_ok-text.ensures.is_group c.if-not-has_room.ensures.yes c.deref.result.now (search rules) in
    weaker _ _ _ _ (c.publish.ensures.any_moment model) (any_moment g.E.Entry.form now.area now.groups c.args.entries.now (s.area.start + s.end) c.deref.result.now next (g.D.Disk.view c.args.disk.now) known)

pub invariant_of-self : goal.invariant_of-self
invariant_of-self g c =
    let s = c.self.inside in
    let group = c.args.entries.now in
    let v = c.in_ok-text.text in
    let is = c.in_ok-text.ensures in
    let log = c.with_entry-self-inside in
    let size : c.len.result ≡ length (record_of g.E.Entry.form group) = omega (arith, c.len.ensures, ap length is.text, length_text g.E.Entry.form group, length_record g.E.Entry.form group) in (
      end_grown g.E.Entry.form g.met.E.Entry.is_form s.area s.scanned.items s.appended.items s.end c.args.self.now c.self.view_is c.self.invariant.0 group is.is_group c.if-not-has_room.ensures.yes v is.text log.result.items log.ensures ∙ omega (arith, size),
      omega (arith, size, end_fits g.E.Entry.form g.met.E.Entry.is_form s.area s.scanned.items s.appended.items s.end c.args.self.now c.self.view_is c.self.invariant.0 group is.is_group c.if-not-has_room.ensures.yes v is.text log.result.items log.ensures),
      c.self.invariant.2,
    )

pub returns-clause-grows : goal.returns-clause-grows
returns-clause-grows g c =
    let s = c.self.inside in
    let is = c.in_ok-text.ensures in
    let log = c.with_entry-self-inside in
    grown g.E.Entry.form g.met.E.Entry.is_form s.area s.scanned.items s.appended.items s.end c.args.self.now c.self.view_is c.self.invariant.0 c.args.entries.now is.is_group c.if-not-has_room.ensures.yes c.in_ok-text.text is.text log.result.items log.ensures

pub returns-clause-ok : goal.returns-clause-ok
returns-clause-ok g c model known =
    let s = c.self.inside in
    let now = c.args.self.now in
    let group = c.args.entries.now in
    let is = c.in_ok-text.ensures in
    let log = c.with_entry-self-inside in
    let next = next_here g.E.Entry.form g.met.E.Entry.is_form s.area s.scanned.items s.appended.items s.end now c.self.view_is c.self.invariant.0 group is.is_group c.if-not-has_room.ensures.yes c.deref.result.now (search rules) in
    all_grown g.E.Entry.form g.met.E.Entry.is_form s.area s.scanned.items s.appended.items s.end now c.self.view_is c.self.invariant.0 group is.is_group c.if-not-has_room.ensures.yes c.in_ok-text.text is.text log.result.items log.ensures (g.D.Disk.view c.publish.new.disk)
    (λ image left. at_last g.E.Entry.form now.area now.groups group (s.area.start + s.end) c.deref.result.now next (g.D.Disk.view c.args.disk.now) known image (c.in-Ok.ensures.ok model image left))
