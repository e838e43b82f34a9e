use Rattle.std.proofs.Common.{rules, ◌≡◌, ◌∙◌, [], ap, subst, ℕ, List, ◌↔◌, IsTrue}
use Rattle.layout_reader.proofs.ReadLemmas.{is_read_on, still}
use Rattle.device_suspects.specs.declared.suspect.Suspect.{Suspect}
use Rattle.device_suspects.specs.Suspects.{AreSuspects}
use Rattle.lab_parts.specs.Places.{OutputStep, Prints}
use Rattle.device_info.specs.Commands.{text_of_info}
use Rattle.device_info.specs.Present.{present}
use Rattle.device_info.proofs.info.info_on.Goals as goal

pub returns-clause-printed : goal.returns-clause-printed
returns-clause-printed g c =
    let old = g.D.Disk.view c.args.disk.now in
    let mid = g.D.Disk.view c.info_of.new.disk in
    let left = g.D.Disk.view c.seen_of.new.disk in
    let first = c.in_ok-info.ensures.read in
    let suspects = c.in_ok-suspects.suspects in
    let none : c.deref-2.result.now ≡ present suspects = c.deref-2.ensures.value ∙ c.in_ok-found.ensures in
    let shown : c.as_bytes.result.now ≡ text_of_info c.args.as_json c.in_ok-info.info (present suspects) =
    c.as_bytes.ensures.value ∙ c.in_ok-text.ensures ∙ ap (text_of_info c.args.as_json c.in_ok-info.info) (c.deref.ensures.value ∙ c.in_ok-found.ensures) in
    let out : OutputStep g.row.O.Denot = record { contents = g.O.Write.contents; before = c.args.out.now; after = c.print.new.out } in
    let printed : Prints out c.as_bytes.result.now = search rules in
    record {
      info = c.in_ok-info.info;
      suspects = suspects;
      own = c.in_ok-info.ensures.figures;
      seen = λ model. subst (λ (bytes : List ℕ). AreSuspects suspects bytes) (first.reads model).content (c.in_ok-suspects.ensures.seen (still old mid first.ran model));
      sound = subst (λ (l : List Suspect). IsTrue c.are_none.result ↔ (l ≡ [])) none c.are_none.ensures;
      printed = subst (λ (t : List ℕ). Prints out t) shown printed;
      read = is_read_on old mid left first c.in_ok-suspects.ensures.read;
    }
