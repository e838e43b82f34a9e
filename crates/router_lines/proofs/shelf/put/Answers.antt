use Rattle.std.proofs.Common.{◌≡◌, ◌<◌, ap, length, rules, arith}
use Rattle.std.proofs.lemmas.Result.{on_ok_weaker}
use Rattle.table_view.specs.declared.answers.Figures.{Figures}
use Rattle.router_lines.specs.Shelves.{IsAt, IsPlaceOf, most_tables}
use Rattle.router_lines.proofs.Placing.{put_full}
use Rattle.router_lines.proofs.shelf.put.Goals as goal

pub returns-clause-loaded : goal.returns-clause-loaded
returns-clause-loaded c =
    let bs = c.args.tables.now.items in
    let a = c.args.table in
    let p = c.place_of-place.result in
    let full : length bs ≡ most_tables = omega (arith, c.if-len-lt-SHELF_SIZE.false, c.len.ensures, c.requires) in
    let later : 0 < p = omega (arith, c.if-place-eq0.false) in
    let generation : c.figures-generation.result.generation ≡ a.head.generation = ap (λ (f : Figures). f.generation) c.figures-generation.ensures in
    let is : IsPlaceOf bs a.head.generation p = rw (← c.as_slice.ensures.value, ← generation) c.place_of-place.ensures in
    let other : IsAt bs a.head.generation p → ⊥ = λ at. search (rules, at) in
    on_ok_weaker c.put_for_oldest.result (λ e. put_full a bs c.put_for_oldest.new.tables.items p full later is other e) c.put_for_oldest.ensures.loaded
