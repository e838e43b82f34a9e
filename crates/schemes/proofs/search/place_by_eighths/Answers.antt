use Rattle.std.proofs.Common.{◌-◌, ◌*◌, ◌/◌, ◌≡◌, arith, length, map, sym, ◌∙◌}
use Rattle.schemes.proofs.Basics.Searches.{eighths_apart, eighths_between, eighths_few, eighths_found, eighths_missed, eighths_within, keys_length, located}
use Rattle.schemes.proofs.search.place_by_eighths.Goals as goal

pub halve_between-place-requires-clause-between : goal.halve_between-place-requires-clause-between
halve_between-place-requires-clause-between g c =
    let missed = eighths_missed c.args.eighths.now c.args.number c.in-Err.i c.halve_between-found.result.0 c.halve_between-found.ensures.place c.in-Err.is in
    eighths_between (map g.T.Keyed.key c.args.items.now) c.args.eighths.now c.args.number c.in-Err.i c.behind_eighth-to.result c.requires.eighths c.requires.ascending missed
    (λ l. c.behind_eighth-to.ensures.next l) (λ l. c.behind_eighth-to.ensures.last l ∙ sym (keys_length g.T.Keyed.key c.args.items.now))

pub overflow_add-result-in-Err : goal.overflow_add-result-in-Err
overflow_add-result-in-Err g c = omega (arith, c.halve_between-found.ensures.bounded, c.halve_between-place.ensures.bounded)

pub returns-in-Ok-clause-place : goal.returns-in-Ok-clause-place
returns-in-Ok-clause-place g c =
    eighths_found (map g.T.Keyed.key c.args.items.now) c.args.eighths.now c.args.number c.in-Ok.i c.halve_between-found.result.0 c.requires.eighths c.requires.ascending
    c.halve_between-found.ensures.place c.in-Ok.is

pub returns-in-Err-clause-place : goal.returns-in-Err-clause-place
returns-in-Err-clause-place g c =
    c.ok.ensures.value ∙ located (map g.T.Keyed.key c.args.items.now) c.args.number c.halve_between-place.result.0 c.requires.ascending c.halve_between-place.ensures.place

pub returns-in-Err-clause-few : goal.returns-in-Err-clause-few
returns-in-Err-clause-few g c k few =
    let n = keys_length g.T.Keyed.key c.args.items.now in
    let size = c.requires.eighths.size in
    let many : length c.args.eighths.now ≡ length c.args.items.now / 8 = omega (arith, n, size) in
    let i = c.in-Err.i in
    let to = c.behind_eighth-to.result in
    let short = eighths_apart (length c.args.items.now) (length c.args.eighths.now) i to many (λ l. c.behind_eighth-to.ensures.next l) (λ l. c.behind_eighth-to.ensures.last l) in
    let within = eighths_within (length c.args.items.now) (length c.args.eighths.now) i to many (λ l. c.behind_eighth-to.ensures.next l) (λ l. c.behind_eighth-to.ensures.last l) in
    eighths_few (length c.args.items.now) (length c.args.eighths.now) (to - 8 * i) c.halve_between-found.result.1 c.halve_between-place.result.1 k many short (omega (arith, within))
    (λ j l. c.halve_between-found.ensures.few j (omega (arith, l))) (λ j l. c.halve_between-place.ensures.few j l) few
