use Rattle.std.proofs.Common.{rules, ◌≡◌, [], ℕ, List, get_or, codes, decimal, Bor}
use Rattle.value_syntax.proofs.Written.{three_words}
use Rattle.value_syntax.proofs.reading.route_in.Goals as goal

pub returns-in-Some-2-clause-found : goal.returns-in-Some-2-clause-found
returns-in-Some-2-clause-found c =
    let d : Bor (List ℕ) = record { ref_ptr = (0, 0); now = [] } in
    let first : (get_or c.args.words.now 0 d).now ≡ codes "route" = search rules in
    let second : (get_or c.args.words.now 1 d).now ≡ decimal c.in-Some.from = search rules in
    let third : (get_or c.args.words.now 2 d).now ≡ decimal c.in-Some-2.to = search rules in
    three_words c.args.words.now d (codes "route") (decimal c.in-Some.from) (decimal c.in-Some-2.to) c.in-len3.len_at_least c.in-len3.len_below first second third
