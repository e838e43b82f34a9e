use Rattle.std.proofs.Common.{rules, arith, ◌≡◌, ◌+◌, ◌-◌, ◌++◌, ◌∙◌, ap, sym, ℕ, List, length, map, min, take}
use Rattle.std.specs.List.{range_with_len}
use Rattle.std.proofs.Math.Seq.{take-append-add}
use Rattle.std.proofs.lemmas.Iterator.{YieldsList-from_map, YieldsList-from_range}
use Rattle.std.proofs.lemmas.Iterator.Adapters.{items_from_extend}
use Rattle.std.proofs.lemmas.List.{take_min}
use Rattle.std.proofs.lemmas.List.FromFn.{length-map-range_with_len, take-map-range_with_len}
use Rattle.crash_trials.specs.declared.stops.Stop.{Stop}
use Rattle.crash_trials.specs.Stops.{bytes_of, stop, stops_at}
use Rattle.crash_trials.proofs.stops.push_stops.Goals as goal

pub returns : goal.returns
returns c =
    let old : List Stop = c.args.stops.now.items in
    let here : List Stop = stops_at c.args.number c.args.call in
    let left : ℕ = c.args.most - length old in
    let count : ℕ = c.min-count.result in
    let many : length here ≡ bytes_of c.args.call + 1 = length-map-range_with_len (stop c.args.number) 0 (bytes_of c.args.call + 1) in
    let least : min left (length here) ≡ count = omega arith in
    let some : take left here ≡ map (stop c.args.number) (range_with_len 0 count) = sym (take_min left here) ∙ ap (λ (n : ℕ). take n here) least ∙ take-map-range_with_len (stop c.args.number) 0 (bytes_of c.args.call + 1) count (omega arith) in
    let all : length old + left ≡ c.args.most = omega arith in
    let first : old ++ map (stop c.args.number) (range_with_len 0 count) ≡ take c.args.most (old ++ here) = sym (ap (λ (n : ℕ). take n (old ++ here)) (sym all) ∙ take-append-add old here left ∙ ap (λ (l : List Stop). old ++ l) some) in
    let put : c.extend.new.self.items ≡ old ++ map (stop c.args.number) (range_with_len 0 count) = (rw c.in_ok-extend.was at (items_from_extend c.extend.result c.extend.ensures.ran (YieldsList-from_map _ (stop c.args.number) (YieldsList-from_range 0 count count (cc) (omega arith)) c.map.ensures.closure (λ x r q k. search rules)))).0 in
    put ∙ first
