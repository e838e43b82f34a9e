use Rattle.std.proofs.Common.{◌≡◌, None, false, replicate, arith, ap, ◌∙◌, refl, rules}
use Rattle.distances.specs.Search.{number_at, flag_at}
use Rattle.distances.proofs.Turns.{none_done, none_numbered}
use Rattle.distances.proofs.workspace.Workspace.new.Goals as goal

pub invariant_of-result : goal.invariant_of-result
invariant_of-result c =
    let numbers : c.in_ok-vec.field-0.items ≡ replicate c.args.nodes None = c.in_ok-vec.ensures.items_if_clones_equal (λ y e. search rules) in
    let flags : c.in_ok-vec-2.field-0.items ≡ replicate c.args.nodes false = c.in_ok-vec-2.ensures.items_if_clones_equal (λ y e. e) in
    record {
      places = record {
        tentative = refl;
        settled = omega (arith, c.in_ok-vec.field-0.ok.0, c.in_ok-vec-2.field-0.ok.0, c.in_ok-vec.ensures.len, c.in_ok-vec-2.ensures.len);
        arrivals = omega (arith, c.in_ok-vec.field-0.ok.0, c.in_ok-vec-3.field-0.ok.0, c.in_ok-vec.ensures.len, c.in_ok-vec-3.ensures.len);
      };
      none_numbered = λ y. ap (λ l. number_at l y) numbers ∙ none_numbered c.args.nodes y;
      none_flagged = λ y. ap (λ l. flag_at l y) flags ∙ none_done c.args.nodes y;
      none_listed = c.in_ok-with_capacity-2.ensures.items;
      none_waits = c.in_ok-with_capacity.ensures.items;
    }
