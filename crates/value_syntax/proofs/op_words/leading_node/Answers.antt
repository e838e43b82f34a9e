use Rattle.std.proofs.Common.{arith, ◌≡◌, ◌<◌, ◌^◌, decimal, Some}
use Rattle.std.proofs.lemmas.Str.Pattern.{split_after}
use Rattle.value_syntax.proofs.Texts.{no_colon, split_none, split_some}
use Rattle.value_syntax.proofs.op_words.leading_node.Goals as goal

-- src/op_words.rt
pub returns-in_default-clause-only : goal.returns-in_default-clause-only
returns-in_default-clause-only c a rest small is =
    let wide : a < 2 ^ 64 = omega (arith, small) in
    let parts = split_after 58 c.args.text.now (decimal a) rest c.split_once.result c.split_once.ensures.cases (omega arith) is (no_colon a wide) in
    split_none c.split_once.result (decimal a) rest c.in_default.is parts

pub returns-in-Some-2-clause-only : goal.returns-in-Some-2-clause-only
returns-in-Some-2-clause-only c a rest small is =
    let wide : a < 2 ^ 64 = omega (arith, small) in
    let parts = split_after 58 c.args.text.now (decimal a) rest c.split_once.result c.split_once.ensures.cases (omega arith) is (no_colon a wide) in
    let both = split_some c.split_once.result (decimal a) rest c.in-Some.front c.in-Some.rest c.in-Some.is parts in
    let read : c.in_ok-node.field-0 ≡ Some a = c.in_ok-node.ensures.only a small both.0 in
    let same : c.in-Some-2.node ≡ a = cc in
    (same, both.1)

pub returns-in-None-clause-only : goal.returns-in-None-clause-only
returns-in-None-clause-only c a rest small is =
    let wide : a < 2 ^ 64 = omega (arith, small) in
    let parts = split_after 58 c.args.text.now (decimal a) rest c.split_once.result c.split_once.ensures.cases (omega arith) is (no_colon a wide) in
    let both = split_some c.split_once.result (decimal a) rest c.in-Some.front c.in-Some.rest c.in-Some.is parts in
    let read : c.in_ok-node.field-0 ≡ Some a = c.in_ok-node.ensures.only a small both.0 in
    cc
