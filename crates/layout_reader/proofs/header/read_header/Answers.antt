use Rattle.std.proofs.Common.{◌≡◌, ◌≤◌, arith, rules, ap, ◌∙◌, length, subst, length-take-le}
use Rattle.std.specs.Prelude.{Err}
use Rattle.layout_reader.specs.Loading.{IsNotLoaded}
use Rattle.layout_reader.specs.Refusals.{TellsOfLayout}
use Rattle.layout_reader.specs.Sizes.{version}
use Rattle.layout_reader.proofs.ReadLemmas.{read_refused, tells_on}
use Rattle.layout_reader.proofs.Results.{handed_on}
use Rattle.layout_reader.proofs.header.read_header.Goals as goal

pub returns-in_err-nodes-clause-refused : goal.returns-in_err-nodes-clause-refused
returns-in_err-nodes-clause-refused g c =
    let form = g.L.Layout.form in
    let v0 = g.D.Disk.view c.args.disk.now in
    let v1 = g.D.Disk.view c.read_array.new.disk in
    let front = c.in_ok-front.front in
    let why = c.in_err-nodes.field-0.0 in
    let long : 10 ≤ length v0.content = omega (arith, c.if-len-lt-HEADER_LEN.false, c.len-len.ensures) in
    handed_on (IsNotLoaded form v0 v1) c.from_residual-in_err-nodes.result why c.from_residual-in_err-nodes.ensures.1 (record {
      not_read = read_refused v0 v1 why (record { ran = c.read_array.ensures.ran; no_failure = c.in_ok-front.ensures.no_failure; reads = c.read_array.ensures.reads }) (λ is. c.in_err-nodes.ensures.others.1 (ap Err is));
      of_model = λ model.
          let same = c.in_ok-front.ensures.bytes model in
          let wide : length front ≡ 10 = ap length same ∙ length-take-le 10 v0.content long in
          record {
            tells = tells_on v0.content front long wide same (version form.sizes) why (subst (λ s. TellsOfLayout (version s) why front) c.sizes-sizes.ensures.are c.in_err-nodes.ensures.tells);
            refused = search rules;
          };
    })
