use Rattle.std.proofs.Common.{◌∙◌, ◌≡◌, arith, ap, sym, subst, length}
use Rattle.disk_trait.specs.Disk.{Torn, bytes_at}
use Rattle.disk_trait.specs.Places.{below}
use Rattle.layout_reader.proofs.ReadLemmas.{still}
use Rattle.layout_2.specs.Layout.{slot_start, header}
use Rattle.checkpoint.specs.Formatting.{first_slot, with_front}
use Rattle.checkpoint.proofs.FormatLemmas.{written_twice, length_first}
use Rattle.checkpoint.proofs.formatting.put_front.Goals as goal

pub returns-clause-header : goal.returns-clause-header
returns-clause-header g c model =
    let v0 = g.D.Disk.view c.args.disk.now in
    let v1 = g.D.Disk.view c.put.new.disk in
    let v2 = g.D.Disk.view c.put-2.new.disk in
    let slot_len : length c.first_checkpoint.result ≡ 535 = ap length c.first_checkpoint.ensures ∙ length_first c.args.nodes in
    let front_len : length c.header_of.result ≡ 10 = ap length c.header_of.ensures in
    let torn = subst (λ n. Torn (slot_start 0) n v1.content v2.content) slot_len (c.in_ok-put-2.ensures.elsewhere (still v0 v1 c.put.ensures.ran model)) in
    below v1.content v2.content (slot_start 0) 535 0 10 torn (omega arith) ∙ ap (λ n. bytes_at v1.content 0 n) (sym front_len) ∙ c.in_ok-put.ensures.there model ∙ c.header_of.ensures

pub returns-clause-written : goal.returns-clause-written
unfolding with_front
returns-clause-written g c model =
    let v0 = g.D.Disk.view c.args.disk.now in
    let v1 = g.D.Disk.view c.put.new.disk in
    let v2 = g.D.Disk.view c.put-2.new.disk in
    written_twice v0.content v1.content v2.content 0 (slot_start 0) c.header_of.result c.first_checkpoint.result (header c.args.nodes) (first_slot c.args.nodes)
    (c.in_ok-put.ensures.written model) (c.in_ok-put-2.ensures.written (still v0 v1 c.put.ensures.ran model)) c.header_of.ensures c.first_checkpoint.ensures
