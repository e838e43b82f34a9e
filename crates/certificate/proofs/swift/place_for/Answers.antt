use Rattle.std.proofs.lemmas.List.Sorted.{IsPartitionPoint-from_clause, IsPartitionedBy-ltb}
use Rattle.std.proofs.Common.{ltb, ltb-true}
use Rattle.certificate.proofs.Words.{arith, rules, Entry, key_at}
use Rattle.certificate.proofs.LookUps.{below_all, roots_rise}
use Rattle.certificate.proofs.swift.place_for.Goals as goal

pub returns : goal.returns
returns c =
    let es = c.args.entries.now in
    let parted = IsPartitionedBy-ltb (λ (e : Entry). e.root) es c.args.root (λ i j d le l.
    (let a = roots_rise es c.requires i j le l in let low = key_at (λ (e : Entry). e.root) es i d (omega (arith, le, l)) in let high = key_at (λ (e : Entry). e.root) es j d l in omega (arith, a, low, high))) in
    let point = IsPartitionPoint-from_clause (λ (e : Entry). ltb e.root c.args.root) _ _ c.partition_point.ensures.partitioned parted (λ a r q k. search rules) in
    below_all es c.args.root _ c.partition_point.ensures.bound (λ k d l. ltb-true _ _ (point.0 k d (omega arith) l))
