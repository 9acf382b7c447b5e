use Rattle.std.proofs.Common.{IsTrue, IsFalse, rules, of_calls}
use Rattle.std.proofs.lemmas.List.Sorted.{IsPartitionPoint-from_clause}
use Rattle.jm_bytes.specs.ByteOrder.{is_before}
use Rattle.jm_modpath.proofs.FolderLaws.{all_before, all_behind, partitioned}
use Rattle.jm_modpath.proofs.folders.place_of.Goals as goal

pub returns-clause-before : goal.returns-clause-before
returns-clause-before c =
    let point = IsPartitionPoint-from_clause (λ name. is_before name c.args.bound.now) _ _ c.partition_point.ensures.partitioned
    (partitioned c.args.bound.now c.args.names.now c.requires) (λ a r q k. search (rules, of_calls)) in
    all_before (λ name. IsTrue (is_before name c.args.bound.now)) c.args.names.now c.partition_point.result point.0

pub returns-clause-behind : goal.returns-clause-behind
returns-clause-behind c =
    let point = IsPartitionPoint-from_clause (λ name. is_before name c.args.bound.now) _ _ c.partition_point.ensures.partitioned
    (partitioned c.args.bound.now c.args.names.now c.requires) (λ a r q k. search (rules, of_calls)) in
    all_behind (λ name. IsFalse (is_before name c.args.bound.now)) c.args.names.now c.partition_point.result point.1
