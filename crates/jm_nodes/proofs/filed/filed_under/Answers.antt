use Rattle.std.proofs.Common.{rules}
use Rattle.std.proofs.lemmas.List.Sorted.{IsPartitionPoint-from_clause}
use Rattle.jm_nodes.proofs.FilingLaws.{cut_out, lesser_parted, same_parted}
use Rattle.std.specs.Cmp.Lexicographic.{slice_cmp}
use Rattle.std.specs.Ordering.{is_lt, nat_cmp}
use Rattle.std.specs.Str.{bytes_eq}
use Rattle.jm_nodes.specs.declared.filed.Filed.{Filed}
use Rattle.jm_nodes.proofs.filed.filed_under.Goals as goal

pub returns : goal.returns
returns c =
    let table = c.args.table.now in
    let text = c.args.text.now in
    let first = IsPartitionPoint-from_clause (λ (f : Filed). is_lt (slice_cmp nat_cmp f.under.now text)) table _
    c.partition_point-lesser.ensures.partitioned
    (lesser_parted table text c.requires) (λ a r q k. search rules)
    in
    let second = IsPartitionPoint-from_clause (λ (f : Filed). bytes_eq f.under.now text) _ _ c.partition_point-same.ensures.partitioned
    (rw c.split_at.ensures.back (same_parted table text c.requires c.partition_point-lesser.result
    c.partition_point-lesser.ensures.bound first.1)) (λ a r q k. search rules)
    in
    rw (c.split_at-2.ensures.front, c.split_at.ensures.back)
    (cut_out table text c.requires c.partition_point-lesser.result c.partition_point-same.result
    c.partition_point-lesser.ensures.bound first
    (rw c.split_at.ensures.back at c.partition_point-same.ensures.bound)
    (rw c.split_at.ensures.back at second))
