use Rattle.std.proofs.Common.{map}
use Rattle.std.proofs.lemmas.List.Filters.{dedup_is}
use Rattle.std.proofs.lemmas.Map.Lookups.{exact_bytes}
use Rattle.std.specs.Cmp.Lexicographic.{nat_list_cmp_total, texts_ties}
use Rattle.jm_nodes.proofs.OrderLaws.{once_rises, once_same}
use Rattle.jm_form.proofs.RisingLaws.{rising_only}
use Rattle.jm_nodes.proofs.rising.rising.Goals as goal

pub returns : goal.returns
returns c =
    let sorted = c.sort_unstable.new.self.items in
    let once =
    once_same nat_list_cmp_total (λ text. text.now) (λ x y. texts_ties x.now y.now) exact_bytes c.args.texts sorted
    (rw c.into_vec-sorted.ensures at c.sort_unstable.ensures.permutation) in
    rw (c.from_vec.ensures, dedup_is _ _ _ c.dedup.ensures.filtered)
    (rising_only (map (λ text. text.now) c.args.texts) _
    (once_rises nat_list_cmp_total (λ text. text.now) (λ x y. texts_ties x.now y.now) sorted c.sort_unstable.ensures.sorted)
    once.has once.only)
