use Rattle.std.proofs.lemmas.List.Filters.{dedup_is}
use Rattle.std.specs.Cmp.Lexicographic.{texts_ties}
use Rattle.jm_form.proofs.SortedLaws.{sorted_once}
use Rattle.jm_form.proofs.sorting.rising.Goals as goal

pub loop-text-init : goal.loop-text-init
loop-text-init c = record {
  can = tt;
  ends = tt;
  so_far = rw (
    c.new-list.ensures,
    c.into_iter-text-iterator.ensures.into_iter_gives.0,
    dedup_is _ _ _ c.dedup.ensures.filtered,
  )
      (sorted_once (λ v. v.items) (λ x y. texts_ties x.items y.items) c.args.texts.items c.sort_unstable.new.self.items
      c.sort_unstable.ensures.permutation c.sort_unstable.ensures.sorted);
}
