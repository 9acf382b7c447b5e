use Rattle.std.proofs.Common.{refl}
use Rattle.std.proofs.lemmas.List.Filters.{dedup_is}
use Rattle.jm_form.proofs.SortedLaws.{sorted_once}
use Rattle.jm_nodes.specs.PackagePaths.{called_of}
use Rattle.jm_nodes.proofs.packages.rising_packages.Goals as goal

pub returns : goal.returns
returns c = rw (c.from_vec.ensures, dedup_is _ _ _ c.dedup.ensures.filtered)
    (sorted_once called_of (λ x y. refl) c.args.packages c.sort_unstable.new.self.items
    (rw c.into_vec-sorted.ensures at c.sort_unstable.ensures.permutation) c.sort_unstable.ensures.sorted)
