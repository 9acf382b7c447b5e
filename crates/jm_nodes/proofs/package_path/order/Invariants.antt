use Rattle.std.proofs.Common.{◌≡◌, drop}
use Rattle.std.specs.Cmp.Lexicographic.{slice_cmp}
use Rattle.std.specs.Ordering.{nat_cmp}
use Rattle.jm_names.specs.Names.{dotted}
use Rattle.jm_nodes.proofs.package_path.order.Given as goal

abbrev pub invariant-loop-at : goal.invariant-loop-at
invariant-loop-at l =
    slice_cmp nat_cmp (dotted l.path) (dotted l.other)
    ≡ slice_cmp nat_cmp (dotted (drop l.at l.path)) (dotted (drop l.at l.other))
