use Rattle.std.proofs.Common.{◌+◌, ◌++◌, length, ◌∙◌}
use Rattle.jm_class.specs.Views.{pool_of}
use Rattle.jm_packages.specs.Packages.{package_slots}
use Rattle.jm_packages.proofs.Loops.{numbers-front, numbers-behind, slots-next}
use Rattle.jm_packages.proofs.constants.push_packages.Goals as goal

pub loop-package-preserved : goal.loop-package-preserved
loop-package-preserved c =
    let first = length c.args.pool.now + 1 in
    let count = length c.args.packages.now in
    let i = c.loop-package.package-index in
    let rest = c.loop-package.invariant.0 in (
      c.split_at.ensures.back ∙ numbers-behind first count i c.loop-package-test.true c.loop-package.rest.now rest,
      slots-next first c.args.packages.now i c.package-item.result c.loop-package-test.true c.package-item.is
          (pool_of c.loop-package.pool) (pool_of c.push_package.new.pool)
          (pool_of c.args.pool.now ++ package_slots first c.args.packages.now)
          c.split_at.result.0.now c.loop-package.invariant.1
          (rw c.as_slice.ensures at c.in_ok-push_package.ensures)
          (c.split_at.ensures.front ∙ numbers-front first count i c.loop-package-test.true c.loop-package.rest.now rest),
    )
