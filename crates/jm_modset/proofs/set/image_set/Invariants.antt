use Rattle.std.proofs.Common.{◌≡◌, map}
use Rattle.jm_modset.specs.declared.set.ModuleFiles.TheVariants as of
use Rattle.jm_modset.proofs.set.image_set.Given as goal

abbrev pub invariant-loop-info : goal.invariant-loop-info
invariant-loop-info l = l.all ≡ map (λ m. of.Image (record { info = m.0; files = m.1 })) l.yielded
