use Rattle.std.proofs.Common.{◌≡◌, map}
use Rattle.jm_relink.specs.declared.judging.SeenModule.{SeenModule}
use Rattle.jm_relink.proofs.modules.parted.Given as goal

abbrev pub invariant-loop-module : goal.invariant-loop-module
invariant-loop-module l = record {
  candidates : l.candidates ≡ map (λ (m : SeenModule). m.candidate) l.yielded;
  files : l.files ≡ map (λ (m : SeenModule). m.files) l.yielded;
}
