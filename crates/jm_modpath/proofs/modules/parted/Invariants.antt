use Rattle.std.proofs.Common.{◌≡◌, map}
use Rattle.jm_modpath.specs.Modules.{candidates}
use Rattle.jm_modpath.specs.ModulesView.{folder_of}
use Rattle.jm_modpath.proofs.modules.parted.Given as goal

abbrev pub invariant-loop-module : goal.invariant-loop-module
invariant-loop-module l = record {
  candidates : l.candidates ≡ candidates l.yielded;
  folders : l.folders ≡ map folder_of l.yielded;
}
