use Rattle.std.proofs.Common.{◌≡◌, ◌++◌}
use Rattle.jm_modset.proofs.files.append.Given as goal

abbrev pub invariant-loop-file : goal.invariant-loop-file
invariant-loop-file l = l.files ≡ l.fn.files ++ l.yielded
