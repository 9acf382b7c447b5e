use Rattle.std.proofs.Common.{◌≡◌, take}
use Rattle.jm_names.specs.Names.{dotted}
use Rattle.jm_names.proofs.packages.dotted.Given as goal

-- what was read so far stands there with its dots
abbrev pub invariant-loop-byte : goal.invariant-loop-byte
invariant-loop-byte l = l.text ≡ dotted (take l.byte-index l.folder)
