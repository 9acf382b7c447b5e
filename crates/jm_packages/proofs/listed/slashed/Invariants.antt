use Rattle.std.proofs.Common.{◌≡◌, take}
use Rattle.jm_packages.specs.Packages.{slashed}
use Rattle.jm_packages.proofs.listed.slashed.Given as goal

-- what was read so far stands there with its slashes
abbrev pub invariant-loop-byte : goal.invariant-loop-byte
invariant-loop-byte l = l.text ≡ slashed (take l.byte-index l.package_name)
