use Rattle.std.proofs.Common.{◌≡◌, map, take}
use Rattle.jm_names.specs.Hash.{hash, default_seed}
use Rattle.jm_redirect.proofs.hashes.default_hashes.Given as goal

abbrev pub invariant-loop-name : goal.invariant-loop-name
invariant-loop-name l = l.hashes ≡ map (hash default_seed) (take l.name-index l.names)
