use Rattle.std.proofs.Common.{◌≡◌, map, take}
use Rattle.jm_redirect.specs.Built.{redirect_at}
use Rattle.jm_redirect.proofs.building.redirects_of.Given as goal

abbrev pub invariant-loop-hash : goal.invariant-loop-hash
invariant-loop-hash l = l.found ≡ map (redirect_at l.redirects) (take l.hash-index l.hashes)
