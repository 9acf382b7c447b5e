use Rattle.std.proofs.Common.{◌≡◌}
use Rattle.jm_redirect.proofs.SizeLaws.{sizes_after}
use Rattle.jm_redirect.proofs.turns.bucket_sizes.Given as goal

abbrev pub invariant-loop-hash : goal.invariant-loop-hash
invariant-loop-hash l = l.sizes.items ≡ sizes_after l.hashes l.slots l.hash-index
