use Rattle.std.proofs.Common.{rules}
use Rattle.jm_bytes.proofs.Pairs.{range_more}
use Rattle.jm_plugins.proofs.places.places_below.Goals as goal

pub loop-place-preserved : goal.loop-place-preserved
loop-place-preserved c = search (rules, range_more)
