use Rattle.std.proofs.Common.{arith, rules}
use Rattle.jm_plugins.specs.Steps.{taken_by}
use Rattle.jm_plugins.proofs.ClassLaws.{class_next, other_next, classes_all}
use Rattle.jm_plugins.proofs.classes.class_places.Goals as goal
use Rattle.jm_plugins.proofs.classes.class_places.Goals.{then-takes+in_ok-push, else-takes}

pub loop-place-preserved : goal.loop-place-preserved
loop-place-preserved c = search (rules, class_next, other_next, then-takes+in_ok-push, else-takes)

pub returns : goal.returns
returns c = classes_all (taken_by c.args.way) c.args.pool.now c.loop-place.place c.loop-place.places _ (omega arith) c.loop-place.invariant
