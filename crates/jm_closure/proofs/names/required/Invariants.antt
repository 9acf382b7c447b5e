use Rattle.std.proofs.Common.{◌≡◌, ◌++◌, drop}
use Rattle.jm_closure.specs.Names.{places_among}
use Rattle.jm_closure.specs.Modules.{needed_by}
use Rattle.jm_closure.proofs.names.required.Given as goal

abbrev pub invariant-loop-need : goal.invariant-loop-need
invariant-loop-need l =
    l.places.items ++ places_among l.names (needed_by (drop l.need-index l.candidate.descriptor.needs))
    ≡ places_among l.names (needed_by l.candidate.descriptor.needs)
