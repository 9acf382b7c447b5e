use Rattle.std.proofs.Common.{◌≡◌, ◌++◌, drop}
use Rattle.jm_closure.specs.Names.{places_among}
use Rattle.jm_closure.proofs.names.places_among.Given as goal

abbrev pub invariant-loop-text : goal.invariant-loop-text
invariant-loop-text l =
    l.places.items ++ places_among l.names (drop l.text-index l.texts) ≡ places_among l.names l.texts
