use Rattle.std.proofs.Common.{◌≡◌, ◌++◌, drop}
use Rattle.jm_writer.specs.Parts.{tail_bytes}
use Rattle.jm_writer.proofs.tail.tail_bytes.Given as goal

abbrev pub invariant-loop-node : goal.invariant-loop-node
invariant-loop-node l =
    l.text.items ++ tail_bytes l.order l.laid.strings l.table l.laid.locations.places.items (drop l.node-index l.nodes)
    ≡ tail_bytes l.order l.laid.strings l.table l.laid.locations.places.items l.nodes
