use Rattle.std.proofs.Common.{◌≡◌, ◌++◌, drop}
use Rattle.std.specs.List.{flat_map}
use Rattle.jm_form.specs.Nodes.{words_text}
use Rattle.jm_writer.specs.Parts.{owner_pair}
use Rattle.jm_writer.proofs.tail.put_owners.Given as goal

abbrev pub invariant-loop-owner : goal.invariant-loop-owner
invariant-loop-owner l =
    l.text.items ++ words_text l.order (flat_map (owner_pair l.strings) (drop l.owner-index l.owners))
    ≡ l.fn.text.items ++ words_text l.order (flat_map (owner_pair l.strings) l.owners)
