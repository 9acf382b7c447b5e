use Rattle.std.proofs.Common.{◌≡◌, ◌-◌, flat_map, min}
use Rattle.std.specs.List.{range_with_len}
use Rattle.jm_valid.specs.Parts.{part_slots}
use Rattle.jm_valid.proofs.entries.parts_of.Given as goal

abbrev pub invariant-loop-first : goal.invariant-loop-first
invariant-loop-first l = flat_map (part_slots l.length) l.firsts ≡ range_with_len 0 (min l.first l.length)

abbrev pub decreases-loop-first : goal.decreases-loop-first
decreases-loop-first l = l.length - l.first
