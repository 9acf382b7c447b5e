use Rattle.std.proofs.Common.{◌-◌}
use Rattle.std.specs.List.{range_with_len}
use Rattle.jm_valid.specs.Parts.{ContentsAt}
use Rattle.jm_valid.proofs.entries.contents_of_slots.Given as goal

abbrev pub invariant-loop-slot : goal.invariant-loop-slot
invariant-loop-slot l = ContentsAt l.names.sections (range_with_len l.first (l.slot - l.first)) l.contents

abbrev pub ghosts-entry_row : goal.ghosts-entry_row
ghosts-entry_row a = record { name = a.blank.name; parts = a.blank.parts }
