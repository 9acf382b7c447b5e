use Rattle.std.proofs.Common.{◌-◌, ◌≤◌, length, take}
use Rattle.jm_names.specs.Characters.{IsText}
use Rattle.jm_names.proofs.characters.text_len.Given as goal

-- what was read is a run of characters
abbrev pub invariant-loop-len : goal.invariant-loop-len
invariant-loop-len l = record { within : l.at ≤ length l.bytes; text : IsText (take l.at l.bytes) }

abbrev pub decreases-loop-len : goal.decreases-loop-len
decreases-loop-len l = length l.bytes - l.at
