use Rattle.std.proofs.Common.{◌≡◌, map, drop}
use Rattle.jm_words.specs.Roles.{option_named}
use Rattle.jm_words.specs.Rows.{row_of}
use Rattle.jm_words.proofs.reading.option_named.Given as goal

-- the rows so far have another name
abbrev pub invariant-loop-row : goal.invariant-loop-row
invariant-loop-row l = option_named l.name (map row_of l.rows) ≡ option_named l.name (map row_of (drop l.row-index l.rows))
