-- The row that is spelled at the front of some bytes, as a value: the computed form of `Spells`.
use Rattle.std.specs.Prelude.{ℕ, zero, suc, ◌+◌, ◌-◌, ◌/◌, ◌%◌, nat_lt, nat_le, ◌&&◌, List, [], ◌∷◌}
use Rattle.std.specs.Prelude.{length, drop, Option, Some, None, option_map, if◌then◌else◌}
use Rattle.byteorder.specs.Endian.{big_number}
use Rattle.jm_form.specs.declared.rows.Row.{Row}
use Rattle.jm_form.specs.Rows.{blank, with_value}

-- the row that at most so many attributes above a kind make of one, and what stands behind it
abbrev pub row_from : ℕ → ℕ → Row → List ℕ → Option (Row × List ℕ)
row_from left above row [] = None
row_from zero above row (b ∷ bytes) = if nat_lt b 8 then Some (row, bytes) else None
row_from (suc left) above row (b ∷ bytes) =
    if nat_lt b 8 then Some (row, bytes)
    else if nat_lt above (b / 8) && nat_lt (b / 8) 8 && nat_le (b % 8 + 1) (length bytes)
    then row_from left (b / 8) (with_value row (b / 8) (big_number (b % 8 + 1) bytes))
    (drop (b % 8 + 1) bytes)
    else None

-- the row at the front, and how many bytes spell it; there are seven kinds
abbrev pub row_front : List ℕ → Option (Row × ℕ)
row_front bytes = option_map (λ r. (r.0, length bytes - length r.1)) (row_from 7 0 blank bytes)
