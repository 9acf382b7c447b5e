-- The instructions of a code, by their opcodes (JVMS 6.5).
use Rattle.std.specs.Prelude.{ℕ, ◌+◌, ◌-◌, ◌*◌, ◌%◌, ◌^◌, nat_le, nat_lt, List, [], ◌∷◌}
use Rattle.std.specs.Prelude.{if◌then◌else◌}
use Rattle.jm_class.specs.Layouts.{U4}
use Rattle.jm_poolmap.specs.declared.forms.Item.{Item}
use Rattle.jm_poolmap.specs.declared.forms.Item.TheVariants.{Bytes, Site, ByteSite}
use Rattle.jm_poolmap.specs.Forms.{Form, Never, Skip, Told, Run, Rows, in_order, by_byte, one}
use Rattle.jm_poolmap.specs.Items.{items}

-- what follows an opcode: some items, the cases of a tableswitch or of a lookupswitch, or an opcode
-- after a `wide`
pub data Operands : Type 0 where
  Items : (items : List Item) → Operands
  Table : Operands
  Lookup : Operands
  Wide : Operands

-- what follows each opcode, by the first row that has it
abbrev pub instruction_rows : Rows Operands
instruction_rows =
    (one 18 ∷ [], Items (ByteSite ∷ []))
    ∷ ((19, 20) ∷ (178, 184) ∷ one 187 ∷ one 189 ∷ (192, 193) ∷ [], Items (Site ∷ []))
    ∷ ((185, 186) ∷ [], Items (Site ∷ Bytes 2 ∷ []))
    ∷ (one 197 ∷ [], Items (Site ∷ Bytes 1 ∷ []))
    ∷ (one 16 ∷ (21, 25) ∷ (54, 58) ∷ one 169 ∷ one 188 ∷ [], Items (Bytes 1 ∷ []))
    ∷ (one 17 ∷ one 132 ∷ (153, 168) ∷ (198, 199) ∷ [], Items (Bytes 2 ∷ []))
    ∷ ((200, 201) ∷ [], Items (Bytes 4 ∷ []))
    ∷ (one 170 ∷ [], Table)
    ∷ (one 171 ∷ [], Lookup)
    ∷ (one 196 ∷ [], Wide)
    ∷ ((0, 201) ∷ [], Items [])
    ∷ []

-- what follows an opcode after 196, which is `wide`
abbrev pub wide_rows : Rows (List Item)
wide_rows =
    ((21, 25) ∷ (54, 58) ∷ one 169 ∷ [], Bytes 2 ∷ [])
    ∷ (one 132 ∷ [], Bytes 4 ∷ [])
    ∷ []

-- how many bytes fill up what follows an opcode to a multiple of four, by how many bytes of the
-- code stand before the opcode
abbrev pub filling : ℕ → ℕ
filling before = 3 - before % 4

-- how far a number of four bytes, read as a signed one, is above the least of these
abbrev pub from_least : ℕ → ℕ
from_least n = if nat_lt n (2 ^ 31) then n + 2 ^ 31 else n - 2 ^ 31

-- a word for each number from the lowest case to the highest, which isn't lower
abbrev pub words : ℕ → ℕ → Form
words low high = if nat_le low high then Skip (4 * (high - low + 1)) else Never

-- the cases of a tableswitch: the lowest and the highest, and a word for each between them
abbrev pub table_cases : Form
table_cases = Told U4 (λ low. Told U4 (λ high. words (from_least low) (from_least high)))

-- two words for each case; their count isn't negative
abbrev pub pairs : ℕ → Form
pairs count = if nat_lt count (2 ^ 31) then Skip (8 * count) else Never

-- the cases of a lookupswitch: their count, and two words for each
abbrev pub lookup_cases : Form
lookup_cases = Told U4 pairs

-- what follows an opcode, by how many bytes of the code stand before it
abbrev pub operands : ℕ → Operands → Form
operands before (Items list) = items list
operands before Table = in_order (Skip (filling before) ∷ Skip 4 ∷ table_cases ∷ [])
operands before Lookup = in_order (Skip (filling before) ∷ Skip 4 ∷ lookup_cases ∷ [])
operands before Wide = by_byte wide_rows items

-- an instruction, by how many bytes of the code stand before it
abbrev pub instruction : ℕ → Form
instruction before = by_byte instruction_rows (operands before)

-- the instructions of a code
abbrev pub instructions : Form
instructions = Run instruction
