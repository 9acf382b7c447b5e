-- The frames of a StackMapTable and their types, by their first byte (JVMS 4.7.4).
use Rattle.std.specs.Prelude.{List, [], ◌∷◌, map}
use Rattle.jm_class.specs.Layouts.{U2}
use Rattle.jm_poolmap.specs.declared.forms.Item.{Item}
use Rattle.jm_poolmap.specs.declared.forms.Item.TheVariants.{Bytes, Site}
use Rattle.jm_poolmap.specs.declared.forms.FramePart.{FramePart}
use Rattle.jm_poolmap.specs.declared.forms.FramePart.TheVariants.{Distance, OneType, Types}
use Rattle.jm_poolmap.specs.Forms.{Form, Rows, Skip, in_order, counted, by_byte, one}
use Rattle.jm_poolmap.specs.Items.{items}

-- what follows the first byte of a type: 7 is a class; 8 is an object that isn't initialised,
-- by the place of its `new`
abbrev pub type_rows : Rows (List Item)
type_rows =
    ((0, 6) ∷ [], [])
    ∷ (one 7 ∷ [], Site ∷ [])
    ∷ (one 8 ∷ [], Bytes 2 ∷ [])
    ∷ []

-- a type of a frame
abbrev pub type : Form
type = by_byte type_rows items

-- what follows the first byte of a frame
abbrev pub frame_rows : Rows (List FramePart)
frame_rows =
    ((0, 63) ∷ [], [])
    ∷ ((64, 127) ∷ [], OneType ∷ [])
    ∷ (one 247 ∷ one 252 ∷ [], Distance ∷ OneType ∷ [])
    ∷ ((248, 251) ∷ [], Distance ∷ [])
    ∷ (one 253 ∷ [], Distance ∷ OneType ∷ OneType ∷ [])
    ∷ (one 254 ∷ [], Distance ∷ OneType ∷ OneType ∷ OneType ∷ [])
    ∷ (one 255 ∷ [], Distance ∷ Types ∷ Types ∷ [])
    ∷ []

-- a distance in two bytes, one type, or a count of two bytes and that many types
abbrev pub frame_part : FramePart → Form
frame_part Distance = Skip 2
frame_part OneType = type
frame_part Types = counted U2 type

-- parts of a frame one after the other
abbrev pub frame_parts : List FramePart → Form
frame_parts parts = in_order (map frame_part parts)

-- a frame of a StackMapTable
abbrev pub frame : Form
frame = by_byte frame_rows frame_parts
