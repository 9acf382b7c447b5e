-- What the stripper knows of a constant: whether it is a Utf8, and which of the names that it looks
-- for (this project's rule).
use Rattle.std.specs.Prelude.{Bool, true, false, List, [], Option, Some, None, Ok, Err}
use Rattle.std.specs.Prelude.{if◌then◌else◌, ℕ}
use Rattle.jm_class.specs.Classes.{SlotData, utf8_of, is_code_name}
use Rattle.jm_class.specs.ClassLayout.{pool_field}
use Rattle.jm_class.specs.Layouts.{reading}
use Rattle.jm_class.specs.Readings.{Outcome}
use Rattle.jm_class.specs.declared.class.ClassFault.{ClassFault}
use Rattle.jm_strip.specs.declared.kind.AttributeKind.{AttributeKind}
use Rattle.jm_strip.specs.declared.kind.AttributeKind.TheVariants.{Other, Text, Code}
use Rattle.jm_strip.specs.declared.kind.AttributeKind.TheVariants.{OfCode, OfClass}
use Rattle.jm_class.specs.declared.class.ClassFault.TheVariants.{Short}
use Rattle.jm_strip.specs.Strip.{debug_names, is_among}

-- the kind of a text: `Code`, a debug attribute of a Code or of the class, or any other
abbrev pub kind_of_text : List ℕ → AttributeKind
kind_of_text text =
    if is_code_name (Some text) then Code
    else if is_among (debug_names true) (Some text) then OfCode
    else if is_among (debug_names false) (Some text) then OfClass
    else Text

-- the kind of a text that was found, or `Other` where none was
abbrev pub kind_of_name : Option (List ℕ) → AttributeKind
kind_of_name None = Other
kind_of_name (Some text) = kind_of_text text

-- the kind of a constant; what is no Utf8 has a kind of its own
abbrev pub kind_of : SlotData → AttributeKind
kind_of slot = kind_of_name (utf8_of slot)

-- the kind is that of a Utf8
abbrev pub is_text_kind : AttributeKind → Bool
is_text_kind Other = false
is_text_kind _ = true

-- the kind is that of the name `Code`
abbrev pub is_code_kind : AttributeKind → Bool
is_code_kind Code = true
is_code_kind _ = false

-- the kind is that of the name of a debug attribute, of a Code or of the class
abbrev pub is_debug_kind : Bool → AttributeKind → Bool
is_debug_kind true OfCode = true
is_debug_kind false OfClass = true
is_debug_kind _ _ = false

-- the constants that were read, or none
abbrev pub slots_in : Outcome ClassFault (List SlotData) → List SlotData
slots_in (Ok r) = r.0
slots_in (Err fault) = []

-- the constants that the bytes at a place begin with
abbrev pub pool_at : ℕ → List ℕ → List SlotData
pool_at place bytes = slots_in (reading Short pool_field (record { place = place; bytes = bytes }))
