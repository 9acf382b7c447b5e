-- The constants that a descriptor names, and their texts (JVMS 4.4, 4.7.25). Which names of modules
-- are legal is this project's rule.
use Rattle.std.specs.Prelude.{◌≡◌, ℕ, nat_le, ◌==◌, Bool, true, not, ◌&&◌, ◌||◌, List, length, Option}
use Rattle.std.specs.Prelude.{Some, None, option_map, option_and_then, if◌then◌else◌}
use Rattle.std.specs.Int.{w16, from_be_bytes}
use Rattle.std.specs.List.{list_all, AllZip}
use Rattle.jm_class.specs.Classes.{SlotData, Constant, Hole, slot_at, utf8_of, utf8_at}
use Rattle.jm_modinfo.specs.declared.constants.Kind.{Kind}
use Rattle.jm_modinfo.specs.declared.constants.Kind.TheVariants.{Class, Module, Package}

-- the number in two bytes, or none where there are more or fewer
abbrev pub number_in : List ℕ → Option ℕ
number_in bytes = if length bytes == 2 then Some (from_be_bytes w16 bytes) else None

-- the tag of the constants of a kind
abbrev pub tag_of : Kind → ℕ
tag_of Class = 7
tag_of Module = 19
tag_of Package = 20

-- the text of a constant of a kind: that of the Utf8 whose number it holds
abbrev pub named_by : List SlotData → Kind → SlotData → Option (List ℕ)
named_by pool kind (Constant tag body) =
    if tag == tag_of kind then option_and_then (utf8_at pool) (number_in body) else None
named_by pool kind Hole = None

-- the text for which the constant of a number stands, if it is of a kind
abbrev pub named_at : List SlotData → Kind → ℕ → Option (List ℕ)
named_at pool kind index = option_and_then (named_by pool kind) (slot_at pool index)

-- a version: 0 is none, and any other number that of a Utf8
abbrev pub version_at : List SlotData → ℕ → Option (Option (List ℕ))
version_at pool index =
    if index == 0 then Some None else option_map (λ text. Some text) (utf8_at pool index)

-- a byte is no control character, and none of / \ : @ ,
abbrev pub is_legal_byte : ℕ → Bool
is_legal_byte byte =
    nat_le 0x20 byte && not (byte == 47 || byte == 92 || byte == 58 || byte == 64 || byte == 44)

-- a text is a legal name of a module: it isn't empty, and each byte is legal
abbrev pub is_legal : List ℕ → Bool
is_legal name = not (length name == 0) && list_all is_legal_byte name

-- whether a text may stand where a constant of a kind does
abbrev pub is_allowed : Kind → List ℕ → Bool
is_allowed Module text = is_legal text
is_allowed Class text = true
is_allowed Package text = true

-- what is kept for a constant is its text, if anything is kept
abbrev pub IsKept : SlotData → Option (List ℕ) → Type 0
IsKept slot (Some text) = utf8_of slot ≡ Some text
IsKept slot None = Unit {0}

-- what is kept is the texts of some of the constants, each at the place of its constant
abbrev pub AreKept : List SlotData → List (Option (List ℕ)) → Type 0
AreKept pool kept = AllZip IsKept pool kept
