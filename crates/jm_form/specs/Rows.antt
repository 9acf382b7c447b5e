-- Location rows (jimage 1.0; that kinds rise strictly is this project's rule): a run of attributes
-- and an end byte.
use Rattle.std.specs.Prelude.{ℕ, ◌+◌, ◌-◌, ◌*◌, ◌^◌, ◌<◌, ◌≤◌, ◌≡◌, ◌==◌, nat_lt, List, [], ◌∷◌}
use Rattle.std.specs.Prelude.{◌++◌, length, if◌then◌else◌}
use Rattle.std.specs.List.{find, flat_map, range_with_len}
use Rattle.std.specs.Option.{unwrap_or}
use Rattle.byteorder.specs.Endian.{big_number, big_bytes}
use Rattle.jm_form.specs.declared.rows.Compression.{Compression}
use Rattle.jm_form.specs.declared.rows.Compression.TheVariants.{Allowed, Refused}
use Rattle.jm_form.specs.declared.rows.Row.{Row}

-- the row in which no attribute is spelled
abbrev pub blank : Row
blank = record { «module» = 0; parent = 0; base = 0; ext = 0; offset = 0; packed = 0; size = 0 }

-- the row with the attribute of a kind set
abbrev pub with_value : Row → ℕ → ℕ → Row
with_value row kind v =
    if kind == 1 then record row { «module» = v }
    else if kind == 2 then record row { parent = v }
    else if kind == 3 then record row { base = v }
    else if kind == 4 then record row { ext = v }
    else if kind == 5 then record row { offset = v }
    else if kind == 6 then record row { packed = v }
    else if kind == 7 then record row { size = v }
    else row

-- the row as stored: with the compressed size, where that isn't 0, as the size of what is stored as
-- it is
abbrev pub as_stored : Row → Row
as_stored row = record row { size = if row.packed == 0 then row.size else row.packed; packed = 0 }

-- the row by which a content is judged: as it is spelled where contents may not be compressed, and
-- as stored where they may be
abbrev pub judged : Compression → Row → Row
judged Refused row = row
judged Allowed row = as_stored row

-- an attribute: its kind and the bytes of its value, the highest first
pub record Attribute : Type 0 where
  pub kind : ℕ
  pub value : List ℕ

-- a byte that holds the kind and the number of bytes, and these bytes
abbrev pub spelled : Attribute → List ℕ
spelled a = (a.kind * 8 + (length a.value - 1)) ∷ a.value

-- attributes of 1 to 8 bytes whose kinds rise strictly, above one and up to 7
abbrev pub Rising : ℕ → List Attribute → Type 0
Rising above [] = Unit {0}
Rising above (a ∷ parts) =
    (above < a.kind) × (a.kind < 8)
    × (0 < length a.value) × (length a.value ≤ 8) × Rising a.kind parts

-- the row with the values of attributes
abbrev pub row_of : Row → List Attribute → Row
row_of row [] = row
row_of row (a ∷ parts) =
    row_of (with_value row a.kind (big_number (length a.value) a.value)) parts

-- the rule: the text is attributes with rising kinds and one end byte, and the row has their values
abbrev pub Spells : List ℕ → Row → Type 0
Spells text row =
    (parts : List Attribute) × (last : ℕ) × Rising 0 parts × (last < 8)
    × (text ≡ flat_map spelled parts ++ last ∷ []) × (row ≡ row_of blank parts)

-- the least number of bytes, from 1 to 8, that a value fits in
abbrev pub byte_count : ℕ → ℕ
byte_count v = unwrap_or (find (λ n. nat_lt v (256 ^ n)) (range_with_len 1 8)) 8

-- a value as an attribute of that many bytes; a value of 0 is left out
abbrev pub usual_attribute : ℕ → ℕ → List ℕ
usual_attribute kind v =
    if v == 0 then [] else spelled (record { kind = kind; value = big_bytes (byte_count v) v })

-- the kinds with a row's values
abbrev pub values_of : Row → List (ℕ × ℕ)
values_of row =
    (1, row.«module») ∷ (2, row.parent) ∷ (3, row.base) ∷ (4, row.ext) ∷ (5, row.offset)
    ∷ (6, row.packed) ∷ (7, row.size) ∷ []

-- the usual spelling: the attributes whose value isn't 0, and 0
abbrev pub usual : Row → List ℕ
usual row = flat_map (λ v. usual_attribute v.0 v.1) (values_of row) ++ 0 ∷ []
