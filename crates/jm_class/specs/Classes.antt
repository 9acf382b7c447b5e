-- Class files as plain data: their bytes, and which are well formed (JVMS 4; which versions and
-- tags are taken, and that a Code is taken apart, is this project's rule).
use Rattle.std.specs.Prelude.{◌≡◌, ◌⊎◌, ℕ, ◌+◌, ◌-◌, ◌/◌, ◌%◌, ◌^◌, ◌<◌, ◌≤◌, nat_le, Bool, true}
use Rattle.std.specs.Prelude.{false, ◌==◌, ◌&&◌, ◌||◌, List, [], ◌∷◌, ◌++◌, length, Option, Some}
use Rattle.std.specs.Prelude.{None, is_some, option_and_then, slice_get, if◌then◌else◌, All, codes}
use Rattle.std.specs.List.{flat_map}
use Rattle.std.specs.Int.{w8, w16, w32, to_be_bytes}
use Rattle.std.specs.Str.{bytes_eq}

-- a number of the constant pool: a constant, whose body is without the length of a Utf8, or the
-- second number of a Long or a Double
pub data SlotData : Type 0 where
  Constant : (tag : ℕ) (body : List ℕ) → SlotData
  Hole : SlotData

-- an attribute whose bytes aren't taken apart: the number of its name, and its bytes
pub record OpaqueData : Type 0 where
  pub name : ℕ
  pub bytes : List ℕ

-- a Code: its limits, its instructions, its handlers as bytes, and its own attributes
pub record CodeData : Type 0 where
  pub max_stack : ℕ
  pub max_locals : ℕ
  pub code : List ℕ
  pub handlers : List ℕ
  pub attributes : List OpaqueData

-- what an attribute holds: bytes as they are, or a Code
pub data BodyData : Type 0 where
  Opaque : (bytes : List ℕ) → BodyData
  Coded : (code : CodeData) → BodyData

-- an attribute: the number of its name, and what it holds
pub record AttributeData : Type 0 where
  pub name : ℕ
  pub body : BodyData

-- a field or a method: its flags, the numbers of its name and descriptor, its attributes
pub record MemberData : Type 0 where
  pub access : ℕ
  pub name : ℕ
  pub descriptor : ℕ
  pub attributes : List AttributeData

-- the fields of a class file in their order; the magic and all counts are left out
pub record ClassData : Type 0 where
  pub minor : ℕ
  pub major : ℕ
  pub pool : List SlotData
  pub access : ℕ
  pub this_class : ℕ
  pub super_class : ℕ
  pub interfaces : List ℕ
  pub fields : List MemberData
  pub methods : List MemberData
  pub attributes : List AttributeData

-- The bytes of a class

-- parts one after another
abbrev pub joined : List (List ℕ) → List ℕ
joined [] = []
joined (part ∷ parts) = part ++ joined parts

-- a number as one byte
abbrev pub u1 : ℕ → List ℕ
u1 n = to_be_bytes w8 n

-- a number as two bytes, the highest first
abbrev pub u2 : ℕ → List ℕ
u2 n = to_be_bytes w16 n

-- a number as four bytes, the highest first
abbrev pub u4 : ℕ → List ℕ
u4 n = to_be_bytes w32 n

-- the number of the items in two bytes, and the items
abbrev pub counted_text : {A : Type 0} → (A → List ℕ) → List A → List ℕ
counted_text text items = joined (u2 (length items) ∷ flat_map text items ∷ [])

-- the number of the bytes in four bytes, and the bytes
abbrev pub sized_text : List ℕ → List ℕ
sized_text bytes = joined (u4 (length bytes) ∷ bytes ∷ [])

-- the bytes after a tag: the body, that of a Utf8 (tag 1) after its length in two bytes
abbrev pub body_text : ℕ → List ℕ → List ℕ
body_text tag body = if tag == 1 then joined (u2 (length body) ∷ body ∷ []) else body

-- a constant's tag and what stands after it; nothing for a hole
abbrev pub slot_text : SlotData → List ℕ
slot_text (Constant tag body) = joined (u1 tag ∷ body_text tag body ∷ [])
slot_text Hole = []

-- the bytes of an attribute of a Code: its name's number, and its bytes after theirs
abbrev pub opaque_text : OpaqueData → List ℕ
opaque_text a = joined (u2 a.name ∷ sized_text a.bytes ∷ [])

-- handlers, which are 8 bytes each, after their number
abbrev pub rows_text : List ℕ → List ℕ
rows_text rows = joined (u2 (length rows / 8) ∷ rows ∷ [])

-- the bytes of a Code
abbrev pub code_text : CodeData → List ℕ
code_text c = joined (
    u2 c.max_stack ∷ u2 c.max_locals ∷ sized_text c.code ∷ rows_text c.handlers
    ∷ counted_text opaque_text c.attributes ∷ [])

-- the bytes of what an attribute holds
abbrev pub held_text : BodyData → List ℕ
held_text (Opaque bytes) = bytes
held_text (Coded code) = code_text code

-- the bytes of an attribute: its name's number, and what it holds after its length
abbrev pub attribute_text : AttributeData → List ℕ
attribute_text a = joined (u2 a.name ∷ sized_text (held_text a.body) ∷ [])

-- the bytes of a field or a method
abbrev pub member_text : MemberData → List ℕ
member_text m = joined (
    u2 m.access ∷ u2 m.name ∷ u2 m.descriptor ∷ counted_text attribute_text m.attributes ∷ [])

-- the number with which a class file begins: 0xCAFEBABE
abbrev pub magic : ℕ
magic = 3405691582

-- the constants after a count that is one more than the numbers of the pool
abbrev pub pool_text : List SlotData → List ℕ
pool_text pool = joined (u2 (length pool + 1) ∷ flat_map slot_text pool ∷ [])

-- the bytes of a class: the magic, and its fields in their order
abbrev pub class_text : ClassData → List ℕ
class_text c = joined (
    u4 magic ∷ u2 c.minor ∷ u2 c.major ∷ pool_text c.pool
    ∷ u2 c.access ∷ u2 c.this_class ∷ u2 c.super_class
    ∷ counted_text u2 c.interfaces
    ∷ counted_text member_text c.fields ∷ counted_text member_text c.methods
    ∷ counted_text attribute_text c.attributes ∷ [])

-- Constants

-- how many bytes stand after a tag other than that of a Utf8, or none where there is no such tag
abbrev pub body_size : ℕ → Option ℕ
body_size tag =
    if tag == 3 || tag == 4 then Some 4
    else if tag == 5 || tag == 6 then Some 8
    else if tag == 7 || tag == 8 || tag == 16 || tag == 19 || tag == 20 then Some 2
    else if tag == 9 || tag == 10 || tag == 11 || tag == 12 || tag == 17 || tag == 18 then Some 4
    else if tag == 15 then Some 3
    else None

-- a number is the tag of a constant: that of a Utf8, or one with a size
abbrev pub is_tag : ℕ → Bool
is_tag tag = tag == 1 || is_some (body_size tag)

-- a tag is that of a Long or a Double, which takes two numbers
abbrev pub is_wide : ℕ → Bool
is_wide tag = tag == 5 || tag == 6

-- the body is as the tag says
abbrev pub FitsTag : ℕ → List ℕ → Type 0
FitsTag tag body = ((tag ≡ 1) × (length body < 2 ^ 16)) ⊎ (body_size tag ≡ Some (length body))

-- each body is as its tag says, and a hole stands exactly where one is due: after each Long and
-- Double
abbrev pub IsPoolFrom : Bool → List SlotData → Type 0
IsPoolFrom due [] = due ≡ false
IsPoolFrom true (Hole ∷ slots) = IsPoolFrom false slots
IsPoolFrom false (Constant tag body ∷ slots) = FitsTag tag body × IsPoolFrom (is_wide tag) slots
IsPoolFrom _ _ = ⊥

-- what stands at a number of the pool, from 1 on, or none
abbrev pub slot_at : List SlotData → ℕ → Option SlotData
slot_at pool index = if index == 0 then None else slice_get pool (index - 1)

-- the bytes of a constant, if it is a Utf8
abbrev pub utf8_of : SlotData → Option (List ℕ)
utf8_of (Constant tag body) = if tag == 1 then Some body else None
utf8_of Hole = None

-- the bytes of the Utf8 of a number, or none where the constant isn't one
abbrev pub utf8_at : List SlotData → ℕ → Option (List ℕ)
utf8_at pool index = option_and_then utf8_of (slot_at pool index)

-- Well-formed classes: numbers, counts and lengths fit their fields

-- a number of two bytes is that of a Utf8
abbrev pub NamesText : List SlotData → ℕ → Type 0
NamesText pool name = (name < 2 ^ 16) × (is_some (utf8_at pool name) ≡ true)

-- at most 65,535 items, as many as a count of two bytes can tell, each of which fits
abbrev pub FitsCounted : {A : Type 0} → (A → Type 0) → List A → Type 0
FitsCounted fits items = (length items < 2 ^ 16) × All fits items

-- fewer than 2^32 bytes, which a length of four bytes can tell
abbrev pub FitsSized : List ℕ → Type 0
FitsSized bytes = length bytes < 2 ^ 32

-- the name is that of a Utf8, and the bytes fit their length
pub record IsOpaque (pool : List SlotData) (a : OpaqueData) : Type 0 where
  pub name : NamesText pool a.name
  pub bytes : FitsSized a.bytes

-- numbers, counts and lengths of a Code fit their fields, and so do its attributes
pub record IsCode (pool : List SlotData) (c : CodeData) : Type 0 where
  pub max_stack : c.max_stack < 2 ^ 16
  pub max_locals : c.max_locals < 2 ^ 16
  pub code : FitsSized c.code
  pub rows : length c.handlers / 8 < 2 ^ 16
  pub handlers : length c.handlers % 8 ≡ 0
  pub attributes : FitsCounted (IsOpaque pool) c.attributes

-- a text that was found is `Code`
abbrev pub is_code_name : Option (List ℕ) → Bool
is_code_name None = false
is_code_name (Some text) = bytes_eq text (codes "Code")

-- a Code where one has to stand, and bytes as they are everywhere else
abbrev pub IsBody : List SlotData → Bool → BodyData → Type 0
IsBody pool false (Opaque bytes) = Unit {0}
IsBody pool true (Coded code) = IsCode pool code
IsBody pool _ _ = ⊥

-- an attribute, in a method or not: its name is a Utf8, what it holds fits, and it is a Code
-- exactly where it has that name and stands in a method
pub record IsAttribute (pool : List SlotData) (in_method : Bool) (a : AttributeData) : Type 0 where
  pub name : NamesText pool a.name
  pub body : IsBody pool (in_method && is_code_name (utf8_at pool a.name)) a.body
  pub bytes : FitsSized (held_text a.body)

-- the numbers, the count and the attributes of a field, or of a method, fit their fields
pub record IsMember (pool : List SlotData) (in_method : Bool) (m : MemberData) : Type 0 where
  pub access : m.access < 2 ^ 16
  pub name : m.name < 2 ^ 16
  pub descriptor : m.descriptor < 2 ^ 16
  pub attributes : FitsCounted (IsAttribute pool in_method) m.attributes

-- a major version that is taken: from 45 to 69, which is that of Java SE 25
abbrev pub is_major : ℕ → Bool
is_major major = nat_le 45 major && nat_le major 69

-- well formed: numbers, counts and lengths fit their fields, names of attributes are Utf8, and
-- exactly in methods a Code is taken apart
pub record IsClass (c : ClassData) : Type 0 where
  pub minor : c.minor < 2 ^ 16
  pub major : (45 ≤ c.major) × (c.major ≤ 69)
  pub slots : length c.pool < 65535
  pub pool : IsPoolFrom false c.pool
  pub access : c.access < 2 ^ 16
  pub this_class : c.this_class < 2 ^ 16
  pub super_class : c.super_class < 2 ^ 16
  pub interfaces : FitsCounted (λ i. i < 2 ^ 16) c.interfaces
  pub fields : FitsCounted (IsMember c.pool false) c.fields
  pub methods : FitsCounted (IsMember c.pool true) c.methods
  pub attributes : FitsCounted (IsAttribute c.pool false) c.attributes

-- the rule: the bytes are those of a well-formed class
pub record ReadsAs (bytes : List ℕ) (c : ClassData) : Type 0 where
  pub well_formed : IsClass c
  pub text : class_text c ≡ bytes
