-- The layout of a class file (JVMS 4.1 to 4.7), with the faults of its fields (this project's rule).
-- Places are in bytes from the start of the file.
use Rattle.std.specs.Prelude.{ℕ, zero, suc, ◌-◌, ◌*◌, nat_lt, Bool, true, false, ◌==◌, ◌&&◌, List}
use Rattle.std.specs.Prelude.{[], ◌∷◌, All, Option, Some, None, is_some, Result, if◌then◌else◌}
use Rattle.jm_class.specs.declared.class.ClassFault.{ClassFault}
use Rattle.jm_class.specs.declared.class.ClassFault.TheVariants.{Magic, Version, Short, Tag, Index}
use Rattle.jm_class.specs.declared.class.ClassFault.TheVariants.{CodeLength, Rest}
use Rattle.jm_class.specs.Classes.{SlotData, Constant, Hole, OpaqueData, CodeData, BodyData, Opaque}
use Rattle.jm_class.specs.Classes.{Coded, AttributeData, MemberData, ClassData, magic, body_size}
use Rattle.jm_class.specs.Classes.{is_tag, is_wide, utf8_at, is_code_name, is_major}
use Rattle.jm_class.specs.Layouts.{Layout, U1, U2, U4, Value, Number, Bytes, Told, Sized, Then}
use Rattle.jm_class.specs.Layouts.{tested, listed, sized_bytes, whole_text, fault_of, text_fields}
use Rattle.jm_class.specs.Layouts.{IsGood, HasFirstFault}

-- Constants

-- a tag is that of a constant, and that of a Long or a Double only where one number more is there
abbrev pub is_tag_where : Bool → ℕ → Bool
is_tag_where more tag = is_tag tag && (if is_wide tag then more else true)

-- the fault of such a tag: `Index` of a Long or a Double without its second number, else `Tag`
abbrev pub tag_fault : ℕ → ℕ → ClassFault
tag_fault at tag = if is_tag tag then Index at else Tag at

-- the tag of a constant
abbrev pub tag_field : Bool → Layout ClassFault ℕ
tag_field more = tested U1 (is_tag_where more) tag_fault

-- the body of a constant of a size; or of a Utf8: a length of two bytes, and that many bytes, which
-- are `Short` at the place of the length where they don't fit
abbrev pub body_of_size : Option ℕ → Layout ClassFault (List ℕ)
body_of_size (Some size) = Bytes size
body_of_size None = Told Short (Then (Number U2) (λ size. Bytes size))

-- the body after a tag
abbrev pub body_field : ℕ → Layout ClassFault (List ℕ)
body_field tag = body_of_size (body_size tag)

-- a constant: its tag and its body
abbrev pub constant : Bool → Layout ClassFault SlotData
constant more =
    Then (tag_field more) (λ tag. Then (body_field tag) (λ body. Value (Constant tag body)))

-- a slot is a Long or a Double
abbrev pub is_wide_slot : SlotData → Bool
is_wide_slot (Constant tag body) = is_wide tag
is_wide_slot Hole = false

-- what takes a number of the pool (JVMS 4.4): a hole where one is due, else a constant
abbrev pub slot_field : Bool → Bool → Layout ClassFault SlotData
slot_field true more = Value Hole
slot_field false more = constant more

-- what takes that many numbers of the pool; `due` says whether a hole comes first
abbrev pub slots : ℕ → Bool → Layout ClassFault (List SlotData)
slots zero due = Value []
slots (suc n) due =
    Then (slot_field due (nat_lt 0 n))
    (λ slot. Then (slots n (is_wide_slot slot)) (λ slots. Value (slot ∷ slots)))

-- the constants after their count, which is one more than the numbers that they take, so it isn't 0
abbrev pub pool_field : Layout ClassFault (List SlotData)
pool_field =
    Then (tested U2 (λ count. nat_lt 0 count) (λ at count. Index at))
    (λ count. slots (count - 1) false)

-- Attributes

-- the name of an attribute: the number of a Utf8, else the fault `Index` at its place
abbrev pub name_field : List SlotData → Layout ClassFault ℕ
name_field pool = tested U2 (λ name. is_some (utf8_at pool name)) (λ at name. Index at)

-- an attribute whose bytes aren't taken apart
abbrev pub opaque_field : List SlotData → Layout ClassFault OpaqueData
opaque_field pool =
    Then (name_field pool)
    (λ name. Then sized_bytes (λ bytes. Value (record { name = name; bytes = bytes })))

-- the handlers of a Code: their count, and 8 bytes for each
abbrev pub rows_field : Layout ClassFault (List ℕ)
rows_field = Then (Number U2) (λ count. Bytes (8 * count))

-- the parts of a Code
abbrev pub code_fields : List SlotData → Layout ClassFault CodeData
code_fields pool =
    Then (Number U2) (λ max_stack.
    Then (Number U2) (λ max_locals.
    Then sized_bytes (λ code.
    Then rows_field (λ handlers.
    Then (listed (opaque_field pool)) (λ attributes.
    Value (record {
      max_stack = max_stack;
      max_locals = max_locals;
      code = code;
      handlers = handlers;
      attributes = attributes;
    }))))))

-- a Code within its length; `CodeLength` where it doesn't fit in it or doesn't fill it
abbrev pub code_field : List SlotData → Layout ClassFault CodeData
code_field pool = Sized CodeLength (code_fields pool)

-- what an attribute holds, taken apart where it is a Code
abbrev pub held_field : List SlotData → Bool → Layout ClassFault BodyData
held_field pool false = Then sized_bytes (λ bytes. Value (Opaque bytes))
held_field pool true = Then (code_field pool) (λ code. Value (Coded code))

-- an attribute, in a method or not
abbrev pub attribute_field : List SlotData → Bool → Layout ClassFault AttributeData
attribute_field pool in_method =
    Then (name_field pool) (λ name.
    Then (held_field pool (in_method && is_code_name (utf8_at pool name))) (λ body.
    Value (record { name = name; body = body })))

-- Members and the class

-- a field or a method
abbrev pub member_field : List SlotData → Bool → Layout ClassFault MemberData
member_field pool in_method =
    Then (Number U2) (λ access.
    Then (Number U2) (λ name.
    Then (Number U2) (λ descriptor.
    Then (listed (attribute_field pool in_method)) (λ attributes.
    Value (record {
      access = access;
      name = name;
      descriptor = descriptor;
      attributes = attributes;
    })))))

-- the four bytes of the magic
abbrev pub magic_field : Layout ClassFault ℕ
magic_field = tested U4 (λ found. found == magic) (λ at found. Magic)

-- the major version
abbrev pub major_field : Layout ClassFault ℕ
major_field = tested U2 is_major (λ at major. Version major)

-- what stands after the pool, which says a class with these versions and this pool
abbrev pub parts_field : ℕ → ℕ → List SlotData → Layout ClassFault ClassData
parts_field minor major pool =
    Then (Number U2) (λ access.
    Then (Number U2) (λ this_class.
    Then (Number U2) (λ super_class.
    Then (listed (Number U2)) (λ interfaces.
    Then (listed (member_field pool false)) (λ fields.
    Then (listed (member_field pool true)) (λ methods.
    Then (listed (attribute_field pool false)) (λ attributes.
    Value (record {
      minor = minor;
      major = major;
      pool = pool;
      access = access;
      this_class = this_class;
      super_class = super_class;
      interfaces = interfaces;
      fields = fields;
      methods = methods;
      attributes = attributes;
    }))))))))

-- a class file
abbrev pub class_fields : Layout ClassFault ClassData
class_fields =
    Then magic_field (λ found.
    Then (Number U2) (λ minor.
    Then major_field (λ major.
    Then pool_field (λ pool. parts_field minor major pool))))

-- What follows from the layout

-- the class that some bytes read as, all of them, or their first fault
abbrev pub class_of : List ℕ → Result ClassData ClassFault
class_of bytes = whole_text Short Rest class_fields bytes

-- the first fault of some bytes, or none
abbrev pub class_fault : List ℕ → Option ClassFault
class_fault bytes = fault_of (class_of bytes)

-- the rule: the first field of these bytes that doesn't fit or isn't allowed, or the first part of
-- which bytes are left, has this fault
abbrev pub HasClassFault : List ℕ → ClassFault → Type 0
HasClassFault bytes fault = HasFirstFault (text_fields Short Rest class_fields bytes) fault

-- no fault: each field of these bytes fits and is allowed, and no bytes are left
abbrev pub HasNoClassFault : List ℕ → Type 0
HasNoClassFault bytes = All IsGood (text_fields Short Rest class_fields bytes)
