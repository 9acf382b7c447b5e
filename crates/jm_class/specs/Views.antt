-- The parts of a class that the code hands out, as plain data, and what its readings give.
use Rattle.std.specs.Prelude.{◌≡◌, ℕ, List, map, Result, Ok, Err}
use Rattle.jm_bytes.specs.declared.faults.Or.{Or}
use Rattle.jm_bytes.specs.declared.faults.Or.TheVariants.{Fault, Memory}
use Rattle.jm_class.specs.declared.class.Attribute.{Attribute}
use Rattle.jm_class.specs.declared.class.Body.{Body}
use Rattle.jm_class.specs.declared.class.Body.TheVariants as body
use Rattle.jm_class.specs.declared.class.Class.{Class}
use Rattle.jm_class.specs.declared.class.ClassFault.{ClassFault}
use Rattle.jm_class.specs.declared.class.ClassFault.TheVariants.{Short}
use Rattle.jm_class.specs.declared.class.Code.{Code}
use Rattle.jm_class.specs.declared.class.Member.{Member}
use Rattle.jm_class.specs.declared.class.Plain.{Plain}
use Rattle.jm_class.specs.declared.class.Slot.{Slot}
use Rattle.jm_class.specs.declared.class.Slot.TheVariants as slot
use Rattle.jm_class.specs.declared.fields.Missing.{Missing}
use Rattle.jm_class.specs.declared.fields.Missing.TheVariants.{Here, Within}
use Rattle.jm_class.specs.Classes.{SlotData, Constant, Hole, OpaqueData, CodeData, BodyData, Opaque}
use Rattle.jm_class.specs.Classes.{Coded, AttributeData, MemberData, ClassData}
use Rattle.jm_class.specs.ClassLayout.{class_of}
use Rattle.jm_class.specs.Readings.{Left, Outcome}

-- a slot of the pool as plain data
abbrev pub slot_of : Slot → SlotData
slot_of (slot.Constant tag body) = Constant tag body.now
slot_of slot.Hole = Hole

-- a constant pool as plain data
abbrev pub pool_of : List Slot → List SlotData
pool_of slots = map slot_of slots

-- an attribute of a Code as plain data
abbrev pub opaque_of : Plain → OpaqueData
opaque_of a = record { name = a.name; bytes = a.bytes.now }

-- a Code as plain data
abbrev pub code_of : Code → CodeData
code_of c = record {
  max_stack = c.max_stack;
  max_locals = c.max_locals;
  code = c.code.now;
  handlers = c.handlers.now;
  attributes = map opaque_of c.attributes;
}

-- what an attribute holds, as plain data
abbrev pub body_of : Body → BodyData
body_of (body.Plain bytes) = Opaque bytes.now
body_of (body.Code code) = Coded (code_of code)

-- an attribute as plain data
abbrev pub attribute_of : Attribute → AttributeData
attribute_of a = record { name = a.name; body = body_of a.body }

-- a field or a method as plain data
abbrev pub member_of : Member → MemberData
member_of m = record {
  access = m.access;
  name = m.name;
  descriptor = m.descriptor;
  attributes = map attribute_of m.attributes;
}

-- a class that the code hands out, as plain data
abbrev pub plain : Class → ClassData
plain c = record {
  minor = c.minor;
  major = c.major;
  pool = pool_of c.pool;
  access = c.access;
  this_class = c.this_class;
  super_class = c.super_class;
  interfaces = c.interfaces;
  fields = map member_of c.fields;
  methods = map member_of c.methods;
  attributes = map attribute_of c.attributes;
}

-- the fault of a field at a place that doesn't fit
abbrev pub fault_at : Missing → ℕ → ClassFault
fault_at Here = λ at. Short at
fault_at (Within fault) = λ at. fault

-- a reading gives this value and leaves this, or has this fault
abbrev pub Gives : {F T A : Type 0} → (T → A) → Outcome F A → Result T (Or F) → Left → Type 0
Gives data_of outcome (Ok v) left = outcome ≡ Ok (data_of v, left)
Gives data_of outcome (Err (Fault fault)) left = outcome ≡ Err fault
Gives data_of outcome (Err Memory) left = Unit {0}

-- the same of what takes no memory
abbrev pub Reads : {F T A : Type 0} → (T → A) → Outcome F A → Result T F → Left → Type 0
Reads data_of outcome (Ok v) left = outcome ≡ Ok (data_of v, left)
Reads data_of outcome (Err fault) left = outcome ≡ Err fault

-- the class that the bytes read as, or their first fault
abbrev pub ReadsClass : List ℕ → Result Class (Or ClassFault) → Type 0
ReadsClass bytes (Ok class) = class_of bytes ≡ Ok (plain class)
ReadsClass bytes (Err (Fault fault)) = class_of bytes ≡ Err fault
ReadsClass bytes (Err Memory) = Unit {0}
