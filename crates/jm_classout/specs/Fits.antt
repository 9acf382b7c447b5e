-- Parts of some well-formed class (JVMS 4): their counts and lengths fit their fields.
use Rattle.std.specs.Prelude.{Bool, List}
use Rattle.jm_class.specs.Classes.{SlotData, Constant, Hole, OpaqueData, CodeData, AttributeData}
use Rattle.jm_class.specs.Classes.{MemberData, FitsTag, IsOpaque, IsCode, IsAttribute, IsMember}

-- a constant's body is as its tag says
abbrev pub FitsSlot : SlotData → Type 0
FitsSlot (Constant tag body) = FitsTag tag body
FitsSlot Hole = Unit {0}

-- an attribute of a Code in some well-formed class
abbrev pub OfSomeCode : OpaqueData → Type 0
OfSomeCode a = (pool : List SlotData) × IsOpaque pool a

-- a Code of some well-formed class
abbrev pub SomeCode : CodeData → Type 0
SomeCode c = (pool : List SlotData) × IsCode pool c

-- an attribute of some well-formed class
pub record SomeAttribute (a : AttributeData) : Type 0 where
  pub pool : List SlotData
  pub in_method : Bool
  pub attribute : IsAttribute pool in_method a

-- a field or a method of some well-formed class
pub record SomeMember (m : MemberData) : Type 0 where
  pub pool : List SlotData
  pub in_method : Bool
  pub member : IsMember pool in_method m
