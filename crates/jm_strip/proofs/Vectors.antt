-- A class without its debug information, evaluated.
use Rattle.std.proofs.Common.{◌≡◌, ℕ, List, [], ◌∷◌, refl}
use Rattle.std.specs.Prelude.{codes}
use Rattle.jm_class.specs.Classes.{SlotData, Constant, OpaqueData, Opaque, Coded, AttributeData, MemberData, ClassData}
use Rattle.jm_strip.specs.Strip.{strip}

abbrev names : List SlotData
names = Constant 1 (codes "Code") ∷ Constant 1 (codes "LineNumberTable") ∷ Constant 1 (codes "SourceFile")
    ∷ Constant 1 (codes "SourceDebugExtension") ∷ Constant 1 (codes "StackMapTable") ∷ []

abbrev inner : ℕ → OpaqueData
inner name = record { name = name; bytes = 7 ∷ [] }

abbrev outer : ℕ → AttributeData
outer name = record { name = name; body = Opaque (7 ∷ []) }

abbrev code : List OpaqueData → AttributeData
code attributes = record {
  name = 1;
  body = Coded (record {
    max_stack = 1;
    max_locals = 2;
    code = 177 ∷ [];
    handlers =
        [];
    attributes = attributes;
  });
}

abbrev member : List AttributeData → MemberData
member attributes = record { access = 1; name = 1; descriptor = 1; attributes = attributes }

-- a field with attributes of both kinds, a method without a Code and one with two, and the class
abbrev class : List OpaqueData → List AttributeData → ClassData
class debug own = record {
  minor = 0;
  major = 61;
  pool = names;
  access = 33;
  this_class = 0;
  super_class = 0;
  interfaces = 3 ∷ [];
  fields = member (outer 2 ∷ outer 3 ∷ []) ∷ [];
  methods = member [] ∷ member (outer 2 ∷ code debug ∷ code [] ∷ outer 3 ∷ []) ∷ [];
  attributes = own;
}

without : strip (class (inner 2 ∷ inner 5 ∷ inner 3 ∷ inner 2 ∷ []) (outer 3 ∷ outer 2 ∷ outer 4 ∷ outer 5 ∷ []))
    ≡ class (inner 5 ∷ inner 3 ∷ []) (outer 2 ∷ outer 5 ∷ [])
without = refl

-- nothing is left to leave out
again : strip (class (inner 5 ∷ []) []) ≡ class (inner 5 ∷ []) []
again = refl
