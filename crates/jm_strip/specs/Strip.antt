-- A class without its debug information (JVMS 4.7; which attributes go is this project's rule).
use Rattle.std.specs.Prelude.{◌≡◌, ℕ, Bool, true, false, not, List, [], ◌∷◌, Option, Some, None}
use Rattle.std.specs.Prelude.{map, filter, codes, Result, Err, IfOk, OnOk}
use Rattle.std.specs.List.{list_any}
use Rattle.std.specs.Str.{bytes_eq}
use Rattle.jm_bytes.specs.declared.faults.Or.{Or}
use Rattle.jm_bytes.specs.declared.faults.Or.TheVariants.{Fault}
use Rattle.jm_class.specs.declared.class.ClassFault.{ClassFault}
use Rattle.jm_class.specs.Classes.{SlotData, CodeData, BodyData, Opaque, Coded, AttributeData}
use Rattle.jm_class.specs.Classes.{MemberData, ClassData, utf8_at, class_text, ReadsAs}
use Rattle.jm_class.specs.Releases.{ReadsFor, fault_for}

-- the names of the debug attributes of a Code, and of those of the class
abbrev pub debug_names : Bool → List (List ℕ)
debug_names true =
    codes "LineNumberTable" ∷ codes "LocalVariableTable" ∷ codes "LocalVariableTypeTable" ∷ []
debug_names false = codes "SourceFile" ∷ codes "SourceDebugExtension" ∷ []

-- a text that was found is one of some names
abbrev pub is_among : List (List ℕ) → Option (List ℕ) → Bool
is_among names None = false
is_among names (Some text) = list_any (λ name. bytes_eq text name) names

-- whether an attribute with this name index stays, in a Code or in the class
abbrev pub stays : Bool → List SlotData → ℕ → Bool
stays in_code pool name = not (is_among (debug_names in_code) (utf8_at pool name))

-- a Code without its debug attributes
abbrev pub strip_code : List SlotData → CodeData → CodeData
strip_code pool c = record c { attributes = filter (λ a. stays true pool a.name) c.attributes }

-- what an attribute holds, a Code without its debug attributes
abbrev pub strip_body : List SlotData → BodyData → BodyData
strip_body pool (Opaque bytes) = Opaque bytes
strip_body pool (Coded code) = Coded (strip_code pool code)

-- an attribute of a method; where it is a Code, this without its debug attributes
abbrev pub strip_attribute : List SlotData → AttributeData → AttributeData
strip_attribute pool a = record a { body = strip_body pool a.body }

-- a method without the debug attributes of its Code
abbrev pub strip_method : List SlotData → MemberData → MemberData
strip_method pool m = record m { attributes = map (strip_attribute pool) m.attributes }

-- a class without the debug attributes of each Code and of its own
abbrev pub strip : ClassData → ClassData
strip c = record c {
  methods = map (strip_method c.pool) c.methods;
  attributes = filter (λ a. stays false c.pool a.name) c.attributes;
}

-- the text of the class of a release that the bytes read as, without its debug information
pub record StripsTo (release : ℕ) (bytes text : List ℕ) : Type 0 where
  pub class : ClassData
  pub reads : ReadsFor release bytes class
  pub is : text ≡ class_text (strip class)

-- what leaving out the debug information of the class of a release gives: the text of the one class
-- without it, which reads as a class of that release, or the first fault
pub record StripsFor (release : ℕ) (bytes : List ℕ) (result : Result (List ℕ) (Or ClassFault))
    : Type 0 where
  pub text : IfOk result (λ text. StripsTo release bytes text)
  pub only : IfOk result (λ text. (c : ClassData) → ReadsAs bytes c → text ≡ class_text (strip c))
  pub reads : IfOk result (λ text. (c : ClassData) → ReadsAs bytes c
      → ReadsFor release text (strip c))
  pub no_fault : OnOk result (fault_for release bytes ≡ None)
  pub fault : (fault : ClassFault) → result ≡ Err (Fault fault)
      → fault_for release bytes ≡ Some fault
