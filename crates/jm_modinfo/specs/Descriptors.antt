-- What the class of a module says: the Module attribute, field by field, and the main class (JVMS
-- 4.7.25, 4.7.27).
use Rattle.std.specs.Prelude.{◌≡◌, ℕ, ◌^◌, ◌<◌, ◌≤◌, Bool, true, false, List, [], ◌∷◌}
use Rattle.std.specs.Prelude.{Option, Some, None, if◌then◌else◌, codes}
use Rattle.std.specs.List.{filter_map}
use Rattle.std.specs.Str.{bytes_eq}
use Rattle.jm_class.specs.Classes.{SlotData, BodyData, Opaque, Coded, AttributeData, ClassData, u2}
use Rattle.jm_class.specs.Classes.{utf8_at}
use Rattle.jm_class.specs.Layouts.{Says}
use Rattle.jm_modinfo.specs.Constants.{named_at}
use Rattle.jm_modinfo.specs.declared.constants.Kind.TheVariants.{Class}
use Rattle.jm_modinfo.specs.declared.descriptor.Descriptor.{Descriptor}
use Rattle.jm_modinfo.specs.Flags.{is_module}
use Rattle.jm_modinfo.specs.ModuleLayout.{module_layout}

-- the bytes are a number in two bytes
abbrev pub IsNumber : ℕ → List ℕ → Type 0
IsNumber n bytes = (n < 2 ^ 16) × (bytes ≡ u2 n)

-- the bytes are an index in two bytes, by which this value is found
abbrev pub IsIndex : {A : Type 0} → (ℕ → Option A) → A → List ℕ → Type 0
IsIndex found value bytes = (index : ℕ) × (found index ≡ Some value) × IsNumber index bytes

-- the bytes are the whole body of the Module attribute, and say this but for the main class
abbrev pub IsModuleBody : List SlotData → Descriptor → List ℕ → Type 0
IsModuleBody pool d bytes = Says (module_layout pool) (record d { main = None }) bytes

-- The attributes of the class itself

-- the bytes of a body that isn't taken apart, or none
abbrev pub plain_bytes : BodyData → Option (List ℕ)
plain_bytes (Opaque bytes) = Some bytes
plain_bytes (Coded code) = None

-- a text that was found is this name
abbrev pub is_named : List ℕ → Option (List ℕ) → Bool
is_named name (Some text) = bytes_eq text name
is_named name None = false

-- the bytes of an attribute, if it has this name
abbrev pub bytes_named : List SlotData → List ℕ → AttributeData → Option (List ℕ)
bytes_named pool name a =
    if is_named name (utf8_at pool a.name) then plain_bytes a.body else None

-- the bytes of each attribute of a name
abbrev pub bodies : List SlotData → List ℕ → List AttributeData → List (List ℕ)
bodies pool name attributes = filter_map (bytes_named pool name) attributes

-- the bytes of each attribute `Module` of the class itself
abbrev pub module_bodies : ClassData → List (List ℕ)
module_bodies c = bodies c.pool (codes "Module") c.attributes

-- the bytes of each attribute `ModuleMainClass` of the class itself
abbrev pub main_bodies : ClassData → List (List ℕ)
main_bodies c = bodies c.pool (codes "ModuleMainClass") c.attributes

-- the main class that the ModuleMainClass attributes name: none, or one by the one there is
abbrev pub IsMain : List SlotData → List (List ℕ) → Option (List ℕ) → Type 0
IsMain pool [] main = main ≡ None
IsMain pool (body ∷ []) main =
    (text : List ℕ) × (main ≡ Some text) × IsIndex (named_at pool Class) text body
IsMain pool (body ∷ other ∷ more) main = ⊥

-- the rule: the class is a module's, of a major version from 53 on, and its descriptor says this
pub record InfoOf (c : ClassData) (d : Descriptor) : Type 0 where
  pub access : is_module c.access ≡ true
  pub major : 53 ≤ c.major
  pub body : List ℕ
  pub only : module_bodies c ≡ body ∷ []
  pub says : IsModuleBody c.pool d body
  pub main : IsMain c.pool (main_bodies c) d.main
