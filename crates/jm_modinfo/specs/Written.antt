-- The class of a module that only requires others (this project's rule on its constants).
use Rattle.std.specs.Prelude.{◌≡◌, ℕ, zero, suc, ◌+◌, ◌^◌, ◌<◌, true, List, [], ◌∷◌, ◌++◌, length}
use Rattle.std.specs.Prelude.{None, codes}
use Rattle.jm_class.specs.Classes.{SlotData, Constant, Opaque, ClassData, joined, u2, class_text}
use Rattle.jm_modinfo.specs.Constants.{is_legal}
use Rattle.jm_modinfo.specs.declared.descriptor.Descriptor.{Descriptor}
use Rattle.jm_modinfo.specs.declared.descriptor.Need.{Need}

-- a Utf8 constant of a text
abbrev pub utf8 : List ℕ → SlotData
utf8 text = Constant 1 text

-- a name that can be written
abbrev pub IsName : List ℕ → Type 0
IsName name = (is_legal name ≡ true) × (length name < 2 ^ 16)

-- a module that is required, of a name that can be written, and without a version
pub record IsWritable (n : Need) : Type 0 where
  pub name : IsName n.name
  pub version : n.version ≡ None

-- n numbers of two bytes, each two above the one before
abbrev pub numbers_text : ℕ → ℕ → List ℕ
numbers_text number zero = []
numbers_text number (suc n) = u2 number ++ numbers_text (number + 2) n

-- for each need its name, and the Module constant of that name
abbrev pub need_slots : ℕ → List Need → List SlotData
need_slots number [] = []
need_slots number (n ∷ needs) =
    utf8 n.name ∷ Constant 19 (u2 number) ∷ need_slots (number + 2) needs

-- the constants of the class: its own name, `Module`, the module's name, and from number 6 on those
-- of the needs
abbrev pub info_pool : List ℕ → List Need → List SlotData
info_pool name needs =
    utf8 (codes "module-info") ∷ Constant 7 (u2 1) ∷ utf8 (codes "Module") ∷ utf8 name
    ∷ Constant 19 (u2 4) ∷ need_slots 6 needs

-- the needs by their Module constants, with their flags and no version
abbrev pub needs_text : ℕ → List Need → List ℕ
needs_text number [] = []
needs_text number (n ∷ needs) =
    joined (u2 number ∷ u2 n.flags ∷ u2 0 ∷ needs_text (number + 2) needs ∷ [])

-- the name, no flags and no version, the needs; nothing exported, opened, used or provided
abbrev pub info_body : List Need → List ℕ
info_body needs = joined (
    u2 5 ∷ u2 0 ∷ u2 0 ∷ u2 (length needs) ∷ needs_text 7 needs
    ∷ u2 0 ∷ u2 0 ∷ u2 0 ∷ u2 0 ∷ [])

-- the class of a module that requires others and says nothing else
abbrev pub info_class : List ℕ → List Need → ClassData
info_class name needs = record {
  minor = 0;
  major = 53;
  pool = info_pool name needs;
  access = 0x8000;
  this_class = 2;
  super_class = 0;
  interfaces = [];
  fields = [];
  methods = [];
  attributes = record { name = 3; body = Opaque (info_body needs) } ∷ [];
}

-- the bytes of that class
abbrev pub info_text : List ℕ → List Need → List ℕ
info_text name needs = class_text (info_class name needs)

-- a descriptor of this name and these needs, and of nothing else
abbrev pub plain_descriptor : List ℕ → List Need → Descriptor
plain_descriptor name needs = record {
  name = name;
  version = None;
  flags = 0;
  needs = needs;
  exports = [];
  opens = [];
  uses = [];
  provides = [];
  main = None;
}
