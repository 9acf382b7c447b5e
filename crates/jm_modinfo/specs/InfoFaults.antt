-- The first fault of the class of a module (this project's rule): that of the body of the Module
-- attribute, and what comes before it and after it.
use Rattle.std.specs.Prelude.{◌≡◌, ℕ, ◌<◌, ◌≤◌, true, false, List, [], ◌∷◌, length, None}
use Rattle.std.specs.Prelude.{option_and_then, All}
use Rattle.jm_class.specs.Classes.{SlotData, ClassData}
use Rattle.jm_class.specs.Layouts.{text_fields, IsGood, HasFirstFault}
use Rattle.jm_modinfo.specs.Constants.{number_in, named_at}
use Rattle.jm_modinfo.specs.declared.constants.Kind.TheVariants.{Class}
use Rattle.jm_modinfo.specs.declared.faults.InfoFault.{InfoFault}
use Rattle.jm_modinfo.specs.declared.faults.InfoFault.TheVariants as info
use Rattle.jm_modinfo.specs.Descriptors.{module_bodies, main_bodies}
use Rattle.jm_modinfo.specs.Flags.{is_module}
use Rattle.jm_modinfo.specs.ModuleLayout.{module_layout}

-- the rule of a body: its first field that doesn't fit or isn't allowed has this fault
abbrev pub HasBodyFault : List SlotData → List ℕ → InfoFault → Type 0
HasBodyFault pool body fault =
    HasFirstFault (text_fields info.Short info.Rest (module_layout pool) body) fault

-- no fault: each field of a body fits and is allowed
abbrev pub HasNoBodyFault : List SlotData → List ℕ → Type 0
HasNoBodyFault pool body = All IsGood (text_fields info.Short info.Rest (module_layout pool) body)

-- The class

-- a module's class of a version that is taken, which has one attribute `Module`, with this body
pub record HasBody (c : ClassData) (body : List ℕ) : Type 0 where
  pub access : is_module c.access ≡ true
  pub major : 53 ≤ c.major
  pub only : module_bodies c ≡ body ∷ []

-- there is more than one attribute `ModuleMainClass`, or the one doesn't name a class by two bytes
abbrev pub IsNoMain : List SlotData → List (List ℕ) → Type 0
IsNoMain pool [] = ⊥
IsNoMain pool (body ∷ []) = option_and_then (named_at pool Class) (number_in body) ≡ None
IsNoMain pool (body ∷ other ∷ more) = Unit {0}

-- the rule: what is wrong with the class of a module, where nothing before it is wrong: it
-- isn't flagged as one; its version is too old; it has no attribute `Module`, or more than one; its
-- body has a fault; its main class is none
pub data HasInfoFault (c : ClassData) (fault : InfoFault) : Type 0 where
  InAccess : is_module c.access ≡ false → fault ≡ info.NotModule → HasInfoFault c fault
  InMajor : is_module c.access ≡ true → c.major < 53 → fault ≡ info.OldVersion c.major
      → HasInfoFault c fault
  InNone : is_module c.access ≡ true → 53 ≤ c.major → module_bodies c ≡ []
      → fault ≡ info.NoModule → HasInfoFault c fault
  InMany : is_module c.access ≡ true → 53 ≤ c.major → 1 < length (module_bodies c)
      → fault ≡ info.TwoModule → HasInfoFault c fault
  InBody : (body : List ℕ) → HasBody c body → HasBodyFault c.pool body fault → HasInfoFault c fault
  InMain : (body : List ℕ) → HasBody c body → HasNoBodyFault c.pool body
      → IsNoMain c.pool (main_bodies c) → fault ≡ info.Main → HasInfoFault c fault
