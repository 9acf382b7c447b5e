-- The first fault of a class as a descriptor (this project's rule): checks in their order, of which
-- the first that finds a fault decides.
use Rattle.std.specs.Prelude.{ℕ, nat_lt, List, [], ◌∷◌, Option, None, not}
use Rattle.jm_bytes.specs.Checks.{fault_if, first_fault}
use Rattle.jm_class.specs.Classes.{SlotData, ClassData}
use Rattle.jm_class.specs.Layouts.{fault_of}
use Rattle.jm_modinfo.specs.ComputedInfo.{only_body, body_info, main_of}
use Rattle.jm_modinfo.specs.declared.faults.InfoFault.{InfoFault}
use Rattle.jm_modinfo.specs.declared.faults.InfoFault.TheVariants.{NotModule, OldVersion}
use Rattle.jm_modinfo.specs.Descriptors.{module_bodies, main_bodies}
use Rattle.jm_modinfo.specs.Flags.{is_module}

-- the first fault within the body, from left to right; without a body there is none
abbrev pub body_fault : List SlotData → List (List ℕ) → Option InfoFault
body_fault pool [] = None
body_fault pool (body ∷ more) = fault_of (body_info pool body)

-- what can be wrong with the class of a module, in the order of the faults
abbrev pub info_checks : ClassData → List (Option InfoFault)
info_checks c =
    fault_if (not (is_module c.access)) NotModule
    ∷ fault_if (nat_lt c.major 53) (OldVersion c.major)
    ∷ fault_of (only_body (module_bodies c))
    ∷ body_fault c.pool (module_bodies c)
    ∷ fault_of (main_of c.pool (main_bodies c))
    ∷ []

-- the first fault of a class as a descriptor, or none
abbrev pub info_fault : ClassData → Option InfoFault
info_fault c = first_fault (info_checks c)
