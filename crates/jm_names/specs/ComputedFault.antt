-- The first fault of a name as a value. The rules are `HasFault` and `IsSound` of NameFaults;
-- proofs/ComputedFaultLaws ties them together.
use Rattle.std.specs.Prelude.{not, nat_lt, List, ℕ, [], ◌∷◌, length, Option}
use Rattle.std.specs.List.{list_any}
use Rattle.jm_bytes.specs.Checks.{fault_if, first_fault}
use Rattle.jm_names.specs.Names.{is_empty}
use Rattle.jm_names.specs.NameFaults.{has_module, parts, is_dots, is_zero}
use Rattle.jm_names.specs.ComputedText.{text_len}
use Rattle.jm_names.specs.declared.check.NameFault.{NameFault}
use Rattle.jm_names.specs.declared.check.NameFault.TheVariants.{Empty, EmptyPart, Dots, Zero}
use Rattle.jm_names.specs.declared.check.NameFault.TheVariants.{TooLong, NotText}

-- the checks of a name, in the order of the faults
abbrev pub name_checks : List ℕ → List (Option NameFault)
name_checks name =
    fault_if (not (has_module name)) Empty
    ∷ fault_if (list_any is_empty (parts name)) EmptyPart
    ∷ fault_if (list_any is_dots (parts name)) Dots
    ∷ fault_if (list_any is_zero name) Zero
    ∷ fault_if (nat_lt 4096 (length name)) TooLong
    ∷ fault_if (nat_lt (text_len name) (length name)) (NotText (text_len name))
    ∷ []

-- the first fault that holds, or none
abbrev pub name_fault : List ℕ → Option NameFault
name_fault name = first_fault (name_checks name)
