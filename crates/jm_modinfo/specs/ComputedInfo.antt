-- The descriptor of a class, or its first fault (this project's rule): the computed form of
-- `InfoOf`.
use Rattle.std.specs.Prelude.{ℕ, nat_lt, List, [], ◌∷◌, Option, Some, None, option_and_then, Result}
use Rattle.std.specs.Prelude.{Ok, Err, if◌then◌else◌, not}
use Rattle.jm_class.specs.Classes.{SlotData, ClassData}
use Rattle.jm_class.specs.Layouts.{whole_text}
use Rattle.jm_modinfo.specs.Constants.{number_in, named_at}
use Rattle.jm_modinfo.specs.declared.constants.Kind.TheVariants.{Class}
use Rattle.jm_modinfo.specs.declared.descriptor.Descriptor.{Descriptor}
use Rattle.jm_modinfo.specs.declared.faults.InfoFault.{InfoFault}
use Rattle.jm_modinfo.specs.declared.faults.InfoFault.TheVariants.{NotModule, OldVersion, NoModule}
use Rattle.jm_modinfo.specs.declared.faults.InfoFault.TheVariants.{TwoModule, Main, Short, Rest}
use Rattle.jm_modinfo.specs.Descriptors.{module_bodies, main_bodies}
use Rattle.jm_modinfo.specs.Flags.{is_module}
use Rattle.jm_modinfo.specs.ModuleLayout.{module_layout}

-- the descriptor that a whole body gives, or its first fault
abbrev pub body_info : List SlotData → List ℕ → Result Descriptor InfoFault
body_info pool body = whole_text Short Rest (module_layout pool) body

-- the one body of several, `NoModule` where there is none, `TwoModule` where there are more
abbrev pub only_body : List (List ℕ) → Result (List ℕ) InfoFault
only_body [] = Err NoModule
only_body (body ∷ []) = Ok body
only_body (body ∷ other ∷ more) = Err TwoModule

-- the main class that a body of two bytes names
abbrev pub main_named : Option (List ℕ) → Result (Option (List ℕ)) InfoFault
main_named (Some text) = Ok (Some text)
main_named None = Err Main

-- the main class that the bodies name: none where there is no body, `Main` where there are more
-- than one
abbrev pub main_of : List SlotData → List (List ℕ) → Result (Option (List ℕ)) InfoFault
main_of pool [] = Ok None
main_of pool (body ∷ []) = main_named (option_and_then (named_at pool Class) (number_in body))
main_of pool (body ∷ other ∷ more) = Err Main

-- the descriptor with its main class
abbrev pub with_main : Descriptor → Result (Option (List ℕ)) InfoFault → Result Descriptor InfoFault
with_main d (Ok main) = Ok (record d { main = main })
with_main d (Err fault) = Err fault

-- a descriptor that may have a fault, with its main class; its own fault comes first
abbrev pub with_info : Result Descriptor InfoFault → Result (Option (List ℕ)) InfoFault
    → Result Descriptor InfoFault
with_info (Ok d) main = with_main d main
with_info (Err fault) main = Err fault

-- the descriptor of a body that may have a fault, with its main class; the body's fault comes first
abbrev pub with_body : List SlotData → Result (List ℕ) InfoFault
    → Result (Option (List ℕ)) InfoFault → Result Descriptor InfoFault
with_body pool (Ok body) main = with_info (body_info pool body) main
with_body pool (Err fault) main = Err fault

-- the descriptor of a class, or its first fault
abbrev pub info_of : ClassData → Result Descriptor InfoFault
info_of c =
    if not (is_module c.access) then Err NotModule
    else if nat_lt c.major 53 then Err (OldVersion c.major)
    else with_body c.pool (only_body (module_bodies c)) (main_of c.pool (main_bodies c))
