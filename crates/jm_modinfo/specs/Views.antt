-- What a step gives by a value or a fault that is due.
use Rattle.std.specs.Prelude.{◌≡◌, Result, Ok, Err}
use Rattle.jm_bytes.specs.declared.faults.Or.{Or}
use Rattle.jm_bytes.specs.declared.faults.Or.TheVariants.{Fault, Memory}

-- this value or this fault
abbrev pub Answers : {F T A : Type 0} → (T → A) → Result A F → Result T (Or F) → Type 0
Answers data_of outcome (Ok v) = outcome ≡ Ok (data_of v)
Answers data_of outcome (Err (Fault fault)) = outcome ≡ Err fault
Answers data_of outcome (Err Memory) = Unit {0}
