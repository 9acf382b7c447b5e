-- Results of steps that may find no memory, and of one step behind another (this project's rule).
use Rattle.std.specs.Prelude.{◌≡◌, ◌⊎◌, Result, Ok, Err}
use Rattle.jm_bytes.specs.declared.faults.Or.{Or}
use Rattle.jm_bytes.specs.declared.faults.Or.TheVariants.{Fault, Memory}

-- a result that is want of memory, or else the one that the rules give
abbrev pub UnlessMemory : {A E : Type 0} → E → Result A E → Result A E → Type 0
UnlessMemory memory result given = (result ≡ Err memory) ⊎ (result ≡ given)

-- what a next step makes of a value; an error stays
abbrev pub followed : {A B E : Type 0} → Result A E → (A → Result B E) → Result B E
followed (Ok value) next = next value
followed (Err error) next = Err error

-- what is due of a result; of want of memory nothing is
abbrev pub IfAnswered : {A F : Type 0} → (Result A F → Type 0) → Result A (Or F) → Type 0
IfAnswered Due (Ok value) = Due (Ok value)
IfAnswered Due (Err (Fault fault)) = Due (Err fault)
IfAnswered Due (Err Memory) = Unit {0}
