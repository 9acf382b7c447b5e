-- What a walk over a class puts, as it reads: each reading under a function of its value.
use Rattle.std.specs.Prelude.{◌≡◌, ℕ, List, ◌++◌, Bool, length, filter, Result, Ok, Err}
use Rattle.std.specs.List.{flat_map}
use Rattle.jm_bytes.specs.declared.faults.Or.{Or}
use Rattle.jm_bytes.specs.declared.faults.Or.TheVariants.{Fault, Memory}
use Rattle.jm_class.specs.declared.class.ClassFault.{ClassFault}
use Rattle.jm_class.specs.Classes.{ClassData, class_text}
use Rattle.jm_class.specs.ClassLayout.{class_of}
use Rattle.jm_class.specs.Readings.{Left, Outcome}
use Rattle.jm_class.specs.Views.{Reads, Gives}
use Rattle.jm_strip.specs.Strip.{strip}

-- a function of what was read; a fault stays
abbrev pub shown : {F A B : Type 0} → (A → B) → Outcome F A → Outcome F B
shown show (Ok r) = Ok (show r.0, r.1)
shown show (Err fault) = Err fault

-- the function that keeps nothing of a value
abbrev pub nothing : {A : Type 0} → A → Unit {0}
nothing a = tt

-- the value is read, and nothing of it is kept
abbrev pub Skips : {A T : Type 0} → Outcome ClassFault A → Result T ClassFault → Left → Type 0
Skips outcome result left = Reads nothing (shown nothing outcome) result left

-- the words of the value are put after a text
abbrev pub Puts : {A T : Type 0} → (A → List ℕ) → Outcome ClassFault A → Result T (Or ClassFault)
    → Left → List ℕ → List ℕ → Type 0
Puts words outcome result left old new =
    Gives (λ _. new) (shown (λ a. old ++ words a) outcome) result left

-- the words of the values that pass a test are put after a text, and counted
abbrev pub filtered : {A : Type 0} → (A → List ℕ) → (A → Bool) → List ℕ → List A → List ℕ × ℕ
filtered words test text xs = (text ++ flat_map words (filter test xs), length (filter test xs))

-- the bytes read as a class, and the text is that of the class without its debug information; or
-- they have this fault
abbrev pub Strips : List ℕ → Result (List ℕ) (Or ClassFault) → Type 0
Strips bytes (Ok text) = (c : ClassData) × (class_of bytes ≡ Ok c) × (text ≡ class_text (strip c))
Strips bytes (Err (Fault fault)) = class_of bytes ≡ Err fault
Strips bytes (Err Memory) = Unit {0}
