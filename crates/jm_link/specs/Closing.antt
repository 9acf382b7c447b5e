-- The closure of the roots among the modules that are visible, as `link` takes it (JEP 282).
use Rattle.std.specs.Prelude.{ℕ, ◌≡◌, ◌⊎◌, Bool, true, false, List, Some, None, Result, Ok, Err}
use Rattle.jm_bind.specs.Binding.{Bound}
use Rattle.jm_closure.specs.declared.candidate.Candidate.{Candidate}
use Rattle.jm_closure.specs.declared.fault.CloseFault.{CloseFault}
use Rattle.jm_closure.specs.Modules.{Reached}
use Rattle.jm_closure.specs.Refusals.{Closes}
use Rattle.jm_texts.specs.declared.refusal.Refusal.{Refusal}
use Rattle.jm_modset.specs.Found.{reserved}
use Rattle.jm_link.specs.declared.linking.LinkStop.{LinkStop}
use Rattle.jm_link.specs.Linked.{closing_refusal}
use Rattle.jm_link.specs.Steps.{StepGives}

-- the closure, or with service binding what is bound
abbrev pub ClosesWith : Bool → List Candidate → List (List ℕ) → Result (List ℕ) CloseFault → Type 0
ClosesWith true found roots result = Closes found roots (Bound found roots) result
ClosesWith false found roots result = Closes found roots (Reached found roots) result

-- the closure of these roots is refused so
abbrev pub IsUnclosed : List Candidate → List (List ℕ) → Bool → Refusal → Type 0
IsUnclosed found roots bind given =
    (fault : CloseFault) × ClosesWith bind found roots (Err fault)
    × (given ≡ closing_refusal fault)

-- by the answer: the places of the closure of these roots, or its refusal; no memory
abbrev pub ClosesFrom : List Candidate → List (List ℕ) → Bool → Result (List ℕ) LinkStop → Type 0
ClosesFrom found roots bind =
    StepGives (λ places. ClosesWith bind found roots (Ok places)) (IsUnclosed found roots bind) ⊥ ⊥

-- by the answer: the places of the closure; a reserved name, or the refusal of the closure; no
-- memory
abbrev pub ClosesAmong : List Candidate → List (List ℕ) → Bool → Result (List ℕ) LinkStop → Type 0
ClosesAmong found roots bind =
    StepGives (λ places. (reserved found ≡ None) × ClosesWith bind found roots (Ok places))
    (λ given. (reserved found ≡ Some given)
    ⊎ ((reserved found ≡ None) × IsUnclosed found roots bind given)) ⊥ ⊥
