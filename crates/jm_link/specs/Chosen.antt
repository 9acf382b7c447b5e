-- Which of the modules found are linked (JEP 282).
use Rattle.std.specs.Prelude.{ℕ, ◌⊎◌, ◌≡◌, Bool, true, false, IsTrue, List, [], Contains, codes}
use Rattle.jm_bind.specs.Binding.{Bound}
use Rattle.jm_closure.specs.declared.candidate.Candidate.{Candidate}
use Rattle.jm_closure.specs.Modules.{Reached}
use Rattle.jm_modset.specs.Found.{is_all}

-- the rule: a name is a root: it is asked for, and isn't the word for all modules where that stands
-- for a name; or the word is asked for, and stands for the name
abbrev pub IsRootName : List (List ℕ) → List (List ℕ) → List ℕ → Type 0
IsRootName named asked name =
    (Contains asked name × (IsTrue (is_all name) → named ≡ []))
    ⊎ (Contains asked (codes "ALL-MODULE-PATH") × Contains named name)

-- the modules that are linked, by their places among those found: with service binding those that
-- are bound, else those that are reached
abbrev pub Chosen : Bool → List Candidate → List (List ℕ) → ℕ → Type 0
Chosen true found roots i = Bound found roots i
Chosen false found roots i = Reached found roots i
