-- What a closure of modules is refused for (this project's rule), each with the least values that
-- show it. `Chosen` says which modules the closure has, by their places.
use Rattle.std.specs.Prelude.{ℕ, ◌+◌, ◌≡◌, ◌≢◌, ◌↔◌, List, Some, Contains, IsTrue, Result, Ok, Err}
use Rattle.std.specs.Prelude.{slice_get}
use Rattle.std.specs.Cmp.Lexicographic.{slice_cmp}
use Rattle.std.specs.Ordering.{is_le, is_lt, nat_cmp}
use Rattle.jm_closure.specs.declared.candidate.Candidate.{Candidate}
use Rattle.jm_closure.specs.declared.fault.CloseFault.{CloseFault}
use Rattle.jm_closure.specs.declared.fault.CloseFault.TheVariants as fault
use Rattle.jm_closure.specs.Modules.{name_of, HasName, HasPackage, IsFound, ReachesItself}
use Rattle.jm_closure.specs.Modules.{RequiresName}

-- a text is another one or stands before it in byte order, a proper prefix first
abbrev pub IsAtMost : List ℕ → List ℕ → Type 0
IsAtMost a b = IsTrue (is_le (slice_cmp nat_cmp a b))

-- the least text of those with a property
abbrev pub IsLeast : (List ℕ → Type 0) → List ℕ → Type 0
IsLeast P text = P text × ((other : List ℕ) → P other → IsAtMost text other)

-- no text has a property
abbrev pub IsNone : (List ℕ → Type 0) → Type 0
IsNone P = (text : List ℕ) → ¬ P text

-- 1: a root isn't found

-- a root isn't found
abbrev pub IsLostRoot : List Candidate → List (List ℕ) → List ℕ → Type 0
IsLostRoot found roots name = Contains roots name × ¬ IsFound found name

-- 2: a chosen module requires without `static` what isn't found

-- a chosen module of the second name requires the first without `static`, which isn't found
abbrev pub Lacks : List Candidate → (ℕ → Type 0) → List ℕ → List ℕ → Type 0
Lacks found Chosen name by =
    (i : ℕ) × Chosen i × HasName found i by × RequiresName found i name × ¬ IsFound found name

-- a chosen module requires a name without `static`, which isn't found
abbrev pub IsLacking : List Candidate → (ℕ → Type 0) → List ℕ → Type 0
IsLacking found Chosen name = (by : List ℕ) × Lacks found Chosen name by

-- 3: a chosen module reaches itself

-- a chosen module of this name reaches itself
abbrev pub IsOnCycle : List Candidate → (ℕ → Type 0) → List ℕ → Type 0
IsOnCycle found Chosen name =
    (i : ℕ) × Chosen i × HasName found i name × ReachesItself found i

-- 4: two chosen modules have the same class package

-- a chosen module of this name has a class package
abbrev pub Holds : List Candidate → (ℕ → Type 0) → List ℕ → List ℕ → Type 0
Holds found Chosen shared name =
    (i : ℕ) × Chosen i × HasName found i name × HasPackage found i shared

-- a chosen module of this name and one of another name have the class package
abbrev pub IsShared : List Candidate → (ℕ → Type 0) → List ℕ → List ℕ → Type 0
IsShared found Chosen shared name =
    (other : List ℕ) × (name ≢ other)
    × Holds found Chosen shared name × Holds found Chosen shared other

-- two chosen modules of different names have the class package
abbrev pub IsSplit : List Candidate → (ℕ → Type 0) → List ℕ → Type 0
IsSplit found Chosen shared = (name : List ℕ) × IsShared found Chosen shared name

-- the least such class package, and the two least names of those that have it
pub record SplitsAt (found : List Candidate) (Chosen : ℕ → Type 0)
    (shared first second : List ℕ) : Type 0 where
  pub least : IsLeast (IsSplit found Chosen) shared
  pub holder : IsLeast (Holds found Chosen shared) first
  pub another : IsLeast (λ name. (name ≢ first) × Holds found Chosen shared name) second

-- none of the four, each by itself

-- every root is found
abbrev pub RootsFound : List Candidate → List (List ℕ) → Type 0
RootsFound found roots = IsNone (IsLostRoot found roots)

-- what the chosen modules require without `static` is found
abbrev pub NeedsFound : List Candidate → (ℕ → Type 0) → Type 0
NeedsFound found Chosen = IsNone (IsLacking found Chosen)

-- no chosen module reaches itself
abbrev pub IsAcyclic : List Candidate → (ℕ → Type 0) → Type 0
IsAcyclic found Chosen = IsNone (IsOnCycle found Chosen)

-- no two chosen modules of different names have one class package
abbrev pub IsUnsplit : List Candidate → (ℕ → Type 0) → Type 0
IsUnsplit found Chosen = IsNone (IsSplit found Chosen)

-- the places are those of exactly the chosen modules, rising by name
pub record AreChosen (found : List Candidate) (Chosen : ℕ → Type 0) (places : List ℕ) : Type 0 where
  pub exactly : (i : ℕ) → Contains places i ↔ Chosen i
  pub rising : (k : ℕ) (i j : ℕ) (a b : Candidate)
      → slice_get places k ≡ Some i → slice_get places (k + 1) ≡ Some j
      → slice_get found i ≡ Some a → slice_get found j ≡ Some b
      → IsTrue (is_lt (slice_cmp nat_cmp (name_of a) (name_of b)))

-- the answer: the places, or the first fault that holds, with its least values
abbrev pub Closes : List Candidate → List (List ℕ) → (ℕ → Type 0)
    → Result (List ℕ) CloseFault → Type 0
Closes found roots Chosen (Ok places) =
    RootsFound found roots × NeedsFound found Chosen × IsAcyclic found Chosen
    × IsUnsplit found Chosen × AreChosen found Chosen places
Closes found roots Chosen (Err (fault.NoRoot name)) = IsLeast (IsLostRoot found roots) name
Closes found roots Chosen (Err (fault.Missing name by)) =
    RootsFound found roots
    × IsLeast (IsLacking found Chosen) name × IsLeast (Lacks found Chosen name) by
Closes found roots Chosen (Err (fault.Cycle name)) =
    RootsFound found roots × NeedsFound found Chosen × IsLeast (IsOnCycle found Chosen) name
Closes found roots Chosen (Err (fault.SplitPackage shared first second)) =
    RootsFound found roots × NeedsFound found Chosen × IsAcyclic found Chosen
    × SplitsAt found Chosen shared first second
