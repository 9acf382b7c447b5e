-- Modules that require one another (JVMS 4.7.25), and which of them a choice of roots reaches (JEP
-- 282: the closure of the root modules). A module is known by its place in the list of those found.
use Rattle.std.specs.Prelude.{ℕ, ◌≡◌, List, [], ◌∷◌, Some, Contains, not, filter, map, slice_get}
use Rattle.jm_modinfo.specs.declared.descriptor.Need.{Need}
use Rattle.jm_modinfo.specs.Flags.{is_static}
use Rattle.jm_closure.specs.declared.candidate.Candidate.{Candidate}

-- the name of a module
abbrev pub name_of : Candidate → List ℕ
name_of c = c.descriptor.name

-- the names that are required without `static`
abbrev pub needed_by : List Need → List (List ℕ)
needed_by needs = map (λ need. need.name) (filter (λ need. not (is_static need.flags)) needs)

-- the names that a module requires without `static`
abbrev pub required_by : Candidate → List (List ℕ)
required_by c = needed_by c.descriptor.needs

-- a module of this name is found
abbrev pub IsFound : List Candidate → List ℕ → Type 0
IsFound found name = Contains (map name_of found) name

-- the module at place i has this name
abbrev pub HasName : List Candidate → ℕ → List ℕ → Type 0
HasName found i name = (c : Candidate) × (slice_get found i ≡ Some c) × (name_of c ≡ name)

-- the module at place i requires this name without `static`
abbrev pub RequiresName : List Candidate → ℕ → List ℕ → Type 0
RequiresName found i name =
    (c : Candidate) × (slice_get found i ≡ Some c) × Contains (required_by c) name

-- the module at place i requires the one at place j without `static`
abbrev pub Requires : List Candidate → ℕ → ℕ → Type 0
Requires found i j = (name : List ℕ) × RequiresName found i name × HasName found j name

-- the module at place i has the name of one of the roots
abbrev pub IsRoot : List Candidate → List (List ℕ) → ℕ → Type 0
IsRoot found roots i = (name : List ℕ) × Contains roots name × HasName found i name

-- from i over these places, each next one by a step, one comes to j
abbrev pub Leads : (ℕ → ℕ → Type 0) → ℕ → List ℕ → ℕ → Type 0
Leads Step i [] j = i ≡ j
Leads Step i (k ∷ places) j = Step i k × Leads Step k places j

-- there is a list of modules that begins with a root and ends at place j, in which each requires
-- the next without `static`
abbrev pub Reached : List Candidate → List (List ℕ) → ℕ → Type 0
Reached found roots j =
    (i : ℕ) × (places : List ℕ) × IsRoot found roots i × Leads (Requires found) i places j

-- the module at place i reaches itself by one or more requires without `static`
abbrev pub ReachesItself : List Candidate → ℕ → Type 0
ReachesItself found i =
    (j : ℕ) × (places : List ℕ) × Requires found i j × Leads (Requires found) j places i

-- the module at place i has this class package
abbrev pub HasPackage : List Candidate → ℕ → List ℕ → Type 0
HasPackage found i name =
    (c : Candidate) × (slice_get found i ≡ Some c) × Contains c.packages name
