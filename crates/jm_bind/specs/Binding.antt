-- Service binding: which modules are bound by a choice of roots (this project's rule; what a module
-- uses and provides is by JVMS 4.7.25). A module is known by its place in the list of those found.
use Rattle.std.specs.Prelude.{ℕ, ◌≡◌, List, Some, Contains, map, slice_get}
use Rattle.jm_closure.specs.declared.candidate.Candidate.{Candidate}
use Rattle.jm_closure.specs.Modules.{IsRoot, Requires}

-- the module at place i uses this service
abbrev pub UsesService : List Candidate → ℕ → List ℕ → Type 0
UsesService found i service =
    (c : Candidate) × (slice_get found i ≡ Some c) × Contains c.descriptor.uses service

-- the services that a module provides
abbrev pub provided_by : Candidate → List (List ℕ)
provided_by c = map (λ provided. provided.service) c.descriptor.provides

-- the module at place i provides this service
abbrev pub ProvidesService : List Candidate → ℕ → List ℕ → Type 0
ProvidesService found i service =
    (c : Candidate) × (slice_get found i ≡ Some c) × Contains (provided_by c) service

-- the module at place i uses a service that the one at place j provides
abbrev pub IsServedBy : List Candidate → ℕ → ℕ → Type 0
IsServedBy found i j =
    (service : List ℕ) × UsesService found i service × ProvidesService found j service

-- a set of places is closed: it has every root; with each module each found module that it requires
-- without `static`; and with each module each found module that provides a service which it uses
pub record IsClosed (found : List Candidate) (roots : List (List ℕ))
    (Has : ℕ → Type 0) : Type 0 where
  pub rooted : (i : ℕ) → IsRoot found roots i → Has i
  pub required : (i j : ℕ) → Has i → Requires found i j → Has j
  pub served : (i j : ℕ) → Has i → IsServedBy found i j → Has j

-- the rule: the module at place i is in every closed set of places
abbrev pub Bound : List Candidate → List (List ℕ) → ℕ → Type 0
Bound found roots i = (places : List ℕ) → IsClosed found roots (Contains places) → Contains places i
