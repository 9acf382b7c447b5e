-- The modules that the graph's roots lead to are those that are in every closed set.
use Rattle.std.proofs.Common.{◌≡◌, ℕ, zero, suc, ◌<◌, ◌↔◌, ◌⊎◌, inl, inr, Bool, false, List, [], ◌∷◌, length, rules}
use Rattle.std.proofs.Common.{Some, Contains, refl, subst, arith, take, slice_index_or}
use Rattle.std.specs.Prelude.{filter}
use Rattle.std.specs.List.{range_with_len}
use Rattle.std.proofs.lemmas.Bool.{false≢true}
use Rattle.jm_bytes.proofs.Members.{contains_filter, contains_range, from_filter, from_range}
use Rattle.jm_closure.specs.declared.candidate.Candidate.{Candidate}
use Rattle.jm_closure.specs.Graphs.{HasEdge, IsMarked, LedFrom}
use Rattle.jm_closure.specs.Modules.{Leads}
use Rattle.jm_closure.specs.Names.{places_among, Indexes}
use Rattle.jm_closure.specs.Places.{place_in}
use Rattle.jm_closure.proofs.ClosureLaws.{among_from, among_to}
use Rattle.jm_closure.proofs.NameLaws.{within_found}
use Rattle.jm_closure.proofs.ReachLaws.{led_more}
use Rattle.jm_bind.specs.Binding.{Bound, IsClosed, ProvidesService, UsesService}
use Rattle.jm_bind.specs.Nodes.{IsDrawn, IsStep}

module _ (found : List Candidate) (names : List (List ℕ × ℕ)) (roots : List (List ℕ))
    (services : List (List ℕ × ℕ)) (graph : List (List ℕ))
    (indexed : Indexes found names)
    (drawn : IsDrawn found (UsesService found) (ProvidesService found) services graph) where
  -- the set of the modules that the roots lead to is closed
  abbrev pub IsLed : ℕ → Type 0
  IsLed i = (i < length found) × LedFrom graph (places_among names roots) i

  led_step : (i j : ℕ) → LedFrom graph (places_among names roots) i
      → IsStep found (UsesService found) (ProvidesService found) services i j
      → LedFrom graph (places_among names roots) j
  led_step i j led step = led_more graph (places_among names roots) i j led ((drawn.exactly i j).1 step)

  pub led_closed : IsClosed found roots IsLed
  led_closed = record {
    rooted = λ i (name, there, has). (
      within_found found i has.0 has.1,
      (i, [], among_to found names roots i name indexed there has, refl),
    );
    required = λ i j (below, led) requires. (
      within_found found j requires.2.0 requires.2.1,
      led_step i j led (inl requires),
    );
    served = λ i j (below, led) (text, uses, provides).
        (let node = (drawn.used i text uses).1 in (
          (drawn.provided j text provides).0,
          led_step node.0 j (led_step i node.0 led (inr (inl (text, uses, node.1)))) (inr (inr (text, provides, node.1))),
        ));
  }

  -- a node that a closed set leads to: one of its modules, or a service that one of them uses
  module _ (Has : ℕ → Type 0) (closed : IsClosed found roots Has) where
    abbrev IsTaken : ℕ → Type 0
    IsTaken i =
        ((i < length found) × Has i)
        ⊎ ((k : ℕ) × (text : List ℕ) × Has k × UsesService found k text × (place_in services text ≡ Some i))

    taken_step : (i j : ℕ) → IsTaken i
        → IsStep found (UsesService found) (ProvidesService found) services i j → IsTaken j
    taken_step i j (inl (below, has)) (inl requires) =
        inl (within_found found j requires.2.0 requires.2.1, closed.required i j has requires)
    taken_step i j (inl (below, has)) (inr (inl (text, uses, is))) = inr (i, text, has, uses, is)
    taken_step i j (inl (below, has)) (inr (inr (text, provides, is))) =
        let behind = (drawn.behind text i is).0 in absurd (omega arith)
    taken_step i j (inr (k, text, has, uses, is)) (inl requires) =
        let behind = (drawn.behind text i is).0 in
        let below = within_found found i requires.1.0 requires.1.1 in
        absurd (omega arith)
    taken_step i j (inr (k, text, has, uses, is)) (inr (inl (other, uses_other, at))) =
        let behind = (drawn.behind text i is).0 in
        let below = (drawn.used i other uses_other).0 in
        absurd (omega arith)
    taken_step i j (inr (k, text, has, uses, is)) (inr (inr (other, provides, at))) =
        let same : other ≡ text = drawn.apart other text i at is in
        inl (
          (drawn.provided j other provides).0,
          closed.served k j has (text, uses, subst (λ t. ProvidesService found j t) same provides),
        )

    taken_way : (i : ℕ) (nodes : List ℕ) (j : ℕ) → IsTaken i → Leads (HasEdge graph) i nodes j → IsTaken j
    taken_way i [] j taken same = subst IsTaken same taken
    taken_way i (k ∷ nodes) j taken (edge, rest) =
        taken_way k nodes j (taken_step i k taken ((drawn.exactly i k).0 edge)) rest

    -- what the roots lead to is in each closed set
    pub led_within : (j : ℕ) → IsLed j → Has j
    led_within j (below, (i, nodes, there, leads)) =
        let root = among_from found names roots i indexed there in
        elim (taken_way i nodes j
        (inl (within_found found i root.2.0 root.2.1, closed.rooted i (root.0, root.1, root.2))) leads) [
          | inl (_, has) ↦ has
          | inr (k, text, has, uses, is) ↦ (let behind = (drawn.behind text j is).0 in absurd (omega arith))
        ]

-- Marks before a place

pub marked_front : (flags : List Bool) (n i : ℕ) → IsMarked (take n flags) i ↔ ((i < n) × IsMarked flags i)
marked_front flags zero i = search (rules, false≢true)
marked_front [] (suc n) i = search (rules, false≢true)
marked_front (flag ∷ flags) (suc n) zero = search (rules)
marked_front (flag ∷ flags) (suc n) (suc i) = search (rules, (marked_front flags n i))

-- the places of the marks before a place
abbrev marked_places : List Bool → ℕ → List ℕ
marked_places flags n = filter (λ i. slice_index_or flags i false) (range_with_len 0 n)

closed_as : (found : List Candidate) (roots : List (List ℕ)) (P Q : ℕ → Type 0) → ((i : ℕ) → P i ↔ Q i)
    → IsClosed found roots P → IsClosed found roots Q
closed_as found roots P Q same closed = search (rules)

-- Of a graph that is drawn and the marks of what its roots lead to
module _ (found : List Candidate) (names : List (List ℕ × ℕ)) (roots : List (List ℕ))
    (services : List (List ℕ × ℕ)) (graph : List (List ℕ)) (flags : List Bool)
    (indexed : Indexes found names)
    (drawn : IsDrawn found (UsesService found) (ProvidesService found) services graph)
    (exactly : (j : ℕ) → IsMarked flags j ↔ LedFrom graph (places_among names roots) j) where
  led_places : (i : ℕ)
      → IsLed found names roots services graph indexed drawn i ↔ Contains (marked_places flags (length found)) i
  led_places i =
      let places = range_with_len 0 (length found) in (
        (λ (below, led). contains_filter (λ k. slice_index_or flags k false) places i
            (contains_range 0 (length found) i (omega arith) (omega arith)) ((exactly i).1 led)),
        (λ there.
            let one = from_filter (λ k. slice_index_or flags k false) places i there in
            let below = (from_range 0 (length found) i one.0).1 in
            (omega arith, (exactly i).0 one.1)),
      )

  bound_led : (i : ℕ) → Bound found roots i → IsLed found names roots services graph indexed drawn i
  bound_led i bound =
      let Led = IsLed found names roots services graph indexed drawn in
      let places = marked_places flags (length found) in
      (led_places i).1 (bound places (closed_as found roots Led (Contains places) led_places
      (led_closed found names roots services graph indexed drawn)))

  -- the marked modules are the bound ones
  pub marked_bound : (i : ℕ) → IsMarked (take (length found) flags) i ↔ Bound found roots i
  marked_bound i = (
    (λ marked. λ places closed.
        let is = (marked_front flags (length found) i).0 marked in
        led_within found names roots services graph indexed drawn (Contains places) closed i
        (is.0, (exactly i).0 is.1)),
    (λ bound.
        let is = bound_led i bound in
        (marked_front flags (length found) i).1 (is.0, (exactly i).1 is.1)),
  )

  -- a bound module is in each closed set, also in one that no list tells
  pub bound_within : (Has : ℕ → Type 0) → IsClosed found roots Has → (i : ℕ) → Bound found roots i → Has i
  bound_within Has closed i bound =
      led_within found names roots services graph indexed drawn Has closed i (bound_led i bound)
