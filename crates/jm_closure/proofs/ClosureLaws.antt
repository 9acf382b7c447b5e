-- The graph of what is required, what its roots lead to, and the same refusals of the same modules.
use Rattle.std.proofs.Common.{◌≡◌, ◌≢◌, ℕ, zero, suc, ◌<◌, ◌↔◌, inl, inr, Bool, List, [], ◌∷◌, length, Some}
use Rattle.std.proofs.Common.{Ok, Err, Result, All, Contains, refl, ◌∙◌, ap, arith, slice_get}
use Rattle.std.proofs.lemmas.Bool.{cases_lt}
use Rattle.std.proofs.lemmas.List.{length-map, get_or_past, get_or-map}
use Rattle.std.proofs.lemmas.Option.{get_or_from_slice_get}
use Rattle.jm_bytes.specs.Results.{IfAnswered}
use Rattle.jm_bytes.specs.declared.faults.Or.{Or}
use Rattle.jm_bytes.specs.declared.faults.Or.TheVariants.{Fault, Memory}
use Rattle.jm_bytes.proofs.Members.{all_from_contains, contains_none, contains_filter_map, from_filter_map}
use Rattle.jm_closure.specs.declared.candidate.Candidate.{Candidate}
use Rattle.jm_closure.specs.declared.fault.CloseFault.{CloseFault}
use Rattle.jm_closure.specs.declared.fault.CloseFault.TheVariants as fault
use Rattle.jm_closure.specs.Cycles.{IsGraphOf}
use Rattle.jm_closure.specs.Graphs.{ends_at, HasEdge, IsMarked, LedFrom}
use Rattle.jm_closure.specs.Modules.{required_by, HasName, Reached, Requires}
use Rattle.jm_closure.specs.Names.{edges_of, places_among, Indexes}
use Rattle.jm_closure.specs.Places.{place_in}
use Rattle.jm_closure.specs.Refusals.{Closes, Holds, IsLacking, IsLeast, IsOnCycle, IsSplit, Lacks, RootsFound}
use Rattle.jm_closure.proofs.NameLaws.{within_found}
use Rattle.jm_closure.proofs.RefusalLaws.{leads_as}

-- the places among some names are those of the modules of these names
pub among_from : (found : List Candidate) (names : List (List ℕ × ℕ)) (texts : List (List ℕ)) (i : ℕ)
    → Indexes found names → Contains (places_among names texts) i
    → (name : List ℕ) × Contains texts name × HasName found i name
among_from found names texts i indexed there =
    let one = from_filter_map (place_in names) texts i there in
    (one.0, one.1, (indexed one.0 i).0 one.2)

pub among_to : (found : List Candidate) (names : List (List ℕ × ℕ)) (texts : List (List ℕ)) (i : ℕ) (name : List ℕ)
    → Indexes found names → Contains texts name → HasName found i name → Contains (places_among names texts) i
among_to found names texts i name indexed there has =
    contains_filter_map (place_in names) texts name i there ((indexed name i).1 has)

pub among_within : (found : List Candidate) (names : List (List ℕ × ℕ)) (texts : List (List ℕ))
    → Indexes found names → All (λ i. i < length found) (places_among names texts)
among_within found names texts indexed =
    all_from_contains (λ i. i < length found) (places_among names texts) (λ i there.
    let one = among_from found names texts i indexed there in
    within_found found i one.2.0 one.2.1)

-- the edges of a module lead to the modules that it requires

pub graph_of : (found : List Candidate) (names : List (List ℕ × ℕ)) → Indexes found names
    → IsGraphOf found (edges_of names found)
graph_of found names indexed = record {
  size = length-map found (λ (c : Candidate). places_among names (required_by c));
  exactly = λ i j. (from i j, to i j);
}
  where
    ends : (i : ℕ) (c : Candidate) → slice_get found i ≡ Some c
        → ends_at (edges_of names found) i ≡ places_among names (required_by c)
    ends i c is =
        get_or-map (λ (m : Candidate). places_among names (required_by m)) found i c [] (within_found found i c is)
        ∙ ap (λ (m : Candidate). places_among names (required_by m)) (get_or_from_slice_get found i c c is)

    to : (i j : ℕ) → Requires found i j → HasEdge (edges_of names found) i j
    to i j (name, (c, is, required), has) =
        rw (ends i c is) (among_to found names (required_by c) j name indexed required has)

    from : (i j : ℕ) → HasEdge (edges_of names found) i j → Requires found i j
    from i j edge = elim (cases_lt i (length found)) [
      | inl below ↦ at found i below (λ c is.
          let one = among_from found names (required_by c) j indexed (rw (ends i c is) at edge) in
          (one.0, (c, is, one.1), one.2))
      | inr past ↦ absurd
          (contains_none j
          (rw (get_or_past (edges_of names found) i []
          (rw (length-map found (λ (c : Candidate). places_among names (required_by c))) past)) at edge))
    ]
      where
        at : (ms : List Candidate) (i : ℕ) → i < length ms → {P : Type 0}
            → ((c : Candidate) → slice_get ms i ≡ Some c → P) → P
        at [] i below given = absurd (omega arith)
        at (m ∷ ms) zero below given = given m refl
        at (m ∷ ms) (suc i) below given = at ms i (omega arith) given

-- what the roots' places lead to is what is reached
pub led_reached : (found : List Candidate) (names : List (List ℕ × ℕ)) (roots : List (List ℕ)) (j : ℕ)
    → Indexes found names
    → LedFrom (edges_of names found) (places_among names roots) j ↔ Reached found roots j
led_reached found names roots j indexed = (
  (λ led.
      let root = among_from found names roots led.0 indexed led.2 in (
        led.0,
        led.1,
        (root.0, root.1, root.2),
        leads_as (HasEdge (edges_of names found)) (Requires found) (λ a b. ((graph_of found names indexed).exactly a b).0) led.0
            led.1 j led.3,
      )),
  (λ reached.
      let root = reached.2 in (
        reached.0,
        reached.1,
        among_to found names roots reached.0 root.0 indexed root.1 root.2,
        leads_as (Requires found) (HasEdge (edges_of names found)) (λ a b. ((graph_of found names indexed).exactly a b).1) reached.0
            reached.1 j reached.3,
      )),
)

pub marked_reached : (found : List Candidate) (names : List (List ℕ × ℕ)) (roots : List (List ℕ))
    (graph : List (List ℕ)) (starts : List ℕ) (flags : List Bool)
    → Indexes found names → graph ≡ edges_of names found → starts ≡ places_among names roots
    → ((j : ℕ) → IsMarked flags j ↔ LedFrom graph starts j)
    → (j : ℕ) → IsMarked flags j ↔ Reached found roots j
marked_reached found names roots graph starts flags indexed graph_is starts_are exactly j =
    let law = led_reached found names roots j indexed in
    let marks = rw (graph_is, starts_are) at (exactly j) in
    ((λ marked. law.0 (marks.0 marked)), (λ reached. marks.1 (law.1 reached)))

-- Refusals of the same modules, said in other words

least_as : (P Q : List ℕ → Type 0) (text : List ℕ) → ((t : List ℕ) → P t → Q t) → ((t : List ℕ) → Q t → P t)
    → IsLeast P text → IsLeast Q text
least_as P Q text to from (is, least) = (to text is, λ other holds. least other (from other holds))

module _ (found : List Candidate) (C D : ℕ → Type 0) (to : (i : ℕ) → C i → D i) where
  lacks_as : (name by : List ℕ) → Lacks found C name by → Lacks found D name by
  lacks_as name by (i, chosen, named, required, missing) = (i, to i chosen, named, required, missing)

  lacking_as : (name : List ℕ) → IsLacking found C name → IsLacking found D name
  lacking_as name (by, lacks) = (by, lacks_as name by lacks)

  cycle_as : (name : List ℕ) → IsOnCycle found C name → IsOnCycle found D name
  cycle_as name (i, chosen, named, itself) = (i, to i chosen, named, itself)

  holds_as : (shared name : List ℕ) → Holds found C shared name → Holds found D shared name
  holds_as shared name (i, chosen, named, has) = (i, to i chosen, named, has)

  split_as : (shared : List ℕ) → IsSplit found C shared → IsSplit found D shared
  split_as shared (name, (other, apart, first, second)) =
      (name, (other, apart, holds_as shared name first, holds_as shared other second))

closes_as : (found : List Candidate) (roots : List (List ℕ)) (C D : ℕ → Type 0)
    (result : Result (List ℕ) CloseFault) → RootsFound found roots
    → ((i : ℕ) → C i ↔ D i) → Closes found [] C result → Closes found roots D result
closes_as found roots C D (Ok places) have same (none, needs, acyclic, unsplit, chosen) = (
  have,
  (λ name lacking. needs name (lacking_as found D C (λ i. (same i).1) name lacking)),
  (λ name cycle. acyclic name (cycle_as found D C (λ i. (same i).1) name cycle)),
  (λ name split. unsplit name (split_as found D C (λ i. (same i).1) name split)),
  record {
    exactly = λ i. ((λ there. (same i).0 ((chosen.exactly i).0 there)), (λ is. (chosen.exactly i).1 ((same i).1 is)));
    rising = chosen.rising;
  },
)
closes_as found roots C D (Err (fault.NoRoot name)) have same lost = absurd (contains_none name lost.0.0)
closes_as found roots C D (Err (fault.Missing name by)) have same (none, lacking, lacks) = (
  have,
  least_as (IsLacking found C) (IsLacking found D) name (lacking_as found C D (λ i. (same i).0))
      (lacking_as found D C (λ i. (same i).1)) lacking,
  least_as (Lacks found C name) (Lacks found D name) by (lacks_as found C D (λ i. (same i).0) name)
      (lacks_as found D C (λ i. (same i).1) name) lacks,
)
closes_as found roots C D (Err (fault.Cycle name)) have same (none, needs, cycle) = (
  have,
  (λ text lacking. needs text (lacking_as found D C (λ i. (same i).1) text lacking)),
  least_as (IsOnCycle found C) (IsOnCycle found D) name (cycle_as found C D (λ i. (same i).0)) (cycle_as found D C (λ i. (same i).1)) cycle,
)
closes_as found roots C D (Err (fault.SplitPackage shared first second)) have same (none, needs, acyclic, split) = (
  have,
  (λ text lacking. needs text (lacking_as found D C (λ i. (same i).1) text lacking)),
  (λ text cycle. acyclic text (cycle_as found D C (λ i. (same i).1) text cycle)),
  record {
    least = least_as (IsSplit found C) (IsSplit found D) shared (split_as found C D (λ i. (same i).0))
        (split_as found D C (λ i. (same i).1)) split.least;
    holder = least_as (Holds found C shared) (Holds found D shared) first
        (holds_as found C D (λ i. (same i).0) shared) (holds_as found D C (λ i. (same i).1) shared) split.holder;
    another = least_as (λ name. (name ≢ first) × Holds found C shared name) (λ name. (name ≢ first) × Holds found D shared name) second
        (λ name is. (is.0, holds_as found C D (λ i. (same i).0) shared name is.1))
        (λ name is. (is.0, holds_as found D C (λ i. (same i).1) shared name is.1)) split.another;
  },
)

pub answers_as : (found : List Candidate) (roots : List (List ℕ)) (C D : ℕ → Type 0)
    (result : Result (List ℕ) (Or CloseFault)) → RootsFound found roots → ((i : ℕ) → C i ↔ D i)
    → IfAnswered (Closes found [] C) result → IfAnswered (Closes found roots D) result
answers_as found roots C D (Ok places) have same is = closes_as found roots C D (Ok places) have same is
answers_as found roots C D (Err (Fault fault)) have same is = closes_as found roots C D (Err fault) have same is
answers_as found roots C D (Err Memory) have same is = tt
