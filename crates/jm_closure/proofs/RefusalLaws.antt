-- The refusals as the code meets them, and their order.
use Rattle.std.proofs.Common.{◌≡◌, ℕ, ◌+◌, ◌<◌, inl, inr, Bool, true, false, List, [], ◌∷◌, ◌++◌, length}
use Rattle.std.proofs.Common.{Some, None, All, AllPairs, refl, sym, ◌∙◌, ap, subst, arith, get_or}
use Rattle.std.proofs.Common.{slice_get, slice_index_or}
use Rattle.std.specs.Prelude.{filter, not, IsTrue}
use Rattle.std.specs.Str.{bytes_eq}
use Rattle.std.specs.Cmp.Lexicographic.{slice_cmp}
use Rattle.std.specs.Ordering.{is_le, is_lt, nat_cmp}
use Rattle.std.specs.declared.cmp.Ordering.{Ordering}
use Rattle.std.specs.declared.cmp.Ordering.TheVariants.{Less, Equal, Greater}
use Rattle.std.proofs.lemmas.Slice.Eq.{bytes_eq-Decides}
use Rattle.std.proofs.lemmas.Bool.{cases_lt, false≢true, false_from_ne_true}
use Rattle.std.proofs.lemmas.List.{get_or_past}
use Rattle.std.proofs.lemmas.List.Elements.{All-contains, Contains-append_cases, Contains-append_right}
use Rattle.std.proofs.lemmas.List.Kept.{AllPairs-filter}
use Rattle.std.proofs.lemmas.Option.{get_or_from_slice_get}
use Rattle.jm_bytes.proofs.Choice.{same_some}
use Rattle.jm_bytes.proofs.Members.{contains_none, contains_here, contains_cases, contains_filter, from_filter}
use Rattle.jm_bytes.proofs.Pairs.{pairs_head, pairs_tail}
use Rattle.jm_closure.specs.declared.candidate.Candidate.{Candidate}
use Rattle.jm_closure.specs.ComputedLeast.{differs}
use Rattle.jm_closure.specs.Cycles.{IsFirstOf, IsGraphOf}
use Rattle.jm_closure.specs.Graphs.{EndsWithin, HasEdge, IsMarked, OnCycle}
use Rattle.jm_closure.specs.Least.{IsLeastOf}
use Rattle.jm_closure.specs.Modules.{name_of, Leads, ReachesItself, Requires}
use Rattle.jm_closure.specs.Names.{IsOrder, Precedes}
use Rattle.jm_closure.specs.Refusals.{AreChosen, Holds, IsAcyclic, IsAtMost, IsLeast, IsOnCycle}
use Rattle.jm_closure.specs.Refusals.{IsSplit, RootsFound, SplitsAt}
use Rattle.jm_closure.proofs.LeastLaws.{at_most_itself}
use Rattle.jm_closure.proofs.NameLaws.{within_found}

-- Ways under another relation

pub leads_as : (R S : ℕ → ℕ → Type 0) → ((i j : ℕ) → R i j → S i j)
    → (i : ℕ) (places : List ℕ) (j : ℕ) → Leads R i places j → Leads S i places j
leads_as R S to i [] j same = same
leads_as R S to i (k ∷ places) j (step, rest) = (to i k step, leads_as R S to k places j rest)

pub graph_within : (found : List Candidate) (graph : List (List ℕ)) → IsGraphOf found graph → EndsWithin graph
graph_within found graph is i j edge =
    let requires = (is.exactly i j).0 edge in
    let named = requires.2 in
    let below = within_found found j named.0 named.1 in
    let size = is.size in
    omega arith

pub itself_from : (found : List Candidate) (graph : List (List ℕ)) (i : ℕ) → IsGraphOf found graph
    → OnCycle graph i → ReachesItself found i
itself_from found graph i is (j, places, edge, leads) =
    (j, places, (is.exactly i j).0 edge, leads_as (HasEdge graph) (Requires found) (λ a b. (is.exactly a b).0) j places i leads)

pub itself_to : (found : List Candidate) (graph : List (List ℕ)) (i : ℕ) → IsGraphOf found graph
    → ReachesItself found i → OnCycle graph i
itself_to found graph i is (j, places, step, leads) =
    (j, places, (is.exactly i j).1 step, leads_as (Requires found) (HasEdge graph) (λ a b. (is.exactly a b).1) j places i leads)

-- 3: cycles

pub acyclic : (found : List Candidate) (graph : List (List ℕ)) (order : List ℕ) (flags : List Bool)
    → IsGraphOf found graph → IsOrder found order
    → IsFirstOf (λ i. IsMarked flags i × OnCycle graph i) order None
    → IsAcyclic found (IsMarked flags)
acyclic found graph order flags is ordered none name (i, marked, named, itself) =
    All-contains (λ j. ¬ (IsMarked flags j × OnCycle graph j)) order i none
    (ordered.each i (within_found found i named.0 named.1)) (marked, itself_to found graph i is itself)

less_at_most : (a b : List ℕ) → IsTrue (is_lt (slice_cmp nat_cmp a b)) → IsAtMost a b
less_at_most a b less = go (slice_cmp nat_cmp a b) less
  where
    go : (o : Ordering) → is_lt o ≡ true → is_le o ≡ true
    go Less e = refl
    go Equal e = refl
    go Greater e = absurd (false≢true e)

-- the elements after one are after it in the relation
behind : (R : ℕ → ℕ → Type 0) (front rest : List ℕ) (i : ℕ) → AllPairs R (front ++ i ∷ rest) → All (R i) rest
behind R [] rest i pairs = pairs_head R i rest pairs
behind R (x ∷ front) rest i pairs = behind R front rest i (pairs_tail R x (front ++ i ∷ rest) pairs)

pub first_within : (P Q : ℕ → Type 0) (order : List ℕ) (i : ℕ) → IsFirstOf P order (Some i) → All Q order → Q i
first_within P Q order i (holds, (front, rest, is, before)) all =
    All-contains Q (front ++ i ∷ rest) i (rw is at all)
    (Contains-append_right front (i ∷ rest) i (contains_here i rest))

pub first_cycle : (found : List Candidate) (graph : List (List ℕ)) (order : List ℕ) (flags : List Bool) (place : ℕ)
    (c : Candidate) → IsGraphOf found graph → IsOrder found order
    → IsFirstOf (λ i. IsMarked flags i × OnCycle graph i) order (Some place)
    → slice_get found place ≡ Some c
    → IsLeast (IsOnCycle found (IsMarked flags)) (name_of c)
first_cycle found graph order flags place c is ordered ((marked, cycle), (front, rest, order_is, before)) at = (
  (place, marked, (c, at, refl), itself_from found graph place is cycle),
  λ other cyclic.
      let i = cyclic.0 in
      let named = cyclic.2 in
      let there = ordered.each i (within_found found i named.0 named.1) in
      elim (Contains-append_cases front (place ∷ rest) i (rw order_is at there)) [
        | inl early ↦ absurd (All-contains (λ j. ¬ (IsMarked flags j × OnCycle graph j)) front i before early
            (cyclic.1, itself_to found graph i is cyclic.3))
        | inr late ↦ elim (contains_cases place rest i late) [
          | inl same ↦
              (let one : c ≡ named.0 = same_some c named.0 (sym at ∙ ap (slice_get found) same ∙ named.1) in
              subst (IsAtMost (name_of c)) (ap name_of one ∙ named.2) (at_most_itself (name_of c)))
          | inr later ↦
              (let precedes = All-contains (Precedes found place) rest i
              (behind (Precedes found) front rest place (rw order_is at ordered.rising)) later in
              subst (IsAtMost (name_of c)) named.2
              (less_at_most (name_of c) (name_of named.0) (precedes c named.0 at named.1)))
        ]
      ],
)

-- 4: packages

-- a package that is split has a holder
pub some_holder : (found : List Candidate) (flags : List Bool) (shared : List ℕ)
    → IsSplit found (IsMarked flags) shared
    → IsLeastOf (λ name. (differs None name ≡ true) × Holds found (IsMarked flags) shared name) None → ⊥
some_holder found flags shared (name, (other, apart, first, second)) none = none name (refl, first)

-- and one of any other name than that one
pub other_holder : (found : List Candidate) (flags : List Bool) (shared but : List ℕ)
    → IsSplit found (IsMarked flags) shared
    → IsLeastOf (λ name. (differs (Some but) name ≡ true) × Holds found (IsMarked flags) shared name) None → ⊥
other_holder found flags shared but (name, (other, apart, first, second)) none = go (bytes_eq name but) refl
  where
    go : (b : Bool) → bytes_eq name but ≡ b → ⊥
    go true is =
        let same : name ≡ but = (bytes_eq-Decides name but).0 is in
        let unlike : bytes_eq other but ≡ false = false_from_ne_true (bytes_eq other but)
        (λ e. apart (same ∙ sym ((bytes_eq-Decides other but).0 e))) in
        none other (ap not unlike, second)
    go false is = none name (ap not is, first)

pub splits_at : (found : List Candidate) (flags : List Bool) (shared first second : List ℕ)
    → IsLeast (IsSplit found (IsMarked flags)) shared
    → IsLeastOf (λ name. (differs None name ≡ true) × Holds found (IsMarked flags) shared name) (Some first)
    → IsLeastOf (λ name. (differs (Some first) name ≡ true) × Holds found (IsMarked flags) shared name) (Some second)
    → SplitsAt found (IsMarked flags) shared first second
splits_at found flags shared first second least holder another = record {
  least = least;
  holder = (holder.0.1, λ other holds. holder.1 other (refl, holds));
  another = (
    ((λ same. false≢true (sym (ap not ((bytes_eq-Decides second first).1 same)) ∙ another.0.0)), another.0.1),
    λ other holds. another.1 other
        (ap not (false_from_ne_true (bytes_eq other first) (λ e. holds.0 ((bytes_eq-Decides other first).0 e))), holds.1),
  );
}

-- The chosen places

pub are_chosen : (found : List Candidate) (order : List ℕ) (flags : List Bool)
    → IsOrder found order → length flags ≡ length found
    → AreChosen found (IsMarked flags) (filter (λ i. slice_index_or flags i false) order)
are_chosen found order flags ordered size = record {
  exactly = λ i. (
    λ there. (from_filter (λ j. slice_index_or flags j false) order i there).1,
    λ marked. contains_filter (λ j. slice_index_or flags j false) order i (ordered.each i (below i marked)) marked,
  );
  rising = λ k i j a b at_i at_j is_a is_b.
      let kept = AllPairs-filter (Precedes found) (λ n. slice_index_or flags n false) order ordered.rising in
      let places = filter (λ n. slice_index_or flags n false) order in
      let inside = within_found places (k + 1) j at_j in
      let first : get_or places k 0 ≡ i = get_or_from_slice_get places k i 0 at_i in
      let second : get_or places (k + 1) 0 ≡ j = get_or_from_slice_get places (k + 1) j 0 at_j in
      (rw (first, second) at (kept k (k + 1) 0 (omega arith) inside)) a b is_a is_b;
}
  where
    below : (i : ℕ) → IsMarked flags i → i < length found
    below i marked = elim (cases_lt i (length flags)) [
      | inl inside ↦ omega arith
      | inr past ↦ absurd (false≢true (sym (get_or_past flags i false past) ∙ marked))
    ]

-- Without a root none is lost

pub no_roots : (found : List Candidate) → RootsFound found []
no_roots found name lost = contains_none name lost.0
