-- The modules of a closure by themselves are the closure of their names: nothing is refused, and
-- all of them are taken. They may have lost packages.
use Rattle.std.proofs.Common.{◌≡◌, ◌<◌, ◌+◌, inl, inr, ℕ, zero, suc, Bool, true, false, List, [], ◌∷◌, ◌++◌}
use Rattle.std.proofs.Common.{length, map, get_or, AllPairs, Contains, Some, slice_get, Ok, refl, sym, ap}
use Rattle.std.proofs.Common.{subst, ◌∙◌, arith}
use Rattle.std.proofs.lemmas.Bool.{cases_order}
use Rattle.std.proofs.lemmas.List.FromFn.{get_or-range_with_len, length-range_with_len}
use Rattle.std.proofs.lemmas.Option.{slice_get-get_or, slice_get-map}
use Rattle.std.specs.Cmp.Lexicographic.{slice_cmp}
use Rattle.std.specs.List.{filter_map, range_with_len}
use Rattle.std.specs.Ordering.{is_lt, nat_cmp}
use Rattle.std.specs.declared.cmp.Ordering.TheVariants.{Less}
use Rattle.jm_bytes.proofs.ByteOrderLaws.{before_apart}
use Rattle.jm_bytes.proofs.Choice.{same_some}
use Rattle.jm_bytes.proofs.Members.{contains_cases, contains_filter_map, contains_here, contains_later}
use Rattle.jm_bytes.proofs.Members.{contains_map, contains_none, contains_range, from_map, from_range}
use Rattle.jm_bytes.proofs.Pairs.{pairs_filter_map, pairs_map, pairs_weaker}
use Rattle.jm_closure.specs.declared.candidate.Candidate.{Candidate}
use Rattle.jm_closure.proofs.ReachLaws.{leads_more}
use Rattle.jm_closure.specs.Modules.{HasName, IsFound, IsRoot, Leads, Requires, name_of, needed_by, required_by}
use Rattle.jm_closure.specs.Refusals.{AreChosen, Closes, Holds, IsAcyclic, IsUnsplit, NeedsFound, RootsFound}
use Rattle.jm_bytes.proofs.Choice.{mapped_some}
use Rattle.jm_link.specs.Chosen.{Chosen}
use Rattle.jm_link.proofs.ChosenLaws.{chosen_below, places_by_name}
use Rattle.jm_modset.proofs.ItemLaws.{got}
use Rattle.jm_modset.proofs.SetLaws.{pairs_at, place_of}
use Rattle.jm_relink.proofs.AskedLaws.{Before}
use Rattle.jm_bytes.proofs.Members.{element_at}
use Rattle.std.proofs.lemmas.Option.{slice_get_within}

-- Places

-- an item at a place among those that some places give
pub at_place : {X : Type 0} (xs : List X) (places : List ℕ) → ((i : ℕ) → Contains places i → i < length xs) → (k : ℕ) (x : X)
    → slice_get (filter_map (slice_get xs) places) k ≡ Some x → (i : ℕ) × (slice_get places k ≡ Some i) × (slice_get xs i ≡ Some x)
at_place xs [] inside k x is = cc
at_place {X = X} xs (p ∷ places) inside k x is = go k (rw held.1 at is) (λ l later. at_place xs places
    (λ i among. inside i (contains_later p places i among)) l x later)
  where
    held : (y : X) × (slice_get xs p ≡ Some y)
    held = element_at xs p (inside p (contains_here p places))

    go : (k : ℕ) → slice_get (held.0 ∷ filter_map (slice_get xs) places) k ≡ Some x
        → ((l : ℕ) → slice_get (filter_map (slice_get xs) places) l ≡ Some x → (i : ℕ) × (slice_get places l ≡ Some i)
        × (slice_get xs i ≡ Some x)) → (i : ℕ) × (slice_get (p ∷ places) k ≡ Some i) × (slice_get xs i ≡ Some x)
    go zero first behind = (p, refl, held.1 ∙ first)
    go (suc k) later behind = behind k later

range_at : (n k i : ℕ) → slice_get (range_with_len 0 n) k ≡ Some i → i ≡ k
range_at n k i is =
    let inside = slice_get_within (range_with_len 0 n) k i is in
    let long = length-range_with_len 0 n in
    same_some i k (sym is ∙ slice_get-get_or (range_with_len 0 n) k 0 inside
    ∙ ap Some (get_or-range_with_len 0 n k 0 (omega (arith, inside, long)) ∙ omega arith))

-- What follows from a chosen module is chosen
pub chosen_further : (bind : Bool) (found : List Candidate) (roots : List (List ℕ)) (i j : ℕ) → Chosen bind found roots i
    → Requires found i j → Chosen bind found roots j
chosen_further true found roots i j bound requires = λ places closed. closed.required i j (bound places closed) requires
chosen_further false found roots i j (from, places, root, leads) requires =
    (from, places ++ j ∷ [], root, leads_more (Requires found) from places i j leads requires)

-- a root is chosen
pub root_chosen : (bind : Bool) (found : List Candidate) (roots : List (List ℕ)) (i : ℕ) → IsRoot found roots i → Chosen bind found roots i
root_chosen true found roots i root = λ places closed. closed.rooted i root
root_chosen false found roots i root = (i, [], root, refl)

module _ (found : List Candidate) (Taken : ℕ → Type 0) (places : List ℕ) (chosen : AreChosen found Taken places) (inside : (i : ℕ)
    → Contains places i → i < length found) where
  abbrev pub taken : List Candidate
  taken = filter_map (slice_get found) places

  pub taken_rise : AllPairs Before taken
  taken_rise =
      pairs_filter_map (λ i j. (a b : Candidate) → slice_get found i ≡ Some a → slice_get found j ≡ Some b
      → slice_cmp nat_cmp (name_of a) (name_of b) ≡ Less) Before (slice_get found)
      (λ i j less a b one other. ap is_lt (less a b one other)) places (places_by_name found Taken places chosen inside)

  module _ (again : Candidate → Candidate) (same : (c : Candidate) → (again c).descriptor ≡ c.descriptor) (fewer : (c : Candidate)
      → Contains taken c → (shared : List ℕ) → Contains (again c).packages shared → Contains c.packages shared) where
    abbrev pub found_again : List Candidate
    found_again = map again taken

    name_same : (c : Candidate) → name_of (again c) ≡ name_of c
    name_same c = ap (λ d. d.name) (same c)

    -- the module that was taken
    record WasTaken (k : ℕ) (c : Candidate) : Type 0 where
      place : ℕ
      candidate : Candidate
      at : slice_get places k ≡ Some place
      is : slice_get found place ≡ Some candidate
      among : Contains taken candidate
      here : again candidate ≡ c
      closed : Taken place

    was : (k : ℕ) (c : Candidate) → slice_get found_again k ≡ Some c → WasTaken k c
    was k c at =
        let one = mapped_some again (slice_get taken k) c (sym (slice_get-map again taken k) ∙ at) in
        let held = at_place found places inside k one.0 one.1 in
        let among = got places k held.0 held.1 in
        record {
          place = held.0;
          candidate = one.0;
          at = held.1;
          is = held.2;
          among = got taken k one.0 one.1;
          here = one.2;
          closed = (chosen.exactly held.0).0 among;
        }

    found_there : (c : Candidate) → Contains taken c → IsFound found_again (name_of c)
    found_there c among = subst (Contains (map name_of found_again)) (name_same c) (contains_map name_of found_again (again c)
        (contains_map again taken c among))

    requires_same : (k : ℕ) (c : Candidate) (w : WasTaken k c) (name : List ℕ) → Contains (required_by c) name
        → Contains (required_by w.candidate) name
    requires_same k c w name has =
        subst (λ d. Contains (needed_by d.needs) name) (same w.candidate) (subst (λ e. Contains (required_by e) name) (sym w.here) has)

    named_same : (k : ℕ) (c : Candidate) (w : WasTaken k c) (name : List ℕ) → name_of c ≡ name → name_of w.candidate ≡ name
    named_same k c w name is = sym (name_same w.candidate) ∙ ap name_of w.here ∙ is

    -- a step from module to module was one
    record WasStep (k l : ℕ) : Type 0 where
      from : ℕ
      to : ℕ
      at : slice_get places k ≡ Some from
      next : slice_get places l ≡ Some to
      requires : Requires found from to

    was_step : (k l : ℕ) → Requires found_again k l → WasStep k l
    was_step k l (name, (c, at, has), (d, next, named)) =
        let one = was k c at in
        let other = was l d next in
        record {
          from = one.place;
          to = other.place;
          at = one.at;
          next = other.at;
          requires = (
            name,
            (one.candidate, one.is, requires_same k c one name has),
            (
              other.candidate,
              other.is,
              named_same l d
                  other name named,
            ),
          );
        }

    was_led : (k l : ℕ) (ks : List ℕ) → Leads (Requires found_again) k ks l → (i : ℕ) → slice_get places k ≡ Some i → (is : List ℕ)
        × (j : ℕ) × (slice_get places l ≡ Some j) × Leads (Requires found) i is j
    was_led k l [] here i at = ([], i, subst (λ m. slice_get places m ≡ Some i) here at, refl)
    was_led k l (m ∷ ks) (step, rest) i at =
        let one = was_step k m step in
        let later = was_led m l ks rest one.to one.next in
        let same : one.from ≡ i = same_some one.from i (sym one.at ∙ at) in
        (one.to ∷ later.0, later.1, later.2, (subst (λ f. Requires found f one.to) same one.requires, later.3))

    -- Nothing is refused

    module _ (Again : ℕ → Type 0) where
      pub needs_again : NeedsFound found Taken → ((i j : ℕ) → Taken i → Requires found i j → Taken j) → NeedsFound found_again Again
      needs_again needs further name (by, (k, also, named, (c, at, has), lost)) =
          let w = was k c at in
          let required = requires_same k c w name has in
          needs name (
            name_of w.candidate,
            (
              w.place,
              w.closed,
              (w.candidate, w.is, refl),
              (w.candidate, w.is, required),
              λ is_found.
                  let from = from_map name_of found name is_found in
                  let at = place_of found from.0 from.1 in
                  let taken_too = further w.place at.0 w.closed (name, (w.candidate, w.is, required), (from.0, at.1, from.2)) in
                  lost (subst (IsFound found_again) from.2 (found_there from.0 (contains_filter_map (slice_get found) places at.0
                  from.0 ((chosen.exactly at.0).1 taken_too) at.1))),
            ),
          )

      pub acyclic_again : IsAcyclic found Taken → IsAcyclic found_again Again
      acyclic_again acyclic name (k, also, (c, at, named), (l, ks, step, leads)) =
          let w = was k c at in
          let one = was_step k l step in
          let later = was_led l k ks leads one.to one.next in
          let from : one.from ≡ w.place = same_some one.from w.place (sym one.at ∙ w.at) in
          let back : later.1 ≡ w.place = same_some later.1 w.place (sym later.2 ∙ w.at) in
          acyclic (name_of w.candidate) (
            w.place,
            w.closed,
            (w.candidate, w.is, refl),
            (
              one.to,
              later.0,
              subst (λ f. Requires found f one.to) from one.requires,
              subst (Leads (Requires found) one.to
                  later.0) back later.3,
            ),
          )

      held_before : (shared name : List ℕ) → Holds found_again Again shared name → Holds found Taken shared name
      held_before shared name (k, also, (c, at, named), (d, too, has)) =
          let w = was k c at in
          let one : d ≡ again w.candidate = same_some d (again w.candidate) (sym too ∙ at ∙ ap Some (sym w.here)) in (
            w.place,
            w.closed,
            (w.candidate, w.is, named_same k c w name named),
            (
              w.candidate,
              w.is,
              fewer w.candidate w.among shared
                  (subst (λ e. Contains e.packages shared) one has),
            ),
          )

      pub unsplit_again : IsUnsplit found Taken → IsUnsplit found_again Again
      unsplit_again unsplit shared (name, (other, differ, one, two)) =
          unsplit shared (name, (other, differ, held_before shared name one, held_before shared other two))

    rise_again : AllPairs Before found_again
    rise_again =
        pairs_map Before again taken
        (pairs_weaker Before (λ c d. Before (again c) (again d)) (λ c d before. rw (name_same c, name_same d) before) taken taken_rise)

    -- a name has one place
    place_once : (k l : ℕ) (name : List ℕ) → HasName found_again k name → HasName found_again l name → k ≡ l
    place_once k l name (a, at, is) (b, too, also) =
        elim (cases_order k l) [
          | inl same ↦ same
          | inr rest ↦
              elim rest [
                | inl less ↦ absurd (before_apart (name_of a) (name_of b) (pairs_at Before found_again rise_again k l a b at too less) (is ∙ sym also))
                | inr more ↦ absurd (before_apart (name_of b) (name_of a) (pairs_at Before found_again rise_again l k b a too at more) (also ∙ sym is))
              ]
        ]

    -- a module that was taken is one of those that are found again
    pub place_again : (c : Candidate) → Contains taken c → (k : ℕ) × HasName found_again k (name_of c)
    place_again c among =
        let at = place_of found_again (again c) (contains_map again taken c among) in
        (at.0, (again c, at.1, name_same c))

    -- All are chosen

    module _ (roots : List (List ℕ)) (bind : Bool) (every : (c : Candidate) → Contains taken c → (k : ℕ)
        × Chosen bind found_again roots k × HasName found_again k (name_of c)) (only : (name : List ℕ) → Contains roots name
        → (c : Candidate) × Contains taken c × (name_of c ≡ name)) where
      abbrev Again : ℕ → Type 0
      Again = Chosen bind found_again roots

      roots_again : RootsFound found_again roots
      roots_again name (asked, lost) =
          let one = only name asked in
          lost (subst (IsFound found_again) one.2 (found_there one.0 one.1))

      all_again : (k : ℕ) → k < length found_again → Again k
      all_again k less =
          let held = element_at found_again k less in
          let w = was k held.0 held.1 in
          go w (held.0, held.1, ap name_of (sym w.here) ∙ name_same w.candidate) (every w.candidate w.among)
        where
          go : {c : Candidate} (w : WasTaken k c) → HasName found_again k (name_of w.candidate) → (l : ℕ)
              × Again l × HasName found_again l (name_of w.candidate) → Again k
          go w here (l, chosen, named) = subst Again (place_once l k (name_of w.candidate) named here) chosen

      abbrev pub all_places : List ℕ
      all_places = range_with_len 0 (length found_again)

      chosen_again : AreChosen found_again Again all_places
      chosen_again = record {
        exactly = λ i. (
          λ has. let within = from_range 0 (length found_again) i has in all_again i (omega (arith, within.1)),
          λ also. let within = chosen_below bind found_again roots i also in
              contains_range 0 (length found_again) i (omega arith) (omega (arith, within)),
        );
        rising = λ k i j a b at next one other.
            let first : i ≡ k = range_at (length found_again) k i at in
            let second : j ≡ k + 1 = range_at (length found_again) (k + 1) j next in
            pairs_at Before found_again rise_again i j a b one other (omega (arith, first, second));
      }

      pub closes_again : NeedsFound found Taken → IsAcyclic found Taken → IsUnsplit found Taken
          → ((i j : ℕ) → Taken i → Requires found i j → Taken j) → Closes found_again roots Again (Ok all_places)
      closes_again needs acyclic unsplit further = (
        roots_again,
        needs_again Again needs further,
        acyclic_again Again acyclic,
        unsplit_again Again unsplit,
        chosen_again,
      )
