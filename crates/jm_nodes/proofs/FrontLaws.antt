-- The fronts of names, one name after another.
use Rattle.std.proofs.Common.{◌≡◌, ℕ, ◌+◌, ◌-◌, ◌<◌, ◌≤◌, inl, inr, Bool, true, false, cond, ◌&&◌, List, []}
use Rattle.std.proofs.Common.{◌∷◌, ◌++◌, length, map, take, get_or, Contains, refl, sym, ap, ◌∙◌, subst}
use Rattle.std.proofs.Common.{arith, slice_index_or, Bor}
use Rattle.std.specs.Prelude.{filter, nat_lt}
use Rattle.std.specs.List.{flat_map, range_with_len}
use Rattle.std.proofs.lemmas.Bool.{cases_lt, lt-ltb, ltb-true}
use Rattle.std.proofs.lemmas.List.{append_assoc, get_or-map, get_or-take, length-map, length-take-le, map-append, take-take}
use Rattle.std.proofs.lemmas.List.Elements.{filter-append, Contains-get_or, Contains-append_left}
use Rattle.std.proofs.lemmas.List.Elements.{Contains-append_right, Contains-append_cases}
use Rattle.jm_bytes.proofs.Members.{contains_cases, contains_filter, contains_here, contains_map}
use Rattle.jm_bytes.proofs.Members.{contains_none, contains_range, from_filter, from_map, from_range}
use Rattle.jm_bytes.proofs.Pairs.{range_more}
use Rattle.jm_bytes.proofs.SameOrder.{contains_flat_map, from_flat_map}
use Rattle.jm_names.specs.Names.{is_slash}
use Rattle.jm_form.specs.Trees.{fronts}
use Rattle.jm_nodes.specs.Fronts.{front_alone, fronts_between, IsKnownBelow}
use Rattle.jm_nodes.specs.Order.{SameElements}

-- a front of a name, by its length
pub record IsFrontAt (name front : List ℕ) (at : ℕ) : Type 0 where
  pub some : 0 < at
  pub within : at < length name
  pub slash : is_slash (slice_index_or name at 0) ≡ true
  pub is : front ≡ take at name

both : (a b : Bool) → a ≡ true → b ≡ true → (a && b) ≡ true
both true true p q = refl
both true false p q = q
both false b p q = p

first : (a b : Bool) → (a && b) ≡ true → a ≡ true
first true b e = refl
first false b e = e

second : (a b : Bool) → (a && b) ≡ true → b ≡ true
second true b e = e
second false true e = refl
second false false e = e

pub between_there : (start count : ℕ) (name : List ℕ) (at : ℕ) → start ≤ at → at < start + count → 0 < at
    → is_slash (slice_index_or name at 0) ≡ true → Contains (fronts_between start count name) (take at name)
between_there start count name at low high some slash =
    contains_map (λ n. take n name) _ at
    (contains_filter (λ n. nat_lt 0 n && is_slash (slice_index_or name n 0)) (range_with_len start count) at
    (contains_range start count at low high)
    (both (nat_lt 0 at) (is_slash (slice_index_or name at 0)) (lt-ltb 0 at some) slash))

pub from_between : (start count : ℕ) (name front : List ℕ) → start + count ≤ length name
    → Contains (fronts_between start count name) front → (at : ℕ) × IsFrontAt name front at
from_between start count name front fits there =
    let taken = from_map (λ n. take n name) _ front there in
    let passed = from_filter (λ n. nat_lt 0 n && is_slash (slice_index_or name n 0)) (range_with_len start count) taken.0 taken.1 in
    let place = from_range start count taken.0 passed.0 in (
      taken.0,
      record {
        some = ltb-true 0 taken.0 (first (nat_lt 0 taken.0) (is_slash (slice_index_or name taken.0 0)) passed.1);
        within = omega (arith, place.1);
        slash = second (nat_lt 0 taken.0) (is_slash (slice_index_or name taken.0 0)) passed.1;
        is = sym taken.2;
      },
    )

pub front_there : (name : List ℕ) (at : ℕ) → 0 < at → at < length name → is_slash (slice_index_or name at 0) ≡ true
    → Contains (fronts name) (take at name)
front_there name at some within slash = between_there 0 (length name) name at (omega arith) (omega arith) some slash

pub from_front : (name front : List ℕ) → Contains (fronts name) front → (at : ℕ) × IsFrontAt name front at
from_front name front there = from_between 0 (length name) name front (omega arith) there

-- one length more
pub between_more : (start count : ℕ) (name : List ℕ)
    → fronts_between start (count + 1) name ≡ fronts_between start count name ++ front_alone (start + count) name
between_more start count name =
    let test : ℕ → Bool = λ n. nat_lt 0 n && is_slash (slice_index_or name n 0) in
    ap (λ ns. map (λ n. take n name) (filter test ns)) (range_more start count)
    ∙ ap (map (λ n. take n name)) (filter-append test (range_with_len start count) ((start + count) ∷ []))
    ∙ map-append (λ n. take n name) (filter test (range_with_len start count)) (filter test ((start + count) ∷ []))
    ∙ ap (λ l. fronts_between start count name ++ l) (alone (test (start + count)))
  where
    alone : (b : Bool) → map (λ n. take n name) (cond b ((start + count) ∷ []) []) ≡ cond b (take (start + count) name ∷ []) []
    alone true = refl
    alone false = refl

pub put_next : (start at : ℕ) (name : List ℕ) (old before after : List (List ℕ)) → start ≤ at
    → before ≡ old ++ fronts_between start (at - start) name → after ≡ before ++ front_alone at name → after
    ≡ old ++ fronts_between start (at + 1 - start) name
put_next start at name old before after le was is =
    let place : start + (at - start) ≡ at = omega arith in
    let count : at - start + 1 ≡ at + 1 - start = omega arith in
    is ∙ ap (λ l. l ++ front_alone at name) was ∙ append_assoc old (fronts_between start (at - start) name) (front_alone at name)
    ∙ ap (λ n. old ++ (fronts_between start (at - start) name ++ front_alone n name)) (sym place)
    ∙ ap (λ l. old ++ l) (sym (between_more start (at - start) name)) ∙ ap (λ n. old ++ fronts_between start n name) count

-- names with the same front have the same fronts of lesser lengths
pub same_fronts : (start : ℕ) (name other : List ℕ) (known : List (List ℕ)) → start ≤ length name → start ≤ length other
    → take start name ≡ take start other
    → ((front : List ℕ) → Contains (fronts other) front → Contains known front) → IsKnownBelow start name known
same_fronts start name other known inside fits same there at some below slash =
    let byte : slice_index_or name at 0 ≡ slice_index_or other at 0 = sym (get_or-take start name at 0 below)
    ∙ ap (λ l. get_or l at 0) same ∙ get_or-take start other at 0 below in
    let front : take at name ≡ take at other = sym (take-take at start name (omega arith)) ∙ ap (take at) same
    ∙ take-take at start other (omega arith) in
    subst (Contains known) (sym front) (there (take at other) (front_there other at some (omega arith) (ap is_slash (sym byte) ∙ slash)))

-- those of the name before are known
pub before_known : (names : List (Bor (List ℕ))) (place start : ℕ) (d : Bor (List ℕ)) → 0 < place → place < length names
    → start ≤ length (get_or names place d).now → start ≤ length (get_or names (place - 1) d).now
    → take start (get_or names place d).now ≡ take start (get_or names (place - 1) d).now
    → IsKnownBelow start (get_or (map (λ name. name.now) names) place []) (flat_map fronts (take place (map (λ name. name.now) names)))
before_known names place start d some below inside fits same =
    let plain : List (List ℕ) = map (λ name. name.now) names in
    let here = get_or-map (λ (name : Bor (List ℕ)). name.now) names place d [] below in
    let there = get_or-map (λ (name : Bor (List ℕ)). name.now) names (place - 1) d [] (omega arith) in
    let long = length-map names (λ (name : Bor (List ℕ)). name.now) in
    let cut = length-take-le place plain (omega arith) in
    let other : Contains (take place plain) (get_or names (place - 1) d).now =
    subst (Contains (take place plain)) (get_or-take place plain (place - 1) [] (omega arith) ∙ there)
    (Contains-get_or (take place plain) (place - 1) [] (omega arith))
    in
    rw here
    (same_fronts start (get_or names place d).now (get_or names (place - 1) d).now (flat_map fronts (take place plain)) inside fits same
    (λ front within. contains_flat_map fronts (take place plain) (get_or names (place - 1) d).now front other within))

-- one name more
pub fronts_next : (done : List (List ℕ)) (name : List ℕ) (start : ℕ) (listed : List (List ℕ)) → start ≤ length name
    → SameElements (flat_map fronts done) listed → IsKnownBelow start name (flat_map fronts done)
    → SameElements (flat_map fronts (done ++ name ∷ [])) (listed ++ fronts_between start (length name - start) name)
fronts_next done name start listed inside same known = record {
  has = λ front there.
      let from = from_flat_map fronts (done ++ name ∷ []) front there in
      elim (Contains-append_cases done (name ∷ []) from.0 from.1) [
        | inl before ↦ Contains-append_left listed more front (same.has front (contains_flat_map fronts done from.0 front before from.2))
        | inr last ↦
            elim (contains_cases name [] from.0 last) [
              | inl is ↦ of_name front (subst (λ n. Contains (fronts n) front) (sym is) from.2)
              | inr none ↦ absurd (contains_none from.0 none)
            ]
      ];
  only = λ front there.
      elim (Contains-append_cases listed more front there) [
        | inl before ↦
            let from = from_flat_map fronts done front (same.only front before) in
            contains_flat_map fronts (done ++ name ∷ []) from.0 front (Contains-append_left done (name ∷ []) from.0 from.1) from.2
        | inr new ↦
            let at = from_between start (length name - start) name front (omega arith) new in
            contains_flat_map fronts (done ++ name ∷ []) name front (Contains-append_right done (name ∷ []) name (contains_here name []))
            (subst (Contains (fronts name)) (sym at.1.is) (front_there name at.0 at.1.some at.1.within at.1.slash))
      ];
}
  where
    more : List (List ℕ)
    more = fronts_between start (length name - start) name

    of_name : (front : List ℕ) → Contains (fronts name) front → Contains (listed ++ more) front
    of_name front there =
        let at = from_front name front there in
        subst (Contains (listed ++ more)) (sym at.1.is)
        (elim (cases_lt at.0 start) [
          | inl below ↦ Contains-append_left listed more (take at.0 name) (same.has (take at.0 name) (known at.0 at.1.some below
              at.1.slash))
          | inr behind ↦ Contains-append_right listed more (take at.0 name) (between_there start (length name - start) name at.0
              behind (omega (arith, at.1.within)) at.1.some at.1.slash)
        ])
