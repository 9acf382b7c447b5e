-- The places of found modules, rising by name, from their names with their places.
use Rattle.std.proofs.Common.{◌≡◌, ℕ, ◌<◌, inl, inr, true, false, List, [], ◌∷◌, length, map, Option, Some}
use Rattle.std.proofs.Common.{None, AllPairs, Contains, refl, sym, ◌∙◌, ap, subst, arith, get_or, slice_get}
use Rattle.std.specs.Prelude.{IsTrue}
use Rattle.std.specs.Str.{bytes_eq}
use Rattle.std.specs.Cmp.Lexicographic.{slice_cmp}
use Rattle.std.specs.Ordering.{is_eq, is_lt, nat_cmp}
use Rattle.std.specs.declared.cmp.Ordering.{Ordering}
use Rattle.std.specs.declared.cmp.Ordering.TheVariants.{Less, Equal, Greater}
use Rattle.std.proofs.lemmas.Map.Text.{is_eq-slice_cmp}
use Rattle.std.proofs.lemmas.Slice.Eq.{bytes_eq-Decides}
use Rattle.std.proofs.lemmas.Bool.{false≢true, false_from_ne_true}
use Rattle.std.proofs.lemmas.List.{get_or_default}
use Rattle.std.proofs.lemmas.List.Elements.{All-contains}
use Rattle.std.proofs.lemmas.Option.{slice_get-get_or}
use Rattle.jm_bytes.proofs.Choice.{chosen, same_some}
use Rattle.jm_bytes.proofs.Members.{all_from_contains, contains_none, contains_here, contains_later, contains_cases, contains_map, from_map}
use Rattle.jm_bytes.proofs.Pairs.{pairs_head, pairs_tail, pairs_map}
use Rattle.jm_closure.specs.declared.candidate.Candidate.{Candidate}
use Rattle.jm_closure.specs.Modules.{name_of, HasName}
use Rattle.jm_closure.specs.Names.{Indexes, IsOrder, Precedes}
use Rattle.jm_closure.specs.Places.{place_in, AreRising}
use Rattle.jm_closure.proofs.NameLaws.{within_found}

-- a text's place stands beside it
pub placed_there : (pairs : List (List ℕ × ℕ)) (text : List ℕ) (i : ℕ) → place_in pairs text ≡ Some i
    → Contains pairs (text, i)
placed_there [] text i is = absurd (no is)
  where
    no : ◌≡◌ {A = Option ℕ} None (Some i) → ⊥
    no e = cc
placed_there (p ∷ pairs) text i is =
    elim (chosen (bytes_eq text p.0) (Some p.1) (place_in pairs text) (Some i) is) [
      | inl (same, here) ↦
          (let named : text ≡ p.0 = (bytes_eq-Decides text p.0).0 same in
          let at : p.1 ≡ i = same_some p.1 i here in
          subst (λ k. Contains {X = List ℕ × ℕ} (p ∷ pairs) (text, k)) at
          (subst (λ t. Contains {X = List ℕ × ℕ} (p ∷ pairs) (t, p.1)) (sym named) (contains_here p pairs)))
      | inr (other, later) ↦ contains_later p pairs (text, i) (placed_there pairs text i later)
    ]

apart : (a b : List ℕ) → IsTrue (is_lt (slice_cmp nat_cmp a b)) → bytes_eq b a ≡ false
apart a b less = false_from_ne_true (bytes_eq b a) (λ same.
    let is : a ≡ b = sym ((bytes_eq-Decides b a).0 same) in
    never (slice_cmp nat_cmp a b) (is_eq-slice_cmp a b ∙ (bytes_eq-Decides a b).1 is) less)
  where
    never : (o : Ordering) → is_eq o ≡ true → is_lt o ≡ true → ⊥
    never Less e l = false≢true e
    never Equal e l = false≢true l
    never Greater e l = false≢true e

-- of rising texts each has the place beside it
pub there_placed : (pairs : List (List ℕ × ℕ)) → AreRising pairs → (p : List ℕ × ℕ) → Contains pairs p
    → place_in pairs p.0 ≡ Some p.1
there_placed [] rising p there = absurd (contains_none p there)
there_placed (q ∷ pairs) rising p there = elim (contains_cases q pairs p there) [
  | inl same ↦
      (let named : bytes_eq p.0 q.0 ≡ true = (bytes_eq-Decides p.0 q.0).1 (ap (λ (x : List ℕ × ℕ). x.0) (sym same)) in
      rw named (ap (λ (x : List ℕ × ℕ). Some x.1) same))
  | inr later ↦
      (let less = All-contains (λ (x : List ℕ × ℕ). IsTrue (is_lt (slice_cmp nat_cmp q.0 x.0))) pairs p
      (pairs_head (λ x y. IsTrue (is_lt (slice_cmp nat_cmp x.0 y.0))) q pairs rising) later in
      let other : bytes_eq p.0 q.0 ≡ false = apart q.0 p.0 less in
      rw other (there_placed pairs (pairs_tail (λ x y. IsTrue (is_lt (slice_cmp nat_cmp x.0 y.0))) q pairs rising) p later))
]

pub order_of : (found : List Candidate) (pairs : List (List ℕ × ℕ)) → Indexes found pairs → AreRising pairs
    → IsOrder found (map (λ p. p.1) pairs)
order_of found pairs indexed rising = record {
  each = each;
  within = all_from_contains (λ i. i < length found) (map (λ p. p.1) pairs) within;
  rising = pairs_map (Precedes found) (λ p. p.1) pairs precede;
}
  where
    has : (p : List ℕ × ℕ) → Contains pairs p → HasName found p.1 p.0
    has p there = (indexed p.0 p.1).0 (there_placed pairs rising p there)

    within : (i : ℕ) → Contains (map (λ (p : List ℕ × ℕ). p.1) pairs) i → i < length found
    within i there =
        let one = from_map (λ (p : List ℕ × ℕ). p.1) pairs i there in
        let named = has one.0 one.1 in
        subst (λ k. k < length found) one.2 (within_found found one.0.1 named.0 named.1)

    each : (i : ℕ) → i < length found → Contains (map (λ (p : List ℕ × ℕ). p.1) pairs) i
    each i below = go found i below (λ c is. placed_there pairs (name_of c) i ((indexed (name_of c) i).1 (c, is, refl)))
      where
        go : (found : List Candidate) (i : ℕ) → i < length found
            → ((c : Candidate) → slice_get found i ≡ Some c → Contains pairs (name_of c, i))
            → Contains (map (λ (p : List ℕ × ℕ). p.1) pairs) i
        go [] i below placed = absurd (omega arith)
        go (c ∷ found) i below placed =
            contains_map (λ (p : List ℕ × ℕ). p.1) pairs (name_of (get_or (c ∷ found) i c), i)
            (placed (get_or (c ∷ found) i c) (slice_get-get_or (c ∷ found) i c below))

    precede : AllPairs (λ (p q : List ℕ × ℕ). Precedes found p.1 q.1) pairs
    precede i j d before below a b is_a is_b =
        let first = has (get_or pairs i d) (i, omega arith, get_or_default pairs i (get_or pairs i d) d (omega arith)) in
        let second = has (get_or pairs j d) (j, below, get_or_default pairs j (get_or pairs j d) d below) in
        let name_a : name_of a ≡ (get_or pairs i d).0 = ap name_of (same_some a first.0 (sym is_a ∙ first.1)) ∙ first.2 in
        let name_b : name_of b ≡ (get_or pairs j d).0 = ap name_of (same_some b second.0 (sym is_b ∙ second.1)) ∙ second.2 in
        rw (name_a, name_b) (rising i j d before below)
