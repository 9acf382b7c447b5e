-- The resources of a layout, which stand by module and then by path, stand so in its file; and pairs are
-- theirs again in the order of their names.
use Rattle.std.proofs.Common.{◌≡◌, ◌≢◌, ℕ, ◌+◌, ◌≤◌, inl, inr, Bool, true, false, not, List, [], ◌∷◌, ◌++◌, map}
use Rattle.std.proofs.Common.{get_or, AllPairs, Contains, IsPermutation, refl, sym, ap, ◌∙◌, subst, arith}
use Rattle.std.proofs.lemmas.Bool.{cases_order, false_from_ne_true, true≢false}
use Rattle.std.proofs.lemmas.List.Elements.{All-contains}
use Rattle.std.proofs.lemmas.List.Kept.{AllPairs-filter}
use Rattle.std.proofs.lemmas.List.Sorted.{IsPermutation-map}
use Rattle.std.proofs.lemmas.Slice.Eq.{bytes_eq-Decides}
use Rattle.std.specs.Cmp.{nat_cmp_is}
use Rattle.std.specs.Cmp.Lexicographic.{slice_cmp}
use Rattle.std.specs.List.{filter}
use Rattle.std.specs.Ordering.{bool_cmp, is_lt, nat_cmp, ordering_reverse, ordering_then}
use Rattle.std.specs.Prelude.{nat_lt}
use Rattle.std.specs.Str.{bytes_eq}
use Rattle.std.specs.declared.cmp.Ordering.{Ordering}
use Rattle.std.specs.declared.cmp.Ordering.TheVariants.{Less, Equal}
use Rattle.jm_bytes.proofs.ByteOrderLaws.{before_less, cmp_self}
use Rattle.jm_bytes.proofs.Members.{contains_cases, contains_filter, contains_here, contains_later, contains_none, from_filter}
use Rattle.jm_bytes.proofs.Pairs.{pairs_among, pairs_head, pairs_map, pairs_tail}
use Rattle.jm_bytes.proofs.SameOrder.{mapped_twice, same_order}
use Rattle.jm_bytes.specs.declared.words.Order.{Order}
use Rattle.jm_filed.specs.declared.file_order.PlacedName.{PlacedName}
use Rattle.jm_filed.specs.FileOrder.{file_order, in_file_order, name_cmp, placed_among, placed_name}
use Rattle.jm_filed.proofs.FileOrderLaws.{file_total, names_sorted, placed_differ}
use Rattle.jm_filed.proofs.FileOrderLaws as filed
use Rattle.jm_form.specs.Entries.{Entry}
use Rattle.jm_form.specs.Layout.{Written, names_of}
use Rattle.jm_form.specs.Trees.{module_of, path_of}
use Rattle.jm_link.proofs.FileOrder.{IsFirst}
use Rattle.jm_nodes.proofs.OrderLaws.{pairs_unmapped}
use Rattle.jm_plugins.specs.Matching.{kept}
use Rattle.jm_reader.specs.Walk.{entries_of, entries_with}
use Rattle.jm_writer.proofs.ImageValid.{pair_of}
use Rattle.jm_writer.proofs.LaidRows.{HoldsResources}

-- The order of names

names_less : (n m : List ℕ) → IsFirst n m → name_cmp n m ≡ Less
names_less n m (inl before) =
    ap (λ o. ordering_then o (ordering_then (slice_cmp nat_cmp (path_of n) (path_of m)) (slice_cmp nat_cmp n m)))
    (before_less (module_of n) (module_of m) before)
names_less n m (inr (same, before)) =
    let modules : slice_cmp nat_cmp (module_of n) (module_of m) ≡ Equal =
    ap (slice_cmp nat_cmp (module_of n)) (sym same) ∙ cmp_self (module_of n) in
    ap (λ o. ordering_then o (ordering_then (slice_cmp nat_cmp (path_of n) (path_of m)) (slice_cmp nat_cmp n m))) modules
    ∙ ap (λ o. ordering_then o (slice_cmp nat_cmp n m)) (before_less (path_of n) (path_of m) before)

-- a content that ends where the other begins, or before it: where both begin at one place it is empty
placed_less : (p q : PlacedName) → p.offset + p.size ≤ q.offset → IsFirst p.name q.name → filed.Before p q
placed_less p q apart first =
    elim (cases_order p.offset q.offset) [
      | inl same ↦
          let empty : p.size ≡ 0 = omega arith in
          ap (λ o. ordering_then (ordering_then o (bool_cmp (nat_lt 0 p.size) (nat_lt 0 q.size))) names)
          (sym (nat_cmp_is p.offset q.offset Equal same))
          ∙ ap (λ n. ordering_then (bool_cmp (nat_lt 0 n) (nat_lt 0 q.size)) names) empty ∙ then_names (nat_lt 0 q.size)
      | inr (inl less) ↦ ap (λ o. ordering_then (ordering_then o (bool_cmp (nat_lt 0 p.size) (nat_lt 0 q.size))) names)
          (sym (nat_cmp_is p.offset q.offset Less less))
      | inr (inr more) ↦ absurd (omega arith)
    ]
  where
    names : Ordering
    names = name_cmp p.name q.name

    then_names : (some : Bool) → ordering_then (bool_cmp false some) names ≡ Less
    then_names true = refl
    then_names false = names_less p.name q.name first

-- names that differ, in the order of the file
placed_in_order : (ps us : List PlacedName) → AllPairs filed.Apart ps → IsPermutation ps us → AllPairs filed.Before us
    → us ≡ in_file_order ps
placed_in_order ps us apart moved rises =
    names_sorted ps us apart moved
    (λ k d low inside.
    ap is_lt (file_total.antisymm (get_or us (k + 1) d) (get_or us k d)
    ∙ ap ordering_reverse (rises k (k + 1) d (omega arith) inside)))

-- The file of a layout

abbrev pub AreFirst : Written → Written → Type 0
AreFirst e f = IsFirst e.0 f.0

-- resources that stand by module and then by path stand in the file in their order
pub layout_order : (order : Order) (resources : List Written) (b : List ℕ) → HoldsResources order resources b → AllPairs AreFirst resources
    → file_order b ≡ names_of resources
layout_order order resources b holds rises =
    ap (map (λ p. p.name)) (sym (placed_in_order (placed_among (entries_of b)) (map placed_name es) (placed_differ b) moved placed))
    ∙ mapped_twice (λ p. p.name) placed_name es ∙ sym (mapped_twice (λ r. r.0) pair_of es) ∙ ap names_of holds.hold.pairs
  where
    es : List Entry
    es = holds.found

    moved : IsPermutation (placed_among (entries_of b)) (map placed_name es)
    moved =
        subst (λ all. IsPermutation (placed_among all) (map placed_name es)) (sym (ap (entries_with b) holds.read))
        (IsPermutation-map placed_name _ es holds.moved)

    first : AllPairs (λ (e f : Entry). IsFirst e.name f.name) es
    first = pairs_unmapped AreFirst pair_of es (subst (AllPairs AreFirst) (sym holds.hold.pairs) rises)

    placed : AllPairs filed.Before (map placed_name es)
    placed =
        pairs_map filed.Before placed_name es
        (λ i j d before inside.
        placed_less (placed_name (get_or es i d)) (placed_name (get_or es j d)) (holds.hold.places i j d before inside)
        (first i j d before inside))

-- Pairs of these names, in that order

abbrev pub NamesDiffer : List Written → Type 0
NamesDiffer rs = AllPairs (λ (e f : Written). e.0 ≢ f.0) rs

module _ (r : Written) (rs pairs : List Written) (apart : NamesDiffer (r ∷ rs)) (differ : NamesDiffer pairs)
    (to : (p : Written) → Contains pairs p → Contains (r ∷ rs) p) (from : (p : Written) → Contains (r ∷ rs) p → Contains pairs p) where
  abbrev called : Written → Bool
  called p = bytes_eq r.0 p.0

  is_called : (p : Written) → called p ≡ true → r.0 ≡ p.0
  is_called p is = (bytes_eq-Decides r.0 p.0).0 is

  others : (p : Written) → Contains rs p → called p ≡ false
  others p there =
      false_from_ne_true (called p)
      (λ is. All-contains (λ (f : Written). r.0 ≢ f.0) rs p (pairs_head (λ (e f : Written). e.0 ≢ f.0) r rs apart) there (is_called p is))

  -- the one that has the first name
  one : filter called pairs ≡ r ∷ []
  one =
      same_order (λ e f. ⊥) (λ e f no back. no) (filter called pairs) (r ∷ []) alone
      (λ i j d before inside. absurd (omega arith)) forth back
    where
      alone : AllPairs (λ (e f : Written). ⊥) (filter called pairs)
      alone =
          pairs_among (λ (e f : Written). e.0 ≢ f.0) (λ e f. ⊥) (filter called pairs)
          (λ e f there too other.
          other (sym (is_called e (from_filter called pairs e there).1) ∙ is_called f (from_filter called pairs f too).1))
          (AllPairs-filter (λ (e f : Written). e.0 ≢ f.0) called pairs differ)

      forth : (p : Written) → Contains (filter called pairs) p → Contains (r ∷ []) p
      forth p there =
          let (inside, is) = from_filter called pairs p there in
          elim (contains_cases r rs p (to p inside)) [
            | inl same ↦ subst (Contains (r ∷ [])) same (contains_here r [])
            | inr later ↦ absurd (true≢false (sym is ∙ others p later))
          ]

      back : (p : Written) → Contains (r ∷ []) p → Contains (filter called pairs) p
      back p there =
          elim (contains_cases r [] p there) [
            | inl same ↦ subst (Contains (filter called pairs)) same
                (contains_filter called pairs r (from r (contains_here r rs)) ((bytes_eq-Decides r.0 r.0).1 refl))
            | inr none ↦ absurd (contains_none p none)
          ]

  abbrev left : List Written
  left = filter (λ p. not (called p)) pairs

  left_to : (p : Written) → Contains left p → Contains rs p
  left_to p there =
      let (inside, is) = from_filter (λ q. not (called q)) pairs p there in
      elim (contains_cases r rs p (to p inside)) [
        | inl same ↦ absurd (true≢false (sym is ∙ ap not ((bytes_eq-Decides r.0 p.0).1 (ap (λ (q : Written). q.0) same))))
        | inr later ↦ later
      ]

  left_from : (p : Written) → Contains rs p → Contains left p
  left_from p there =
      contains_filter (λ q. not (called q)) pairs p (from p (contains_later r rs p there)) (ap not (others p there))

-- the same pairs are put in the order of their names
pub kept_back : (rs pairs : List Written) → NamesDiffer rs → NamesDiffer pairs → ((p : Written) → Contains pairs p → Contains rs p)
    → ((p : Written) → Contains rs p → Contains pairs p) → kept (names_of rs) pairs ≡ rs
kept_back [] [] apart differ to from = refl
kept_back [] (p ∷ pairs) apart differ to from = absurd (contains_none p (to p (contains_here p pairs)))
kept_back (r ∷ rs) pairs apart differ to from =
    let rest = left r rs pairs apart differ to from in
    ap (λ ps. ps ++ kept (names_of rs) rest) (one r rs pairs apart differ to from)
    ∙ ap (λ ps. r ∷ ps)
    (kept_back rs rest (pairs_tail (λ (e f : Written). e.0 ≢ f.0) r rs apart)
    (AllPairs-filter (λ (e f : Written). e.0 ≢ f.0) (λ p. not (bytes_eq r.0 p.0)) pairs differ)
    (left_to r rs pairs apart differ to from) (left_from r rs pairs apart differ to from))
