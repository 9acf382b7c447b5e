-- Names that begin with the same bytes stand side by side in byte order, and none of them stands
-- before these bytes.
use Rattle.std.proofs.Common.{◌≡◌, ◌<◌, ◌≤◌, ℕ, Bool, true, false, List, [], ◌∷◌, length, map, get_or, nat_eq}
use Rattle.std.proofs.Common.{nat_lt, ◌==◌, refl, sym, ap, subst, ◌∙◌, arith}
use Rattle.std.specs.Cmp.{ranks}
use Rattle.std.specs.Cmp.Lexicographic.{slice_cmp}
use Rattle.std.specs.Ordering.{MatchOrdering, is_lt, nat_cmp, ordering_then}
use Rattle.std.specs.declared.cmp.Ordering.{Ordering}
use Rattle.std.specs.declared.cmp.Ordering.TheVariants.{Less, Equal, Greater}
use Rattle.std.specs.List.{Contains, starts_with}
use Rattle.std.specs.List.Sorted.{IsPartitionedBy, IsPartitionPoint}
use Rattle.std.proofs.lemmas.Bool.{false≢true, false_from_ne_true, and_parts, and_from, eqb-true, eqb-false, eq-eqb, ltb-true, ltb-false}
use Rattle.std.proofs.lemmas.List.{get_or-map, get_or_default, length-map}
use Rattle.jm_bytes.proofs.Members.{any_contains, contains_map, from_any, from_map}
use Rattle.jm_bytes.specs.ByteOrder.{is_before}
use Rattle.jm_bytes.proofs.ByteOrderLaws.{before_further, before_one_way}
use Rattle.jm_names.specs.ByName.{Named, RisesByName}
use Rattle.jm_extract.specs.Extracted.{begins}
use Rattle.jm_filed.specs.Taken.{name_alone}
use Rattle.jm_filed.specs.declared.taking.TakenEntry.{TakenEntry}

-- One name

-- what begins so doesn't stand before it
front_first : (front name : List ℕ) → starts_with nat_eq name front ≡ true → is_before name front ≡ false
front_first [] [] is = refl
front_first [] (b ∷ name) is = refl
front_first (a ∷ front) [] is = absurd (false≢true is)
front_first (a ∷ front) (b ∷ name) is =
    let parts = and_parts (nat_eq a b) (starts_with nat_eq name front) is in
    go (nat_cmp b a) (ranks b a) (eqb-true a b parts.0) (front_first front name parts.1)
  where
    go : (o : Ordering) → MatchOrdering o (b < a) (b ≡ a) (a < b) → a ≡ b → is_before name front ≡ false
        → is_lt (ordering_then o (slice_cmp nat_cmp name front)) ≡ false
    go Less less same rest = absurd (omega (arith, less, same))
    go Equal is same rest = rest
    go Greater more same rest = refl

-- what doesn't stand before it, nor after a name that begins so, begins so
begins_between : (front name other : List ℕ) → is_before name front ≡ false → is_before other name ≡ false
    → starts_with nat_eq other front ≡ true → starts_with nat_eq name front ≡ true
begins_between [] name other above below is = refl
begins_between (a ∷ front) [] other above below is = absurd (false≢true (sym above))
begins_between (a ∷ front) (b ∷ name) [] above below is = absurd (false≢true is)
begins_between (a ∷ front) (b ∷ name) (c ∷ other) above below is =
    let parts = and_parts (nat_eq a c) (starts_with nat_eq other front) is in
    go (nat_cmp b a) (nat_cmp c b) (ranks b a) (ranks c b) (eqb-true a c parts.0) above below (λ up down. begins_between front name
    other up down parts.1)
  where
    go : (o p : Ordering) → MatchOrdering o (b < a) (b ≡ a) (a < b) → MatchOrdering p (c < b) (c ≡ b) (b < c) → a ≡ c
        → is_lt (ordering_then o (slice_cmp nat_cmp name front)) ≡ false → is_lt (ordering_then p (slice_cmp nat_cmp other name)) ≡ false
        → (is_before name front ≡ false → is_before other name ≡ false → starts_with nat_eq name front ≡ true)
        → starts_with nat_eq (b ∷ name) (a ∷ front) ≡ true
    go Less p less two same up down rest = absurd (false≢true (sym up))
    go Equal Less is less same up down rest = absurd (false≢true (sym down))
    go Equal Equal is too same up down rest = and_from (nat_eq a b) (starts_with nat_eq name front) (eq-eqb a b (sym is)) (rest up down)
    go Equal Greater is more same up down rest = absurd (omega (arith, is, more, same))
    go Greater Less more less same up down rest = absurd (false≢true (sym down))
    go Greater Equal more is same up down rest = absurd (omega (arith, more, is, same))
    go Greater Greater more too same up down rest = absurd (omega (arith, more, too, same))

-- Entries

-- of two entries that rise by name
rises_at : (ts : List TakenEntry) (i j : ℕ) (d : TakenEntry) → RisesByName (map name_alone ts) → i < j → j < length ts
    → is_before (get_or ts i d).name (get_or ts j d).name ≡ true
rises_at ts i j d rises below within =
    let size = length-map ts name_alone in
    let one = get_or-map name_alone ts i d (name_alone d) (omega (arith, below, within)) in
    let other = get_or-map name_alone ts j d (name_alone d) within in
    subst (λ (e : Named). is_before (get_or ts i d).name e.0 ≡ true) other
    (subst (λ (e : Named). is_before e.0 (get_or (map name_alone ts) j (name_alone d)).0 ≡ true) one
    (rises i j (name_alone d) below (omega (arith, within, size))))

-- the names before some bytes come first
pub parted : (ts : List TakenEntry) (front : List ℕ) → RisesByName (map name_alone ts)
    → IsPartitionedBy (λ (t : TakenEntry). is_before t.name front) ts
parted ts front rises i j d order within before = go (nat_lt i j) refl
  where
    go : (b : Bool) → nat_lt i j ≡ b → is_before (get_or ts i d).name front ≡ true
    go true is = before_further (get_or ts i d).name (get_or ts j d).name front (rises_at ts i j d rises (ltb-true i j is) within) before
    go false is =
        let same : j ≡ i = let not_below = ltb-false i j is in omega (arith, not_below, order) in
        subst (λ (k : ℕ). is_before (get_or ts k d).name front ≡ true) same before

none_begins : (ts : List TakenEntry) (front : List ℕ) → ((t : TakenEntry) → Contains ts t → starts_with nat_eq t.name front ≡ true
    → ⊥) → begins (map name_alone ts) front ≡ false
none_begins ts front none =
    false_from_ne_true (begins (map name_alone ts) front) (λ is.
    let found = from_any (λ (e : Named). starts_with nat_eq e.0 front) (map name_alone ts) is in
    let made = from_map name_alone ts found.0 found.1 in
    none made.0 made.1 (ap (λ (e : Named). starts_with nat_eq e.0 front) made.2 ∙ found.2))

-- what stands before the bytes doesn't begin so
not_before : (front name : List ℕ) → is_before name front ≡ true → starts_with nat_eq name front ≡ true → ⊥
not_before front name before is = false≢true (sym (front_first front name is) ∙ before)

abbrev pub IsPoint : List TakenEntry → List ℕ → ℕ → Type 0
IsPoint ts front at = IsPartitionPoint (λ (t : TakenEntry). is_before t.name front ≡ true) (λ (t : TakenEntry). is_before t.name
    front ≡ false) ts at

-- all names stand before the bytes, so none begins so
pub begins_nowhere : (ts : List TakenEntry) (front : List ℕ) (at : ℕ) → IsPoint ts front at → length ts ≤ at
    → begins (map name_alone ts) front ≡ false
begins_nowhere ts front at point all = none_begins ts front go
  where
    go : (t : TakenEntry) → Contains ts t → starts_with nat_eq t.name front ≡ true → ⊥
    go t (k, within, is) so =
        not_before front t.name (subst (λ (s : TakenEntry). is_before s.name front ≡ true) is (point.0 k t (omega arith)
        (omega (arith, all, within)))) so

-- the first name that doesn't stand before the bytes tells whether one begins so
pub begins_at : (ts : List TakenEntry) (front : List ℕ) (at : ℕ) (t : TakenEntry) → RisesByName (map name_alone ts)
    → IsPoint ts front at → at < length ts → get_or ts at t ≡ t → begins (map name_alone ts) front ≡ starts_with nat_eq t.name front
begins_at ts front at t rises point within here = go (starts_with nat_eq t.name front) refl
  where
    above : is_before t.name front ≡ false
    above = subst (λ (s : TakenEntry). is_before s.name front ≡ false) here (point.1 at t (omega arith) within)

    other : starts_with nat_eq t.name front ≡ false → (s : TakenEntry) → Contains ts s → starts_with nat_eq s.name front ≡ true → ⊥
    other not_so s (k, inside, is) so = order (nat_lt k at) (k == at) refl refl
      where
        order : (b c : Bool) → nat_lt k at ≡ b → (k == at) ≡ c → ⊥
        order true c before e =
            not_before front s.name (subst (λ (r : TakenEntry). is_before r.name front ≡ true) is (point.0 k s (omega arith)
            (ltb-true k at before))) so
        order false true l same =
            let one : s ≡ t = sym is ∙ ap (λ (i : ℕ). get_or ts i s) (eqb-true k at same) ∙ get_or_default ts at s t within ∙ here in
            false≢true (sym not_so ∙ ap (λ (r : TakenEntry). starts_with nat_eq r.name front) (sym one) ∙ so)
        order false false l e =
            let below : at < k = let a = ltb-false k at l in let b = eqb-false k at e in omega (arith, a, b) in
            let up : is_before t.name s.name ≡ true =
            subst (λ (r : TakenEntry). is_before t.name r.name ≡ true) is
            (subst (λ (r : TakenEntry). is_before r.name (get_or ts k s).name ≡ true) (get_or_default ts at s t within ∙ here)
            (rises_at ts at k s rises below inside)) in
            false≢true (sym not_so ∙ begins_between front t.name s.name above (before_one_way t.name s.name up) so)

    go : (b : Bool) → starts_with nat_eq t.name front ≡ b → begins (map name_alone ts) front ≡ b
    go true is = any_contains (λ (e : Named). starts_with nat_eq e.0 front) (map name_alone ts) (name_alone t)
        (contains_map name_alone ts t (at, within, here)) is
    go false is = none_begins ts front (other is)
