-- Which flags are up after marks, and after a round.
use Rattle.std.proofs.Common.{◌≡◌, ◌≢◌, ℕ, zero, suc, ◌+◌, ◌-◌, ◌<◌, ◌≤◌, ◌⊎◌, inl, inr, Bool, true, false}
use Rattle.std.proofs.Common.{cond, List, [], ◌∷◌, get_or, length, Some, Contains, refl, sym, ◌∙◌, subst}
use Rattle.std.proofs.Common.{arith, set, slice_get}
use Rattle.std.proofs.lemmas.Bool.{eqb-true, eqb-false, cases_eq}
use Rattle.std.proofs.lemmas.List.{get_or-set_same, get_or-set_other, length-set}
use Rattle.std.specs.Prelude.{nat_eq}
use Rattle.jm_bytes.proofs.Members.{contains_none, contains_here, contains_later, contains_cases}
use Rattle.jm_class.specs.Classes.{SlotData}
use Rattle.jm_poolmap.specs.ComputedLive.{with_mark, with_marks, spread, spread_from}
use Rattle.jm_poolmap.specs.Sites.{named_by}

-- the flag at a place is up
abbrev pub IsUp : List Bool → ℕ → Type 0
IsUp flags place = get_or flags place false ≡ true

-- a number of a constant whose flag there is
pub record HasFlag (flags : List Bool) (index : ℕ) : Type 0 where
  pub some : 0 < index
  pub within : index ≤ length flags

-- One mark

mark_test : (flags : List Bool) (index : ℕ) (P : List Bool → Type 0) → (index ≡ 0 → P flags)
    → (0 < index → P (set flags (index - 1) true)) → P (with_mark flags index)
mark_test flags index P none some = go (nat_eq index 0) refl
  where
    go : (b : Bool) → nat_eq index 0 ≡ b → P (cond b flags (set flags (index - 1) true))
    go true e = none (eqb-true index 0 e)
    go false e = let differs = eqb-false index 0 e in some (omega (arith, differs))

length-mark : (flags : List Bool) (index : ℕ) → length (with_mark flags index) ≡ length flags
length-mark flags index = mark_test flags index (λ new. length new ≡ length flags) (λ none. refl)
    (λ some. length-set flags (index - 1) true)

set_keeps : (flags : List Bool) (at place : ℕ) → IsUp flags place → IsUp (set flags at true) place
set_keeps flags at place up = go (cases_eq place at)
  where
    within : (flags : List Bool) (place : ℕ) → IsUp flags place → place < length flags
    within [] place up = cc
    within (flag ∷ flags) zero up = omega arith
    within (flag ∷ flags) (suc place) up = let rest = within flags place up in omega (arith, rest)

    go : (place ≡ at) ⊎ (place ≢ at) → IsUp (set flags at true) place
    go (inl same) = subst (λ p. IsUp (set flags at true) p) (sym same) (get_or-set_same flags at true false
        (subst (λ p. p < length flags) same (within flags place up)))
    go (inr differs) = get_or-set_other flags at place true false differs ∙ up

set_from : (flags : List Bool) (at place : ℕ) → IsUp (set flags at true) place → IsUp flags place ⊎ (place ≡ at)
set_from flags at place up = go (cases_eq place at)
  where
    go : (place ≡ at) ⊎ (place ≢ at) → IsUp flags place ⊎ (place ≡ at)
    go (inl same) = inr same
    go (inr differs) = inl (sym (get_or-set_other flags at place true false differs) ∙ up)

mark_keeps : (flags : List Bool) (index place : ℕ) → IsUp flags place → IsUp (with_mark flags index) place
mark_keeps flags index place up = mark_test flags index (λ new. IsUp new place) (λ none. up) (λ some. set_keeps flags (index - 1) place up)

mark_here : (flags : List Bool) (index : ℕ) → HasFlag flags index → IsUp (with_mark flags index) (index - 1)
mark_here flags index has =
    let some = has.some in
    let within = has.within in
    mark_test flags index (λ new. IsUp new (index - 1)) (λ none. absurd (omega (arith, none, some))) (λ more. get_or-set_same flags
    (index - 1) true false (omega (arith, some, within)))

mark_from : (flags : List Bool) (index place : ℕ) → IsUp (with_mark flags index) place → IsUp flags place ⊎ (index ≡ place + 1)
mark_from flags index place = mark_test flags index (λ new. IsUp new place → IsUp flags place ⊎ (index ≡ place + 1))
    (λ none up. inl up) (λ some up. go some (set_from flags (index - 1) place up))
  where
    go : 0 < index → IsUp flags place ⊎ (place ≡ index - 1) → IsUp flags place ⊎ (index ≡ place + 1)
    go some (inl up) = inl up
    go some (inr same) = inr (omega (arith, some, same))

-- Several marks

pub length-marks : (flags : List Bool) (numbers : List ℕ) → length (with_marks flags numbers) ≡ length flags
length-marks flags [] = refl
length-marks flags (index ∷ numbers) = length-marks (with_mark flags index) numbers ∙ length-mark flags index

pub marks_keep : (flags : List Bool) (numbers : List ℕ) (place : ℕ) → IsUp flags place → IsUp (with_marks flags numbers) place
marks_keep flags [] place up = up
marks_keep flags (index ∷ numbers) place up = marks_keep (with_mark flags index) numbers place (mark_keeps flags index place up)

pub marks_here : (flags : List Bool) (numbers : List ℕ) (index : ℕ) → Contains numbers index → HasFlag flags index
    → IsUp (with_marks flags numbers) (index - 1)
marks_here flags [] index there has = absurd (contains_none index there)
marks_here flags (first ∷ numbers) index there has = go (contains_cases first numbers index there)
    (λ later. marks_here (with_mark flags first) numbers index later (record {
      some = has.some;
      within =
          subst (λ n. index ≤ n) (sym (length-mark flags first)) has.within;
    }))
  where
    go : (first ≡ index) ⊎ Contains numbers index → (Contains numbers index → IsUp (with_marks (with_mark flags first) numbers)
        (index - 1)) → IsUp (with_marks (with_mark flags first) numbers) (index - 1)
    go (inl same) rest = marks_keep (with_mark flags first) numbers (index - 1) (subst (λ i. IsUp (with_mark flags i) (index - 1))
        (sym same) (mark_here flags index has))
    go (inr later) rest = rest later

pub marks_from : (flags : List Bool) (numbers : List ℕ) (place : ℕ) → IsUp (with_marks flags numbers) place → IsUp flags place
    ⊎ Contains numbers (place + 1)
marks_from flags [] place up = inl up
marks_from flags (first ∷ numbers) place up = go (marks_from (with_mark flags first) numbers place up)
  where
    here : IsUp flags place ⊎ (first ≡ place + 1) → IsUp flags place ⊎ Contains (first ∷ numbers) (place + 1)
    here (inl up) = inl up
    here (inr same) = inr (subst (λ i. Contains (i ∷ numbers) (place + 1)) (sym same) (contains_here (place + 1) numbers))

    go : IsUp (with_mark flags first) place ⊎ Contains numbers (place + 1) → IsUp flags place ⊎ Contains (first ∷ numbers) (place + 1)
    go (inl up) = here (mark_from flags first place up)
    go (inr later) = inr (contains_later first numbers (place + 1) later)

-- What one slot names

module _ (at : ℕ) (slot : SlotData) (flags : List Bool) where
  length-spread : length (spread at slot flags) ≡ length flags
  length-spread = go (get_or flags at false)
    where
      go : (b : Bool) → length (cond b (with_marks flags (named_by slot)) flags) ≡ length flags
      go true = length-marks flags (named_by slot)
      go false = refl

  spread_keeps : (place : ℕ) → IsUp flags place → IsUp (spread at slot flags) place
  spread_keeps place up = go (get_or flags at false)
    where
      go : (b : Bool) → IsUp (cond b (with_marks flags (named_by slot)) flags) place
      go true = marks_keep flags (named_by slot) place up
      go false = up

  spread_here : (index : ℕ) → IsUp flags at → Contains (named_by slot) index → HasFlag flags index → IsUp (spread at slot flags) (index - 1)
  spread_here index up there has = rw up (marks_here flags (named_by slot) index there has)

  spread_from_one : (place : ℕ) → IsUp (spread at slot flags) place → IsUp flags place
      ⊎ (IsUp flags at × Contains (named_by slot) (place + 1))
  spread_from_one place = go (get_or flags at false) refl
    where
      told : IsUp flags at → IsUp flags place ⊎ Contains (named_by slot) (place + 1) → IsUp flags place
          ⊎ (IsUp flags at × Contains (named_by slot) (place + 1))
      told up (inl there) = inl there
      told up (inr named) = inr (up, named)

      go : (b : Bool) → get_or flags at false ≡ b → IsUp (cond b (with_marks flags (named_by slot)) flags) place → IsUp flags place
          ⊎ (IsUp flags at × Contains (named_by slot) (place + 1))
      go true e up = told e (marks_from flags (named_by slot) place up)
      go false e up = inl up

-- A round

pub length-round : (at : ℕ) (pool : List SlotData) (flags : List Bool) → length (spread_from at pool flags) ≡ length flags
length-round at [] flags = refl
length-round at (slot ∷ pool) flags = length-round (at + 1) pool (spread at slot flags) ∙ length-spread at slot flags

pub round_keeps : (at : ℕ) (pool : List SlotData) (flags : List Bool) (place : ℕ) → IsUp flags place
    → IsUp (spread_from at pool flags) place
round_keeps at [] flags place up = up
round_keeps at (slot ∷ pool) flags place up = round_keeps (at + 1) pool (spread at slot flags) place (spread_keeps at slot flags place up)

pub round_follows : (at : ℕ) (pool : List SlotData) (flags : List Bool) (place : ℕ) (slot : SlotData) (index : ℕ)
    → slice_get pool place ≡ Some slot → IsUp flags (at + place) → Contains (named_by slot) index → HasFlag flags index
    → IsUp (spread_from at pool flags) (index - 1)
round_follows at [] flags place slot index is up there has = cc
round_follows at (first ∷ pool) flags zero slot index is up there has =
    let same : first ≡ slot = cc in
    let here : at + 0 ≡ at = omega arith in
    round_keeps (at + 1) pool (spread at first flags) (index - 1) (spread_here at first flags index (subst (IsUp flags) here up)
    (subst (λ s. Contains (named_by s) index) (sym same) there) has)
round_follows at (first ∷ pool) flags (suc place) slot index is up there has =
    let later : at + suc place ≡ (at + 1) + place = omega arith in
    round_follows (at + 1) pool (spread at first flags) place slot index is (spread_keeps at first flags ((at + 1) + place)
    (subst (IsUp flags) later up)) there
    (record { some = has.some; within = subst (λ n. index ≤ n) (sym (length-spread at first flags)) has.within })

-- what holds of the places that are up, and of what they name, holds of those after a round
pub round_sound : (P : ℕ → Type 0) (at : ℕ) (pool : List SlotData) (flags : List Bool) → ((place : ℕ) (slot : SlotData) (more : ℕ)
    → slice_get pool place ≡ Some slot → P (at + place) → Contains (named_by slot) (more + 1) → P more)
    → ((place : ℕ) → IsUp flags place → P place) → (place : ℕ) → IsUp (spread_from at pool flags) place → P place
round_sound P at [] flags closed holds place up = holds place up
round_sound P at (slot ∷ pool) flags closed holds place up =
    round_sound P (at + 1) pool (spread at slot flags)
    (λ q s more is h named. let later : (at + 1) + q ≡ at + suc q = omega arith in closed (suc q) s more is (subst P later h) named)
    (λ q up. go q (spread_from_one at slot flags q up))
    place up
  where
    go : (q : ℕ) → IsUp flags q ⊎ (IsUp flags at × Contains (named_by slot) (q + 1)) → P q
    go q (inl up) = holds q up
    go q (inr named) = let here : at ≡ at + 0 = omega arith in closed 0 slot q refl (subst P here (holds at named.0)) named.1
