-- Lists of different elements, and values looked up by them.
use Rattle.std.proofs.Common.{◌≡◌, ◌≢◌, ℕ, zero, suc, ◌==◌, ◌<◌, ◌≤◌, inl, inr, Bool, true, false, cond, List}
use Rattle.std.proofs.Common.{[], ◌∷◌, ◌++◌, length, get_or, Some, Contains, AllPairs, refl, sym, ap, ◌∙◌}
use Rattle.std.proofs.Common.{subst, arith, append-nil, length-append}
use Rattle.std.proofs.lemmas.Bool.{eqb-true, false_from_ne_true}
use Rattle.std.proofs.lemmas.List.{nil_from_length}
use Rattle.std.proofs.lemmas.List.Elements.{All-contains}
use Rattle.std.proofs.lemmas.List.Sorted.{Contains-permutation, IsPermutation-cons, IsPermutation-refl}
use Rattle.std.proofs.lemmas.List.Sorted.{IsPermutation-remove, IsPermutation-trans, length_permutation}
use Rattle.std.specs.Bool.{Decides}
use Rattle.std.specs.List.{remove, zip}
use Rattle.std.specs.List.Sorted.{IsPermutation}
use Rattle.std.specs.Map.{lookup}
use Rattle.jm_bytes.proofs.Choice.{same_some}
use Rattle.jm_bytes.proofs.Members.{contains_cases, contains_here, contains_later}
use Rattle.jm_bytes.proofs.Pairs.{pairs_head, pairs_tail}

-- Values by keys that differ

-- the value of the key at a place is the value at that place
pub lookup_at : {K V : Type 0} (same : K → K → Bool) → ((a b : K) → Decides (same a b) (a ≡ b))
    → (ks : List K) (vs : List V) (k : ℕ) (c : K) (d : V) → AllPairs (λ a b. a ≢ b) ks → k < length ks → k < length vs
    → lookup (same (get_or ks k c)) (zip ks vs) ≡ Some (get_or vs k d)
lookup_at same decides [] vs k c d differ below within = absurd (omega arith)
lookup_at same decides (x ∷ ks) [] k c d differ below within = absurd (omega arith)
lookup_at same decides (x ∷ ks) (v ∷ vs) zero c d differ below within = let here : same x x ≡ true = (decides x x).1 refl in rw here refl
lookup_at same decides (x ∷ ks) (v ∷ vs) (suc k) c d differ below within =
    let other = pairs_head (λ a b. a ≢ b) x ks differ k c (omega arith) in
    let test : same (get_or ks k c) x ≡ false = false_from_ne_true (same (get_or ks k c) x)
    (λ e. other (sym ((decides (get_or ks k c) x).0 e))) in
    rw test (lookup_at same decides ks vs k c d (pairs_tail (λ a b. a ≢ b) x ks differ) (omega arith) (omega arith))

-- what is looked up stands at a place of that number
pub record FoundAt {V : Type 0} (ks : List ℕ) (vs : List V) (key : ℕ) (v : V) : Type 0 where
  pub place : ℕ
  pub below : place < length ks
  pub within : place < length vs
  pub here : get_or ks place 0 ≡ key
  pub value : get_or vs place v ≡ v

pub lookup_from : {V : Type 0} (key : ℕ) (ks : List ℕ) (vs : List V) (v : V) → lookup (λ other. key == other) (zip ks vs) ≡ Some v
    → FoundAt ks vs key v
lookup_from key [] vs v is = cc
lookup_from key (x ∷ ks) [] v is = cc
lookup_from {V} key (x ∷ ks) (w ∷ vs) v is = go (key == x) refl is (lookup_from key ks vs v)
  where
    go : (b : Bool) → key == x ≡ b → cond b (Some w) (lookup (λ other. key == other) (zip ks vs)) ≡ Some v
        → (lookup (λ other. key == other) (zip ks vs) ≡ Some v → FoundAt ks vs key v) → FoundAt (x ∷ ks) (w ∷ vs) key v
    go true test is later = record {
      place = 0;
      below = omega arith;
      within = omega arith;
      here = sym (eqb-true key x test);
      value =
          same_some w v is;
    }
    go false test is later =
        let found = later is in
        let below = found.below in
        let within = found.within in
        record { place = suc found.place; below = omega arith; within = omega arith; here = found.here; value = found.value }

-- Lists of different elements

-- what differs from the first is among the others
other_left : {X : Type 0} (x : X) (xs : List X) (y : X) → x ≢ y → Contains (x ∷ xs) y → Contains xs y
other_left x xs y differs there =
    elim (contains_cases x xs y there) [
      | inl same ↦ absurd (differs same)
      | inr later ↦ later
    ]

-- different elements of a list, and what is left of it
pub parts_within : {X : Type 0} (xs ys : List X) → AllPairs (λ a b. a ≢ b) xs → ((x : X) → Contains xs x → Contains ys x)
    → (rest : List X) × IsPermutation ys (xs ++ rest)
parts_within [] ys differ within = (ys, IsPermutation-refl ys)
parts_within {X} (x ∷ xs) ys differ within =
    let (i, below, is) = within x (contains_here x xs) in
    let left : List X = remove ys i in
    let taken : IsPermutation ys (x ∷ left) = IsPermutation-remove ys i x below (sym is) in
    let among : (y : X) → Contains xs y → Contains left y = λ y later. other_left x left y (All-contains (λ y. x ≢ y) xs y
    (pairs_head (λ a b. a ≢ b) x xs differ) later) (Contains-permutation ys (x ∷ left) y taken
    (within y (contains_later x xs y later))) in
    let more = parts_within xs left (pairs_tail (λ a b. a ≢ b) x xs differ) among in
    (more.0, IsPermutation-trans ys (x ∷ left) (x ∷ (xs ++ more.0)) taken (IsPermutation-cons x left (xs ++ more.0) more.1))

-- they are no more than the list has
pub length_within : {X : Type 0} (xs ys : List X) → AllPairs (λ a b. a ≢ b) xs → ((x : X) → Contains xs x → Contains ys x)
    → length xs ≤ length ys
length_within xs ys differ within =
    let parts = parts_within xs ys differ within in
    let same = length_permutation ys (xs ++ parts.0) parts.1 in
    let all = length-append xs parts.0 in
    omega arith

-- two lists of different elements that contain the same are the same but for the order
pub same_elements : {X : Type 0} (xs ys : List X) → AllPairs (λ a b. a ≢ b) xs → AllPairs (λ a b. a ≢ b) ys
    → ((x : X) → Contains xs x → Contains ys x) → ((x : X) → Contains ys x → Contains xs x) → IsPermutation xs ys
same_elements xs ys xs_differ ys_differ forth back =
    let parts = parts_within ys xs ys_differ back in
    let same = length_permutation xs (ys ++ parts.0) parts.1 in
    let all = length-append ys parts.0 in
    let most = length_within xs ys xs_differ forth in
    let none : parts.0 ≡ [] = nil_from_length parts.0 (omega arith) in
    subst (IsPermutation xs) (ap (λ l. ys ++ l) none ∙ append-nil ys) parts.1
