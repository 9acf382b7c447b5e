-- The least place with a value: for the search and for its callers.
use Rattle.std.proofs.Common.{◌≡◌, ℕ, ◌+◌, ◌<◌, ◌≤◌, Option, Some, None, inl, inr, refl, sym, ap, ◌∙◌, subst, arith}
use Rattle.std.proofs.Math.Nat.{le_refl}
use Rattle.std.proofs.lemmas.Bool.{cases_lt}
use Rattle.std.specs.Option.{option_or}
use Rattle.jm_halves.specs.First.{IsFirstIn}
use Rattle.jm_halves.specs.ComputedPieces.{piece_start}
use Rattle.jm_halves.proofs.Borders.{piece_start-first, piece_start-end, piece_start-mono}

module _ {D : Type 0} (gives : ℕ → Option D → Type 0) where
  -- no place from low on and below high has a value
  abbrev pub NoneIn : ℕ → ℕ → Type 0
  NoneIn low high = (i : ℕ) → low ≤ i → i < high → gives i None

  -- none below the middle and none from there on is none in all
  none_append : (low middle high : ℕ) → NoneIn low middle → NoneIn middle high → NoneIn low high
  none_append low middle high below above i from to =
      elim (cases_lt i middle) [ inl here ↦ below i from here | inr there ↦ above i there to ]

  -- none at the first place and none behind it is none in all
  none_later : (low high : ℕ) → gives low None → NoneIn (low + 1) high → NoneIn low high
  none_later low high none rest i from to =
      elim (cases_lt low i) [
        | inl behind ↦ rest i (omega arith) to
        | inr here ↦ (let same : low ≡ i = omega arith in subst (λ (j : ℕ). gives j None) same none)
      ]

  -- the first run's answer, or else the second's, is the answer of both
  pub first_append : (low middle high : ℕ) → low ≤ middle → middle ≤ high → (x y : Option (ℕ × D))
      → IsFirstIn gives low middle x → IsFirstIn gives middle high y → IsFirstIn gives low high (option_or x y)
  first_append low middle high a b (Some r) y first second =
      record { value = (first.value.0, omega arith, first.value.2); before = first.before; none = tt }
  first_append low middle high a b None (Some r) first second = record {
    value = (omega arith, second.value.1, second.value.2);
    before = none_append low middle r.0 first.none second.before;
    none = tt;
  }
  first_append low middle high a b None None first second =
      record { value = tt; before = tt; none = none_append low middle high first.none second.none }

  -- the pieces of a run and those of the run behind it
  pub first_runs : (places pieces from middle to : ℕ) → 0 < pieces → from ≤ middle → middle ≤ to → (x y : Option (ℕ × D))
      → IsFirstIn gives (piece_start places pieces from) (piece_start places pieces middle) x
      → IsFirstIn gives (piece_start places pieces middle) (piece_start places pieces to) y
      → IsFirstIn gives (piece_start places pieces from) (piece_start places pieces to) (option_or x y)
  first_runs places pieces from middle to some a b x y =
      first_append _ _ _ (piece_start-mono places pieces from middle some a) (piece_start-mono places pieces middle to some b) x y

  -- all pieces have all places
  pub first_whole : (places pieces : ℕ) → 0 < pieces → (x : Option (ℕ × D))
      → IsFirstIn gives (piece_start places pieces 0) (piece_start places pieces pieces) x → IsFirstIn gives 0 places x
  first_whole places pieces some x first =
      subst (λ (n : ℕ). IsFirstIn gives n places x) (piece_start-first places pieces)
      (subst (λ (n : ℕ). IsFirstIn gives (piece_start places pieces 0) n x) (piece_start-end places pieces some) first)

  -- where there is no place, there is no answer
  pub first_none : (low high : ℕ) → high ≤ low → IsFirstIn gives low high None
  first_none low high empty = record { value = tt; before = tt; none = λ i from to. absurd (omega arith) }

  -- a value at the first place is the answer
  pub first_here : (low high : ℕ) (d : D) → low < high → gives low (Some d) → IsFirstIn gives low high (Some (low, d))
  first_here low high d room here =
      record { value = (le_refl low, room, here); before = λ i from to. absurd (omega arith); none = tt }

  -- with no value at the first place, the answer is that of the places behind it
  pub first_later : (low high : ℕ) (x : Option (ℕ × D)) → gives low None → IsFirstIn gives (low + 1) high x → IsFirstIn gives low high x
  first_later low high None none rest = record { value = tt; before = tt; none = none_later low high none rest.none }
  first_later low high (Some r) none rest = record {
    value = (omega arith, rest.value.1, rest.value.2);
    before = none_later low r.0 none rest.before;
    none = tt;
  }

-- what the function gives at each place, in a caller's words
pub first_weaker : {D : Type 0} {gives : ℕ → Option D → Type 0} {low high : ℕ} (says : ℕ → Option D → Type 0) (x : Option (ℕ × D))
    → IsFirstIn gives low high x → ((i : ℕ) (r : Option D) → low ≤ i → i < high → gives i r → says i r) → IsFirstIn says low high x
first_weaker says None first weaker =
    record { value = tt; before = tt; none = λ i from to. weaker i None from to (first.none i from to) }
first_weaker says (Some r) first weaker = record {
  value = (first.value.0, first.value.1, weaker r.0 (Some r.1) first.value.0 first.value.1 first.value.2);
  before = λ i from to. weaker i None from (let end = first.value.1 in omega arith) (first.before i from to);
  none = tt;
}

-- where v says what the function gives, there is one answer
pub first_same : {D : Type 0} (v : ℕ → Option D) (low high : ℕ) (x y : Option (ℕ × D))
    → IsFirstIn (λ i r. r ≡ v i) low high x → IsFirstIn (λ i r. r ≡ v i) low high y → x ≡ y
first_same v low high None None first second = refl
first_same v low high None (Some (j, e)) first second =
    let none : None ≡ v j = first.none j second.value.0 second.value.1 in
    let some : Some e ≡ v j = second.value.2 in
    cc
first_same v low high (Some (i, d)) None first second =
    let none : None ≡ v i = second.none i first.value.0 first.value.1 in
    let some : Some d ≡ v i = first.value.2 in
    cc
first_same v low high (Some (i, d)) (Some (j, e)) first second =
    let one : Some d ≡ v i = first.value.2 in
    let other : Some e ≡ v j = second.value.2 in
    elim (cases_lt i j) [
      | inl before ↦ (let none : None ≡ v i = second.before i first.value.0 before in cc)
      | inr from ↦ elim (cases_lt j i) [
        | inl before ↦ (let none : None ≡ v j = first.before j second.value.0 before in cc)
        | inr to ↦ (let same : i ≡ j = omega arith in let value : Some d ≡ Some e = one ∙ (ap v same ∙ sym other) in cc)
      ]
    ]
