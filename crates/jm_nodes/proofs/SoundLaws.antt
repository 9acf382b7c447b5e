-- A sound name is a slash, its module, a slash and its path; what its fronts are.
use Rattle.std.proofs.Common.{◌≡◌, ℕ, zero, suc, ◌+◌, ◌-◌, ◌<◌, ◌≤◌, ◌⊎◌, inl, inr, Bool, true, false, cond}
use Rattle.std.proofs.Common.{not, ◌||◌, List, [], ◌∷◌, ◌++◌, length, take, drop, get_or, Contains, refl, sym}
use Rattle.std.proofs.Common.{ap, ◌∙◌, subst, append_assoc, arith, slice_index_or}
use Rattle.std.specs.List.{after_first, before_first, list_any, onto_first, position_or_len, slice_split}
use Rattle.std.proofs.lemmas.Bool.{and_parts, cases_order, eqb-true, false≢true}
use Rattle.std.proofs.lemmas.List.{append_cancel_left, get_or-append-add, get_or-take, get_or_append_left}
use Rattle.std.proofs.lemmas.List.{get_or_at, length-append, length-take-le, take-append-drop, take_at}
use Rattle.std.proofs.lemmas.List.Folds.{list_any_at}
use Rattle.std.proofs.lemmas.List.Sums.{prefix_len_passes}
use Rattle.jm_bytes.proofs.Cuts.{first_parts}
use Rattle.jm_bytes.proofs.Firsts.{before_first_at, no_first, position_below}
use Rattle.jm_names.specs.Names.{is_empty, is_slash}
use Rattle.jm_names.specs.NameFaults.{has_module, IsSound}
use Rattle.jm_names.specs.declared.check.NameFault.TheVariants.{Empty, EmptyPart}
use Rattle.jm_form.specs.Trees.{fronts, module_of, path_of}
use Rattle.jm_nodes.proofs.FrontLaws.{from_front, front_there}

-- Cut at the first slash

-- none of what stands before the first one passes
none_before : (p : ℕ → Bool) (xs : List ℕ) → list_any p xs ≡ true → list_any p (before_first p xs) ≡ false
none_before p xs some =
    let within = position_below p xs some in
    let long = length-take-le (position_or_len p xs) xs (omega arith) in
    no_first p (before_first p xs) 0
    (λ k below passes.
    let front : k < position_or_len p xs = omega arith in
    let fails : not (p (get_or xs k 0)) ≡ true = prefix_len_passes (λ x. not (p x)) xs k 0 front in
    let read : p (get_or xs k 0) ≡ true = ap p (sym (get_or-take (position_or_len p xs) xs k 0 front)) ∙ passes in
    false≢true (sym (ap not read) ∙ fails))

before_slash : (text rest : List ℕ) → list_any is_slash text ≡ false → before_first is_slash (text ++ 47 ∷ rest) ≡ text
before_slash text rest plain =
    let long = length-append text (47 ∷ rest) in
    before_first_at is_slash (text ++ 47 ∷ rest) (length text) 0 (omega arith)
    (λ k below passes.
    false≢true (sym plain ∙ list_any_at is_slash text k 0 below (ap is_slash (sym (get_or_append_left text (47 ∷ rest) 0 k below))
    ∙ passes)))
    (ap is_slash (get_or_at text 47 rest 0 (length text) refl))
    ∙ take_at text (47 ∷ rest) (length text) refl

pub any_behind : (text rest : List ℕ) → list_any is_slash (text ++ 47 ∷ rest) ≡ true
any_behind text rest =
    let long = length-append text (47 ∷ rest) in
    list_any_at is_slash (text ++ 47 ∷ rest) (length text) 0 (omega arith) (ap is_slash (get_or_at text 47 rest 0 (length text) refl))

after_slash : (text rest : List ℕ) → list_any is_slash text ≡ false → after_first is_slash (text ++ 47 ∷ rest) ≡ rest
after_slash text rest plain =
    let parts = first_parts is_slash (text ++ 47 ∷ rest) 0 (any_behind text rest) in
    let whole = ap (λ front. front ++ parts.0 ∷ after_first is_slash (text ++ 47 ∷ rest)) (sym (before_slash text rest plain)) ∙ parts.2 in
    ap (drop 1) (append_cancel_left text (parts.0 ∷ after_first is_slash (text ++ 47 ∷ rest)) (47 ∷ rest) whole)

-- module and path of a name that is put together of them
pub module_again : (text path : List ℕ) → list_any is_slash text ≡ false → module_of (47 ∷ text ++ 47 ∷ path) ≡ text
module_again text path plain = before_slash text path plain

pub path_again : (text path : List ℕ) → list_any is_slash text ≡ false → path_of (47 ∷ text ++ 47 ∷ path) ≡ path
path_again text path plain = after_slash text path plain

-- Sound names

pub record IsCut (name : List ℕ) : Type 0 where
  pub whole : name ≡ 47 ∷ module_of name ++ 47 ∷ path_of name
  pub plain : list_any is_slash (module_of name) ≡ false
  pub begins : (rest : List ℕ) → path_of name ≡ 47 ∷ rest → ⊥

later_any : (pieces : List (List ℕ)) → list_any is_empty (drop 1 pieces) ≡ true → list_any is_empty pieces ≡ true
later_any [] some = some
later_any (piece ∷ pieces) some = go (is_empty piece)
  where
    go : (b : Bool) → (b || list_any is_empty pieces) ≡ true
    go true = refl
    go false = some

-- a piece of no byte behind the first piece
empty_later : (text rest : List ℕ) → list_any is_empty (drop 1 (slice_split is_slash (text ++ 47 ∷ 47 ∷ rest))) ≡ true
empty_later [] rest = refl
empty_later (b ∷ text) rest = go (is_slash b) (empty_later text rest)
  where
    pieces : List (List ℕ)
    pieces = slice_split is_slash (text ++ 47 ∷ 47 ∷ rest)

    longer : (others : List (List ℕ)) → list_any is_empty (drop 1 others) ≡ true → list_any is_empty (drop 1 (onto_first b others)) ≡ true
    longer [] some = some
    longer (other ∷ others) some = some

    go : (c : Bool) → list_any is_empty (drop 1 pieces) ≡ true
        → list_any is_empty (drop 1 (cond c ([] ∷ pieces) (onto_first b pieces))) ≡ true
    go true some = later_any pieces some
    go false some = longer pieces some

not_false : (b : Bool) → (b ≡ false → ⊥) → b ≡ true
not_false true h = refl
not_false false h = absurd (h refl)

pub sound_cut : (name : List ℕ) → IsSound name → IsCut name
sound_cut [] sound = absurd (sound Empty refl)
sound_cut (b ∷ rest) sound = record {
  whole = is;
  plain = none_before is_slash rest tests.1;
  begins = λ later path.
      let split : rest ≡ before_first is_slash rest ++ 47 ∷ 47 ∷ later = ap (drop 1) is ∙ ap (λ p. before_first is_slash rest ++ 47
      ∷ p) path in
      sound EmptyPart
      (later_any (slice_split is_slash rest) (ap (λ r. list_any is_empty (drop 1 (slice_split is_slash r))) split
      ∙ empty_later (before_first is_slash rest) later));
}
  where
    tests : (is_slash b ≡ true) × (list_any is_slash rest ≡ true)
    tests = and_parts (is_slash b) (list_any is_slash rest) (not_false (has_module (b ∷ rest)) (sound Empty))

    is : b ∷ rest ≡ 47 ∷ before_first is_slash rest ++ 47 ∷ after_first is_slash rest
    is =
        let parts = first_parts is_slash rest 0 tests.1 in
        ap (λ x. x ∷ rest) (eqb-true b 47 tests.0) ∙ ap (λ r. 47 ∷ r) (sym parts.2)
        ∙ ap (λ x. 47 ∷ before_first is_slash rest ++ x ∷ after_first is_slash rest) (eqb-true parts.0 47 parts.1)

-- Fronts of a name that is put together

pub module_front : (text path : List ℕ) → Contains (fronts (47 ∷ text ++ 47 ∷ path)) (47 ∷ text)
module_front text path =
    let long = length-append text (47 ∷ path) in
    subst (Contains (fronts (47 ∷ text ++ 47 ∷ path))) (ap (λ t. 47 ∷ t) (take_at text (47 ∷ path) (length text) refl))
    (front_there (47 ∷ text ++ 47 ∷ path) (suc (length text)) (omega arith) (omega arith)
    (ap is_slash (get_or_at text 47 path 0 (length text) refl)))

-- a name behind its first slash, up to a length of its path
taken_behind : (text path : List ℕ) (k : ℕ) → k ≤ length path → take (length text + suc k) (text ++ 47 ∷ path) ≡ text ++ 47 ∷ take k path
taken_behind text path k within =
    let split : text ++ 47 ∷ path ≡ (text ++ 47 ∷ take k path) ++ drop k path =
    ap (λ p. text ++ 47 ∷ p) (sym (take-append-drop k path)) ∙ sym (append_assoc text (47 ∷ take k path) (drop k path)) in
    let long = length-append text (47 ∷ take k path) in
    let front = length-take-le k path within in
    ap (take (length text + suc k)) split ∙ take_at (text ++ 47 ∷ take k path) (drop k path) (length text + suc k) (omega arith)

pub folder_front : (text path front : List ℕ) → Contains (fronts path) front → Contains (fronts (47 ∷ text ++ 47 ∷ path)) (47 ∷ text
    ++ 47 ∷ front)
folder_front text path front there =
    let from = from_front path front there in
    let k = from.0 in
    let long = length-append text (47 ∷ path) in
    subst (Contains (fronts (47 ∷ text ++ 47 ∷ path)))
    (ap (λ t. 47 ∷ t) (taken_behind text path k (omega (arith, from.1.within))) ∙ ap (λ t. 47 ∷ text ++ 47 ∷ t) (sym from.1.is))
    (front_there (47 ∷ text ++ 47 ∷ path) (suc (length text + suc k)) (omega arith) (omega (arith, from.1.within))
    (ap is_slash (get_or-append-add text (47 ∷ path) (suc k) 0) ∙ from.1.slash))

-- a front of it is that of its module, or of its module and a front of its path
pub front_cases : (text path front : List ℕ) → list_any is_slash text ≡ false → ((rest : List ℕ) → path ≡ 47 ∷ rest → ⊥)
    → Contains (fronts (47 ∷ text ++ 47 ∷ path)) front
    → (front ≡ 47 ∷ text) ⊎ ((inner : List ℕ) × Contains (fronts path) inner × (front ≡ 47 ∷ text ++ 47 ∷ inner))
front_cases text path front plain begins there =
    let from = from_front (47 ∷ text ++ 47 ∷ path) front there in
    at_place from.0 from.1.some from.1.within from.1.slash from.1.is
  where
    in_path : (k : ℕ) → k < length path → is_slash (slice_index_or path k 0) ≡ true → 0 < k
    in_path (suc k) below slash = omega arith
    in_path zero below slash = absurd (first path begins below slash)
      where
        first : (p : List ℕ) → ((rest : List ℕ) → p ≡ 47 ∷ rest → ⊥) → 0 < length p → is_slash (slice_index_or p 0 0) ≡ true → ⊥
        first [] other some mark = omega arith
        first (b ∷ p) other some mark = other p (ap (λ x. x ∷ p) (eqb-true b 47 mark))

    at_place : (at : ℕ) → 0 < at → at < length (47 ∷ text ++ 47 ∷ path) → is_slash (slice_index_or (47 ∷ text ++ 47 ∷ path) at 0)
        ≡ true → front ≡ take at (47 ∷ text ++ 47 ∷ path)
        → (front ≡ 47 ∷ text) ⊎ ((inner : List ℕ) × Contains (fronts path) inner × (front ≡ 47 ∷ text ++ 47 ∷ inner))
    at_place zero some within slash is = absurd (omega arith)
    at_place (suc j) some within slash is =
        let long = length-append text (47 ∷ path) in
        elim (cases_order j (length text)) [
          | inr (inl less) ↦ absurd (false≢true (sym plain ∙ list_any_at is_slash text j 0 less
              (ap is_slash (sym (get_or_append_left text (47 ∷ path) 0 j less)) ∙ slash)))
          | inl same ↦ inl (is ∙ ap (λ n. 47 ∷ take n (text ++ 47 ∷ path)) same
              ∙ ap (λ t. 47 ∷ t) (take_at text (47 ∷ path) (length text) refl))
          | inr (inr more) ↦
              let k = j - length text - 1 in
              let place : j ≡ length text + suc k = omega arith in
              let read : is_slash (slice_index_or path k 0) ≡ true =
              ap is_slash (sym (get_or-append-add text (47 ∷ path) (suc k) 0))
              ∙ ap (λ n. is_slash (slice_index_or (text ++ 47 ∷ path) n 0)) (sym place) ∙ slash in
              let below : k < length path = omega arith in
              inr (
                take k path,
                front_there path k (in_path k below read) below read,
                is ∙ ap (λ n. 47 ∷ take n (text ++ 47 ∷ path)) place ∙ ap (λ t. 47 ∷ t) (taken_behind text path k (omega arith)),
              )
        ]
