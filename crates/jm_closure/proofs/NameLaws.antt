-- Found modules by their names.
use Rattle.std.proofs.Common.{◌≡◌, ℕ, zero, suc, ◌+◌, ◌<◌, ◌↔◌, ◌⊎◌, inl, inr, Bool, true, false, List, []}
use Rattle.std.proofs.Common.{◌∷◌, length, Option, Some, None, refl, sym, ◌∙◌, ap, subst, arith, get_or}
use Rattle.std.proofs.Common.{slice_get}
use Rattle.std.specs.Str.{bytes_eq}
use Rattle.std.proofs.lemmas.Slice.Eq.{bytes_eq-Decides}
use Rattle.std.proofs.lemmas.Bool.{cases_eq, false≢true}
use Rattle.jm_bytes.proofs.Choice.{chosen, same_some}
use Rattle.jm_closure.specs.declared.candidate.Candidate.{Candidate}
use Rattle.jm_closure.specs.Modules.{name_of, HasName}
use Rattle.jm_closure.specs.Names.{Indexes, NamesDiffer}
use Rattle.jm_closure.specs.Places.{place_in, Puts}

-- the names of the modules below a place are indexed
abbrev pub IndexesBelow : List Candidate → List (List ℕ × ℕ) → ℕ → Type 0
IndexesBelow found names n =
    (name : List ℕ) (i : ℕ) → (place_in names name ≡ Some i) ↔ (HasName found i name × (i < n))

pub within_found : {A : Type 0} (xs : List A) (i : ℕ) (x : A) → slice_get xs i ≡ Some x → i < length xs
within_found [] i x is = cc
within_found (y ∷ xs) zero x is = omega arith
within_found (y ∷ xs) (suc i) x is = let rest = within_found xs i x is in omega arith

-- one more module is indexed
pub index_more : (found : List Candidate) (names more : List (List ℕ × ℕ)) (i : ℕ) (c : Candidate)
    → NamesDiffer found → slice_get found i ≡ Some c → Puts names more (name_of c) i
    → IndexesBelow found names i → IndexesBelow found more (i + 1)
index_more found names more i c differ there puts below name j = (to, from)
  where
    to : place_in more name ≡ Some j → HasName found j name × (j < i + 1)
    to is = elim (chosen (bytes_eq name (name_of c)) (Some i) (place_in names name) (Some j) (sym (puts name) ∙ is)) [
      | inl (same, here) ↦
          (let at : i ≡ j = same_some i j here in
          let named : name ≡ name_of c = (bytes_eq-Decides name (name_of c)).0 same in
          (subst (λ k. HasName found k name) at (c, there, sym named), omega arith))
      | inr (other, old) ↦ (let was = (below name j).0 old in (was.0, omega (arith, was.1)))
    ]

    from : HasName found j name × (j < i + 1) → place_in more name ≡ Some j
    from (has, before) = go (bytes_eq name (name_of c)) refl
      where
        go : (b : Bool) → bytes_eq name (name_of c) ≡ b → place_in more name ≡ Some j
        go true is =
            let named : name ≡ name_of c = (bytes_eq-Decides name (name_of c)).0 is in
            let at : i ≡ j = differ i j name (c, there, sym named) has in
            rw (puts name, is, at) refl
        go false is =
            let other : i ≡ j → ⊥ = λ same. absurd (false≢true (sym is ∙ (bytes_eq-Decides name (name_of c)).1
            (sym has.2 ∙ ap name_of (same_some has.0 c (sym has.1 ∙ ap (slice_get found) (sym same) ∙ there))))) in
            rw (puts name, is) ((below name j).1 (has, omega arith))

pub index_all : (found : List Candidate) (names : List (List ℕ × ℕ))
    → IndexesBelow found names (length found) → Indexes found names
index_all found names below name i = (
  λ is. ((below name i).0 is).0,
  λ has. (below name i).1 (has, within_found found i has.0 has.1),
)

pub found_at : {A : Type 0} (xs : List A) (i : ℕ) (x : A) → i < length xs → x ≡ get_or xs i x
    → slice_get xs i ≡ Some x
found_at [] i x below is = absurd (omega arith)
found_at (y ∷ xs) zero x below is = ap (λ z. Some z) (sym is)
found_at (y ∷ xs) (suc i) x below is = found_at xs i x (omega arith) is

-- one more module, of a name that isn't indexed yet
pub index_new : (found : List Candidate) (names more : List (List ℕ × ℕ)) (i : ℕ) (c : Candidate)
    → place_in names (name_of c) ≡ None → slice_get found i ≡ Some c → Puts names more (name_of c) i
    → IndexesBelow found names i → IndexesBelow found more (i + 1)
index_new found names more i c absent there puts below name j = (to, from)
  where
    to : place_in more name ≡ Some j → HasName found j name × (j < i + 1)
    to is = elim (chosen (bytes_eq name (name_of c)) (Some i) (place_in names name) (Some j) (sym (puts name) ∙ is)) [
      | inl (same, here) ↦
          (let at : i ≡ j = same_some i j here in
          let named : name ≡ name_of c = (bytes_eq-Decides name (name_of c)).0 same in
          (subst (λ k. HasName found k name) at (c, there, sym named), omega arith))
      | inr (other, old) ↦ (let was = (below name j).0 old in (was.0, omega (arith, was.1)))
    ]

    some_none : {n : ℕ} → ◌≡◌ {A = Option ℕ} (Some n) None → ⊥
    some_none e = cc

    from : HasName found j name × (j < i + 1) → place_in more name ≡ Some j
    from (has, before) = go (bytes_eq name (name_of c)) refl (cases_eq i j)
      where
        go : (b : Bool) → bytes_eq name (name_of c) ≡ b → (i ≡ j) ⊎ (i ≡ j → ⊥) → place_in more name ≡ Some j
        go true is (inl at) = rw (puts name, is, at) refl
        go true is (inr apart) =
            let named : name ≡ name_of c = (bytes_eq-Decides name (name_of c)).0 is in
            let old = (below name j).1 (has, omega arith) in
            absurd (some_none (sym old ∙ ap (place_in names) named ∙ absent))
        go false is (inl same) = absurd (false≢true (sym is ∙ (bytes_eq-Decides name (name_of c)).1
            (sym has.2 ∙ ap name_of (same_some has.0 c (sym has.1 ∙ ap (slice_get found) (sym same) ∙ there)))))
        go false is (inr apart) = rw (puts name, is) ((below name j).1 (has, omega arith))

pub all_differ : (found : List Candidate) (names : List (List ℕ × ℕ)) → IndexesBelow found names (length found)
    → NamesDiffer found
all_differ found names below i j name first second =
    let i_placed = (below name i).1 (first, within_found found i first.0 first.1) in
    let j_placed = (below name j).1 (second, within_found found j second.0 second.1) in
    same_some i j (sym i_placed ∙ j_placed)

pub not_different : (found : List Candidate) (names : List (List ℕ × ℕ)) (i k : ℕ) (c : Candidate)
    → IndexesBelow found names i → slice_get found i ≡ Some c → place_in names (name_of c) ≡ Some k
    → ¬ NamesDiffer found
not_different found names i k c below there placed differ =
    let old = (below (name_of c) k).0 placed in
    let same = differ k i (name_of c) old.0 (c, there, refl) in
    let before = old.1 in
    omega arith
