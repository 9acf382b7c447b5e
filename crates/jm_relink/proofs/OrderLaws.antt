-- Elements in byte order of their names, each put in its place in a list that is in order.
use Rattle.std.proofs.Common.{◌≡◌, ◌≢◌, ℕ, Bool, true, false, cond, List, [], ◌∷◌, ◌++◌, All, AllPairs}
use Rattle.std.proofs.Common.{IsPermutation, refl, sym, ap, subst, ◌∙◌, append_assoc}
use Rattle.std.proofs.lemmas.List.Elements.{All-cons, All-contains, All-head, All-nil, All-tail}
use Rattle.std.proofs.lemmas.List.Kept.{AllPairs-cons}
use Rattle.std.proofs.lemmas.List.Sorted.{All-permutation, IsPermutation-append_comm, IsPermutation-append_left}
use Rattle.std.proofs.lemmas.List.Sorted.{IsPermutation-append_right, IsPermutation-refl, IsPermutation-trans}
use Rattle.std.specs.List.{flat_map}
use Rattle.jm_bytes.proofs.ByteOrderLaws.{before_further, before_or}
use Rattle.jm_bytes.proofs.Members.{all_from_contains}
use Rattle.jm_bytes.proofs.Pairs.{pairs_head, pairs_none, pairs_tail}
use Rattle.jm_bytes.specs.ByteOrder.{is_before}
use Rattle.jm_names.specs.ByName as pairs
use Rattle.jm_names.specs.ByName.{Named}

middle_first : {Y : Type 0} (xs ys zs : List Y) → IsPermutation (xs ++ (ys ++ zs)) (ys ++ (xs ++ zs))
middle_first xs ys zs =
    rw (sym (append_assoc xs ys zs), sym (append_assoc ys xs zs))
    (IsPermutation-append_left zs (xs ++ ys) (ys ++ xs) (IsPermutation-append_comm xs ys))

singles : {X : Type 0} (xs : List X) → flat_map (λ x. x ∷ []) xs ≡ xs
singles [] = refl
singles (x ∷ xs) = ap (λ ys. x ∷ ys) (singles xs)

module _ {X : Type 0} (name : X → List ℕ) where
  abbrev pub Before : X → X → Type 0
  Before x y = is_before (name x) (name y) ≡ true

  abbrev pub placed : X → List X → List X
  placed x [] = x ∷ []
  placed x (y ∷ ys) = cond (is_before (name y) (name x)) (y ∷ placed x ys) (x ∷ y ∷ ys)

  abbrev pub in_order : List X → List X
  in_order [] = []
  in_order (x ∷ xs) = placed x (in_order xs)

  -- They are the same elements, and so is what comes of each of them

  module _ {Y : Type 0} (f : X → List Y) where
    flat_placed : (x : X) (xs : List X) → IsPermutation (f x ++ flat_map f xs) (flat_map f (placed x xs))
    flat_placed x [] = IsPermutation-refl (f x ++ [])
    flat_placed x (y ∷ ys) = go (is_before (name y) (name x)) (flat_placed x ys)
      where
        go : (b : Bool) → IsPermutation (f x ++ flat_map f ys) (flat_map f (placed x ys))
            → IsPermutation (f x ++ (f y ++ flat_map f ys)) (flat_map f (cond b (y ∷ placed x ys) (x ∷ y ∷ ys)))
        go true rest =
            IsPermutation-trans (f x ++ (f y ++ flat_map f ys)) (f y ++ (f x ++ flat_map f ys)) (f y ++ flat_map f (placed x ys))
            (middle_first (f x) (f y) (flat_map f ys))
            (IsPermutation-append_right (f y) (f x ++ flat_map f ys) (flat_map f (placed x ys)) rest)
        go false rest = IsPermutation-refl (f x ++ (f y ++ flat_map f ys))

    pub flat_in_order : (xs : List X) → IsPermutation (flat_map f xs) (flat_map f (in_order xs))
    flat_in_order [] = IsPermutation-refl []
    flat_in_order (x ∷ xs) =
        IsPermutation-trans (f x ++ flat_map f xs) (f x ++ flat_map f (in_order xs)) (flat_map f (placed x (in_order xs)))
        (IsPermutation-append_right (f x) (flat_map f xs) (flat_map f (in_order xs)) (flat_in_order xs))
        (flat_placed x (in_order xs))

  placed_moved : (x : X) (xs : List X) → IsPermutation (x ∷ xs) (placed x xs)
  placed_moved x xs =
      subst (λ ys. IsPermutation (x ∷ xs) ys) (singles (placed x xs))
      (subst (λ ys. IsPermutation (x ∷ ys) (flat_map (λ y. y ∷ []) (placed x xs))) (singles xs)
      (flat_placed (λ y. y ∷ []) x xs))

  pub in_order_moved : (xs : List X) → IsPermutation xs (in_order xs)
  in_order_moved xs =
      subst (λ ys. IsPermutation xs ys) (singles (in_order xs))
      (subst (λ ys. IsPermutation ys (flat_map (λ y. y ∷ []) (in_order xs))) (singles xs)
      (flat_in_order (λ y. y ∷ []) xs))

  -- They rise

  abbrev pub Apart : X → X → Type 0
  Apart x y = name x ≢ name y

  placed_rises : (x : X) (xs : List X) → All (Apart x) xs → AllPairs Before xs → AllPairs Before (placed x xs)
  placed_rises x [] apart rises = AllPairs-cons Before x [] (All-nil (Before x)) rises
  placed_rises x (y ∷ ys) apart rises = go (is_before (name y) (name x)) refl
      (placed_rises x ys (All-tail (Apart x) y ys apart) (pairs_tail Before y ys rises))
    where
      later : All (Before y) ys
      later = pairs_head Before y ys rises

      go : (b : Bool) → is_before (name y) (name x) ≡ b → AllPairs Before (placed x ys)
          → AllPairs Before (cond b (y ∷ placed x ys) (x ∷ y ∷ ys))
      go true is rest =
          AllPairs-cons Before y (placed x ys)
          (All-permutation (Before y) (x ∷ ys) (placed x ys) (placed_moved x ys) (All-cons (Before y) x ys is later)) rest
      go false is rest =
          let first = before_or (name x) (name y) (All-head (Apart x) y ys apart) is in
          AllPairs-cons Before x (y ∷ ys)
          (All-cons (Before x) y ys first (all_from_contains (Before x) ys (λ z there. before_further (name x) (name y) (name z)
          first (All-contains (Before y) ys z later there)))) rises

  pub in_order_rises : (xs : List X) → AllPairs Apart xs → AllPairs Before (in_order xs)
  in_order_rises [] apart = pairs_none Before
  in_order_rises (x ∷ xs) apart =
      placed_rises x (in_order xs)
      (All-permutation (Apart x) xs (in_order xs) (in_order_moved xs) (pairs_head Apart x xs apart))
      (in_order_rises xs (pairs_tail Apart x xs apart))

-- Pairs by name are in order of their names

abbrev name_of : Named → List ℕ
name_of e = e.0

placed_same : (e : Named) (es : List Named) → pairs.placed e es ≡ placed name_of e es
placed_same e [] = refl
placed_same e (f ∷ es) = ap (λ fs. cond (is_before f.0 e.0) (f ∷ fs) (e ∷ f ∷ es)) (placed_same e es)

by_name_same : (es : List Named) → pairs.by_name es ≡ in_order name_of es
by_name_same [] = refl
by_name_same (e ∷ es) = ap (pairs.placed e) (by_name_same es) ∙ placed_same e (in_order name_of es)

pub flat_by_name : {Y : Type 0} (f : Named → List Y) (es : List Named) → IsPermutation (flat_map f es) (flat_map f (pairs.by_name es))
flat_by_name f es = subst (λ fs. IsPermutation (flat_map f es) (flat_map f fs)) (sym (by_name_same es)) (flat_in_order name_of f es)
