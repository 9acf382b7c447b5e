-- One item after another: the items that are still to come.
use Rattle.std.proofs.Common.{◌≡◌, ℕ, zero, suc, ◌+◌, ◌^◌, ◌<◌, ◌≤◌, List, [], ◌∷◌, ◌++◌, get_or, length, map}
use Rattle.std.proofs.Common.{drop, sym, ap, ◌∙◌, subst, arith, append_assoc, length-append}
use Rattle.std.proofs.lemmas.List.{append-nil, at_drop_more, at_drop_all, length-map}
use Rattle.std.proofs.lemmas.List.Elements.{All-head, All-tail}
use Rattle.std.specs.List.{flat_map}
use Rattle.std.specs.Prelude.{All}
use Rattle.jm_class.specs.Classes.{u2, counted_text}

-- the texts of items, as plain data
abbrev pub texts : {T A : Type 0} → (T → A) → (A → List ℕ) → List T → List ℕ
texts data_of text xs = flat_map text (map data_of xs)

module _ {T A : Type 0} (data_of : T → A) (text : A → List ℕ) (xs : List T) (i : ℕ) (item : T) (more : i < length xs) (is : item
    ≡ get_or xs i item) where
  texts-more : texts data_of text (drop i xs) ≡ text (data_of item) ++ texts data_of text (drop (i + 1) xs)
  texts-more = at_drop_more (texts data_of text) xs i item more ∙ ap (λ x. text (data_of x) ++ texts data_of text (drop (i + 1) xs))
      (sym is)

  size-more : length (texts data_of text (drop i xs)) ≡ length (text (data_of item)) + length (texts data_of text (drop (i + 1) xs))
  size-more = ap length texts-more ∙ length-append (text (data_of item)) (texts data_of text (drop (i + 1) xs))

  pub size_item : (size all : ℕ) → size + length (texts data_of text (drop i xs)) ≡ all → all < 2 ^ 64
      → length (text (data_of item)) < 2 ^ 64
  size_item size all e fits = let one = size-more in omega (arith, one, e, fits)

  pub size_fits : (size all piece : ℕ) → size + length (texts data_of text (drop i xs)) ≡ all → all < 2 ^ 64 → piece
      ≡ length (text (data_of item)) → size + piece < 2 ^ 64
  size_fits size all piece e fits p = let one = size-more in omega (arith, one, e, fits, p)

  pub size_next : (size all piece : ℕ) → size + length (texts data_of text (drop i xs)) ≡ all → piece ≡ length (text (data_of item))
      → (size + piece) + length (texts data_of text (drop (i + 1) xs)) ≡ all
  size_next size all piece e p = let one = size-more in omega (arith, one, e, p)

  pub text_next : (done new all : List ℕ) → done ++ texts data_of text (drop i xs) ≡ all → new ≡ done ++ text (data_of item)
      → new ++ texts data_of text (drop (i + 1) xs) ≡ all
  text_next done new all e grown =
      ap (λ t. t ++ texts data_of text (drop (i + 1) xs)) grown ∙ append_assoc done (text (data_of item))
      (texts data_of text (drop (i + 1) xs))
      ∙ ap (λ t. done ++ t) (sym texts-more) ∙ e

module _ {T A : Type 0} (data_of : T → A) (text : A → List ℕ) (xs : List T) (i : ℕ) (end : length xs ≤ i) where
  texts-none : texts data_of text (drop i xs) ≡ []
  texts-none = at_drop_all (texts data_of text) xs i end

  pub size_all : (size all : ℕ) → size + length (texts data_of text (drop i xs)) ≡ all → size ≡ all
  size_all size all e = let none = ap length texts-none in omega (arith, none, e)

  pub text_all : (done start : List ℕ) → done ++ texts data_of text (drop i xs) ≡ start ++ texts data_of text xs → done
      ≡ start ++ texts data_of text xs
  text_all done start e = sym (append-nil done) ∙ ap (λ t. done ++ t) (sym texts-none) ∙ e

  -- a count, and that many items
  pub counted_all : (old done start : List ℕ) → done ++ texts data_of text (drop i xs) ≡ start ++ texts data_of text xs → start
      ≡ old ++ u2 (length xs) → done ≡ old ++ counted_text text (map data_of xs)
  counted_all old done start e begun =
      let size = length-map xs data_of in
      text_all done start e ∙ ap (λ t. t ++ texts data_of text xs) begun ∙ append_assoc old (u2 (length xs)) (texts data_of text xs)
      ∙ ap (λ (n : ℕ). old ++ (u2 n ++ texts data_of text xs)) (sym size) ∙ ap (λ t. old ++ (u2 (length (map data_of xs)) ++ t))
      (sym (append-nil (texts data_of text xs)))

-- what holds of each item as plain data
pub each_index : {T A : Type 0} (data_of : T → A) (P : A → Type 0) (xs : List T) (i : ℕ) (d : T) → All P (map data_of xs)
    → i < length xs → P (data_of (get_or xs i d))
each_index data_of P [] i d all more = absurd (omega arith)
each_index data_of P (x ∷ xs) zero d all more = All-head P (data_of x) (map data_of xs) all
each_index data_of P (x ∷ xs) (suc i) d all more = each_index data_of P xs i d (All-tail P (data_of x) (map data_of xs) all) (omega arith)

pub each_item : {T A : Type 0} (data_of : T → A) (P : A → Type 0) (xs : List T) (i : ℕ) (item : T) → All P (map data_of xs)
    → i < length xs → item ≡ get_or xs i item → P (data_of item)
each_item data_of P xs i item all more is = subst (λ x. P (data_of x)) (sym is) (each_index data_of P xs i item all more)
