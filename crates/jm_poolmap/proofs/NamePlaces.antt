-- The rows of tables by a byte, and the bodies of constants by the places at which they name others.
use Rattle.std.proofs.Common.{◌≡◌, ℕ, zero, suc, ◌+◌, ◌<◌, ◌≤◌, inl, inr, Bool, true, false, cond, ◌||◌, List, [], ◌∷◌}
use Rattle.std.proofs.Common.{get_or, length, map, take, drop, Option, Some, None, refl, sym, ap, ◌∙◌, subst, arith}
use Rattle.std.proofs.lemmas.Bool.{eqb-true}
use Rattle.std.specs.Int.{w16, from_be_bytes}
use Rattle.std.specs.List.{list_any}
use Rattle.std.specs.Prelude.{nat_eq, unwrap_or}
use Rattle.jm_bytes.proofs.Choice.{same_some}
use Rattle.jm_class.specs.Classes.{body_size, FitsTag}
use Rattle.jm_poolmap.specs.declared.site.Site.{Site}
use Rattle.jm_poolmap.specs.Forms.{Rows, is_in, row_of}
use Rattle.jm_poolmap.specs.Sites.{naming_rows, rank, name_places, name_sites}

abbrev OfEach : {A : Type 0} → (A → Type 0) → List A → Type 0
OfEach P [] = Unit {0}
OfEach P (x ∷ xs) = P x × OfEach P xs

-- what holds of no row and of each row of a table holds of the row of each byte
row_is : {A : Type 0} (P : Option A → Type 0) (rows : Rows A) (byte : ℕ) → P None → OfEach (λ row. P (Some row.1)) rows
    → P (row_of rows byte)
row_is P [] byte none each = none
row_is P (row ∷ rows) byte none each = go (list_any (is_in byte) row.0) (row_is P rows byte none each.1)
  where
    go : (b : Bool) → P (row_of rows byte) → P (cond b (Some row.1) (row_of rows byte))
    go true rest = each.0
    go false rest = rest

-- a rank is at most 3
pub rank_within : (tag : ℕ) → rank tag ≤ 3
rank_within tag = row_is (λ row. (unwrap_or row (0, [])).0 ≤ 3) naming_rows tag (omega arith) (
  omega arith,
  (omega arith, (omega arith, (omega arith, (omega arith, tt)))),
)

-- Tags

-- a test for one of some tags, as chains of tests are written
abbrev or_among : Bool → ℕ → List ℕ → Bool
or_among b tag [] = b
or_among b tag (t ∷ ts) = or_among (b || nat_eq tag t) tag ts

abbrev is_among : ℕ → List ℕ → Bool
is_among tag [] = false
is_among tag (t ∷ ts) = or_among (nat_eq tag t) tag ts

or_one : (P : ℕ → Type 0) (tag : ℕ) (b : Bool) (ts : List ℕ) → (b ≡ true → P tag) → or_among b tag ts ≡ true → OfEach P ts → P tag
or_one P tag b [] so e each = so e
or_one P tag b (t ∷ ts) so e each = or_one P tag (b || nat_eq tag t) ts (go b (nat_eq tag t) refl so) e each.1
  where
    go : (b c : Bool) → nat_eq tag t ≡ c → (b ≡ true → P tag) → b || c ≡ true → P tag
    go true c is so e = so refl
    go false c is so e = subst P (sym (eqb-true tag t (is ∙ e))) each.0

among : (P : ℕ → Type 0) (tag : ℕ) (ts : List ℕ) → is_among tag ts ≡ true → OfEach P ts → P tag
among P tag [] e each = cc
among P tag (t ∷ ts) e each = or_one P tag (nat_eq tag t) ts (λ is. subst P (sym (eqb-true tag t is)) each.0) e each.1

-- Bodies

-- the first n items
abbrev first_items : ℕ → List ℕ → List ℕ
first_items zero xs = []
first_items (suc n) xs = get_or xs 0 0 ∷ first_items n (drop 1 xs)

all_items : (n : ℕ) (xs : List ℕ) → n ≡ length xs → first_items n xs ≡ xs
all_items zero [] e = refl
all_items zero (x ∷ xs) e = cc
all_items (suc n) [] e = cc
all_items (suc n) (x ∷ xs) e = ap (λ t. x ∷ t) (all_items n xs (omega (arith, e)))

-- what holds of the five shapes of bodies holds of each that fits its tag: it names none, or others at these places
module _ (P : List ℕ → List ℕ → Type 0) (free : (body : List ℕ) → P [] body) (one : (a b : ℕ) → P (0 ∷ []) (a ∷ b ∷ []))
    (two : (a b c d : ℕ) → P (0 ∷ 2 ∷ []) (a ∷ b ∷ c ∷ d ∷ [])) (second : (a b c d : ℕ) → P (2 ∷ []) (a ∷ b ∷ c ∷ d ∷ []))
    (third : (a b c : ℕ) → P (1 ∷ []) (a ∷ b ∷ c ∷ [])) (tag : ℕ) (body : List ℕ) where
  -- of a tag with a size
  abbrev Sized : ℕ → Type 0
  Sized t = body_size t ≡ Some (length body) → P (name_places t) body

  of_size : (n : ℕ) (places : List ℕ) → P places (first_items n body) → Some n ≡ Some (length body) → P places body
  of_size n places holds e = subst (P places) (all_items n body (same_some n (length body) e)) holds

  of_one : Some 2 ≡ Some (length body) → P (0 ∷ []) body
  of_one = of_size 2 (0 ∷ []) (one _ _)

  of_two : Some 4 ≡ Some (length body) → P (0 ∷ 2 ∷ []) body
  of_two = of_size 4 (0 ∷ 2 ∷ []) (two _ _ _ _)

  of_second : Some 4 ≡ Some (length body) → P (2 ∷ []) body
  of_second = of_size 4 (2 ∷ []) (second _ _ _ _)

  pub by_shape : FitsTag tag body → P (name_places tag) body
  by_shape (inl fits) = subst (λ t. P (name_places t) body) (sym fits.0) (free body)
  by_shape (inr fits) =
      go (is_among tag (3 ∷ 4 ∷ [])) refl (is_among tag (5 ∷ 6 ∷ [])) refl (is_among tag (7 ∷ 8 ∷ 16 ∷ 19 ∷ 20 ∷ [])) refl
      (is_among tag (9 ∷ 10 ∷ 11 ∷ 12 ∷ 17 ∷ 18 ∷ [])) refl (is_among tag (15 ∷ [])) refl fits
    where
      go : (a : Bool) → is_among tag (3 ∷ 4 ∷ []) ≡ a → (b : Bool) → is_among tag (5 ∷ 6 ∷ []) ≡ b → (c : Bool)
          → is_among tag (7 ∷ 8 ∷ 16 ∷ 19 ∷ 20 ∷ []) ≡ c → (d : Bool) → is_among tag (9 ∷ 10 ∷ 11 ∷ 12 ∷ 17 ∷ 18 ∷ []) ≡ d
          → (f : Bool) → is_among tag (15 ∷ []) ≡ f
          → cond a (Some 4) (cond b (Some 8) (cond c (Some 2) (cond d (Some 4) (cond f (Some 3) None)))) ≡ Some (length body)
          → P (name_places tag) body
      go true e3 b e5 c e7 d e9 f e15 e = among Sized tag (3 ∷ 4 ∷ []) e3 ((λ _. free body), ((λ _. free body), tt)) fits
      go false e3 true e5 c e7 d e9 f e15 e = among Sized tag (5 ∷ 6 ∷ []) e5 ((λ _. free body), ((λ _. free body), tt)) fits
      go false e3 false e5 true e7 d e9 f e15 e =
          among Sized tag (7 ∷ 8 ∷ 16 ∷ 19 ∷ 20 ∷ []) e7 (of_one, (of_one, (of_one, (of_one, (of_one, tt))))) fits
      go false e3 false e5 false e7 true e9 f e15 e =
          among Sized tag (9 ∷ 10 ∷ 11 ∷ 12 ∷ 17 ∷ 18 ∷ []) e9 (
            of_two,
            (of_two, (of_two, (of_two, (of_second, (of_second, tt))))),
          ) fits
      go false e3 false e5 false e7 false e9 true e15 e =
          among Sized tag (15 ∷ []) e15 (of_size 3 (1 ∷ []) (third _ _ _), tt) fits
      go false e3 false e5 false e7 false e9 false e15 e = cc

-- The numbers at the sites of a body

abbrev pub sites_at : List ℕ → List Site
sites_at places = map (λ place. record { place = place; wide = true }) places

abbrev pub number : List ℕ → ℕ → ℕ
number body place = from_be_bytes w16 (take 2 (drop place body))

-- a number stands within the body
pub name_fits : (tag : ℕ) (body : List ℕ) → FitsTag tag body → (sites : List Site) → sites ≡ name_sites tag → (i : ℕ) (site : Site)
    → i < length sites → (get_or sites i site).place + 2 ≤ length body
name_fits tag body fits sites are = subst Within (sym are) (by_shape (λ places body. (i : ℕ) (site : Site) → i < length (sites_at places)
    → (get_or (sites_at places) i site).place + 2 ≤ length body) (λ body i site more. absurd (omega (arith, more)))
    (λ a b. at_first 0 2 (omega arith)) (λ a b c d. at_both) (λ a b c d. at_first 2 4 (omega arith)) (λ a b c. at_first 1 3 (omega arith))
    tag body fits)
  where
    Within : List Site → Type 0
    Within sites = (i : ℕ) (site : Site) → i < length sites → (get_or sites i site).place + 2 ≤ length body

    at_first : (place size : ℕ) → place + 2 ≤ size → (i : ℕ) (site : Site) → i < 1
        → (get_or (sites_at (place ∷ [])) i site).place + 2 ≤ size
    at_first place size within zero site more = within
    at_first place size within (suc i) site more = absurd (omega (arith, more))

    at_both : (i : ℕ) (site : Site) → i < 2 → (get_or (sites_at (0 ∷ 2 ∷ [])) i site).place + 2 ≤ 4
    at_both zero site more = omega arith
    at_both (suc zero) site more = omega arith
    at_both (suc (suc i)) site more = absurd (omega (arith, more))
