-- Attributes, numbers and constants, one after another.
use Rattle.std.proofs.Common.{◌≡◌, ℕ, suc, ◌+◌, ◌-◌, ◌*◌, ◌<◌, ◌||◌, List, [], ◌∷◌, ◌++◌, length, take}
use Rattle.std.proofs.Common.{drop, map, get_or, refl, sym, ap, ◌∙◌, arith, append_assoc}
use Rattle.std.proofs.lemmas.List.{length_push, at_drop_more}
use Rattle.std.specs.List.{list_any}
use Rattle.jm_class.specs.declared.class.Attribute.{Attribute}
use Rattle.jm_class.specs.Classes.{SlotData, Constant, u2, utf8_at}
use Rattle.jm_class.specs.Views.{attribute_of}
use Rattle.jm_modinfo.specs.Descriptors.{is_named}
use Rattle.jm_modinfo.specs.Written.{utf8, numbers_text}
use Rattle.jm_packages.specs.Packages.{package_slots, added_slots, attribute_name}

-- the attributes as plain data have a name where they have it
pub one_listed : (pool : List SlotData) (attributes : List Attribute)
    → list_any (λ a. is_named attribute_name (utf8_at pool a.name)) (map attribute_of attributes)
    ≡ list_any (λ a. is_named attribute_name (utf8_at pool a.name)) attributes
one_listed pool [] = refl
one_listed pool (a ∷ attributes) = ap (λ b. is_named attribute_name (utf8_at pool a.name) || b) (one_listed pool attributes)

-- Numbers from a first one on, each two above the one before

module _ (first count k : ℕ) (more : k < count) where
  numbers-more : numbers_text (first + 2 * k) (count - k) ≡ u2 (first + 2 * k) ++ numbers_text (first + 2 * (k + 1)) (count - (k + 1))
  numbers-more =
      let left : count - k ≡ suc (count - (k + 1)) = omega arith in
      let next : first + 2 * k + 2 ≡ first + 2 * (k + 1) = omega arith in
      ap (numbers_text (first + 2 * k)) left ∙ ap (λ (n : ℕ). u2 (first + 2 * k) ++ numbers_text n (count - (k + 1))) next

  pub numbers-next : (done new all : List ℕ) → done ++ numbers_text (first + 2 * k) (count - k) ≡ all → new
      ≡ done ++ u2 (first + 2 * k) → new ++ numbers_text (first + 2 * (k + 1)) (count - (k + 1)) ≡ all
  numbers-next done new all e grown =
      ap (λ t. t ++ numbers_text (first + 2 * (k + 1)) (count - (k + 1))) grown
      ∙ append_assoc done (u2 (first + 2 * k)) (numbers_text (first + 2 * (k + 1)) (count - (k + 1)))
      ∙ ap (λ t. done ++ t) (sym numbers-more) ∙ e

  pub numbers-front : (rest : List ℕ) → rest ≡ numbers_text (first + 2 * k) (count - k) → take 2 rest ≡ u2 (first + 2 * k)
  numbers-front rest e = ap (take 2) (e ∙ numbers-more)

  pub numbers-behind : (rest : List ℕ) → rest ≡ numbers_text (first + 2 * k) (count - k) → drop 2 rest
      ≡ numbers_text (first + 2 * (k + 1)) (count - (k + 1))
  numbers-behind rest e = ap (drop 2) (e ∙ numbers-more)

-- The constants of packages

module _ (first : ℕ) (packages : List (List ℕ)) (i : ℕ) (item : List ℕ) (more : i < length packages) (is : item
    ≡ get_or packages i item) where
  slots-more : package_slots (first + 2 * i) (drop i packages) ≡ utf8 item ∷ Constant 20 (u2 (first + 2 * i))
      ∷ package_slots (first + 2 * (i + 1)) (drop (i + 1) packages)
  slots-more =
      let next : first + 2 * i + 2 ≡ first + 2 * (i + 1) = omega arith in
      at_drop_more (package_slots (first + 2 * i)) packages i item more
      ∙ ap (λ (p : List ℕ). utf8 p ∷ Constant 20 (u2 (first + 2 * i)) ∷ package_slots (first + 2 * i + 2) (drop (i + 1) packages)) (sym is)
      ∙ ap (λ (n : ℕ). utf8 item ∷ Constant 20 (u2 (first + 2 * i)) ∷ package_slots n (drop (i + 1) packages)) next

  pub slots-next : (old new all : List SlotData) (number : List ℕ) → old ++ package_slots (first + 2 * i) (drop i packages) ≡ all
      → new ≡ old ++ utf8 item ∷ Constant 20 number ∷ [] → number ≡ u2 (first + 2 * i) → new ++ package_slots (first + 2 * (i + 1))
      (drop (i + 1) packages) ≡ all
  slots-next old new all number e grown same =
      let rest = package_slots (first + 2 * (i + 1)) (drop (i + 1) packages) in
      ap (λ t. t ++ rest) grown ∙ append_assoc old (utf8 item ∷ Constant 20 number ∷ []) rest
      ∙ ap (λ (n : List ℕ). old ++ (utf8 item ∷ Constant 20 n ∷ rest)) same
      ∙ ap (λ t. old ++ t) (sym slots-more) ∙ e

-- The pool with all that is added

pub pool-with : (old pushed grown : List SlotData) (packages : List (List ℕ)) → pushed ≡ old ++ utf8 attribute_name ∷ [] → grown
    ≡ pushed ++ package_slots (length pushed + 1) packages → grown ≡ old ++ added_slots (length old + 1) packages
pool-with old pushed grown packages one all =
    let long : length pushed ≡ length old + 1 = ap length one ∙ length_push old (utf8 attribute_name) in
    all ∙ ap (λ n. pushed ++ package_slots (n + 1) packages) long
    ∙ ap (λ p. p ++ package_slots (length old + 1 + 1) packages) one
    ∙ append_assoc old (utf8 attribute_name ∷ []) (package_slots (length old + 1 + 1) packages)
