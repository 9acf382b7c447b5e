-- The attributes of a name, one after another.
use Rattle.std.proofs.Common.{◌≡◌, ℕ, ◌+◌, ◌<◌, ◌≤◌, List, [], ◌∷◌, get_or, length, map, drop, Some, None, refl, sym, ap, ◌∙◌}
use Rattle.std.proofs.lemmas.List.{at_drop_more, at_drop_all}
use Rattle.jm_class.specs.Classes.{SlotData}
use Rattle.jm_class.specs.declared.class.Attribute.{Attribute}
use Rattle.jm_class.specs.Views.{attribute_of}
use Rattle.jm_modinfo.specs.Descriptors.{bytes_named, bodies}

module _ (pool : List SlotData) (name : List ℕ) (xs : List Attribute) where
  abbrev among : List Attribute → List (List ℕ)
  among ys = bodies pool name (map attribute_of ys)

  module _ (i : ℕ) (item : Attribute) (more : i < length xs) (is : item ≡ get_or xs i item) where
    bodies-more : among (drop i xs) ≡ among (item ∷ drop (i + 1) xs)
    bodies-more = at_drop_more among xs i item more ∙ ap (λ x. among (x ∷ drop (i + 1) xs)) (sym is)

    pub bodies-next : bytes_named pool name (attribute_of item) ≡ None → bodies pool name (map attribute_of (drop (i + 1) xs))
        ≡ bodies pool name (map attribute_of (drop i xs))
    bodies-next none = sym (bodies-more ∙ rw none refl)

  pub bodies-found : (behind : List Attribute) (i : ℕ) (item : Attribute) (bytes : List ℕ) → i < length xs → item ≡ get_or xs i item
      → bytes_named pool name (attribute_of item) ≡ Some bytes → behind ≡ drop (i + 1) xs
      → bodies pool name (map attribute_of (drop i xs)) ≡ bytes ∷ bodies pool name (map attribute_of behind)
  bodies-found behind i item bytes more is found rest = bodies-more i item more is ∙ rw (found, rest) refl

  pub bodies-all : (i : ℕ) → length xs ≤ i → bodies pool name (map attribute_of (drop i xs)) ≡ []
  bodies-all i end = at_drop_all among xs i end
