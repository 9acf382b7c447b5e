-- Keys that are texts and differ.
use Rattle.std.proofs.Common.{◌≡◌, ◌≢◌, ℕ, Bool, true, false, List, get_or, AllPairs, IsPermutation, refl, sym, ◌∙◌}
use Rattle.std.proofs.lemmas.Bool.{false≢true}
use Rattle.std.proofs.lemmas.Map.Keys.{IsDistinct-IsPermutation, IsDistinct-from_apart, apart_from_distinct}
use Rattle.std.proofs.lemmas.Slice.Eq.{bytes_eq-Decides}
use Rattle.std.specs.Str.{bytes_eq}

module _ {X : Type 0} (key : X → List ℕ) where
  abbrev same_key : X → X → Bool
  same_key x y = bytes_eq (key x) (key y)

  same_flips : (x y : X) → same_key x y ≡ same_key y x
  same_flips x y = both (same_key x y) refl (same_key y x) refl
    where
      both : (b : Bool) → same_key x y ≡ b → (c : Bool) → same_key y x ≡ c → b ≡ c
      both true h true k = refl
      both false h false k = refl
      both true h false k = sym ((bytes_eq-Decides (key y) (key x)).1 (sym ((bytes_eq-Decides (key x) (key y)).0 h))) ∙ k
      both false h true k = sym h ∙ (bytes_eq-Decides (key x) (key y)).1 (sym ((bytes_eq-Decides (key y) (key x)).0 k))

  not_same : (x y : X) → key x ≢ key y → same_key x y ≡ false
  not_same x y differ = go (same_key x y) refl
    where
      go : (b : Bool) → same_key x y ≡ b → b ≡ false
      go true h = absurd (differ ((bytes_eq-Decides (key x) (key y)).0 h))
      go false h = refl

  same_not : (x y : X) → same_key x y ≡ false → key x ≢ key y
  same_not x y other same = false≢true (sym other ∙ (bytes_eq-Decides (key x) (key y)).1 same)

  -- keys that differ do so in any order
  pub differ_moved : (xs ys : List X) → IsPermutation xs ys → AllPairs (λ x y. key x ≢ key y) xs → AllPairs (λ x y. key x ≢ key y) ys
  differ_moved xs ys moved differ i j d before inside =
      let apart = IsDistinct-from_apart same_key xs (λ k l e front below. not_same (get_or xs k e) (get_or xs l e)
      (differ k l e front below)) in
      let still = IsDistinct-IsPermutation same_key same_flips xs ys moved apart in
      same_not (get_or ys i d) (get_or ys j d) (apart_from_distinct same_key ys i j d still before inside)
