-- A name without the first byte of a surrogate is the same in UTF-8.
use Rattle.std.proofs.Common.{◌≡◌, ◌==◌, ◌||◌, ℕ, Bool, true, false, List, [], ◌∷◌, refl, ap}
use Rattle.std.specs.List.{list_any}
use Rattle.jm_names.specs.UtfForms.{is_pair, utf}

neither : (a b : Bool) → (a || b) ≡ false → (a ≡ false) × (b ≡ false)
neither false b none = (refl, none)
neither true b none = cc

no_pair : (a x y b z w : ℕ) → a == 0xED ≡ false → is_pair a x y b z w ≡ false
no_pair a x y b z w none = rw none refl

pub utf_plain : (name : List ℕ) → list_any (λ byte. byte == 0xED) name ≡ false → utf name ≡ name
utf_plain (a ∷ x ∷ y ∷ b ∷ z ∷ w ∷ name) none =
    let parts = neither (a == 0xED) (list_any (λ byte. byte == 0xED) (x ∷ y ∷ b ∷ z ∷ w ∷ name)) none in
    rw (no_pair a x y b z w parts.0) (ap (λ l. a ∷ l) (utf_plain (x ∷ y ∷ b ∷ z ∷ w ∷ name) parts.1))
utf_plain (a ∷ x ∷ y ∷ b ∷ z ∷ []) none = refl
utf_plain (a ∷ x ∷ y ∷ b ∷ []) none = refl
utf_plain (a ∷ x ∷ y ∷ []) none = refl
utf_plain (a ∷ x ∷ []) none = refl
utf_plain (a ∷ []) none = refl
utf_plain [] none = refl
