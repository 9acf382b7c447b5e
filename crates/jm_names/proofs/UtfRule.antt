-- The two forms as they are computed are those of the rule, and no others.
use Rattle.std.proofs.Common.{◌≡◌, ℕ, ◌+◌, ◌/◌, ◌%◌, ◌<◌, Bool, true, false, List, [], ◌∷◌, ◌++◌, cond, refl, sym, ap, ◌∙◌}
use Rattle.std.proofs.Common.{subst, arith}
use Rattle.std.proofs.lemmas.Bool.{false≢true}
use Rattle.jm_names.specs.UtfForms.{is_four, four_number, four_bytes, is_pair, pair_number, pair_bytes, modified, utf}
use Rattle.jm_names.specs.UtfForms.{IsAbove, HasInFront, Rewritten, Ended, Character, Stays}
use Rattle.jm_names.proofs.UtfLaws.{four_number-read, four_number-above, is_four-bytes, modified-four}
use Rattle.jm_names.proofs.UtfLaws.{pair_number-read, is_pair-in_front, utf-pair}

below : (c : ℕ) → IsAbove c → c < 0x110000
below c range = omega (arith, range.1)

-- what is no character of four bytes has none in front
no_four : (a x y z : ℕ) (text : List ℕ) → is_four a x y z ≡ false → ¬ HasInFront four_bytes (a ∷ x ∷ y ∷ z ∷ text)
no_four a x y z text none (c, rest, range, e) =
    let four = is_four-bytes c range.0 (below c range) in
    let one : a ≡ 0xF0 + c / 0x40000 = cc in
    let two : x ≡ 0x80 + c / 0x1000 % 64 = cc in
    let three : y ≡ 0x80 + c / 64 % 64 = cc in
    let last : z ≡ 0x80 + c % 64 = cc in
    let is : is_four a x y z ≡ true = rw (one, two, three, last) four in
    absurd (false≢true (sym none ∙ is))

no_pair : (a x y b z w : ℕ) (name : List ℕ) → is_pair a x y b z w ≡ false → ¬ HasInFront pair_bytes (a ∷ x ∷ y ∷ b ∷ z ∷ w ∷ name)
no_pair a x y b z w name none (c, rest, range, e) =
    absurd (false≢true (sym none ∙ is_pair-in_front c a x y b z w name rest range e))

-- a text as it is computed in Modified UTF-8 is so by the rule
pub modified-rule : (text : List ℕ) → Rewritten four_bytes pair_bytes text (modified text)
modified-rule [] = Ended
modified-rule (a ∷ []) = Stays a [] [] (λ has. cc) Ended
modified-rule (a ∷ x ∷ []) = Stays a (x ∷ []) (x ∷ []) (λ has. cc) (modified-rule (x ∷ []))
modified-rule (a ∷ x ∷ y ∷ []) = Stays a (x ∷ y ∷ []) (x ∷ y ∷ []) (λ has. cc) (modified-rule (x ∷ y ∷ []))
modified-rule (a ∷ x ∷ y ∷ z ∷ text) = go (is_four a x y z) refl (modified-rule text) (modified-rule (x ∷ y ∷ z ∷ text))
  where
    go : (b : Bool) → is_four a x y z ≡ b → Rewritten four_bytes pair_bytes text (modified text)
        → Rewritten four_bytes pair_bytes (x ∷ y ∷ z ∷ text) (modified (x ∷ y ∷ z ∷ text))
        → Rewritten four_bytes pair_bytes (a ∷ x ∷ y ∷ z ∷ text) (cond b (pair_bytes (four_number a x y z) ++ modified text)
        (a ∷ modified (x ∷ y ∷ z ∷ text)))
    go true is behind next = subst (λ front. Rewritten four_bytes pair_bytes (front ++ text)
        (pair_bytes (four_number a x y z) ++ modified text)) (four_number-read a x y z is)
        (Character (four_number a x y z) text (modified text) (four_number-above a x y z is) behind)
    go false none behind next = Stays a (x ∷ y ∷ z ∷ text) (modified (x ∷ y ∷ z ∷ text)) (no_four a x y z text none) next

-- a name as it is computed in UTF-8 is so by the rule
pub utf-rule : (name : List ℕ) → Rewritten pair_bytes four_bytes name (utf name)
utf-rule [] = Ended
utf-rule (a ∷ []) = Stays a [] [] (λ has. cc) Ended
utf-rule (a ∷ x ∷ []) = Stays a (x ∷ []) (x ∷ []) (λ has. cc) (utf-rule (x ∷ []))
utf-rule (a ∷ x ∷ y ∷ []) = Stays a (x ∷ y ∷ []) (x ∷ y ∷ []) (λ has. cc) (utf-rule (x ∷ y ∷ []))
utf-rule (a ∷ x ∷ y ∷ b ∷ []) = Stays a (x ∷ y ∷ b ∷ []) (x ∷ y ∷ b ∷ []) (λ has. cc) (utf-rule (x ∷ y ∷ b ∷ []))
utf-rule (a ∷ x ∷ y ∷ b ∷ z ∷ []) = Stays a (x ∷ y ∷ b ∷ z ∷ []) (x ∷ y ∷ b ∷ z ∷ []) (λ has. cc) (utf-rule (x ∷ y ∷ b ∷ z ∷ []))
utf-rule (a ∷ x ∷ y ∷ b ∷ z ∷ w ∷ name) = go (is_pair a x y b z w) refl (utf-rule name) (utf-rule (x ∷ y ∷ b ∷ z ∷ w ∷ name))
  where
    go : (t : Bool) → is_pair a x y b z w ≡ t → Rewritten pair_bytes four_bytes name (utf name)
        → Rewritten pair_bytes four_bytes (x ∷ y ∷ b ∷ z ∷ w ∷ name) (utf (x ∷ y ∷ b ∷ z ∷ w ∷ name))
        → Rewritten pair_bytes four_bytes (a ∷ x ∷ y ∷ b ∷ z ∷ w ∷ name) (cond t (four_bytes (pair_number x y z w) ++ utf name)
        (a ∷ utf (x ∷ y ∷ b ∷ z ∷ w ∷ name)))
    go true is behind next = subst (λ front. Rewritten pair_bytes four_bytes (front ++ name)
        (four_bytes (pair_number x y z w) ++ utf name)) (pair_number-read a x y b z w is)
        (Character (pair_number x y z w) name (utf name) (omega arith, omega arith) behind)
    go false none behind next =
        Stays a (x ∷ y ∷ b ∷ z ∷ w ∷ name) (utf (x ∷ y ∷ b ∷ z ∷ w ∷ name)) (no_pair a x y b z w name none) next

-- where no character stands in front the first byte stays in what is computed
modified_stays : (b : ℕ) (bytes : List ℕ) → ¬ HasInFront four_bytes (b ∷ bytes) → modified (b ∷ bytes) ≡ b ∷ modified bytes
modified_stays a [] none = refl
modified_stays a (x ∷ []) none = refl
modified_stays a (x ∷ y ∷ []) none = refl
modified_stays a (x ∷ y ∷ z ∷ text) none = go (is_four a x y z) refl
  where
    go : (b : Bool) → is_four a x y z ≡ b → modified (a ∷ x ∷ y ∷ z ∷ text) ≡ a ∷ modified (x ∷ y ∷ z ∷ text)
    go true is = absurd (none (
      four_number a x y z,
      text,
      four_number-above a x y z is,
      sym (ap (λ t. t ++ text) (four_number-read a x y z is)),
    ))
    go false is = rw is refl

utf_stays : (b : ℕ) (bytes : List ℕ) → ¬ HasInFront pair_bytes (b ∷ bytes) → utf (b ∷ bytes) ≡ b ∷ utf bytes
utf_stays a [] none = refl
utf_stays a (x ∷ []) none = refl
utf_stays a (x ∷ y ∷ []) none = refl
utf_stays a (x ∷ y ∷ b ∷ []) none = refl
utf_stays a (x ∷ y ∷ b ∷ z ∷ []) none = refl
utf_stays a (x ∷ y ∷ b ∷ z ∷ w ∷ name) none = go (is_pair a x y b z w) refl
  where
    go : (t : Bool) → is_pair a x y b z w ≡ t → utf (a ∷ x ∷ y ∷ b ∷ z ∷ w ∷ name) ≡ a ∷ utf (x ∷ y ∷ b ∷ z ∷ w ∷ name)
    go true is = absurd (none (
      pair_number x y z w,
      name,
      (omega arith, omega arith),
      sym (ap (λ t. t ++ name) (pair_number-read a x y b z w is)),
    ))
    go false is = rw is refl

-- the rule has one answer, which is the computed one
pub rule-modified : (text name : List ℕ) → Rewritten four_bytes pair_bytes text name → name ≡ modified text
rule-modified _ _ Ended = refl
rule-modified _ _ (Character c bytes made range next) =
    ap (λ t. pair_bytes c ++ t) (rule-modified bytes made next) ∙ sym (modified-four c bytes range.0 (below c range))
rule-modified _ _ (Stays b bytes made none next) =
    ap (λ t. b ∷ t) (rule-modified bytes made next) ∙ sym (modified_stays b bytes none)

pub rule-utf : (name text : List ℕ) → Rewritten pair_bytes four_bytes name text → text ≡ utf name
rule-utf _ _ Ended = refl
rule-utf _ _ (Character c bytes made range next) =
    ap (λ t. four_bytes c ++ t) (rule-utf bytes made next) ∙ sym (utf-pair c bytes range.0 (below c range))
rule-utf _ _ (Stays b bytes made none next) =
    ap (λ t. b ∷ t) (rule-utf bytes made next) ∙ sym (utf_stays b bytes none)
