-- The texts of a row's name in the strings' front, and the states after them.
use Rattle.std.proofs.Common.{◌≡◌, ℕ, suc, ◌+◌, ◌<◌, ◌==◌, not, Bool, true, false, cond, List, [], ◌∷◌}
use Rattle.std.proofs.Common.{◌++◌, append-nil, length, take, drop, get_or, refl, sym, ap, ◌∙◌, arith}
use Rattle.std.proofs.Math.Seq.{drop-cons}
use Rattle.std.proofs.lemmas.Bool.{ltb-true}
use Rattle.std.proofs.lemmas.List.{length-take-le}
use Rattle.std.specs.List.{before_first, position_or_len}
use Rattle.jm_form.proofs.TextLaws.{ended_length-le, text_ends-below, text_in_front}
use Rattle.jm_form.specs.Texts.{ended_length, text_at, text_ends}
use Rattle.jm_names.proofs.HashLaws.{state_after-append}
use Rattle.jm_names.specs.Hash.{state_after}
use Rattle.jm_names.specs.Names.{Cut, ext_end, is_empty, join, module_front, parent_front}
use Rattle.jm_valid.specs.declared.sections.Sections.{Sections}
use Rattle.jm_valid.specs.Marks.{with_marks}
use Rattle.jm_valid.specs.Sections.{strings_in}
use Rattle.jm_valid.proofs.PassageLaws.{take_next}

-- a text that ends in the strings begins and ends in their front
pub record InFront (s : Sections) (place : ℕ) : Type 0 where
  pub below : place < length s.texts.now
  pub same : text_at s.texts.now place ≡ text_at (strings_in s) place

pub in_front : (s : Sections) (place : ℕ) → text_ends (strings_in s) place ≡ true → InFront s place
in_front s place ends =
    let section = strings_in s in
    let inside = ltb-true place (ended_length section) (sym (text_ends-below section place) ∙ ends) in
    let size = ap length s.texts_cut ∙ length-take-le (ended_length section) section (ended_length-le section) in
    record {
      below = omega (arith, inside, size);
      same = ap (λ (l : List ℕ). text_at l place) s.texts_cut ∙ text_in_front section place inside;
    }

empty_first : (x : ℕ) (xs : List ℕ) → is_empty (before_first (λ x. x == 0) (x ∷ xs)) ≡ (x == 0)
empty_first x xs = go (x == 0)
  where
    go : (b : Bool) → is_empty (take (cond (not b) (1 + position_or_len (λ x. x == 0) xs) 0) (x ∷ xs)) ≡ b
    go true = refl
    go false = ap is_empty (take_next (position_or_len (λ x. x == 0) xs) x xs)

-- a text is empty where a zero byte stands at its place
pub empty_at : (texts : List ℕ) (place : ℕ) → place < length texts → (get_or texts place 0 == 0) ≡ is_empty (text_at texts place)
empty_at texts place below =
    sym (ap (λ (l : List ℕ). is_empty (before_first (λ x. x == 0) l)) (drop-cons texts place 0 below)
    ∙ empty_first (get_or texts place 0) (drop (suc place) texts))

-- The marks of the pieces that aren't empty

pub marked_none : (before t behind : List ℕ) (s : ℕ) → is_empty t ≡ true → s ≡ state_after s (with_marks before t behind)
marked_none before [] behind s none = refl
marked_none before (x ∷ t) behind s none = cc

pub marked_some : (before t behind : List ℕ) (s : ℕ) → is_empty t ≡ false
    → state_after (state_after (state_after s before) t) behind ≡ state_after s (with_marks before t behind)
marked_some before [] behind s some = cc
marked_some before (x ∷ t) behind s some =
    sym (state_after-append s before ((x ∷ t) ++ behind) ∙ state_after-append (state_after s before) (x ∷ t) behind)

module_marked : (t : List ℕ) → with_marks (47 ∷ []) t (47 ∷ []) ≡ module_front t
module_marked [] = refl
module_marked (x ∷ t) = refl

parent_marked : (t : List ℕ) → with_marks [] t (47 ∷ []) ≡ parent_front t
parent_marked [] = refl
parent_marked (x ∷ t) = refl

ext_marked : (t : List ℕ) → with_marks (46 ∷ []) t [] ≡ ext_end t
ext_marked [] = refl
ext_marked (x ∷ t) = ap (λ l. 46 ∷ l) (append-nil (x ∷ t))

pub joined_state : (cut : Cut) (s : ℕ)
    → state_after (state_after (state_after (state_after s (with_marks (47 ∷ []) cut.module (47 ∷ [])))
    (with_marks [] cut.parent (47 ∷ [])))
    cut.base) (with_marks (46 ∷ []) cut.ext []) ≡ state_after s (join cut)
joined_state cut s =
    let m = module_front cut.module in
    let p = parent_front cut.parent in
    let e = ext_end cut.ext in
    rw (module_marked cut.module, parent_marked cut.parent, ext_marked cut.ext) (sym (
    state_after-append s m (p ++ (cut.base ++ e)) ∙ state_after-append (state_after s m) p (cut.base ++ e)
    ∙ state_after-append (state_after (state_after s m) p) cut.base e
    ))
