-- What holds of a content without a bad word, and its items from one on.
use Rattle.std.proofs.Common.{◌≡◌, ℕ, ◌+◌, ◌-◌, ◌*◌, ◌%◌, ◌==◌, ◌<◌, ◌&&◌, nat_lt, Bool, true, rules}
use Rattle.std.proofs.Common.{false, List, ◌∷◌, length, map, None, Some, refl}
use Rattle.std.proofs.Common.{ap, ◌∙◌, arith}
use Rattle.std.proofs.lemmas.List.{length-map}
use Rattle.std.proofs.lemmas.List.FromFn.{length-range_with_len}
use Rattle.std.specs.List.{list_any, range_with_len}
use Rattle.std.specs.Str.{bytes_eq}
use Rattle.jm_form.specs.declared.trees.Owner.{Owner}
use Rattle.jm_jrt.specs.Stat.{first_full}
use Rattle.jm_form.specs.Places.{strings}
use Rattle.jm_form.specs.Texts.{text_ends}
use Rattle.jm_reader.specs.Look.{head}
use Rattle.jm_jrt.specs.Told.{fits, is_child_sound, is_half_sound, is_pair_sound, is_row_sound}
use Rattle.jm_jrt.specs.Told.{pair_count}
use Rattle.jm_jrt.specs.Told.{row_told, word_count, word_of, words_fault}
use Rattle.jm_jrt.proofs.FaultLaws.{sound_below}

pub both : (a b : Bool) → a && b ≡ true → (a ≡ true) × (b ≡ true)
both true true e = (refl, refl)
both true false e = cc
both false b e = cc

-- What is told from an item on

pub items_more : {A : Type 0} (item : ℕ → A) (k n : ℕ) → k < n
    → map item (range_with_len k (n - k)) ≡ item k ∷ map item (range_with_len (k + 1) (n - (k + 1)))
items_more item k n below = search (rules)

pub items_length : {A : Type 0} (item : ℕ → A) (k n : ℕ) → length (map item (range_with_len k (n - k))) ≡ n - k
items_length item k n = length-map (range_with_len k (n - k)) item ∙ length-range_with_len k (n - k)

-- Children

pub record ChildAt (b : List ℕ) (content : List ℕ) (k : ℕ) : Type 0 where
  pub fits : fits content k ≡ true
  pub sound : is_row_sound (strings b (head b)) (row_told b (word_of b content k)) ≡ true

pub child_at : (b : List ℕ) (content : List ℕ) (k : ℕ) → words_fault (is_child_sound b content) (word_count content) ≡ None
    → k < word_count content → ChildAt b content k
child_at b content k none below =
    let parts = both (fits content k) (is_row_sound (strings b (head b)) (row_told b (word_of b content k)))
    (sound_below (is_child_sound b content) (word_count content) none k below) in
    record { fits = parts.0; sound = parts.1 }

-- Pairs

pub record PairAt (b : List ℕ) (content : List ℕ) (k : ℕ) : Type 0 where
  pub flag_fits : fits content (2 * k) ≡ true
  pub place_fits : fits content (2 * k + 1) ≡ true
  pub flag : nat_lt (word_of b content (2 * k)) 2 ≡ true
  pub ends : text_ends (strings b (head b)) (word_of b content (2 * k + 1)) ≡ true

first_half : (section : List ℕ) (k n : ℕ) → k % 2 == 0 ≡ true → is_half_sound section k n ≡ true → nat_lt n 2 ≡ true
first_half section k n even sound = rw even at sound

second_half : (section : List ℕ) (k n : ℕ) → k % 2 == 0 ≡ false → is_half_sound section k n ≡ true → text_ends section n ≡ true
second_half section k n odd sound = rw odd at sound

pub pair_at : (b : List ℕ) (content : List ℕ) (k : ℕ) → words_fault (is_pair_sound b content) (2 * pair_count content) ≡ None
    → k < pair_count content → PairAt b content k
pair_at b content k none below =
    let first = both (fits content (2 * k)) (is_half_sound (strings b (head b)) (2 * k) (word_of b content (2 * k)))
    (sound_below (is_pair_sound b content) (2 * pair_count content) none (2 * k) (omega arith)) in
    let second = both (fits content (2 * k + 1)) (is_half_sound (strings b (head b)) (2 * k + 1) (word_of b content (2 * k + 1)))
    (sound_below (is_pair_sound b content) (2 * pair_count content) none (2 * k + 1) (omega arith)) in
    let even : 2 * k % 2 ≡ 0 = omega arith in
    let odd : (2 * k + 1) % 2 ≡ 1 = omega arith in
    record {
      flag_fits = first.0;
      place_fits = second.0;
      flag = first_half (strings b (head b)) (2 * k) (word_of b content (2 * k)) (ap (λ (n : ℕ). n == 0) even) first.1;
      ends = second_half (strings b (head b)) (2 * k + 1) (word_of b content (2 * k + 1)) (ap (λ (n : ℕ). n == 0) odd) second.1;
    }

-- The first owner that isn't empty

pub full_here : (o : Owner) (os : List Owner) → o.empty ≡ false → first_full (o ∷ os) ≡ Some o.module
full_here o os full = rw full refl

pub full_later : (o : Owner) (os : List Owner) → o.empty ≡ true → first_full (o ∷ os) ≡ first_full os
full_later o os empty = rw empty refl

-- An owner that is a module

pub any_later : (name : List ℕ) (o : Owner) (os : List Owner) → bytes_eq name o.module ≡ false
    → list_any (λ o. bytes_eq name o.module) (o ∷ os) ≡ list_any (λ o. bytes_eq name o.module) os
any_later name o os other = rw other refl
