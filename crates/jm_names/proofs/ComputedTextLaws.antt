-- The longest front that is a run of characters is found by reading one character after another.
use Rattle.std.proofs.Common.{◌≡◌, ℕ, zero, suc, ◌+◌, ◌<◌, ◌≤◌, Bool, true, false, ◌==◌, List, [], ◌∷◌, ◌++◌}
use Rattle.std.proofs.Common.{length, take, drop, refl, sym, ap, subst, ◌∙◌, append_assoc, arith}
use Rattle.std.specs.Prelude.{if◌then◌else◌}
use Rattle.std.specs.List.{list_all, concat}
use Rattle.std.proofs.lemmas.Bool.{false≢true, and_parts}
use Rattle.std.proofs.lemmas.Bool.Decides.{nat_tests}
use Rattle.std.proofs.lemmas.List.{drop_at, drop-drop, take-append-drop, length-append, length-take}
use Rattle.std.proofs.lemmas.List.{length-drop, length-take-le, nil_from_length}
use Rattle.jm_names.specs.Characters.{is_character, IsText, IsLongestText}
use Rattle.jm_names.specs.ComputedText.{character_len, run_len, text_len}
use Rattle.jm_names.proofs.CharacterLaws.{character_some, IsText-cons}

-- a character in front is the one that is found there
pub character_len-append : (c rest : List ℕ) → is_character c ≡ true → character_len (c ++ rest) ≡ length c
character_len-append [] rest h = absurd (false≢true h)
character_len-append (a ∷ []) rest h = rw h
character_len-append (a ∷ x ∷ []) rest h =
    let one : is_character (a ∷ []) ≡ false = grind (arith, nat_tests) in rw (one, h)
character_len-append (a ∷ x ∷ y ∷ []) rest h =
    let one : is_character (a ∷ []) ≡ false = grind (arith, nat_tests) in
    let two : is_character (a ∷ x ∷ []) ≡ false = grind (arith, nat_tests) in rw (one, two, h)
character_len-append (a ∷ x ∷ y ∷ b ∷ []) rest h = absurd (false≢true h)
character_len-append (a ∷ x ∷ y ∷ b ∷ z ∷ []) rest h = absurd (false≢true h)
character_len-append (a ∷ x ∷ y ∷ b ∷ z ∷ w ∷ []) rest h =
    let one : is_character (a ∷ []) ≡ false = grind (arith, nat_tests) in
    let two : is_character (a ∷ x ∷ []) ≡ false = grind (arith, nat_tests) in
    let three : is_character (a ∷ x ∷ y ∷ []) ≡ false = grind (arith, nat_tests) in rw (one, two, three, h)
character_len-append (a ∷ x ∷ y ∷ b ∷ z ∷ w ∷ u ∷ c) rest h = absurd (false≢true h)

-- two bytes are needed where one isn't enough, and so on
fits_two : (bytes : List ℕ) → is_character (take 1 bytes) ≡ false → is_character (take 2 bytes) ≡ true → 2 ≤ length bytes
fits_two [] one h = absurd (false≢true h)
fits_two (a ∷ []) one h = absurd (false≢true (sym one ∙ h))
fits_two (a ∷ x ∷ bytes) one h = omega arith

fits_three : (bytes : List ℕ) → is_character (take 2 bytes) ≡ false → is_character (take 3 bytes) ≡ true → 3 ≤ length bytes
fits_three [] two h = absurd (false≢true h)
fits_three (a ∷ []) two h = absurd (false≢true (sym two ∙ h))
fits_three (a ∷ x ∷ []) two h = absurd (false≢true (sym two ∙ h))
fits_three (a ∷ x ∷ y ∷ bytes) two h = omega arith

fits_six : (bytes : List ℕ) → is_character (take 3 bytes) ≡ false → is_character (take 6 bytes) ≡ true → 6 ≤ length bytes
fits_six [] three h = absurd (false≢true h)
fits_six (a ∷ []) three h = absurd (false≢true (sym three ∙ h))
fits_six (a ∷ x ∷ []) three h = absurd (false≢true (sym three ∙ h))
fits_six (a ∷ x ∷ y ∷ []) three h = absurd (false≢true (sym three ∙ h))
fits_six (a ∷ x ∷ y ∷ b ∷ []) three h = absurd (false≢true h)
fits_six (a ∷ x ∷ y ∷ b ∷ z ∷ []) three h = absurd (false≢true h)
fits_six (a ∷ x ∷ y ∷ b ∷ z ∷ w ∷ bytes) three h = omega arith

-- what is found in front is a character
pub record StandsInFront (n : ℕ) (bytes : List ℕ) : Type 0 where
  pub some : 0 < n
  pub within : n ≤ length bytes
  pub is : is_character (take n bytes) ≡ true

pub character_len_found : (bytes : List ℕ) → 0 < character_len bytes → StandsInFront (character_len bytes) bytes
character_len_found bytes = go (is_character (take 1 bytes)) (is_character (take 2 bytes)) (is_character (take 3 bytes))
    (is_character (take 6 bytes)) refl refl refl refl
  where
    go : (one two three six : Bool) → is_character (take 1 bytes) ≡ one → is_character (take 2 bytes) ≡ two
        → is_character (take 3 bytes) ≡ three → is_character (take 6 bytes) ≡ six
        → 0 < (if one then 1 else (if two then 2 else (if three then 3 else (if six then 6 else 0))))
        → StandsInFront (if one then 1 else (if two then 2 else (if three then 3 else (if six then 6 else 0)))) bytes
    go true two three six a b c d some = record {
      some = omega arith;
      within =
          omega (arith, character_some (take 1 bytes) a, length-take 1 bytes);
      is = a;
    }
    go false true three six a b c d some = record { some = omega arith; within = fits_two bytes a b; is = b }
    go false false true six a b c d some = record { some = omega arith; within = fits_three bytes b c; is = c }
    go false false false true a b c d some = record { some = omega arith; within = fits_six bytes c d; is = d }
    go false false false false a b c d some = absurd (omega arith)

pub StandsInFront-found : (bytes : List ℕ) (n : ℕ) → n ≡ character_len bytes → 0 < n → StandsInFront n bytes
StandsInFront-found bytes n e some =
    subst (λ k. StandsInFront k bytes) (sym e) (character_len_found bytes (omega arith))

-- a run after which no character stands is at least as long as any other run in front
no_longer : (cs ds : List (List ℕ)) (rest other : List ℕ) → list_all is_character cs ≡ true → list_all is_character ds ≡ true
    → concat cs ++ rest ≡ concat ds ++ other → character_len rest ≡ 0 → length (concat ds) ≤ length (concat cs)
no_longer cs [] rest other hc hd e stop = omega arith
no_longer [] (d ∷ ds) rest other hc hd e stop =
    let tests = and_parts (is_character d) (list_all is_character ds) hd in
    let found : character_len rest ≡ length d = ap character_len (e ∙ append_assoc d (concat ds) other)
    ∙ character_len-append d (concat ds ++ other) tests.0 in
    absurd (omega (arith, character_some d tests.0))
no_longer (c ∷ cs) (d ∷ ds) rest other hc hd e stop =
    let first = and_parts (is_character c) (list_all is_character cs) hc in
    let second = and_parts (is_character d) (list_all is_character ds) hd in
    let whole : c ++ (concat cs ++ rest) ≡ d ++ (concat ds ++ other) = sym (append_assoc c (concat cs) rest) ∙ e
    ∙ append_assoc d (concat ds) other in
    let same : length c ≡ length d =
    sym (character_len-append c (concat cs ++ rest) first.0) ∙ ap character_len whole ∙ character_len-append d (concat ds ++ other)
    second.0 in
    let after : concat cs ++ rest ≡ concat ds ++ other =
    sym (drop_at c (concat cs ++ rest) (length c) refl) ∙ ap (drop (length c)) whole ∙ drop_at d (concat ds ++ other) (length c)
    (sym same) in
    let more = no_longer cs ds rest other first.1 second.1 after stop in
    omega (arith, length-append c (concat cs), length-append d (concat ds))

-- a run in front after which no character stands is the longest
pub IsLongestText-stop : (bytes : List ℕ) (at : ℕ) → at ≤ length bytes → IsText (take at bytes) → character_len (drop at bytes) ≡ 0
    → IsLongestText at bytes
IsLongestText-stop bytes at within text stop = record {
  within = within;
  text = text;
  longest = λ n more le other.
      let whole : concat text.0 ++ drop at bytes ≡ concat other.0 ++ drop n bytes =
      ap (λ xs. xs ++ drop at bytes) text.2 ∙ take-append-drop at bytes ∙ sym (take-append-drop n bytes)
      ∙ ap (λ xs. xs ++ drop n bytes) (sym other.2) in
      let short = no_longer text.0 other.0 (drop at bytes) (drop n bytes) text.1 other.1 whole stop in
      omega (arith, ap length text.2, ap length other.2, length-take-le at bytes within, length-take-le n bytes le);
}

-- what reading some characters gives
record Runs (most n : ℕ) (bytes : List ℕ) : Type 0 where
  within : n ≤ length bytes
  text : IsText (take n bytes)
  stop : length bytes ≤ most → character_len (drop n bytes) ≡ 0

run_len-Runs : (most : ℕ) (bytes : List ℕ) → Runs most (run_len most bytes) bytes
run_len-Runs zero bytes = record {
  within = omega arith;
  text = ([], refl, refl);
  stop = λ short. ap character_len (nil_from_length bytes (omega arith));
}
run_len-Runs (suc most) bytes = go (character_len bytes == 0) refl (run_len-Runs most (drop (character_len bytes) bytes))
  where
    go : (b : Bool) → (character_len bytes == 0) ≡ b → Runs most (run_len most (drop (character_len bytes) bytes))
        (drop (character_len bytes) bytes)
        → Runs (suc most) (if b then 0 else character_len bytes + run_len most (drop (character_len bytes) bytes)) bytes
    go true e later = record { within = omega arith; text = ([], refl, refl); stop = λ short. grind (arith, nat_tests) }
    go false e later =
        let some : 0 < character_len bytes = grind (arith, nat_tests) in
        let front = character_len_found bytes some in
        record {
          within = omega (arith, front.within, later.within, length-drop (character_len bytes) bytes);
          text = IsText-cons bytes (character_len bytes) (run_len most (drop (character_len bytes) bytes)) front.is later.text;
          stop = λ short.
              ap character_len (sym (drop-drop (run_len most (drop (character_len bytes) bytes)) (character_len bytes) bytes))
              ∙ later.stop (omega (arith, front.some, length-drop (character_len bytes) bytes));
        }

-- reading one character after another finds the longest front
pub text_len-longest : (bytes : List ℕ) → IsLongestText (text_len bytes) bytes
text_len-longest bytes =
    let run = run_len-Runs (length bytes) bytes in
    IsLongestText-stop bytes (text_len bytes) run.within run.text (run.stop (omega arith))
