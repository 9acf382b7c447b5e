-- What stands before and after the first newline of a text.
use Rattle.std.proofs.Common.{◌≡◌, ◌==◌, ◌<◌, ℕ, true, false, List, [], ◌∷◌, ◌++◌, refl, sym, ◌∙◌, length, get_or, arith, rules}
use Rattle.std.specs.List.{after_first, before_first, list_any}
use Rattle.std.proofs.lemmas.Bool.{eqb-true, false_from_ne_true, false≢true}
use Rattle.std.proofs.lemmas.List.{get_or-take, length-take}
use Rattle.std.proofs.lemmas.List.Folds.{list_any_at}
use Rattle.std.proofs.lemmas.List.Sums.{fails_before_first}
use Rattle.jm_bytes.proofs.Cuts.{first_parts}
use Rattle.jm_jrt.specs.Lines.{is_newline}
use Rattle.jm_jrt.specs.Sessions.{IsFree}

pub none_free : (text : List ℕ) → list_any is_newline text ≡ false → IsFree text
none_free text none = λ (k d : ℕ) below.
    false_from_ne_true (is_newline (get_or text k d)) (λ is. false≢true (sym none ∙ list_any_at is_newline text k d below is))

pub front_free : (text front : List ℕ) → front ≡ before_first is_newline text → IsFree front
front_free text front is = search (rules, get_or-take, length-take, fails_before_first)

pub whole_cut : (text front behind : List ℕ) → list_any is_newline text ≡ true → front ≡ before_first is_newline text
    → behind ≡ after_first is_newline text → text ≡ front ++ 10 ∷ behind
whole_cut text front behind some before after = search (rules, eqb-true, first_parts)

-- a test whether a text has a byte

pub no_bytes : (text : List ℕ) → (length text == 0) ≡ true → text ≡ []
no_bytes [] test = refl
no_bytes (b ∷ text) test = let none = eqb-true (length (b ∷ text)) 0 test in absurd (omega arith)

pub some_bytes : (text : List ℕ) → (length text == 0) ≡ false → 0 < length text
some_bytes [] test = absurd (false≢true (sym test))
some_bytes (b ∷ text) test = omega arith
