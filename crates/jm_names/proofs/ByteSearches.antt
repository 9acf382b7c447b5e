-- What a search for a byte answers, in the words of the cuts.
use Rattle.std.proofs.Common.{◌≡◌, ℕ, ◌+◌, ◌-◌, Bool, true, false, not, List, length, get_or, Option, Some, None, sym, ap, arith}
use Rattle.std.specs.Option.{is_some}
use Rattle.std.specs.List.{list_any, suffix_len, position_or_len}
use Rattle.std.proofs.lemmas.Bool.{false_from_ne_true}
use Rattle.std.proofs.lemmas.List.Folds.{list_any_at}
use Rattle.std.proofs.lemmas.List.Sums.{position_or_len_is, suffix_len_is}
use Rattle.memchr.specs.Find.{IsFirstByte, Nowhere, NoneBefore, NoneAfter, Passes}
use Rattle.jm_bytes.proofs.Firsts.{no_first}

module _ (p : ℕ → Bool) where
  pub found_nowhere : (xs : List ℕ) → Nowhere (Passes p xs) 0 (length xs) → list_any p xs ≡ false
  found_nowhere xs none = no_first p xs 0 (λ k below. none k (omega arith) below)

  pub first_place : (xs : List ℕ) (k : ℕ) → NoneBefore (Passes p xs) 0 (length xs) k → p (get_or xs k 0) ≡ true → position_or_len p xs ≡ k
  first_place xs k first here =
      position_or_len_is p xs k 0 (omega (arith, first.high)) (λ j below. false_from_ne_true (p (get_or xs j 0))
      (first.before j (omega arith) below)) (λ _. here)

  pub last_place : (xs : List ℕ) (k : ℕ) → NoneAfter (Passes p xs) 0 (length xs) k → p (get_or xs k 0) ≡ true
      → suffix_len (λ x. not (p x)) xs ≡ length xs - (k + 1)
  last_place xs k last here =
      let next : k + 1 - 1 ≡ k = omega arith in
      suffix_len_is (λ x. not (p x)) xs (k + 1) 0 (omega (arith, last.high))
      (λ j low below. ap not (false_from_ne_true (p (get_or xs j 0)) (last.after j low below)))
      (λ _. rw next (ap not here))

  -- whether a search found a byte
  pub found_any : (xs : List ℕ) (r : Option ℕ) → IsFirstByte p xs r → is_some r ≡ list_any p xs
  found_any xs None none = sym (found_nowhere xs none)
  found_any xs (Some k) found = sym (list_any_at p xs k 0 found.0.high found.1)
