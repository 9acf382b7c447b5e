-- The first bad word, and where no word is bad.
use Rattle.std.proofs.Common.{◌≡◌, ℕ, ◌*◌, ◌<◌, not, Bool, true, false, Some, None, option_map, refl, ap, arith}
use Rattle.jm_bytes.specs.Checks.{fault_if}
use Rattle.jm_bytes.proofs.Choice.{mapped_none}
use Rattle.jm_bytes.proofs.CheckLaws.{fault_if_false, fault_if_none, first_fault_least, no_fault_between, no_fault_from_between}
use Rattle.jm_jrt.specs.declared.jrt_error.JrtError.TheVariants.{BadNode}
use Rattle.jm_jrt.specs.Told.{first_bad_word, word_fault, words_fault}

sound_none : (s : ℕ → Bool) (k : ℕ) → s k ≡ true → word_fault s k ≡ None
sound_none s k sound = fault_if_false (not (s k)) (4 * k) (ap not sound)

pub first_bad : (s : ℕ → Bool) (n k : ℕ) → k < n → ((j : ℕ) → j < k → s j ≡ true) → s k ≡ false → first_bad_word s n ≡ Some (4 * k)
first_bad s n k below before bad =
    let here : word_fault s k ≡ Some (4 * k) = ap (λ (b : Bool). fault_if (not b) (4 * k)) bad in
    first_fault_least (word_fault s) 0 n k (4 * k) (omega arith) (omega arith) (λ j least j_below. sound_none s j
    (before j j_below)) here

pub no_bad : (s : ℕ → Bool) (n : ℕ) → ((j : ℕ) → j < n → s j ≡ true) → first_bad_word s n ≡ None
no_bad s n sound = no_fault_from_between (word_fault s) 0 n (λ j least below. sound_none s j (sound j (omega arith)))

pub none_bad : (s : ℕ → Bool) (n : ℕ) → ((j : ℕ) → j < n → s j ≡ true) → words_fault s n ≡ None
none_bad s n sound = ap (option_map (λ at. BadNode at)) (no_bad s n sound)

passes : (b : Bool) → not b ≡ false → b ≡ true
passes true e = refl
passes false e = cc

pub sound_below : (s : ℕ → Bool) (n : ℕ) → words_fault s n ≡ None → (k : ℕ) → k < n → s k ≡ true
sound_below s n none k below =
    let clear : first_bad_word s n ≡ None = mapped_none (λ at. BadNode at) (first_bad_word s n) none in
    passes (s k) (fault_if_none (not (s k)) (4 * k) (no_fault_between (word_fault s) 0 n clear k (omega arith) (omega arith)))
