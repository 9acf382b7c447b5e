-- The digits of versions, and the versions for a release.
use Rattle.std.proofs.Common.{◌≡◌, ◌≢◌, ℕ, zero, suc, ◌^◌, ◌<◌, ◌≤◌, nat_le, ◌==◌, Bool, true, false, cond}
use Rattle.std.proofs.Common.{List, [], ◌∷◌, get_or, drop, slice_index, AllPairs, Contains, Result, Ok, Err}
use Rattle.std.proofs.Common.{Some, None, refl, sym, ap, ◌∙◌, subst, arith, inl, inr}
use Rattle.std.proofs.lemmas.Bool.{leb-true, and_parts, cases_eq, false_from_ne_true}
use Rattle.std.proofs.lemmas.Bool.Decides.{nat_tests}
use Rattle.std.proofs.lemmas.Fmt.{IsAscii-decimal, decimal-digits_value, decimal_injective, decimal_is_IsNumeral, first_decimal}
use Rattle.std.proofs.lemmas.Fmt.{parse-decimal}
use Rattle.std.proofs.lemmas.List.Kept.{AllPairs-cons}
use Rattle.std.proofs.lemmas.Slice.Eq.{bytes_eq-Decides}
use Rattle.std.proofs.lemmas.Str.{IsUtf8-from_ascii}
use Rattle.std.proofs.lemmas.Str.Parse.{digit_from_value, numerals_by_value, tells_digits}
use Rattle.std.specs.Fmt.{decimal}
use Rattle.std.specs.Option.{IfNone, IfSome}
use Rattle.std.specs.Result.{result_ok}
use Rattle.std.specs.Str.{IsUtf8, bytes_eq}
use Rattle.std.specs.Str.Parse.{AllDigits, ParsesUnsigned, without_leading_plus}
use Rattle.jm_bytes.proofs.Finds.{find_none, find_only}
use Rattle.jm_bytes.proofs.Members.{all_from_contains, contains_cases, contains_here, contains_later, contains_none}
use Rattle.jm_bytes.proofs.Pairs.{pairs_none}
use Rattle.jm_archive.specs.Cuts.{leads, version_of}
use Rattle.jm_archive.specs.Files.{versions}

-- Digits

first_digit : (n : ℕ) (digits : List ℕ) → decimal n ≡ digits → AllDigits 10 digits → slice_index digits 0 ≤ 57
first_digit n [] is all = omega arith
first_digit n (c ∷ cs) is all = omega (arith, digit_from_value c all.0)

pub decimal_leads : (n : ℕ) (digits : List ℕ) → 0 < n → n < 2 ^ 32 → decimal n ≡ digits → leads digits ≡ true
decimal_leads n digits some small is =
    let low : 48 < slice_index digits 0 = subst (λ ds. 48 < get_or ds 0 0) is (first_decimal n some (omega arith)) in
    let all = subst (AllDigits 10) is (decimal_is_IsNumeral n (omega arith)).0.1 in
    let high = first_digit n digits is all in
    grind (arith, nat_tests)

pub decimal_utf8 : (n : ℕ) → n < 2 ^ 32 → IsUtf8 (decimal n)
decimal_utf8 n small = IsUtf8-from_ascii (decimal n) (IsAscii-decimal n (omega arith))

no_plus : (digits : List ℕ) → leads digits ≡ true → without_leading_plus digits ≡ digits
no_plus digits first =
    let low = leb-true 49 (slice_index digits 0) (and_parts (nat_le 49 (slice_index digits 0)) (nat_le (slice_index digits 0) 57) first).0 in
    let other : (slice_index digits 0 == 43) ≡ false = grind (arith, nat_tests) in
    ap (λ b. drop (cond b 1 0) digits) other

-- a number that is parsed has these digits
pub parsed_some : {E : Type 0} (digits : List ℕ) (r : Result ℕ E) → leads digits ≡ true → ParsesUnsigned 32 10 digits r
    → IfSome (result_ok r) (λ n. decimal n ≡ digits)
parsed_some digits (Err e) first told = tt
parsed_some digits (Ok n) first told =
    let own = no_plus digits first in
    let low = leb-true 49 (slice_index digits 0) (and_parts (nat_le 49 (slice_index digits 0)) (nat_le (slice_index digits 0) 57) first).0 in
    let numeral = rw own at told.0.0 in
    let value = rw own at told.1 in
    let below = rw own at told.0.1 in
    ap decimal value ∙ decimal-digits_value (numerals_by_value _ tells_digits) digits numeral.1 numeral.0
    (λ zero_first. absurd (omega arith)) (omega arith)

-- where none is parsed, no number has them
pub parsed_none : {E : Type 0} (digits : List ℕ) (r : Result ℕ E) → ParsesUnsigned 32 10 digits r
    → IfNone (result_ok r) ((n : ℕ) → 0 < n → n < 2 ^ 32 → decimal n ≢ digits)
parsed_none digits (Ok n) parses = tt
parsed_none digits (Err e) parses = λ n some small same.
    let ok = parse-decimal 32 n digits (Err e) small (omega arith) (sym same) parses in
    cc

-- Versions for a release

pub contains_versions : (n v : ℕ) → 9 ≤ v → v ≤ n → Contains (versions n) v
contains_versions zero v from to = absurd (omega arith)
contains_versions (suc n) v from to = go (contains_versions n v from)
  where
    go : (v ≤ n → Contains (versions n) v) → Contains (versions (suc n)) v
    go rest =
        let high : nat_le 9 (suc n) ≡ true = grind (arith, nat_tests) in
        rw high (elim (cases_eq v (suc n)) [
          | inl same ↦ rw same (contains_here (suc n) (versions n))
          | inr other ↦ contains_later (suc n) (versions n) v (rest (omega arith))
        ])

pub from_versions : (n v : ℕ) → Contains (versions n) v → (9 ≤ v) × (v ≤ n)
from_versions zero v there = absurd (contains_none v there)
from_versions (suc n) v there = go (nat_le 9 (suc n)) refl there (from_versions n v)
  where
    go : (b : Bool) → nat_le 9 (suc n) ≡ b → Contains (cond b (suc n ∷ versions n) []) v
        → (Contains (versions n) v → (9 ≤ v) × (v ≤ n)) → (9 ≤ v) × (v ≤ suc n)
    go false e there rest = absurd (contains_none v there)
    go true e there rest =
        let high = leb-true 9 (suc n) e in
        elim (contains_cases (suc n) (versions n) v there) [
          | inl same ↦ (omega arith, omega arith)
          | inr later ↦ let both = rest later in (both.0, omega (arith, both.1))
        ]

pub versions_fall : (n : ℕ) → AllPairs (λ v w. w < v) (versions n)
versions_fall zero = pairs_none (λ v w. w < v)
versions_fall (suc n) = go (nat_le 9 (suc n)) (versions_fall n)
  where
    go : (b : Bool) → AllPairs (λ v w. w < v) (versions n) → AllPairs (λ v w. w < v) (cond b (suc n ∷ versions n) [])
    go false rest = pairs_none (λ v w. w < v)
    go true rest =
        AllPairs-cons (λ v w. w < v) (suc n) (versions n)
        (all_from_contains (λ w. w < suc n) (versions n) (λ w there. omega (arith, (from_versions n w there).1))) rest

-- The version whose digits these are

same_version : (v n : ℕ) (digits : List ℕ) → v < 2 ^ 32 → n < 2 ^ 32 → decimal n ≡ digits → bytes_eq (decimal v) digits ≡ true → v ≡ n
same_version v n digits small short is same =
    decimal_injective v n (omega arith) (omega arith) ((bytes_eq-Decides (decimal v) digits).0 same ∙ sym is)

pub version_is : (release n : ℕ) (digits : List ℕ) → release < 2 ^ 32 → decimal n ≡ digits → 9 ≤ n → n ≤ release
    → version_of release digits ≡ Some n
version_is release n digits small is from to =
    find_only (λ v. bytes_eq (decimal v) digits) (versions release) n (contains_versions release n from to)
    ((bytes_eq-Decides (decimal n) digits).1 is)
    (λ v there passes. same_version v n digits (omega (arith, (from_versions release v there).1)) (omega arith) is passes)

pub version_past : (release n : ℕ) (digits : List ℕ) → release < 2 ^ 32 → n < 2 ^ 32 → decimal n ≡ digits
    → (9 ≤ n → n ≤ release → ⊥) → version_of release digits ≡ None
version_past release n digits small short is outside =
    find_none (λ v. bytes_eq (decimal v) digits) (versions release)
    (λ v there. false_from_ne_true (bytes_eq (decimal v) digits)
    (λ passes.
    let same = same_version v n digits (omega (arith, (from_versions release v there).1)) short is passes in
    outside (omega (arith, (from_versions release v there).0)) (omega (arith, (from_versions release v there).1))))

pub version_none : (release : ℕ) (digits : List ℕ) → release < 2 ^ 32 → ((n : ℕ) → 0 < n → n < 2 ^ 32 → decimal n ≢ digits)
    → version_of release digits ≡ None
version_none release digits small none =
    find_none (λ v. bytes_eq (decimal v) digits) (versions release)
    (λ v there. false_from_ne_true (bytes_eq (decimal v) digits)
    (λ passes. none v (omega (arith, (from_versions release v there).0)) (omega (arith, (from_versions release v there).1))
    ((bytes_eq-Decides (decimal v) digits).0 passes)))
