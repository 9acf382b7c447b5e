-- Names that rise, with one more above the last.
use Rattle.std.proofs.Common.{◌≡◌, ◌+◌, ◌-◌, true, Result, Ok, Err, OnOk, OnErr, All, IsUtf8, ℕ, suc, zero}
use Rattle.std.proofs.Common.{List, [], ◌∷◌, ◌++◌, Some, length, slice_get, arith}
use Rattle.std.specs.Ordering.{nat_cmp, is_lt}
use Rattle.std.specs.declared.cmp.Ordering.TheVariants.{Less}
use Rattle.std.proofs.lemmas.List.Elements.{All-nil, All-push}
use Rattle.std.specs.Cmp.Lexicographic.{slice_cmp, nat_list_cmp_total}
use Rattle.std.specs.List.{AllByRecursion}
use Rattle.std.specs.List.Sorted.{IsStrictlySortedBy}
use Rattle.jm_bytes.proofs.ByteOrderLaws.{before_less}
use Rattle.jm_outside.specs.Files.{Rising}

-- what is above the last of rising names is above all
above_all : (names : List (List ℕ)) (n : ℕ) (last name : List ℕ) → Rising names → n + 1 ≡ length names → slice_get names n
    ≡ Some last → slice_cmp nat_cmp last name ≡ Less → AllByRecursion (λ q. slice_cmp nat_cmp q name ≡ Less) names
unfolding IsStrictlySortedBy
above_all [] n last name rising len is above = tt
above_all (y ∷ []) zero last name rising len is above = let e : y ≡ last = cc in (rw e above, tt)
above_all (y ∷ []) (suc n) last name rising len is above = absurd (omega arith)
above_all (y ∷ z ∷ names) zero last name rising len is above = absurd (omega arith)
above_all (y ∷ z ∷ names) (suc n) last name rising len is above =
    let later = above_all (z ∷ names) n last name rising.1 (omega arith) is above in
    (nat_list_cmp_total.trans y z name rising.0.0 later.0, later)

all_above : (y name : List ℕ) (names : List (List ℕ)) → AllByRecursion (λ q. slice_cmp nat_cmp y q ≡ Less) names
    → slice_cmp nat_cmp y name ≡ Less → AllByRecursion (λ q. slice_cmp nat_cmp y q ≡ Less) (names ++ name ∷ [])
all_above y name [] all above = (above, tt)
all_above y name (z ∷ names) all above = (all.0, all_above y name names all.1 above)

rising_more : (names : List (List ℕ)) (name : List ℕ) → Rising names → AllByRecursion (λ q. slice_cmp nat_cmp q name ≡ Less) names
    → Rising (names ++ name ∷ [])
unfolding IsStrictlySortedBy
rising_more [] name rising all = (tt, tt)
rising_more (y ∷ names) name rising all = (all_above y name names rising.0 all.0, rising_more names name rising.1 all.1)

pub rising_push : (names : List (List ℕ)) (n : ℕ) (last name : List ℕ) → n + 1 ≡ length names → slice_get names n ≡ Some last
    → slice_cmp nat_cmp last name ≡ Less → Rising names → Rising (names ++ name ∷ [])
rising_push names n last name len is above rising = rising_more names name rising (above_all names n last name rising len is above)

pub rising_one : (names : List (List ℕ)) (name : List ℕ) → length names ≡ 0 → Rising names → Rising (names ++ name ∷ [])
unfolding IsStrictlySortedBy
rising_one [] name len rising = (tt, tt)
rising_one (y ∷ names) name len rising = absurd (omega arith)

pub rising_none : (names : List (List ℕ)) → names ≡ [] → Rising names
unfolding IsStrictlySortedBy
rising_none names none = rw none tt

-- a name that compares above the last
pub rising_last : (names : List (List ℕ)) (last name : List ℕ) → slice_get names (length names - 1) ≡ Some last
    → is_lt (slice_cmp nat_cmp last name) ≡ true → Rising names → Rising (names ++ name ∷ [])
rising_last [] last name is above rising = cc
rising_last (y ∷ names) last name is above rising = rising_push (y ∷ names) (length (y ∷ names) - 1) last name (omega arith) is
    (before_less last name above) rising

-- texts, with one more that may find no memory
pub texts_push : {T E : Type 0} (r : Result T E) (old new : List (List ℕ)) (name : List ℕ) → IsUtf8 name
    → OnOk r (new ≡ old ++ name ∷ []) → OnErr r (new ≡ old) → All IsUtf8 old → All IsUtf8 new
texts_push (Ok x) old new name text ok err all = rw ok (All-push IsUtf8 old name all text)
texts_push (Err e) old new name text ok err all = rw err all

pub texts_none : (names : List (List ℕ)) → names ≡ [] → All IsUtf8 names
texts_none names none = rw none (All-nil IsUtf8)
