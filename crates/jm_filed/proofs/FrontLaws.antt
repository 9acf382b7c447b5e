-- Names whose first bytes differ as numbers stand in the order of these numbers.
use Rattle.std.proofs.Common.{◌≡◌, ◌≢◌, ◌<◌, ◌≤◌, ℕ, zero, suc, ◌+◌, ◌*◌, ◌^◌, Bool, true, false, cond, List}
use Rattle.std.proofs.Common.{[], ◌∷◌, drop, length, nat_lt, refl, sym, ap, ◌∙◌, arith}
use Rattle.std.proofs.Math.Nat.{mul-le-mul_right}
use Rattle.std.specs.Cmp.{ranks}
use Rattle.std.proofs.lemmas.Bool.{ltb-false}
use Rattle.std.proofs.lemmas.List.{length-drop}
use Rattle.std.specs.Cmp.Lexicographic.{slice_cmp, nat_list_cmp_total}
use Rattle.std.specs.Ordering.{MatchOrdering, nat_cmp, ordering_reverse, ordering_then}
use Rattle.std.specs.declared.cmp.Ordering.{Ordering}
use Rattle.std.specs.declared.cmp.Ordering.TheVariants.{Less, Equal, Greater}
use Rattle.byteorder.specs.Endian.{big_from, big_number}
use Rattle.byteorder.specs.Numbers.{big_from-cons, big_from-lt}
use Rattle.jm_filed.specs.declared.taken_name.Front.{Front}
use Rattle.jm_filed.specs.Fronts.{AreBytes, front_numbers, front_of, order_of_fronts}

behind : (x : ℕ) (xs : List ℕ) → AreBytes (x ∷ xs) → AreBytes xs
behind x xs bytes k = bytes (suc k)

-- by the first byte, and then by what is behind it
stepped : (o : Ordering) (x y n a b : ℕ) (xs ys : List ℕ) → MatchOrdering o (x < y) (x ≡ y) (y < x) → a < 256 ^ n → b < 256 ^ n
    → x * 256 ^ n + a < y * 256 ^ n + b → (a < b → slice_cmp nat_cmp xs ys ≡ Less) → ordering_then o (slice_cmp nat_cmp xs ys) ≡ Less
stepped Less x y n a b xs ys is low high less rest = refl
stepped Equal x y n a b xs ys is low high less rest = rest (omega (arith, less, ap (λ (k : ℕ). k * 256 ^ n) is))
stepped Greater x y n a b xs ys is low high less rest =
    absurd (omega (arith, less, high, mul-le-mul_right (256 ^ n) is))

front_less : (n : ℕ) (xs ys : List ℕ) → AreBytes xs → AreBytes ys → n ≤ length xs → n ≤ length ys → big_number n xs
    < big_number n ys → slice_cmp nat_cmp xs ys ≡ Less
front_less zero xs ys b c long far less = absurd (omega (arith, less))
front_less (suc n) [] ys b c long far less = absurd (omega (arith, long))
front_less (suc n) (x ∷ xs) [] b c long far less = absurd (omega (arith, far))
front_less (suc n) (x ∷ xs) (y ∷ ys) b c long far less =
    let one = big_from-cons 0 n x xs in
    let other = big_from-cons 0 n y ys in
    stepped (nat_cmp x y) x y n (big_from 0 n xs) (big_from 0 n ys) xs ys (ranks x y)
    (big_from-lt 0 n xs (behind x xs b)) (big_from-lt 0 n ys (behind y ys c))
    (omega (arith, less, one, other))
    (λ rest. front_less n xs ys (behind x xs b) (behind y ys c) (omega (arith, long)) (omega (arith, far)) rest)

-- equal first bytes, and then what is behind them
stepped_same : (o : Ordering) (x y n a b : ℕ) (xs ys : List ℕ) (rest : Ordering) → MatchOrdering o (x < y) (x ≡ y) (y < x)
    → a < 256 ^ n → b < 256 ^ n → x * 256 ^ n + a ≡ y * 256 ^ n + b → (a ≡ b → slice_cmp nat_cmp xs ys ≡ rest)
    → ordering_then o (slice_cmp nat_cmp xs ys) ≡ rest
stepped_same Less x y n a b xs ys rest is low high same behind =
    absurd (omega (arith, same, low, mul-le-mul_right (256 ^ n) is))
stepped_same Equal x y n a b xs ys rest is low high same behind =
    behind (omega (arith, same, ap (λ (k : ℕ). k * 256 ^ n) is))
stepped_same Greater x y n a b xs ys rest is low high same behind =
    absurd (omega (arith, same, high, mul-le-mul_right (256 ^ n) is))

front_same : (n : ℕ) (xs ys : List ℕ) → AreBytes xs → AreBytes ys → n ≤ length xs → n ≤ length ys → big_number n xs
    ≡ big_number n ys → slice_cmp nat_cmp xs ys ≡ slice_cmp nat_cmp (drop n xs) (drop n ys)
front_same zero xs ys b c long far same = refl
front_same (suc n) [] ys b c long far same = absurd (omega (arith, long))
front_same (suc n) (x ∷ xs) [] b c long far same = absurd (omega (arith, far))
front_same (suc n) (x ∷ xs) (y ∷ ys) b c long far same =
    let one = big_from-cons 0 n x xs in
    let other = big_from-cons 0 n y ys in
    stepped_same (nat_cmp x y) x y n (big_from 0 n xs) (big_from 0 n ys) xs ys
    (slice_cmp nat_cmp (drop n xs) (drop n ys)) (ranks x y)
    (big_from-lt 0 n xs (behind x xs b)) (big_from-lt 0 n ys (behind y ys c))
    (omega (arith, same, one, other))
    (λ rest. front_same n xs ys (behind x xs b) (behind y ys c) (omega (arith, long)) (omega (arith, far)) rest)

-- bytes without the first of them
behind_some : (n : ℕ) (xs : List ℕ) → AreBytes xs → AreBytes (drop n xs)
behind_some zero xs b = b
behind_some (suc n) [] b = b
behind_some (suc n) (x ∷ xs) b = behind_some n xs (behind x xs b)

-- two lists of bytes that have at least so many
record AreLong (n : ℕ) (xs ys : List ℕ) : Type 0 where
  pub one : AreBytes xs
  pub other : AreBytes ys
  pub long : n ≤ length xs
  pub far : n ≤ length ys

greater : (n : ℕ) (xs ys : List ℕ) → AreLong n xs ys → big_number n ys < big_number n xs → slice_cmp nat_cmp xs ys ≡ Greater
greater n xs ys are more =
    nat_list_cmp_total.antisymm xs ys ∙ ap ordering_reverse (front_less n ys xs are.other are.one are.far are.long more)

-- the numbers of the first bytes decide where they differ, and else what is behind them
stepped_number : (n : ℕ) (xs ys : List ℕ) (rest o : Ordering) → AreLong n xs ys
    → (rest ≢ Equal → rest ≡ slice_cmp nat_cmp (drop n xs) (drop n ys))
    → ordering_then (nat_cmp (big_number n xs) (big_number n ys)) rest ≡ o → o ≢ Equal → o ≡ slice_cmp nat_cmp xs ys
stepped_number n xs ys rest o are behind is some =
    go (nat_cmp (big_number n xs) (big_number n ys)) (ranks (big_number n xs) (big_number n ys)) is
  where
    go : (r : Ordering) → MatchOrdering r (big_number n xs < big_number n ys) (big_number n xs ≡ big_number n ys) (big_number n ys
        < big_number n xs) → ordering_then r rest ≡ o → o ≡ slice_cmp nat_cmp xs ys
    go Less less same = sym same ∙ sym (front_less n xs ys are.one are.other are.long are.far less)
    go Equal equal same =
        sym same ∙ behind (λ none. some (sym same ∙ none))
        ∙ sym (front_same n xs ys are.one are.other are.long are.far equal)
    go Greater more same = sym same ∙ sym (greater n xs ys are more)

then_none : (o : Ordering) → ordering_then o Equal ≡ o
then_none Less = refl
then_none Equal = refl
then_none Greater = refl

last_number : (n : ℕ) (xs ys : List ℕ) → AreLong n xs ys → nat_cmp (big_number n xs) (big_number n ys) ≢ Equal
    → nat_cmp (big_number n xs) (big_number n ys) ≡ slice_cmp nat_cmp xs ys
last_number n xs ys are =
    stepped_number n xs ys Equal (nat_cmp (big_number n xs) (big_number n ys)) are
    (λ some. absurd (some refl)) (then_none (nat_cmp (big_number n xs) (big_number n ys)))

-- fronts of which no number is 0 alone are of names of 24 bytes or more
numbers_of : (name : List ℕ) (front : Front) → front ≡ front_of name → front.first ≢ 0 → (24 ≤ length name) × (front ≡ front_numbers name)
numbers_of name front is some = go (nat_lt (length name) 24) refl is
  where
    go : (b : Bool) → nat_lt (length name) 24 ≡ b → front ≡ cond b (record { first = 0; second = 0; third = 0 })
        (front_numbers name) → (24 ≤ length name) × (front ≡ front_numbers name)
    go true test same = absurd (some (ap (λ (f : Front). f.first) same))
    go false test same = (ltb-false (length name) 24 test, same)

by_numbers : (xs ys : List ℕ) (o : Ordering) → AreLong 24 xs ys → order_of_fronts (front_numbers xs) (front_numbers ys) ≡ o
    → o ≢ Equal → o ≡ slice_cmp nat_cmp xs ys
by_numbers xs ys o are =
    stepped_number 8 xs ys later o (record {
      one = are.one;
      other = are.other;
      long = omega (arith, are.long);
      far =
          omega (arith, are.far);
    })
    (stepped_number 8 (drop 8 xs) (drop 8 ys) last later second (last_number 8 (drop 8 (drop 8 xs)) (drop 8 (drop 8 ys)) third) refl)
  where
    last : Ordering
    last = nat_cmp (front_numbers xs).third (front_numbers ys).third

    later : Ordering
    later = ordering_then (nat_cmp (front_numbers xs).second (front_numbers ys).second) last

    second : AreLong 8 (drop 8 xs) (drop 8 ys)
    second =
        let one = length-drop 8 xs in
        let other = length-drop 8 ys in
        record {
          one = behind_some 8 xs are.one;
          other = behind_some 8 ys are.other;
          long = omega (arith, one, are.long);
          far =
              omega (arith, other, are.far);
        }

    third : AreLong 8 (drop 8 (drop 8 xs)) (drop 8 (drop 8 ys))
    third =
        let one = length-drop 8 xs in
        let other = length-drop 8 ys in
        let two = length-drop 8 (drop 8 xs) in
        let next = length-drop 8 (drop 8 ys) in
        record {
          one = behind_some 8 (drop 8 xs) second.one;
          other = behind_some 8 (drop 8 ys) second.other;
          long =
              omega (arith, one, two, are.long);
          far = omega (arith, other, next, are.far);
        }

-- the fronts decide where they differ
pub by_fronts : (name other : List ℕ) (front other_front : Front) (o : Ordering) → front ≡ front_of name → other_front
    ≡ front_of other → front.first ≢ 0 → other_front.first ≢ 0 → order_of_fronts front other_front ≡ o → o ≢ Equal → AreBytes name
    → AreBytes other → o ≡ slice_cmp nat_cmp name other
by_fronts name other front other_front o is also some other_some order apart bytes other_bytes =
    let one = numbers_of name front is some in
    let two = numbers_of other other_front also other_some in
    by_numbers name other o (record { one = bytes; other = other_bytes; long = one.0; far = two.0 })
    (ap (λ (f : Front). order_of_fronts f (front_numbers other)) (sym one.1) ∙ ap (λ (f : Front). order_of_fronts front f)
    (sym two.1) ∙ order) apart
