-- The sums of an Adler-32, part by part.
use Rattle.std.proofs.Common.{◌≡◌, ℕ, zero, suc, ◌+◌, ◌*◌, ◌%◌, ◌^◌, ◌<◌, ◌≤◌, List, [], ◌∷◌, ◌++◌, length, take, get_or, sum}
use Rattle.std.proofs.Common.{refl, sym, ap, subst, ◌∙◌, arith, add-one, length-append}
use Rattle.std.proofs.lemmas.List.{take_more}
use Rattle.std.proofs.lemmas.List.Sums.{sum_by-cons, sum_by-append, sum_by_more}
use Rattle.std.proofs.lemmas.Nat.{mul-mod_second, mul-le}
use Rattle.std.specs.List.{sum_by, range_with_len}
use Rattle.jm_inflate.specs.Adler.{second_sum, adler, weighted}

pub sum-cons : (b : ℕ) (bs : List ℕ) → sum (b ∷ bs) ≡ b + sum bs
sum-cons b bs = sum_by-cons (λ x. x) b bs

sum-append : (xs ys : List ℕ) → sum (xs ++ ys) ≡ sum xs + sum ys
sum-append xs ys = sum_by-append (λ x. x) xs ys

-- the first sums after each byte, from any first sum on
moved : (f : ℕ → ℕ) (a b n : ℕ) → b ≡ a + 1 → sum_by f (range_with_len b n) ≡ sum_by (λ k. f (suc k)) (range_with_len a n)
moved f a b zero next = refl
moved f a b (suc n) next =
    let here : f b ≡ f (suc a) = ap f (next ∙ add-one a) in
    let rest = moved f (a + 1) (b + 1) n (ap (λ k. k + 1) next) in
    sum_by-cons f b (range_with_len (b + 1) n) ∙ (rw (here, rest) (sym (sum_by-cons (λ k. f (suc k)) a (range_with_len (a + 1) n))))

same_sums : (f g : ℕ → ℕ) → ((n : ℕ) → f n ≡ g n) → (xs : List ℕ) → sum_by f xs ≡ sum_by g xs
same_sums f g same [] = refl
same_sums f g same (x ∷ xs) = sum_by-cons f x xs ∙ (rw (same x, same_sums f g same xs) (sym (sum_by-cons g x xs)))

sums_weighted : (c : ℕ) (bs : List ℕ) → sum_by (λ n. c + sum (take n bs)) (range_with_len 1 (length bs)) ≡ length bs * c + weighted bs
sums_weighted c [] = omega arith
sums_weighted c (b ∷ bs) =
    let rest : sum_by (λ n. c + sum (take n (b ∷ bs))) (range_with_len 2 (length bs)) ≡ length bs * (c + b) + weighted bs =
    moved (λ n. c + sum (take n (b ∷ bs))) 1 2 (length bs) refl
    ∙ (same_sums (λ k. c + sum (b ∷ take k bs)) (λ k. c + b + sum (take k bs)) (λ k. let e = sum-cons b (take k bs) in omega (arith, e)) (range_with_len 1 (length bs))
    ∙ sums_weighted (c + b) bs) in
    let one : c + sum (take 1 (b ∷ bs)) ≡ c + b = omega (arith, sum-cons b []) in
    sum_by-cons (λ n. c + sum (take n (b ∷ bs))) 1 (range_with_len 2 (length bs))
    ∙ (rw (one, rest) (omega arith))

-- the second sum by what each byte adds
pub second_weighted : (bs : List ℕ) → second_sum bs ≡ length bs + weighted bs
second_weighted bs = let e = sums_weighted 1 bs in omega (arith, e)

pub weighted-append : (xs ys : List ℕ) → weighted (xs ++ ys) ≡ weighted xs + length ys * sum xs + weighted ys
weighted-append [] ys = omega arith
weighted-append (x ∷ xs) ys =
    let rest = weighted-append xs ys in
    let size = length-append xs ys in
    let both = sum-cons x xs in
    rw (size, rest, both) (omega arith)

pub weighted_more : (xs : List ℕ) (i : ℕ) → i < length xs → weighted (take (i + 1) xs) ≡ weighted (take i xs) + sum (take (i + 1) xs)
weighted_more xs i within =
    let put = take_more xs i 0 within in
    let parts = weighted-append (take i xs) (get_or xs i 0 ∷ []) in
    let total = sum_by_more (λ x. x) xs i 0 within in
    ap weighted put ∙ omega (arith, parts, total)

-- a remainder taken between two parts changes no remainder of the sums
pub first_part : (f : ℕ) (part after : List ℕ) → ((f + sum part) % 65521 + sum after) % 65521 ≡ (f + sum (part ++ after)) % 65521
first_part f part after = let e = sum-append part after in omega (arith, e)

pub second_part : (f s : ℕ) (part after : List ℕ) → ((s + length part * f + weighted part) % 65521 + length after * ((f + sum part) % 65521) + weighted after) % 65521
    ≡ (s + length (part ++ after) * f + weighted (part ++ after)) % 65521
second_part f s part after =
    let product = mul-mod_second (length after) (f + sum part) 65521 in
    let parts = weighted-append part after in
    let size = length-append part after in
    rw (parts, size) (omega (arith, product))

-- after at most 5,552 bytes both sums fit 32 bits
pub second_fits : (i first second byte : ℕ) → i < 5552 → byte ≤ 255 → first ≤ 65520 + 255 * i → 2 * second ≤ 131040 * (i + 1) + 255 * (i * (i + 1)) → second + (first + byte) < 2 ^ 32
second_fits i first second byte few small low high =
    let most : (i + 1) * (i + 2) ≤ 5552 * 5553 = mul-le (i + 1) (i + 2) 5552 5553 (omega (arith, few)) (omega (arith, few)) in
    let more : (i + 1) * (i + 2) ≡ i * (i + 1) + 2 * i + 2 = omega arith in
    omega (arith, most, more, small, low, high, few)

pub second_grows : (i first second byte : ℕ) → byte ≤ 255 → first ≤ 65520 + 255 * i → 2 * second ≤ 131040 * (i + 1) + 255 * (i * (i + 1)) → 2 * (second + (first + byte)) ≤ 131040 * (i + 1 + 1) + 255 * ((i + 1) * (i + 1 + 1))
second_grows i first second byte small low high = omega (arith, small, low, high)

-- both sums in one word
pub adler_word : (f s : ℕ) (rest bytes : List ℕ) → rest ≡ [] → f < 65521 → s < 65521 → (f + sum rest) % 65521 ≡ (1 + sum bytes) % 65521 → (s + length rest * f + weighted rest) % 65521
    ≡ (length bytes + weighted bytes) % 65521 → s * 65536 + f ≡ adler bytes
adler_word f s rest bytes none low high first second =
    let one : (f + 0) % 65521 ≡ (1 + sum bytes) % 65521 = subst (λ r. (f + sum r) % 65521 ≡ (1 + sum bytes) % 65521) none first in
    let two : (s + 0 * f + 0) % 65521 ≡ (length bytes + weighted bytes) % 65521 = subst (λ r. (s + length r * f + weighted r) % 65521 ≡ (length bytes + weighted bytes) % 65521) none second in
    let all = second_weighted bytes in
    omega (arith, one, two, all, low, high)
