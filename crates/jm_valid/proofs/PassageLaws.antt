-- Laws of passages, and of lists whose elements are replaced one after another.
use Rattle.std.proofs.Common.{◌≡◌, ℕ, zero, suc, ◌+◌, ◌-◌, ◌*◌, ◌/◌, ◌%◌, ◌^◌, ◌<◌, ◌≤◌, ◌||◌, append-nil}
use Rattle.std.proofs.Common.{not, Bool, true, false, cond, List, [], ◌∷◌, ◌++◌, All, length, take, drop}
use Rattle.std.proofs.Common.{get_or, map, set, min, refl, sym, ap, ap₂, ◌∙◌, ◌==◌, arith, take-append-drop}
use Rattle.std.proofs.Common.{drop-drop}
use Rattle.std.proofs.Math.Nat.{add-mul}
use Rattle.std.proofs.Math.Seq.{drop-cons}
use Rattle.std.proofs.lemmas.List.{drop_all, length-append, length-take-le, take_min}
use Rattle.std.proofs.lemmas.Simd.{map-map}
use Rattle.std.proofs.lemmas.List.FromFn.{get_or-map-range_with_len, length-map-range_with_len}
use Rattle.std.specs.List.{before_first, list_any, position_or_len, range_with_len}
use Rattle.jm_names.specs.Hash.{state_after}
use Rattle.jm_names.proofs.HashLaws.{state_after-append, state_after-low}
use Rattle.jm_valid.specs.Passages.{nth_passage, passage_of, passages, ArePassages}

-- Passing

-- the sums of the law below, in which each product counts as one number
sums : (low x y : ℕ) → (low + (x + y * 2 ^ 32)) % 2 ^ 32 ≡ (low + x % 2 ^ 32) % 2 ^ 32
sums low x y = omega arith

-- the factor of 256 times a text's factor, as the difference of two states
difference : (first last n : ℕ) → first < 2 ^ 32 → last ≡ (first + n) % 2 ^ 32 → (last + 2 ^ 32 - first) % 2 ^ 32 ≡ n % 2 ^ 32
difference first last n below is = omega arith

product : (u n : ℕ) → u * n ≡ n % 2 ^ 32 * u + n / 2 ^ 32 * u * 2 ^ 32
product u n =
    let whole : n ≡ n % 2 ^ 32 + n / 2 ^ 32 * 2 ^ 32 = omega arith in
    grind (arith, add-mul (n % 2 ^ 32) (n / 2 ^ 32 * 2 ^ 32) u, whole)

-- the passage of a text tells the state after it of each state
pub passed_is : (text : List ℕ) (s d : ℕ) → s < 2 ^ 32 → All (λ b. b < 256) text
    → d ≡ (state_after 256 text + 2 ^ 32 - state_after 0 text) % 2 ^ 32 → state_after 0 text < 2 ^ 32
    → (state_after (s % 256) text + s / 256 * d % 2 ^ 32) % 2 ^ 32 ≡ state_after s text
passed_is text s d state bytes is first =
    let n = 256 * 0x01000193 ^ length text in
    let u = s / 256 in
    let whole : u * 256 + s % 256 ≡ s = omega arith in
    let law = state_after-low u (s % 256) text (omega arith) (omega arith) bytes in
    let last = state_after-low 1 0 text (omega arith) (omega arith) bytes in
    let factor : d ≡ n % 2 ^ 32 = is ∙ difference (state_after 0 text) (state_after 256 text) n first (omega (arith, last)) in
    let parts : u * 256 * 0x01000193 ^ length text ≡ n % 2 ^ 32 * u + n / 2 ^ 32 * u * 2 ^ 32 = grind (arith, product u n) in
    let same : u * d ≡ n % 2 ^ 32 * u = grind (arith, factor) in
    let all = sums (state_after (s % 256) text) (n % 2 ^ 32 * u) (n / 2 ^ 32 * u) in
    let named : state_after (u * 256 + s % 256) text ≡ state_after s text = ap (λ k. state_after k text) whole in
    omega (arith, law, parts, same, all, named)

pub get_passage : (text : List ℕ) (l : ℕ) → l < 257 → get_or (passage_of text) l 0 ≡ state_after l text
get_passage text l below = get_or-map-range_with_len (λ s. state_after s text) 0 257 l l 0 below (omega arith)

-- Elements replaced in place, one after another

abbrev pub mapped_to : {X : Type 0} → (X → X) → List X → ℕ → List X
mapped_to f xs i = map f (take i xs) ++ drop i xs

pub mapped_get : {X : Type 0} (f : X → X) (xs : List X) (i : ℕ) (d : X) → get_or (mapped_to f xs i) i d ≡ get_or xs i d
mapped_get f [] zero d = refl
mapped_get f [] (suc i) d = refl
mapped_get f (x ∷ xs) zero d = refl
mapped_get f (x ∷ xs) (suc i) d = mapped_get f xs i d

pub mapped_more : {X : Type 0} (f : X → X) (xs : List X) (i : ℕ) (d : X) → i < length xs
    → set (mapped_to f xs i) i (f (get_or xs i d)) ≡ mapped_to f xs (i + 1)
mapped_more f [] i d below = absurd (omega arith)
mapped_more f (x ∷ xs) zero d below = refl
mapped_more f (x ∷ xs) (suc i) d below =
    let next : suc (i + 1) ≡ suc i + 1 = omega arith in
    ap (λ ys. f x ∷ ys) (mapped_more f xs i d (omega arith)) ∙ ap (mapped_to f (x ∷ xs)) next

-- the element at a place is replaced by what the function makes of it
pub replaced : {X : Type 0} (f : X → X) (xs now : List X) (i : ℕ) (d y : X) → now ≡ mapped_to f xs i → i < length xs
    → y ≡ f (get_or now i d) → set now i y ≡ mapped_to f xs (i + 1)
replaced {X} f xs now i d y is below made =
    let same : y ≡ f (get_or xs i d) = made ∙ ap f (ap (λ (l : List X). get_or l i d) is ∙ mapped_get f xs i d) in
    ap₂ (λ (l : List X) z. set l i z) is same ∙ mapped_more f xs i d below

-- States taken through texts

-- one byte more
pub passed_byte : (states more whole : List ℕ) (text : List ℕ) (i : ℕ) → i < length text → more
    ≡ map (λ s. state_after s (get_or text i 0 ∷ [])) states → map (λ s. state_after s (drop i text)) states ≡ whole
    → map (λ s. state_after s (drop (i + 1) text)) more ≡ whole
passed_byte states more whole text i below is before =
    let next : suc i ≡ i + 1 = omega arith in
    let cut : drop i text ≡ get_or text i 0 ∷ drop (i + 1) text = drop-cons text i 0 below ∙ ap (λ k. get_or text i 0 ∷ drop k text) next in
    ap (map (λ s. state_after s (drop (i + 1) text))) is
    ∙ map-map (λ s. state_after s (drop (i + 1) text)) (λ s. state_after s (get_or text i 0 ∷ [])) states
    ∙ ap (λ t. map (λ s. state_after s t) states) (sym cut) ∙ before

map_same : (xs : List ℕ) → map (λ x. x) xs ≡ xs
map_same [] = refl
map_same (x ∷ xs) = ap (λ ys. x ∷ ys) (map_same xs)

-- no byte more
pub passed_all : (states whole : List ℕ) (text : List ℕ) (i : ℕ) → length text ≤ i → map (λ s. state_after s (drop i text)) states
    ≡ whole → states ≡ whole
passed_all states whole text i past before =
    sym (map_same states) ∙ ap (λ t. map (λ s. state_after s t) states) (sym (drop_all i text past)) ∙ before

-- two texts, one behind the other
pub passed_both : (states first second : List ℕ) (a b : List ℕ) → first ≡ map (λ s. state_after s a) states → second
    ≡ map (λ s. state_after s b) first → second ≡ map (λ s. state_after s (a ++ b)) states
passed_both states first second a b one two =
    two ∙ ap (map (λ s. state_after s b)) one ∙ map-map (λ s. state_after s b) (λ s. state_after s a) states ∙ sym (map_ext states)
  where
    map_ext : (xs : List ℕ) → map (λ s. state_after s (a ++ b)) xs ≡ map (λ s. state_after (state_after s a) b) xs
    map_ext [] = refl
    map_ext (x ∷ xs) = ap₂ (λ y ys. y ∷ ys) (state_after-append x a b) (map_ext xs)

-- Texts over a stretch and what stands behind it

pub take_next : (n x : ℕ) (xs : List ℕ) → take (1 + n) (x ∷ xs) ≡ x ∷ take n xs
take_next n x xs = let next : 1 + n ≡ suc n = omega arith in ap (λ k. take k (x ∷ xs)) next

-- it ends in the stretch
pub text_whole : (xs ys : List ℕ) → list_any (λ x. x == 0) xs ≡ true → before_first (λ x. x == 0) (xs ++ ys) ≡ before_first (λ x. x == 0) xs
text_whole [] ys some = cc
text_whole (x ∷ xs) ys some = go (x == 0) some (text_whole xs ys)
  where
    go : (b : Bool) → (b || list_any (λ x. x == 0) xs) ≡ true → (list_any (λ x. x == 0) xs ≡ true
        → before_first (λ x. x == 0) (xs ++ ys) ≡ before_first (λ x. x == 0) xs)
        → take (cond (not b) (1 + position_or_len (λ x. x == 0) (xs ++ ys)) 0) (x ∷ (xs ++ ys))
        ≡ take (cond (not b) (1 + position_or_len (λ x. x == 0) xs) 0) (x ∷ xs)
    go true some more = refl
    go false some more = take_next (position_or_len (λ x. x == 0) (xs ++ ys)) x (xs ++ ys) ∙ ap (λ l. x ∷ l) (more some)
        ∙ sym (take_next (position_or_len (λ x. x == 0) xs) x xs)

-- it goes on behind the stretch
pub text_on : (xs ys : List ℕ) → list_any (λ x. x == 0) xs ≡ false → before_first (λ x. x == 0) (xs ++ ys)
    ≡ xs ++ before_first (λ x. x == 0) ys
text_on [] ys none = refl
text_on (x ∷ xs) ys none = go (x == 0) none (text_on xs ys)
  where
    go : (b : Bool) → (b || list_any (λ x. x == 0) xs) ≡ false → (list_any (λ x. x == 0) xs ≡ false
        → before_first (λ x. x == 0) (xs ++ ys) ≡ xs ++ before_first (λ x. x == 0) ys)
        → take (cond (not b) (1 + position_or_len (λ x. x == 0) (xs ++ ys)) 0) (x ∷ (xs ++ ys)) ≡ x ∷ (xs ++ before_first (λ x. x == 0) ys)
    go true none more = cc
    go false none more = take_next (position_or_len (λ x. x == 0) (xs ++ ys)) x (xs ++ ys) ∙ ap (λ l. x ∷ l) (more none)

-- a stretch without an end is in a text that is as long
pub long_stretch : (bytes : List ℕ) (n : ℕ) → n ≤ length bytes → list_any (λ x. x == 0) (take n bytes) ≡ false
    → n ≤ length (before_first (λ x. x == 0) bytes)
long_stretch bytes n within none =
    let behind = before_first (λ x. x == 0) (drop n bytes) in
    let text : before_first (λ x. x == 0) bytes ≡ take n bytes ++ behind = ap (before_first (λ x. x == 0))
    (sym (take-append-drop n bytes)) ∙ text_on (take n bytes) (drop n bytes) none in
    let long : length (before_first (λ x. x == 0) bytes) ≡ n + length behind = ap length text ∙ length-append (take n bytes) behind
    ∙ ap (λ k. k + length behind) (length-take-le n bytes within) in
    omega (arith, long)

-- it has no end
pub text_none : (xs : List ℕ) → list_any (λ x. x == 0) xs ≡ false → xs ≡ before_first (λ x. x == 0) xs
text_none xs none = sym (ap (before_first (λ x. x == 0)) (sym (append-nil xs)) ∙ text_on xs [] none ∙ append-nil xs)

-- bytes, as a stretch of them and those behind it
pub stretch_whole : (n : ℕ) (bytes : List ℕ) → take (min n (length bytes)) bytes ++ drop n bytes ≡ bytes
stretch_whole n bytes = ap (λ l. l ++ drop n bytes) (take_min n bytes) ∙ take-append-drop n bytes

-- the same of those from a place on
pub stretch_cut : (texts : List ℕ) (place n : ℕ) → take (min n (length (drop place texts))) (drop place texts) ++ drop (place + n)
    texts ≡ drop place texts
stretch_cut texts place n =
    ap (λ l. take (min n (length (drop place texts))) (drop place texts) ++ l) (sym (drop-drop n place texts))
    ∙ stretch_whole n (drop place texts)

-- The passages of the places

-- where no bytes stand any more, the text is empty
pub passage_behind : (texts : List ℕ) (nth : ℕ) → length texts ≤ nth * 512 → nth_passage texts nth ≡ range_with_len 0 257
passage_behind texts nth past =
    ap (λ l. passage_of (before_first (λ x. x == 0) l)) (drop_all (nth * 512) texts past) ∙ map_same (range_with_len 0 257)

pub length_passage : (text : List ℕ) → length (passage_of text) ≡ 257
length_passage text = length-map-range_with_len (λ s. state_after s text) 0 257

-- of so many of them, one is read by its number from the last one on
pub passage_read : (texts : List ℕ) (ps : List (List ℕ)) (nth : ℕ) (d : List ℕ) → ArePassages texts ps → nth < length ps
    → get_or ps (length ps - 1 - nth) d ≡ nth_passage texts nth
passage_read texts ps nth d are below =
    let count = length ps in
    let back : count - 1 - (count - 1 - nth) ≡ nth = omega arith in
    ap (λ (l : List (List ℕ)). get_or l (count - 1 - nth) d) are
    ∙ get_or-map-range_with_len (λ k. nth_passage texts (count - 1 - k)) 0 count (count - 1 - nth) (count - 1 - nth) d (omega arith)
    (omega arith)
    ∙ ap (nth_passage texts) back

-- as many as were asked for
pub passages_are : (texts : List ℕ) (ps : List (List ℕ)) (count : ℕ) → ps ≡ passages texts count → ArePassages texts ps
passages_are texts ps count is =
    let size = ap length is ∙ length-map-range_with_len (λ k. nth_passage texts (count - 1 - k)) 0 count in
    is ∙ ap (passages texts) (sym size)
