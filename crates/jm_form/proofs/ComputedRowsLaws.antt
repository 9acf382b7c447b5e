-- The row that `row_front` computes is the one that `Spells` rules: both ways, and no spelling is a
-- proper prefix of another.
use Rattle.std.proofs.Common.{◌≡◌, ℕ, zero, suc, ◌+◌, ◌-◌, ◌*◌, ◌/◌, ◌%◌, ◌<◌, ◌≤◌, ◌^◌, ◌&&◌, ◌⊎◌, inl, inr}
use Rattle.std.proofs.Common.{Bool, true, cond, List, [], ◌∷◌, ◌++◌, length, slice_index, take, drop, Option}
use Rattle.std.proofs.Common.{Some, None, refl, sym, ap, ◌∙◌, subst, arith, append_assoc, length-append}
use Rattle.std.proofs.Common.{length-take, length-drop, take-append-drop, option_map}
use Rattle.std.proofs.Math.Nat.{add-mul, mul_assoc, pow-suc}
use Rattle.std.proofs.lemmas.Bool.{ltb-false, ltb-true}
use Rattle.std.proofs.lemmas.Bool.Decides.{nat_tests}
use Rattle.std.proofs.lemmas.List.{nil_from_length, take_all, take_at, take-take, drop_at, length-take-le}
use Rattle.std.specs.List.{flat_map}
use Rattle.std.specs.Prelude.{nat_lt, nat_le}
use Rattle.byteorder.specs.Endian.{big_from, big_number}
use Rattle.byteorder.specs.Numbers.{big_from-append, big_from-take}
use Rattle.jm_form.specs.declared.rows.Row.{Row}
use Rattle.jm_form.specs.ComputedRows.{row_from, row_front}
use Rattle.jm_form.specs.Rows.{Attribute, spelled, Rising, Spells, blank, row_of, with_value}
use Rattle.jm_bytes.proofs.Choice.{chosen, same_first, same_second}

-- the number of the bytes from a place and one more
number_behind : (i n : ℕ) (bytes : List ℕ) → big_from i (suc n) bytes ≡ big_from i n bytes * 256 + slice_index bytes (i + n)
number_behind i zero bytes = let place : i + 0 ≡ i = omega arith in rw place (omega arith)
number_behind i (suc n) bytes =
    let first : ℕ = slice_index bytes i in
    let more = number_behind (suc i) n bytes in
    let place : suc i + n ≡ i + suc n = omega arith in
    let power : first * 256 ^ suc n ≡ first * 256 ^ n * 256 = ap (λ p. first * p) (pow-suc 256 n) ∙ sym (mul_assoc first (256 ^ n) 256) in
    let sum = add-mul (first * 256 ^ n) (big_from (suc i) n bytes) 256 in
    let last = rw place at more in
    omega (arith, power, sum, last)

-- the number of the first bytes and one more
pub number_more : (n : ℕ) (bytes : List ℕ) → big_number (n + 1) bytes ≡ big_number n bytes * 256 + slice_index bytes n
number_more n bytes =
    let one : n + 1 ≡ suc n = omega arith in
    let none : 0 + n ≡ n = omega arith in
    ap (λ k. big_number k bytes) one ∙ number_behind 0 n bytes ∙ ap (λ k. big_number n bytes * 256 + slice_index bytes k) none

-- one attribute more is read
row_from_more : (left above : ℕ) (row : Row) (b : ℕ) (bytes : List ℕ) (kind len : ℕ) → 0 < left → kind ≡ b / 8 → len ≡ b % 8 + 1
    → 8 ≤ b → above < kind → kind < 8 → len ≤ length bytes → row_from left above row (b ∷ bytes)
    ≡ row_from (left - 1) kind (with_value row kind (big_number len bytes)) (drop len bytes)
row_from_more zero above row b bytes kind len more k l high rises small fits = grind (arith, nat_tests)
row_from_more (suc left) above row b bytes kind len more k l high rises small fits = grind (arith, nat_tests)

-- kinds rise and there are seven, so from a kind on at most so many attributes can come
enough : (left more above : ℕ) (row : Row) (bytes : List ℕ) → 7 ≤ above + left → row_from (left + more) above row bytes
    ≡ row_from left above row bytes
enough left more above row [] room = refl
enough zero zero above row (b ∷ bytes) room = refl
enough zero (suc more) above row (b ∷ bytes) room = grind (arith, nat_tests)
enough (suc left) more above row (b ∷ bytes) room =
    let kind : ℕ = b / 8 in
    let n : ℕ = b % 8 + 1 in
    let count : suc left + more ≡ suc (left + more) = omega arith in
    let later : above < kind → row_from (left + more) kind (with_value row kind (big_number n bytes)) (drop n bytes)
    ≡ row_from left kind (with_value row kind (big_number n bytes)) (drop n bytes) =
    λ rises. enough left more kind (with_value row kind (big_number n bytes)) (drop n bytes) (omega arith) in
    rw count (grind (arith, nat_tests))

-- what is left above a kind, one attribute later
pub row_goes_on : (above : ℕ) (row : Row) (b : ℕ) (bytes : List ℕ) (len : ℕ) → len ≡ b % 8 + 1 → 8 ≤ b → above < b / 8 → b / 8 < 8
    → len ≤ length bytes → row_from (7 - above) above row (b ∷ bytes)
    ≡ row_from (7 - b / 8) (b / 8) (with_value row (b / 8) (big_number len bytes)) (drop len bytes)
row_goes_on above row b bytes len is high rises small fits =
    let one = row_from_more (7 - above) above row b bytes (b / 8) len (omega arith) refl is high rises small fits in
    let count : 7 - above - 1 ≡ 7 - b / 8 + (b / 8 - above - 1) = omega arith in
    one ∙ rw count (enough (7 - b / 8) (b / 8 - above - 1) (b / 8) (with_value row (b / 8) (big_number len bytes)) (drop len bytes)
    (omega arith))

-- a byte below 8 ends the row
pub row_ends : (left above : ℕ) (row : Row) (b : ℕ) (bytes : List ℕ) → b < 8 → row_from left above row (b ∷ bytes) ≡ Some (row, bytes)
row_ends zero above row b bytes low = grind (arith, nat_tests)
row_ends (suc left) above row b bytes low = grind (arith, nat_tests)

-- no row is spelled where a kind doesn't rise, is above 7, or has no room for its value
pub row_breaks : (left above : ℕ) (row : Row) (b : ℕ) (bytes : List ℕ) → 8 ≤ b → (b / 8 ≤ above) ⊎ (7 < b / 8)
    ⊎ (length bytes < b % 8 + 1) → row_from left above row (b ∷ bytes) ≡ None
row_breaks zero above row b bytes high bad = grind (arith, nat_tests)
row_breaks (suc left) above row b bytes high (inl same) = grind (arith, nat_tests)
row_breaks (suc left) above row b bytes high (inr (inl large)) = grind (arith, nat_tests)
row_breaks (suc left) above row b bytes high (inr (inr short)) = grind (arith, nat_tests)

-- what is spelled is read
pub spelled_read : (left above : ℕ) (row : Row) (parts : List Attribute) (last : ℕ) (rest : List ℕ) → Rising above parts → last < 8
    → 7 ≤ above + left → row_from left above row (flat_map spelled parts ++ last ∷ rest) ≡ Some (row_of row parts, rest)
spelled_read zero above row [] last rest rising low room = grind (arith, nat_tests)
spelled_read (suc left) above row [] last rest rising low room = grind (arith, nat_tests)
spelled_read left above row (a ∷ parts) last rest (rises, small, some, most, rising) low room =
    let byte : ℕ = a.kind * 8 + (length a.value - 1) in
    let tail : List ℕ = flat_map spelled parts ++ last ∷ rest in
    let body : List ℕ = a.value ++ tail in
    let shape = append_assoc a.value (flat_map spelled parts) (last ∷ rest) in
    let fits : length a.value ≤ length body = simp length-append (omega arith) in
    let one = row_from_more left above row byte body a.kind (length a.value) (omega arith) (omega arith) (omega arith) (omega arith)
    rises small fits in
    let value = big_from-append (length a.value) a.value tail (omega arith) in
    let behind = drop_at a.value tail (length a.value) refl in
    let more = spelled_read (left - 1) a.kind (with_value row a.kind (big_number (length a.value) a.value)) parts last rest rising
    low (omega arith) in
    rw (shape, one, value, behind) more

-- what is read is spelled
pub record ReadAs (above : ℕ) (start : Row) (bytes : List ℕ) (read : Row) (rest : List ℕ) : Type 0 where
  pub parts : List Attribute
  pub last : ℕ
  pub rising : Rising above parts
  pub low : last < 8
  pub text : bytes ≡ flat_map spelled parts ++ last ∷ rest
  pub row : read ≡ row_of start parts

ends_here : (above : ℕ) (row : Row) (b : ℕ) (bytes : List ℕ) (read : Row) (rest : List ℕ) → b < 8
    → ◌≡◌ {A = Option (Row × List ℕ)} (Some (row, bytes)) (Some (read, rest)) → ReadAs above row (b ∷ bytes) read rest
ends_here above row b bytes read rest low e =
    record {
      parts = [];
      last = b;
      rising = tt;
      low = low;
      text = ap (λ l. b ∷ l) (same_second row read bytes rest e);
      row =
          sym (same_first row read bytes rest e);
    }

one_read : (above : ℕ) (row : Row) (b : ℕ) (bytes : List ℕ) (read : Row) (rest : List ℕ) → 8 ≤ b → above < b / 8 → b / 8 < 8
    → b % 8 + 1 ≤ length bytes → ReadAs (b / 8) (with_value row (b / 8) (big_number (b % 8 + 1) bytes)) (drop (b % 8 + 1) bytes)
    read rest → ReadAs above row (b ∷ bytes) read rest
one_read above row b bytes read rest high rises small fits more =
    let n : ℕ = b % 8 + 1 in
    let value : List ℕ = take n bytes in
    let size : length value ≡ n = length-take-le n bytes fits in
    let number : big_number (length value) value ≡ big_number n bytes = ap (λ k. big_number k value) size
    ∙ big_from-take 0 n n bytes (omega arith) in
    let behind : drop n bytes ≡ flat_map spelled more.parts ++ more.last ∷ rest = more.text in
    let whole : bytes ≡ value ++ (flat_map spelled more.parts ++ more.last ∷ rest) = sym (take-append-drop n bytes)
    ∙ ap (λ l. value ++ l) behind in
    let head : b ≡ b / 8 * 8 + (length value - 1) = omega (arith, size) in
    record {
      parts = record { kind = b / 8; value = value } ∷ more.parts;
      last = more.last;
      rising = (rises, small, omega (arith, size), omega (arith, size), more.rising);
      low = more.low;
      text = ap (λ l. b ∷ l) (whole ∙ sym (append_assoc value (flat_map spelled more.parts) (more.last ∷ rest)))
          ∙ ap (λ k. k ∷ ((value ++ flat_map spelled more.parts) ++ more.last ∷ rest)) head;
      row = more.row ∙ ap (λ v. row_of (with_value row (b / 8) v) more.parts) (sym number);
    }

one_fits : (above kind n size : ℕ) → nat_lt above kind && nat_lt kind 8 && nat_le n size ≡ true → (above < kind) × (kind < 8) × (n ≤ size)
one_fits above kind n size e = (grind (arith, nat_tests), grind (arith, nat_tests), grind (arith, nat_tests))

pub read_spelled : (left above : ℕ) (row : Row) (bytes : List ℕ) (read : Row) (rest : List ℕ) → row_from left above row bytes
    ≡ Some (read, rest) → ReadAs above row bytes read rest
read_spelled left above row [] read rest e = cc
read_spelled zero above row (b ∷ bytes) read rest e =
    elim (chosen (nat_lt b 8) (Some (row, bytes)) None (Some (read, rest)) e) [
      | inl h ↦ ends_here above row b bytes read rest (ltb-true b 8 h.0) h.1
      | inr h ↦ let no = h.1 in cc
    ]
read_spelled (suc left) above row (b ∷ bytes) read rest e =
    let kind : ℕ = b / 8 in
    let n : ℕ = b % 8 + 1 in
    let go : Option (Row × List ℕ) = row_from left kind (with_value row kind (big_number n bytes)) (drop n bytes) in
    let fits : Bool = nat_lt above kind && nat_lt kind 8 && nat_le n (length bytes) in
    elim (chosen (nat_lt b 8) (Some (row, bytes)) (cond fits go None) (Some (read, rest)) e) [
      | inl h ↦ ends_here above row b bytes read rest (ltb-true b 8 h.0) h.1
      | inr h ↦
          elim (chosen fits go None (Some (read, rest)) h.1) [
            | inl m ↦
                let (rises, small, room) = one_fits above kind n (length bytes) m.0 in
                one_read above row b bytes read rest (ltb-false b 8 h.0) rises small room
                (read_spelled left kind (with_value row kind (big_number n bytes)) (drop n bytes) read rest m.1)
            | inr m ↦ let no = m.1 in cc
          ]
    ]

-- the row at the front of some bytes, and what stands behind it
abbrev pub front_and_rest : List ℕ → Option (Row × List ℕ)
front_and_rest bytes = row_from 7 0 blank bytes

abbrev pub with_length : List ℕ → Row × List ℕ → Row × ℕ
with_length bytes r = (r.0, length bytes - length r.1)

-- a spelling at the front of some bytes is what is read there
spelled_rest : (bytes : List ℕ) (n : ℕ) (row : Row) → Spells (take n bytes) row → front_and_rest bytes ≡ Some (row, drop n bytes)
spelled_rest bytes n row (parts, last, rising, low, text, is) =
    let whole : bytes ≡ flat_map spelled parts ++ last ∷ drop n bytes =
    sym (take-append-drop n bytes) ∙ ap (λ l. l ++ drop n bytes) text ∙ append_assoc (flat_map spelled parts) (last ∷ []) (drop n bytes) in
    let read = spelled_read 7 0 blank parts last (drop n bytes) rising low (omega arith) in
    let there : front_and_rest bytes ≡ Some (row_of blank parts, drop n bytes) = ap front_and_rest whole ∙ read in
    rw is there

pub spelled_front : (bytes : List ℕ) (n : ℕ) (row : Row) → n ≤ length bytes → Spells (take n bytes) row → row_front bytes ≡ Some (row, n)
spelled_front bytes n row fits spells =
    let rest = length-drop n bytes in
    let size : length bytes - length (drop n bytes) ≡ n = omega arith in
    ap (option_map (with_length bytes)) (spelled_rest bytes n row spells) ∙ ap (λ (k : ℕ). Some (row, k)) size

-- where no row is read at the front none is spelled there
pub nothing_spelled : (bytes : List ℕ) → row_front bytes ≡ None → (n : ℕ) (row : Row) → Spells (take n bytes) row → ⊥
nothing_spelled bytes nothing n row spells =
    let there = ap (option_map (with_length bytes)) (spelled_rest bytes n row spells) in
    let both : ◌≡◌ {A = Option (Row × ℕ)} None (Some (row, length bytes - length (drop n bytes))) = sym nothing ∙ there in
    cc

-- what is read at the front is spelled there, with at least one byte
pub record SpelledFront (bytes : List ℕ) (row : Row) (n : ℕ) : Type 0 where
  pub some : 0 < n
  pub within : n ≤ length bytes
  pub spells : Spells (take n bytes) row

pub rest_spelled : (bytes : List ℕ) (row : Row) (rest : List ℕ) → front_and_rest bytes ≡ Some (row, rest)
    → SpelledFront bytes row (length bytes - length rest)
rest_spelled bytes row rest e =
    let r = read_spelled 7 0 blank bytes row rest e in
    let front : List ℕ = flat_map spelled r.parts ++ r.last ∷ [] in
    let split : bytes ≡ front ++ rest = r.text ∙ sym (append_assoc (flat_map spelled r.parts) (r.last ∷ []) rest) in
    let size : length bytes ≡ length front + length rest = ap length split ∙ length-append front rest in
    let some : length front ≡ length (flat_map spelled r.parts) + 1 = length-append (flat_map spelled r.parts) (r.last ∷ []) in
    let cut : take (length bytes - length rest) bytes ≡ front = ap (λ l. take (length bytes - length rest) l) split
    ∙ take_at front rest (length bytes - length rest) (omega arith) in
    record { some = omega arith; within = omega arith; spells = (r.parts, r.last, r.rising, r.low, cut, r.row) }

pub front_spelled : (bytes : List ℕ) (row : Row) (n : ℕ) → row_front bytes ≡ Some (row, n) → SpelledFront bytes row n
front_spelled bytes row n e = go (front_and_rest bytes) refl e
  where
    go : (r : Option (Row × List ℕ)) → front_and_rest bytes ≡ r → ◌≡◌ {A = Option (Row × ℕ)} (option_map (with_length bytes) r)
        (Some (row, n)) → SpelledFront bytes row n
    go None there e = cc
    go (Some r) there e =
        let rows : r.0 ≡ row = same_first r.0 row (length bytes - length r.1) n e in
        let sizes : length bytes - length r.1 ≡ n = same_second r.0 row (length bytes - length r.1) n e in
        subst (λ (k : ℕ). SpelledFront bytes row k) sizes (subst (λ (x : Row). SpelledFront bytes x (length bytes - length r.1))
        rows (rest_spelled bytes r.0 r.1 there))

-- what stands behind a row that was read is shorter than the text
pub rest_shorter : (bytes : List ℕ) (row : Row) (rest : List ℕ) → front_and_rest bytes ≡ Some (row, rest) → length rest < length bytes
rest_shorter bytes row rest e = let spelled = rest_spelled bytes row rest e in let some = spelled.some in omega arith

-- no spelling of a row is a proper prefix of another
pub no_longer_spelling : (text more : List ℕ) (row other : Row) → Spells text row → Spells (text ++ more) other → more ≡ []
no_longer_spelling text more row other short long =
    let whole : List ℕ = text ++ more in
    let size : length whole ≡ length text + length more = length-append text more in
    let front : take (length text) whole ≡ text = take_at text more (length text) refl in
    let all : take (length whole) whole ≡ whole = take_all (length whole) whole (omega arith) in
    let one : row_front whole ≡ Some (row, length text) = spelled_front whole (length text) row (omega arith) (rw front short) in
    let two : row_front whole ≡ Some (other, length whole) = spelled_front whole (length whole) other (omega arith) (rw all long) in
    let same : length text ≡ length whole = same_second row other (length text) (length whole) (sym one ∙ two) in
    nil_from_length more (omega arith)

-- a row has at most 64 bytes: nine for each of the seven kinds, and the end byte
spelled_length : (above : ℕ) (parts : List Attribute) → Rising above parts → above < 8 → length (flat_map spelled parts) + 9 * above ≤ 63
spelled_length above [] rising below = omega arith
spelled_length above (a ∷ parts) (rises, small, some, most, rising) below =
    let more = spelled_length a.kind parts rising small in
    let size = length-append a.value (flat_map spelled parts) in
    omega arith

pub row_length : (text : List ℕ) (row : Row) → Spells text row → length text ≤ 64
row_length text row (parts, last, rising, low, is, value) =
    let size : length text ≡ length (flat_map spelled parts) + length (last ∷ []) = ap length is
    ∙ length-append (flat_map spelled parts) (last ∷ []) in
    let bound = spelled_length 0 parts rising (omega arith) in
    omega arith

-- 64 bytes are enough to read a row
row_within : (bytes : List ℕ) (n : ℕ) (r : Row × ℕ) → 64 ≤ n → row_front bytes ≡ Some r → row_front (take n bytes) ≡ Some r
row_within bytes n r room e =
    let front = front_spelled bytes r.0 r.1 e in
    let within = front.within in
    let most = row_length (take r.1 bytes) r.0 front.spells in
    let exact : length (take r.1 bytes) ≡ r.1 = length-take-le r.1 bytes within in
    let size = length-take n bytes in
    let cut : take r.1 (take n bytes) ≡ take r.1 bytes = take-take r.1 n bytes (omega arith) in
    spelled_front (take n bytes) r.1 r.0 (omega arith) (rw cut front.spells)

-- and where 64 bytes spell no row, none is spelled
pub row_within_64 : (bytes : List ℕ) (n : ℕ) → 64 ≤ n → row_front (take n bytes) ≡ row_front bytes
row_within_64 bytes n room = go (row_front bytes) refl (row_front (take n bytes)) refl
  where
    shorter : (k : ℕ) → k ≤ length (take n bytes) → k ≤ n × k ≤ length bytes
    shorter k fits = let size = length-take n bytes in (omega arith, omega arith)

    go : (r : Option (Row × ℕ)) → row_front bytes ≡ r → (s : Option (Row × ℕ)) → row_front (take n bytes) ≡ s
        → row_front (take n bytes) ≡ row_front bytes
    go (Some r) there s front = row_within bytes n r room there ∙ sym there
    go None there None front = front ∙ sym there
    go None there (Some s) front =
        let spelled = front_spelled (take n bytes) s.0 s.1 front in
        let fits = shorter s.1 spelled.within in
        let cut : take s.1 (take n bytes) ≡ take s.1 bytes = take-take s.1 n bytes fits.0 in
        absurd (nothing_spelled bytes there s.1 s.0 (rw cut at spelled.spells))
