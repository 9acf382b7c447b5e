-- The usual spelling of a row spells it, and is read back.
use Rattle.std.proofs.Common.{◌≡◌, ℕ, zero, suc, ◌+◌, ◌^◌, ◌<◌, ◌≤◌, ◌==◌, nat_lt, Bool, true, false, cond}
use Rattle.std.proofs.Common.{List, [], ◌∷◌, ◌++◌, length, take, Some, refl, sym, ap, ◌∙◌, arith}
use Rattle.std.proofs.Common.{append_assoc, length-append}
use Rattle.std.proofs.lemmas.Bool.{ltb-true}
use Rattle.std.proofs.lemmas.Bool.Decides.{nat_tests}
use Rattle.std.proofs.lemmas.List.{append-nil, take_at}
use Rattle.std.specs.List.{find, flat_map, range_with_len}
use Rattle.std.specs.Option.{unwrap_or}
use Rattle.byteorder.specs.Endian.{big_number, big_bytes}
use Rattle.byteorder.specs.Numbers.{big_number-reads_back, length-bytes_high_first}
use Rattle.jm_form.specs.declared.rows.Row.{Row}
use Rattle.jm_form.specs.ComputedRows.{row_front}
use Rattle.jm_form.specs.Rows.{Attribute, spelled, Rising, Spells, blank, row_of, with_value, byte_count, usual_attribute, values_of, usual}
use Rattle.jm_form.proofs.ComputedRowsLaws.{spelled_front}

-- The number of bytes

-- the value fits in so many bytes, of a number between two bounds
pub record FitsIn (v low high n : ℕ) : Type 0 where
  pub least : low ≤ n
  pub most : n ≤ high
  pub fits : v < 256 ^ n

found_in : (v low high a n : ℕ) → low ≤ a → low ≤ high → a + n ≤ high + 1 → v < 256 ^ high
    → FitsIn v low high (unwrap_or (find (λ k. nat_lt v (256 ^ k)) (range_with_len a n)) high)
found_in v low high a zero from some to fits = record { least = some; most = omega arith; fits = fits }
found_in v low high a (suc n) from some to fits = go (nat_lt v (256 ^ a)) refl (found_in v low high (a + 1) n (omega arith) some
    (omega arith) fits)
  where
    go : (b : Bool) → nat_lt v (256 ^ a) ≡ b
        → FitsIn v low high (unwrap_or (find (λ k. nat_lt v (256 ^ k)) (range_with_len (a + 1) n)) high)
        → FitsIn v low high (unwrap_or (cond b (Some a) (find (λ k. nat_lt v (256 ^ k)) (range_with_len (a + 1) n))) high)
    go true test more = record { least = from; most = omega arith; fits = ltb-true v (256 ^ a) test }
    go false test more = more

pub byte_count_fits : (v : ℕ) → v < 2 ^ 64 → FitsIn v 1 8 (byte_count v)
byte_count_fits v small = found_in v 1 8 1 8 (omega arith) (omega arith) (omega arith) (omega arith)

-- The attributes

abbrev pub usual_of : ℕ × ℕ → Attribute
usual_of v = record { kind = v.0; value = big_bytes (byte_count v.1) v.1 }

number_of_usual : (v : ℕ × ℕ) → v.1 < 2 ^ 64 → big_number (length (usual_of v).value) (usual_of v).value ≡ v.1
number_of_usual v small =
    let count = byte_count_fits v.1 small in
    let bytes : List ℕ = big_bytes (byte_count v.1) v.1 in
    let read : big_number (byte_count v.1) (bytes ++ []) ≡ v.1 = big_number-reads_back (byte_count v.1) v.1 [] count.fits in
    ap (λ n. big_number n bytes) (length-bytes_high_first (byte_count v.1) v.1) ∙ ap (big_number (byte_count v.1))
    (sym (append-nil bytes)) ∙ read

-- those whose value isn't 0
abbrev pub usual_parts : List (ℕ × ℕ) → List Attribute
usual_parts [] = []
usual_parts (v ∷ values) = cond (v.1 == 0) (usual_parts values) (usual_of v ∷ usual_parts values)

spelled_usual : (values : List (ℕ × ℕ)) → flat_map (λ v. usual_attribute v.0 v.1) values ≡ flat_map spelled (usual_parts values)
spelled_usual [] = refl
spelled_usual (v ∷ values) = go (v.1 == 0) (spelled_usual values)
  where
    go : (b : Bool) → flat_map (λ w. usual_attribute w.0 w.1) values ≡ flat_map spelled (usual_parts values)
        → cond b [] (spelled (usual_of v)) ++ flat_map (λ w. usual_attribute w.0 w.1) values
        ≡ flat_map spelled (cond b (usual_parts values) (usual_of v ∷ usual_parts values))
    go true rest = rest
    go false rest = ap (λ l. spelled (usual_of v) ++ l) rest

-- kinds that rise, with values of 64 bits
abbrev Values : ℕ → List (ℕ × ℕ) → Type 0
Values above [] = Unit {0}
Values above (v ∷ values) = (above < v.0) × (v.0 < 8) × (v.1 < 2 ^ 64) × Values v.0 values

rising_lower : (above below : ℕ) (parts : List Attribute) → above ≤ below → Rising below parts → Rising above parts
rising_lower above below [] le rising = tt
rising_lower above below (a ∷ parts) le (rises, small, some, most, rising) = (omega arith, small, some, most, rising)

rising_usual : (above : ℕ) (values : List (ℕ × ℕ)) → Values above values → Rising above (usual_parts values)
rising_usual above [] all = tt
rising_usual above (v ∷ values) (rises, small, fits, rest) = go (v.1 == 0) (rising_usual v.0 values rest)
  where
    count : FitsIn v.1 1 8 (byte_count v.1)
    count = byte_count_fits v.1 fits

    size : length (usual_of v).value ≡ byte_count v.1
    size = length-bytes_high_first (byte_count v.1) v.1

    go : (b : Bool) → Rising v.0 (usual_parts values) → Rising above (cond b (usual_parts values) (usual_of v ∷ usual_parts values))
    go true rising = rising_lower above v.0 (usual_parts values) (omega arith) rising
    go false rising = (rises, small, omega (arith, size, count.least), omega (arith, size, count.most), rising)

-- one attribute of a row: where the value is 0 the row has it as it is
row_usual : (row : Row) (v : ℕ × ℕ) (values : List (ℕ × ℕ)) → v.1 < 2 ^ 64 → with_value row v.0 0 ≡ row
    → row_of row (usual_parts (v ∷ values)) ≡ row_of (with_value row v.0 v.1) (usual_parts values)
row_usual row v values fits zero_is = go (v.1 == 0) refl
  where
    go : (b : Bool) → (v.1 == 0) ≡ b → row_of row (cond b (usual_parts values) (usual_of v ∷ usual_parts values))
        ≡ row_of (with_value row v.0 v.1) (usual_parts values)
    go true test =
        let is : 0 ≡ v.1 = grind (arith, nat_tests) in
        ap (λ r. row_of r (usual_parts values)) (sym zero_is ∙ ap (with_value row v.0) is)
    go false test = ap (λ (n : ℕ). row_of (with_value row v.0 n) (usual_parts values)) (number_of_usual v fits)

-- The row

-- the values of a row have 64 bits
pub record RowFits (row : Row) : Type 0 where
  pub «module» : row.«module» < 2 ^ 64
  pub parent : row.parent < 2 ^ 64
  pub base : row.base < 2 ^ 64
  pub ext : row.ext < 2 ^ 64
  pub offset : row.offset < 2 ^ 64
  pub packed : row.packed < 2 ^ 64
  pub size : row.size < 2 ^ 64

row_is : (m p b e o c s : ℕ) → RowFits (record { «module» = m; parent = p; base = b; ext = e; offset = o; packed = c; size = s })
    → row_of blank (usual_parts (values_of (record {
      «module» = m;
      parent = p;
      base = b;
      ext = e;
      offset = o;
      packed = c;
      size =
          s;
    }))) ≡ record { «module» = m; parent = p; base = b; ext = e; offset = o; packed = c; size = s }
row_is m p b e o c s fits =
    row_usual blank (1, m) ((2, p) ∷ (3, b) ∷ (4, e) ∷ (5, o) ∷ (6, c) ∷ (7, s) ∷ []) fits.«module» refl
    ∙ row_usual (record blank { «module» = m }) (2, p) ((3, b) ∷ (4, e) ∷ (5, o) ∷ (6, c) ∷ (7, s) ∷ []) fits.parent refl
    ∙ row_usual (record blank { «module» = m; parent = p }) (3, b) ((4, e) ∷ (5, o) ∷ (6, c) ∷ (7, s) ∷ []) fits.base refl
    ∙ row_usual (record blank { «module» = m; parent = p; base = b }) (4, e) ((5, o) ∷ (6, c) ∷ (7, s) ∷ []) fits.ext refl
    ∙ row_usual (record blank { «module» = m; parent = p; base = b; ext = e }) (5, o) ((6, c) ∷ (7, s) ∷ []) fits.offset refl
    ∙ row_usual (record blank { «module» = m; parent = p; base = b; ext = e; offset = o }) (6, c) ((7, s) ∷ []) fits.packed refl
    ∙ row_usual (record blank { «module» = m; parent = p; base = b; ext = e; offset = o; packed = c }) (7, s) [] fits.size refl

values_fit : (row : Row) → RowFits row → Values 0 (values_of row)
values_fit row fits = (
  omega arith,
  omega arith,
  fits.«module»,
  (
    omega arith,
    omega arith,
    fits.parent,
    (
      omega arith,
      omega arith,
      fits.base,
      (
        omega arith,
        omega arith,
        fits.ext,
        (
          omega arith,
          omega arith,
          fits.offset,
          (
            omega arith,
            omega arith,
            fits.packed,
            (omega arith, omega arith, fits.size, tt),
          ),
        ),
      ),
    ),
  ),
)

pub usual_spells : (row : Row) → RowFits row → Spells (usual row) row
usual_spells row fits = (
  usual_parts (values_of row),
  0,
  rising_usual 0 (values_of row) (values_fit row fits),
  omega arith,
  ap (λ l. l ++ 0 ∷ []) (spelled_usual (values_of row)),
  sym (row_is row.«module» row.parent row.base row.ext row.offset row.packed row.size fits),
)

pub usual_read_back : (row : Row) (rest : List ℕ) → RowFits row → row_front (usual row ++ rest) ≡ Some (row, length (usual row))
usual_read_back row rest fits =
    let size = length-append (usual row) rest in
    let front : take (length (usual row)) (usual row ++ rest) ≡ usual row = take_at (usual row) rest (length (usual row)) refl in
    spelled_front (usual row ++ rest) (length (usual row)) row (omega (arith, size)) (rw front (usual_spells row fits))

put_in_turn : {X : Type 0} (a b c d e f g h : List X) → (((((((([] ++ a) ++ b) ++ c) ++ d) ++ e) ++ f) ++ g) ++ h)
    ≡ (a ++ (b ++ (c ++ (d ++ (e ++ (f ++ (g ++ []))))))) ++ h
put_in_turn a b c d e f g h = simp (append_assoc, append-nil) refl

-- the attributes, put one behind the other
pub usual_in_turn : (row : Row)
    → (((((((([] ++ usual_attribute 1 row.«module») ++ usual_attribute 2 row.parent) ++ usual_attribute 3 row.base)
    ++ usual_attribute 4 row.ext) ++ usual_attribute 5 row.offset) ++ usual_attribute 6 row.packed) ++ usual_attribute 7 row.size)
    ++ 0 ∷ []) ≡ usual row
usual_in_turn row = put_in_turn (usual_attribute 1 row.«module») (usual_attribute 2 row.parent) (usual_attribute 3 row.base)
    (usual_attribute 4 row.ext) (usual_attribute 5 row.offset) (usual_attribute 6 row.packed) (usual_attribute 7 row.size) (0 ∷ [])
