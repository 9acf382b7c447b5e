-- What readings of bytes and of numbers take from the front, and that what they take is read back.
use Rattle.std.proofs.Common.{◌≡◌, ℕ, zero, suc, ◌+◌, ◌%◌, ◌<◌, ◌⊎◌, inl, inr, true, false, cond}
use Rattle.std.proofs.Common.{List, [], ◌∷◌, ◌++◌, get_or, length, take, drop, Ok, Err, refl, sym, ap, ◌∙◌}
use Rattle.std.proofs.Common.{subst, arith, append_assoc}
use Rattle.std.proofs.lemmas.Bool.{leb-true, le-leb, eqb-true}
use Rattle.std.proofs.lemmas.List.{take-append-drop, take_at, drop_at, length-append, length-take-le, nil_from_length}
use Rattle.std.proofs.lemmas.List.Elements.{All-nil, All-cons, All-head, All-tail}
use Rattle.std.proofs.lemmas.Nat.{from_be_bytes-to_be_bytes_2, from_be_bytes-to_be_bytes_4, be_bytes_2, be_bytes_4}
use Rattle.std.specs.Int.{byte_len, from_be_bytes, to_be_bytes}
use Rattle.std.specs.Prelude.{All, nat_le, nat_eq}
use Rattle.jm_bytes.proofs.Choice.{chosen, same_ok}
use Rattle.jm_class.specs.Layouts.{Size, U1, U2, U4, width, limit, SaysEach}
use Rattle.jm_class.specs.Readings.{Left, behind, Outcome, Reading, value, continued, and_then, part, number}
use Rattle.jm_class.specs.Readings.{counted, ended, inner_part, whole}

abbrev Byte : ℕ → Type 0
Byte b = b < 256

-- a list of bytes
abbrev pub IsBytes : List ℕ → Type 0
IsBytes xs = All (λ b. b < 256) xs

pub bytes_all : (xs : List ℕ) → ((i : ℕ) → get_or xs i 0 < 256) → IsBytes xs
bytes_all [] below = All-nil Byte
bytes_all (x ∷ xs) below = All-cons Byte x xs (below 0) (bytes_all xs (λ i. below (suc i)))

bytes_at : (xs : List ℕ) → IsBytes xs → (i : ℕ) → get_or xs i 0 < 256
bytes_at [] all i = omega arith
bytes_at (x ∷ xs) all zero = All-head Byte x xs all
bytes_at (x ∷ xs) all (suc i) = bytes_at xs (All-tail Byte x xs all) i

pub bytes_behind : (xs ys : List ℕ) → IsBytes (xs ++ ys) → IsBytes ys
bytes_behind [] ys all = all
bytes_behind (x ∷ xs) ys all = bytes_behind xs ys (All-tail Byte x (xs ++ ys) all)

pub bytes_front : (xs ys : List ℕ) → IsBytes (xs ++ ys) → IsBytes xs
bytes_front [] ys all = All-nil Byte
bytes_front (x ∷ xs) ys all = All-cons Byte x xs (All-head Byte x (xs ++ ys) all) (bytes_front xs ys (All-tail Byte x (xs ++ ys) all))

-- what a reading gave, and what is read after it
pub record Passed {F A B : Type 0} (outcome : Outcome F A) (next : A → Reading F B) (b : B) (after : Left) : Type 0 where
  pub first : A
  pub middle : Left
  pub is : outcome ≡ Ok (first, middle)
  pub rest : next first middle ≡ Ok (b, after)

pub passed : {F A B : Type 0} (outcome : Outcome F A) (next : A → Reading F B) (b : B) (after : Left) → continued outcome next
    ≡ Ok (b, after) → Passed outcome next b after
passed (Ok r) next b after e = record { first = r.0; middle = r.1; is = refl; rest = e }
passed (Err fault) next b after e = cc

module _ {F A : Type 0} where
  pub same_value : (a b : A) (left next : Left) → ◌≡◌ {A = Outcome F A} (Ok (a, left)) (Ok (b, next)) → a ≡ b
  same_value a b left next e =
      let x : A × Left = (a, left) in
      let y : A × Left = (b, next) in
      ap (λ (r : A × Left). r.0) (same_ok {E = F} x y e)

  pub same_left : (a b : A) (left next : Left) → ◌≡◌ {A = Outcome F A} (Ok (a, left)) (Ok (b, next)) → left ≡ next
  same_left a b left next e =
      let x : A × Left = (a, left) in
      let y : A × Left = (b, next) in
      ap (λ (r : A × Left). r.1) (same_ok {E = F} x y e)

-- a value was read, which some bytes in front say
pub record Took {A : Type 0} (Says : A → List ℕ → Type 0) (left : Left) (a : A) (next : Left) : Type 0 where
  pub front : List ℕ
  pub says : Says a front
  pub bytes : left.bytes ≡ front ++ next.bytes

-- a text is read back, whatever stands after it
abbrev pub ReadBack : {F A : Type 0} → Reading F A → ℕ → List ℕ → A → List ℕ → Type 0
ReadBack {F} {A} reading place text a rest = (end : ℕ) × (reading (record { place = place; bytes = text ++ rest })
    ≡ Ok (a, record { place = end; bytes = rest }))

-- A number in bytes

number_written : (size : Size) (bs : List ℕ) → length bs ≡ byte_len (width size) → IsBytes bs → (from_be_bytes (width size) bs < limit size)
    × (to_be_bytes (width size) (from_be_bytes (width size) bs) ≡ bs)
number_written U1 [] size all = absurd (omega (arith, size))
number_written U1 (b ∷ []) size all =
    let below = All-head Byte b [] all in
    let same : b % 256 ≡ b = omega (arith, below) in
    (omega (arith, below), ap (λ (n : ℕ). n ∷ []) same)
number_written U1 (b ∷ c ∷ bs) size all = absurd (omega (arith, size))
number_written U2 bs size all =
    let first = bytes_at bs all 0 in
    let second = bytes_at bs all 1 in
    (omega (arith, first, second), be_bytes_2 bs _ size (bytes_at bs all) refl)
number_written U4 bs size all =
    let first = bytes_at bs all 0 in
    let second = bytes_at bs all 1 in
    let third = bytes_at bs all 2 in
    let fourth = bytes_at bs all 3 in
    (omega (arith, first, second, third, fourth), be_bytes_4 bs _ size (bytes_at bs all) refl)

number_read : (size : Size) (n : ℕ) → n < limit size → (from_be_bytes (width size) (to_be_bytes (width size) n) ≡ n)
    × (length (to_be_bytes (width size) n) ≡ byte_len (width size))
number_read U1 n below = (omega (arith, below), refl)
number_read U2 n below = (from_be_bytes-to_be_bytes_2 n below, refl)
number_read U4 n below = (from_be_bytes-to_be_bytes_4 n below, refl)

module _ {F : Type 0} (short : ℕ → F) where
  pub part-back : (n : ℕ) (left next : Left) (a : List ℕ) → part short n left ≡ Ok (a, next) → (length a ≡ n)
      × (left.bytes ≡ a ++ next.bytes)
  part-back n left next a e = go (chosen (nat_le n (length left.bytes)) (Ok (take n left.bytes, behind n left))
      (Err (short left.place)) (Ok (a, next)) e)
    where
      go : ((nat_le n (length left.bytes) ≡ true) × ◌≡◌ {A = Outcome F (List ℕ)}
          (Ok (take n left.bytes, behind n left)) (Ok (a, next))) ⊎ ((nat_le n (length left.bytes) ≡ false)
          × ◌≡◌ {A = Outcome F (List ℕ)} (Err (short left.place)) (Ok (a, next))) → (length a ≡ n) × (left.bytes ≡ a ++ next.bytes)
      go (inr fails) = let e = fails.1 in cc
      go (inl holds) =
          let taken = same_value {F = F} (take n left.bytes) a (behind n left) next holds.1 in
          let rest : drop n left.bytes ≡ next.bytes = ap (λ (l : Left). l.bytes) (same_left {F = F} (take n left.bytes) a
          (behind n left) next holds.1) in (
            ap length (sym taken) ∙ length-take-le n left.bytes (leb-true n (length left.bytes) holds.0),
            sym (take-append-drop n left.bytes) ∙ rw (taken, rest) refl,
          )

  pub part-forth : (n place : ℕ) (a rest : List ℕ) → length a ≡ n → ReadBack (part short n) place a a rest
  part-forth n place a rest size =
      let whole = length-append a rest in
      let test : nat_le n (length (a ++ rest)) ≡ true = le-leb n (length (a ++ rest)) (omega (arith, whole, size)) in
      (place + n, rw (test, take_at a rest n size, drop_at a rest n size) refl)

  pub number-back : (size : Size) (left next : Left) (n : ℕ) → IsBytes left.bytes → number short (width size) left ≡ Ok (n, next)
      → (n < limit size) × (left.bytes ≡ to_be_bytes (width size) n ++ next.bytes)
  number-back size left next n bytes e =
      go (passed (part short (byte_len (width size)) left) (λ bytes. value (from_be_bytes (width size) bytes)) n next e)
    where
      go : Passed (part short (byte_len (width size)) left) (λ bytes. value (from_be_bytes (width size) bytes)) n next → (n < limit size)
          × (left.bytes ≡ to_be_bytes (width size) n ++ next.bytes)
      go got =
          let took = part-back (byte_len (width size)) left got.middle got.first got.is in
          let fit = number_written size got.first took.0 (bytes_front got.first got.middle.bytes (subst IsBytes took.1 bytes)) in
          let number = same_value {F = F} (from_be_bytes (width size) got.first) n got.middle next got.rest in
          let after = same_left {F = F} (from_be_bytes (width size) got.first) n got.middle next got.rest in
          (subst (λ n. n < limit size) number fit.0, took.1 ∙ rw (sym number, fit.1, after) refl)

  pub number-forth : (size : Size) (place n : ℕ) (rest : List ℕ) → n < limit size → ReadBack (number short (width size)) place
      (to_be_bytes (width size) n) n rest
  number-forth size place n rest below =
      let is = number_read size n below in
      let part = part-forth (byte_len (width size)) place (to_be_bytes (width size) n) rest is.1 in
      (part.0, rw (part.1, is.0) refl)

-- that many of one kind
module _ {F A : Type 0} (reading : Reading F A) (Says : A → List ℕ → Type 0) where
  abbrev pub SaysMany : ℕ → List A → List ℕ → Type 0
  SaysMany n items bytes = (length items ≡ n) × SaysEach Says items bytes

  pub counted-back : ((left next : Left) (a : A) → IsBytes left.bytes → reading left ≡ Ok (a, next) → Took Says left a next)
      → (n : ℕ) (left next : Left) (xs : List A) → IsBytes left.bytes → counted n reading left ≡ Ok (xs, next)
      → Took (SaysMany n) left xs next
  counted-back law zero left next xs bytes e =
      let none = same_value {F = F} [] xs left next e in
      record {
        front = [];
        says = subst (λ xs. SaysMany 0 xs []) none (refl, refl);
        bytes = ap (λ (l : Left). l.bytes) (same_left {F = F} [] xs left next e);
      }
  counted-back law (suc n) left next xs bytes e =
      let one = passed (reading left) (λ x. and_then (counted n reading) (λ xs. value (x ∷ xs))) xs next e in
      let two = passed (counted n reading one.middle) (λ xs. value (one.first ∷ xs)) xs next one.rest in
      let first = law left one.middle one.first bytes one.is in
      let more = bytes_behind first.front one.middle.bytes (subst IsBytes first.bytes bytes) in
      let rest = counted-back law n one.middle two.middle two.first more two.is in
      let same = same_value {F = F} (one.first ∷ two.first) xs two.middle next two.rest in
      let after = same_left {F = F} (one.first ∷ two.first) xs two.middle next two.rest in
      let behind : one.middle.bytes ≡ rest.front ++ next.bytes = rest.bytes ∙ ap (λ (l : Left). rest.front ++ l.bytes) after in
      record {
        front = first.front ++ rest.front;
        says = subst (λ xs. SaysMany (suc n) xs (first.front ++ rest.front)) same
            (ap suc rest.says.0, (first.front, rest.front, refl, first.says, rest.says.1));
        bytes = first.bytes ∙ ap (λ m. first.front ++ m) behind ∙ sym (append_assoc first.front rest.front next.bytes);
      }

  pub counted-forth : ((place : ℕ) (a : A) (text rest : List ℕ) → Says a text → ReadBack reading place text a rest)
      → (n place : ℕ) (xs : List A) (text rest : List ℕ) → length xs ≡ n → SaysEach Says xs text
      → ReadBack (counted n reading) place text xs rest
  counted-forth law zero place [] text rest size none = (place, rw none refl)
  counted-forth law (suc n) place [] text rest size none = absurd (omega (arith, size))
  counted-forth law zero place (x ∷ xs) text rest size says = absurd (omega (arith, size))
  counted-forth law (suc n) place (x ∷ xs) text rest size (front, after, is, one, more) =
      let first = law place x front (after ++ rest) one in
      let second = counted-forth law n first.0 xs after rest (omega (arith, size)) more in
      (second.0, rw (is, append_assoc front after rest, first.1, second.1) refl)

-- what was read, where nothing is left after it
pub record TookAll {F A : Type 0} (reading : Reading F A) (inner : Left) (a : A) : Type 0 where
  pub end : Left
  pub is : reading inner ≡ Ok (a, end)
  pub none : end.bytes ≡ []

-- a part that a reading takes whole
module _ {F A : Type 0} (rest : ℕ → F) (reading : Reading F A) where
  pub ended-back : (left next : Left) (a : A) → ended rest reading left ≡ Ok (a, next) → TookAll reading left a
  ended-back left next a e =
      let got = passed (reading left) (λ a next. cond (nat_eq (length next.bytes) 0) (Ok (a, next)) (Err (rest next.place))) a next e in
      go got.first got.middle got.is (chosen (nat_eq (length got.middle.bytes) 0) (Ok (got.first, got.middle))
      (Err (rest got.middle.place)) (Ok (a, next)) got.rest)
    where
      go : (b : A) (end : Left) → reading left ≡ Ok (b, end) → ((nat_eq (length end.bytes) 0 ≡ true)
          × ◌≡◌ {A = Outcome F A} (Ok (b, end)) (Ok (a, next))) ⊎ ((nat_eq (length end.bytes) 0 ≡ false)
          × ◌≡◌ {A = Outcome F A} (Err (rest end.place)) (Ok (a, next))) → TookAll reading left a
      go b end is (inl holds) = record {
        end = end;
        is = is ∙ ap (λ b. Ok (b, end)) (same_value {F = F} b a end next holds.1);
        none = nil_from_length end.bytes (eqb-true (length end.bytes) 0 holds.0);
      }
      go b end is (inr fails) = let e = fails.1 in cc

  pub ended-forth : (left : Left) (a : A) → (all : TookAll reading left a) → ended rest reading left ≡ Ok (a, all.end)
  ended-forth left a all = rw (all.is, all.none) refl

  -- the part, and what was read of it
  pub record TookWhole (n : ℕ) (left : Left) (a : A) (next : Left) : Type 0 where
    pub inside : List ℕ
    pub size : length inside ≡ n
    pub bytes : left.bytes ≡ inside ++ next.bytes
    pub all : TookAll reading (record { place = left.place; bytes = inside }) a

  pub part_whole-back : (short : ℕ → F) (n : ℕ) (left next : Left) (a : A) → whole short rest n reading left ≡ Ok (a, next) → TookWhole n left a next
  part_whole-back short n left next a e =
      let one = passed (inner_part short n left) (λ inner next. continued (ended rest reading inner) (λ a end. Ok (a, next))) a
      next e in
      let cut = passed (part short n left) (λ bytes. value (record { place = left.place; bytes = bytes })) one.first one.middle
      one.is in
      let two = passed (ended rest reading one.first) (λ a end. Ok (a, one.middle)) a next one.rest in
      let took = part-back short n left cut.middle cut.first cut.is in
      let inner = same_value {F = F} (record { place = left.place; bytes = cut.first }) one.first cut.middle one.middle cut.rest in
      let after : cut.middle ≡ next = same_left {F = F} (record { place = left.place; bytes = cut.first }) one.first cut.middle
      one.middle cut.rest ∙ same_left {F = F} two.first a one.middle next two.rest in
      let same = same_value {F = F} two.first a one.middle next two.rest in
      record {
        inside = cut.first;
        size = took.0;
        bytes = took.1 ∙ ap (λ (l : Left). cut.first ++ l.bytes) after;
        all = subst (λ a. TookAll reading (record { place = left.place; bytes = cut.first }) a) same
            (subst (λ left. TookAll reading left two.first) (sym inner) (ended-back one.first two.middle two.first two.is));
      }

  pub part_whole-forth : (short : ℕ → F) (n place : ℕ) (a : A) (text more : List ℕ) → length text ≡ n → TookAll reading (record { place = place; bytes = text }) a
      → ReadBack (whole short rest n reading) place text a more
  part_whole-forth short n place a text more size all =
      let cut = part-forth short n place text more size in
      let read = ended-forth (record { place = place; bytes = text }) a all in
      (cut.0, rw (cut.1, read) refl)
