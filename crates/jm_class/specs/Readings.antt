-- Readings from left to right: what stands at a place, or the first fault (this project's rule).
-- A reading is made of a few forms: a number, a part, one after another, that many of one kind, a
-- part that another reading takes whole.
use Rattle.std.specs.Prelude.{◌≡◌, ℕ, zero, suc, ◌+◌, ◌≤◌, nat_le, ◌==◌, List, [], ◌∷◌}
use Rattle.std.specs.Prelude.{length, take, drop, Result, Ok, Err, if◌then◌else◌}
use Rattle.std.specs.Int.{Width, w16, w32, byte_len, from_be_bytes}

-- the bytes that are left, and the place of the first one
pub record Left : Type 0 where
  pub place : ℕ
  pub bytes : List ℕ

-- what is left after n bytes
abbrev pub behind : ℕ → Left → Left
behind n left = record { place = left.place + n; bytes = drop n left.bytes }

-- a value and what is left after it, or a fault
abbrev pub Outcome : Type 0 → Type 0 → Type 0
Outcome F A = Result (A × Left) F

-- from what is left, a value and what is left after it, or a fault
abbrev pub Reading : Type 0 → Type 0 → Type 0
Reading F A = Left → Outcome F A

-- a value, for which no byte is read
abbrev pub value : {F A : Type 0} → A → Reading F A
value a left = Ok (a, left)

-- what follows a value; a fault ends the reading
abbrev pub continued : {F A B : Type 0} → Outcome F A → (A → Reading F B) → Outcome F B
continued (Ok r) next = next r.0 r.1
continued (Err fault) next = Err fault

-- one reading after another, which may depend on what was read
abbrev pub and_then : {F A B : Type 0} → Reading F A → (A → Reading F B) → Reading F B
and_then reading next left = continued (reading left) next

-- n bytes; the fault by their place
abbrev pub part : {F : Type 0} → (ℕ → F) → ℕ → Reading F (List ℕ)
part short n left =
    if nat_le n (length left.bytes) then Ok (take n left.bytes, behind n left)
    else Err (short left.place)

-- a number of a width, its highest byte first
abbrev pub number : {F : Type 0} → (ℕ → F) → Width → Reading F ℕ
number short w = and_then (part short (byte_len w)) (λ bytes. value (from_be_bytes w bytes))

-- n of one kind
abbrev pub counted : {F A : Type 0} → ℕ → Reading F A → Reading F (List A)
counted zero reading = value []
counted (suc n) reading =
    and_then reading (λ item. and_then (counted n reading) (λ items. value (item ∷ items)))

-- a count of two bytes, and that many of one kind
abbrev pub list_of : {F A : Type 0} → (ℕ → F) → Reading F A → Reading F (List A)
list_of short item = and_then (number short w16) (λ count. counted count item)

-- a length of four bytes, and that many bytes
abbrev pub sized : {F : Type 0} → (ℕ → F) → Reading F (List ℕ)
sized short = and_then (number short w32) (λ size. part short size)

-- no byte is left after it; the fault by the place of the first one
abbrev pub ended : {F A : Type 0} → (ℕ → F) → Reading F A → Reading F A
ended rest reading left =
    continued (reading left)
    (λ a next. if length next.bytes == 0 then Ok (a, next) else Err (rest next.place))

-- the next n bytes by themselves, with their places
abbrev pub inner_part : {F : Type 0} → (ℕ → F) → ℕ → Reading F Left
inner_part short n left =
    and_then (part short n) (λ bytes. value (record { place = left.place; bytes = bytes })) left

-- n bytes, which a reading takes whole
abbrev pub whole : {F A : Type 0} → (ℕ → F) → (ℕ → F) → ℕ → Reading F A → Reading F A
whole short rest n reading =
    and_then (inner_part short n)
    (λ inner next. continued (ended rest reading inner) (λ a end. Ok (a, next)))

-- n bytes are taken from the front
pub record Takes (n : ℕ) (old : Left) (taken : List ℕ) (new : Left) : Type 0 where
  pub fits : n ≤ length old.bytes
  pub bytes : taken ≡ take n old.bytes
  pub left : new ≡ behind n old

-- a number of a width is taken from the front
pub record TakesNumber (w : Width) (old : Left) (n : ℕ) (new : Left) : Type 0 where
  pub fits : byte_len w ≤ length old.bytes
  pub number : n ≡ from_be_bytes w (take (byte_len w) old.bytes)
  pub left : new ≡ behind (byte_len w) old
