-- A layout as data: what stands from left to right, and the value that the bytes say by it. From it
-- follow what bytes say, the reading that finds it, the fields, and the first fault (this project's
-- rule).
use Rattle.std.specs.Prelude.{◌≡◌, ◌⊎◌, ℕ, zero, suc, ◌+◌, ◌^◌, ◌<◌, ◌≤◌, nat_le, List, [], ◌∷◌, ◌++◌}
use Rattle.std.specs.Prelude.{length, take, Option, Some, None, ok_or, Bool, Result, Ok, Err, All, if◌then◌else◌}
use Rattle.std.specs.Int.{Width, w8, w16, w32, byte_len, to_be_bytes, from_be_bytes}
use Rattle.jm_class.specs.Classes.{u4}
use Rattle.jm_class.specs.Readings.{Left, behind, Outcome, Reading, value, continued, and_then, part}
use Rattle.jm_class.specs.Readings.{number, counted, ended, whole}

-- how many bytes a number has (JVMS 4): one, two or four, the highest first
pub data Size : Type 0 where
  U1 : Size
  U2 : Size
  U4 : Size

-- the width of such a number
abbrev pub width : Size → Width
width U1 = w8
width U2 = w16
width U4 = w32

-- all such numbers are below this
abbrev pub limit : Size → ℕ
limit U1 = 2 ^ 8
limit U2 = 2 ^ 16
limit U4 = 2 ^ 32

-- what stands from left to right, and says a value of this type
pub data Layout (F : Type 0) : Type 0 → Type 1 where
  -- no byte: the value is this one
  Value : {A : Type 0} (a : A) → Layout F A
  -- a number
  Number : (size : Size) → Layout F ℕ
  -- a number, which says what is found by it; where nothing is, it has a fault by its place and by
  -- itself
  Field : {A : Type 0} (size : Size) (found : ℕ → Option A) (refused : ℕ → ℕ → F) → Layout F A
  -- that many bytes
  Bytes : (size : ℕ) → Layout F (List ℕ)
  -- as the inner one, but a field of it that doesn't fit has this fault, by the place where the
  -- inner one begins
  Told : {A : Type 0} (fault : ℕ → F) (inner : Layout F A) → Layout F A
  -- a length of four bytes, and a part of that many bytes that is laid out by itself: a field that
  -- doesn't fit in the part, or bytes left of it, have this fault, by the place of the length
  Sized : {A : Type 0} (fault : ℕ → F) (inner : Layout F A) → Layout F A
  -- that many of one kind
  Times : {A : Type 0} (n : ℕ) (item : Layout F A) → Layout F (List A)
  -- one after the other, which may depend on what the first one says
  Then : {A B : Type 0} (first : Layout F A) (next : A → Layout F B) → Layout F B

-- a number that passes a test, or none
abbrev pub passing : (ℕ → Bool) → ℕ → Option ℕ
passing test n = if test n then Some n else None

-- a number that passes a test; the fault where it doesn't, by its place and by itself
abbrev pub tested : {F : Type 0} → Size → (ℕ → Bool) → (ℕ → ℕ → F) → Layout F ℕ
tested size test fault = Field size (passing test) fault

-- a count of two bytes, and that many of one kind
abbrev pub listed : {F A : Type 0} → Layout F A → Layout F (List A)
listed item = Then (Number U2) (λ count. Times count item)

-- a length of four bytes, and that many bytes
abbrev pub sized_bytes : {F : Type 0} → Layout F (List ℕ)
sized_bytes = Then (Number U4) (λ size. Bytes size)

-- What bytes say

-- each item is said by some bytes, one after the other
abbrev pub SaysEach : {A : Type 0} → (A → List ℕ → Type 0) → List A → List ℕ → Type 0
SaysEach Says [] bytes = bytes ≡ []
SaysEach Says (item ∷ items) bytes =
    (front : List ℕ) × (after : List ℕ) × (bytes ≡ front ++ after) × Says item front
    × SaysEach Says items after

-- the number fits, and these are its bytes
abbrev pub SaysNumber : Size → ℕ → List ℕ → Type 0
SaysNumber size n bytes = (n < limit size) × (bytes ≡ to_be_bytes (width size) n)

-- the rule: the bytes are laid out so, and say this
abbrev pub Says : {F A : Type 0} → Layout F A → A → List ℕ → Type 0
Says (Value a) b bytes = (b ≡ a) × (bytes ≡ [])
Says (Number size) n bytes = SaysNumber size n bytes
Says (Field size found refused) a bytes =
    (n : ℕ) × (found n ≡ Some a) × SaysNumber size n bytes
Says (Bytes size) a bytes = (length bytes ≡ size) × (a ≡ bytes)
Says (Told fault inner) a bytes = Says inner a bytes
Says (Sized fault inner) a bytes =
    (inside : List ℕ) × (length inside < 2 ^ 32) × (bytes ≡ u4 (length inside) ++ inside)
    × Says inner a inside
Says (Times n item) items bytes = (length items ≡ n) × SaysEach (Says item) items bytes
Says (Then {A} first next) b bytes =
    (a : A) × (front : List ℕ) × (after : List ℕ) × (bytes ≡ front ++ after)
    × Says first a front × Says (next a) b after

-- The reading

-- a value with what is left after it, or the fault
abbrev pub with_left : {F A : Type 0} → Result A F → Reading F A
with_left (Ok a) left = Ok (a, left)
with_left (Err fault) left = Err fault

-- the reading of a layout; `short` says the fault of a field that doesn't fit, by its place
abbrev pub reading : {F A : Type 0} → (ℕ → F) → Layout F A → Reading F A
reading short (Value a) = value a
reading short (Number size) = number short (width size)
reading short (Field size found refused) =
    λ left. continued (number short (width size) left)
    (λ n. with_left (ok_or (found n) (refused left.place n)))
reading short (Bytes size) = part short size
reading short (Told fault inner) = λ left. reading (λ at. fault left.place) inner left
reading short (Sized fault inner) =
    λ left. and_then (number short w32)
    (λ size. whole short (λ at. fault left.place) size (reading (λ at. fault left.place) inner)) left
reading short (Times n item) = counted n (reading short item)
reading short (Then first next) = and_then (reading short first) (λ a. reading short (next a))

-- a whole text, from place 0 on
abbrev pub at_front : List ℕ → Left
at_front bytes = record { place = 0; bytes = bytes }

-- what was read, without what is left after it, or the fault
abbrev pub value_of : {F A : Type 0} → Outcome F A → Result A F
value_of (Ok r) = Ok r.0
value_of (Err fault) = Err fault

-- the fault of a result, or none
abbrev pub fault_of : {F A : Type 0} → Result A F → Option F
fault_of (Ok a) = None
fault_of (Err fault) = Some fault

-- what a whole text says by a layout, or its first fault; `rest` says that of bytes that are left,
-- by their place
abbrev pub whole_text : {F A : Type 0} → (ℕ → F) → (ℕ → F) → Layout F A → List ℕ → Result A F
whole_text short rest layout bytes =
    value_of (ended rest (reading short layout) (at_front bytes))

-- The fields

-- a field in the bytes: its place, how many bytes it has, and the place after the part in which it
-- stands; its fault where it doesn't fit there (`missing`), and that of what stands in it, or none
-- (`refused`). Or the end of a part: the place after what was laid out, the place after the part,
-- and the fault where these differ (`rest`)
pub data FieldSeen (F : Type 0) : Type 0 where
  Stands : (place size part_end : ℕ) (missing : F) (refused : Option F) → FieldSeen F
  Ends : (place part_end : ℕ) (rest : F) → FieldSeen F

-- the fields that come next, by a value and what is left after it
abbrev pub Following : Type 0 → Type 0 → Type 0
Following F A = A → Left → List (FieldSeen F)

-- what follows a value; nothing where there is none
abbrev pub if_value : {F A : Type 0} → Result A F → Following F A → Left → List (FieldSeen F)
if_value (Ok a) next left = next a left
if_value (Err fault) next left = []

-- a field of that many bytes, judged by its place and its bytes, and what follows it
abbrev pub field : {F A : Type 0} → (ℕ → F) → ℕ → (ℕ → List ℕ → Result A F) → Following F A → Left
    → List (FieldSeen F)
field short size judge next left =
    Stands left.place size (left.place + length left.bytes) (short left.place)
    (fault_of (judge left.place (take size left.bytes)))
    ∷ (if nat_le size (length left.bytes)
    then if_value (judge left.place (take size left.bytes)) next (behind size left) else [])

-- a number, and what follows it
abbrev pub number_field : {F : Type 0} → (ℕ → F) → Size → Following F ℕ → Left → List (FieldSeen F)
number_field short size next left =
    field short (byte_len (width size)) (λ at bytes. Ok (from_be_bytes (width size) bytes)) next left

-- that many bytes, and what follows them
abbrev pub bytes_field : {F : Type 0} → (ℕ → F) → ℕ → Following F (List ℕ) → Left
    → List (FieldSeen F)
bytes_field short size next left = field short size (λ at bytes. Ok bytes) next left

-- the end of a part, and what follows it
abbrev pub ending : {F : Type 0} → (ℕ → F) → Left → List (FieldSeen F) → List (FieldSeen F)
ending rest left next =
    Ends left.place (left.place + length left.bytes) (rest left.place) ∷ next

-- that many of one kind, each of which is followed by the next
abbrev pub each : {F A : Type 0} → ℕ → (Following F A → Left → List (FieldSeen F))
    → Following F (List A) → Left → List (FieldSeen F)
each zero item next = next []
each (suc n) item next = item (λ first. each n item (λ more. next (first ∷ more)))

-- the fields of a layout from left to right, and what follows by its value; after a field that
-- doesn't fit or isn't allowed there are no more
abbrev pub fields : {F A : Type 0} → (ℕ → F) → Layout F A → Following F A → Left
    → List (FieldSeen F)
fields short (Value a) next = next a
fields short (Number size) next = number_field short size next
fields short (Field size found refused) next =
    field short (byte_len (width size))
    (λ at bytes. ok_or (found (from_be_bytes (width size) bytes))
    (refused at (from_be_bytes (width size) bytes)))
    next
fields short (Bytes size) next = bytes_field short size next
fields short (Told fault inner) next = λ left. fields (λ at. fault left.place) inner next left
fields short (Sized fault inner) next =
    λ left. number_field short U4
    (λ size. bytes_field short size
    (λ bytes after. fields (λ at. fault left.place) inner
    (λ a end. ending (λ at. fault left.place) end (next a after))
    (record { place = left.place + 4; bytes = bytes })))
    left
fields short (Times n item) next = each n (fields short item) next
fields short (Then first more) next = fields short first (λ a. fields short (more a) next)

-- the fields of a whole text from left to right, and its end
abbrev pub text_fields : {F A : Type 0} → (ℕ → F) → (ℕ → F) → Layout F A → List ℕ
    → List (FieldSeen F)
text_fields short rest layout bytes =
    fields short layout (λ a end. ending rest end []) (at_front bytes)

-- The first fault

-- a field fits its part and is allowed, or a part ends where what was laid out ends
abbrev pub IsGood : {F : Type 0} → FieldSeen F → Type 0
IsGood (Stands place size part_end missing refused) =
    (place + size ≤ part_end) × (refused ≡ None)
IsGood (Ends place part_end rest) = place ≡ part_end

-- a field doesn't fit or isn't allowed, or bytes are left of a part, and this is the fault of that
abbrev pub IsFaultOf : {F : Type 0} → FieldSeen F → F → Type 0
IsFaultOf (Stands place size part_end missing refused) fault =
    ((¬ (place + size ≤ part_end)) × (missing ≡ fault))
    ⊎ ((place + size ≤ part_end) × (refused ≡ Some fault))
IsFaultOf (Ends place part_end rest) fault = (¬ (place ≡ part_end)) × (rest ≡ fault)

-- the rule: the first of the fields that isn't good has this fault
pub record HasFirstFault {F : Type 0} (fields : List (FieldSeen F)) (fault : F) : Type 0 where
  pub before : List (FieldSeen F)
  pub field : FieldSeen F
  pub after : List (FieldSeen F)
  pub list : fields ≡ before ++ field ∷ after
  pub good : All IsGood before
  pub bad : IsFaultOf field fault
