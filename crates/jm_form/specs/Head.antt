-- The header of an image: seven words (jimage 1.0; the order of its faults is this project's rule).
use Rattle.std.specs.Prelude.{ℕ, ◌+◌, ◌*◌, ◌≡◌, ◌≤◌, ◌==◌, nat_lt, min, not, List, [], ◌∷◌, length}
use Rattle.std.specs.Prelude.{take, Option, Some, None, is_none, unwrap_or, Result, Ok}
use Rattle.std.specs.Prelude.{if◌then◌else◌}
use Rattle.jm_bytes.specs.Checks.{fault_if, first_fault, unless_fault}
use Rattle.jm_bytes.specs.Word.{word}
use Rattle.jm_bytes.specs.declared.words.Order.{Order}
use Rattle.jm_bytes.specs.declared.words.Order.TheVariants.{Little, Big}
use Rattle.jm_form.specs.declared.container.Header.{Header}
use Rattle.jm_form.specs.declared.container.HeaderFault.{HeaderFault}
use Rattle.jm_form.specs.declared.container.HeaderFault.TheVariants.{Short, Magic, Version, Sizes}

-- the byte order in which the first word is the magic
abbrev pub order_of : List ℕ → Option Order
order_of b =
    if word Little b 0 == 0xCAFEDADA then Some Little
    else if word Big b 0 == 0xCAFEDADA then Some Big
    else None

-- the order in which the other words are read; without a magic it doesn't matter
abbrev pub read_order : List ℕ → Order
read_order b = unwrap_or (order_of b) Little

-- the word behind the magic
abbrev pub version_of : List ℕ → ℕ
version_of b = word (read_order b) b 4

-- the header's five words behind the version, in a byte order, whatever they say
abbrev pub fields_in : Order → List ℕ → Header
fields_in order b = record {
  order = order;
  flags = word order b 8;
  count = word order b 12;
  length = word order b 16;
  locations = word order b 20;
  strings = word order b 24;
}

-- the same in the order in which the bytes are read
abbrev pub fields_of : List ℕ → Header
fields_of b = fields_in (read_order b) b

-- how many bytes stand in front of the contents: 28, 8 for each slot, the locations and the strings
abbrev pub index_length : Header → ℕ
index_length h = 28 + 8 * h.length + h.locations + h.strings

-- what can be wrong with the header of a file of so many bytes that begins with these, in this
-- order
abbrev pub header_checks_with : List ℕ → ℕ → List (Option HeaderFault)
header_checks_with front size =
    fault_if (nat_lt size 28) Short
    ∷ fault_if (is_none (order_of front)) Magic
    ∷ fault_if (not (version_of front == 0x00010000)) (Version (version_of front))
    ∷ fault_if (nat_lt size (index_length (fields_of front))) Sizes
    ∷ []

-- the same of a file
abbrev pub header_checks : List ℕ → List (Option HeaderFault)
header_checks b = header_checks_with b (length b)

-- the header of a file of so many bytes that begins with these, or its first header fault
abbrev pub header_with : List ℕ → ℕ → Result Header HeaderFault
header_with front size =
    unless_fault (first_fault (header_checks_with front size)) (fields_of front)

-- the header, or the first header fault
abbrev pub header_of : List ℕ → Result Header HeaderFault
header_of b = header_with b (length b)

-- the file has so many bytes and begins with these
pub record IsFileOf (front : List ℕ) (size : ℕ) (b : List ℕ) : Type 0 where
  pub begins : take (length front) b ≡ front
  pub length_is : length b ≡ size

-- these bytes, with which a file of so many begins, are enough to read its header: 28 at least, or
-- the whole file
abbrev pub HoldsHead : List ℕ → ℕ → Type 0
HoldsHead front size = min size 28 ≤ length front

-- they are enough to read its index, if it has a header
pub record HoldsIndex (front : List ℕ) (size : ℕ) : Type 0 where
  pub within : length front ≤ size
  pub head : HoldsHead front size
  pub index : (h : Header) → header_with front size ≡ Ok h → index_length h ≤ length front
