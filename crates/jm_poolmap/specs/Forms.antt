-- Forms: what stands from a place on, as data, and the sites in it (this project's rule). A form
-- says no value and has no fault; what is read by it adds the sites that it meets to those met
-- before.
use Rattle.std.specs.Prelude.{ℕ, zero, suc, ◌-◌, nat_le, Bool, true, false, ◌==◌, ◌&&◌, List, []}
use Rattle.std.specs.Prelude.{◌∷◌, ◌++◌, length, replicate, Option, Some, None, Err}
use Rattle.std.specs.Prelude.{if◌then◌else◌}
use Rattle.std.specs.Int.{Width, w8, w16, w32}
use Rattle.std.specs.List.{list_any}
use Rattle.jm_class.specs.Layouts.{Size, U1, width}
use Rattle.jm_class.specs.Readings.{Reading, value, and_then, part, number, whole}
use Rattle.jm_poolmap.specs.declared.site.FoundSite.{FoundSite}

-- what stands from left to right
pub data Form : Type 0 where
  -- no byte
  Nothing : Form
  -- nothing is of it
  Never : Form
  -- that many bytes, without a site
  Skip : (n : ℕ) → Form
  -- all bytes that are left, without a site
  Rest : Form
  -- the number of a constant, in two bytes where it is wide, else in one; where it is optional 0
  -- means none
  Site : (wide optional : Bool) → Form
  -- the number of a Utf8 in two bytes, which is a site; its text tells what follows
  Named : (next : List ℕ → Form) → Form
  -- one after the other
  Then : (first next : Form) → Form
  -- a number, which tells what follows
  Told : (size : Size) (next : ℕ → Form) → Form
  -- a length of four bytes, and that many bytes, all of which are of the inner form
  Sized : (inner : Form) → Form
  -- items up to the last byte, each of at least one byte; how many bytes of the run stand before an
  -- item tells its form
  Run : (item : ℕ → Form) → Form

-- Forms made of others

-- the number of a constant in two bytes
abbrev pub site : Form
site = Site true false

-- the number of a constant in two bytes, where 0 means none
abbrev pub optional_site : Form
optional_site = Site true true

-- forms one after the other
abbrev pub in_order : List Form → Form
in_order [] = Nothing
in_order (form ∷ forms) = Then form (in_order forms)

-- that many of one form
abbrev pub times : ℕ → Form → Form
times n form = in_order (replicate n form)

-- a count, and that many of one form
abbrev pub counted : Size → Form → Form
counted size form = Told size (λ count. times count form)

-- Tables by a byte

-- rows of a table: the ranges of bytes that have the row, and what it says
abbrev pub Rows : Type 0 → Type 0
Rows A = List (List (ℕ × ℕ) × A)

-- the range of one byte
abbrev pub one : ℕ → ℕ × ℕ
one byte = (byte, byte)

-- a byte is in a range, whose both ends are of it
abbrev pub is_in : ℕ → ℕ × ℕ → Bool
is_in byte range = nat_le range.0 byte && nat_le byte range.1

-- what the first row that has the byte says
abbrev pub row_of : {A : Type 0} → Rows A → ℕ → Option A
row_of [] byte = None
row_of (row ∷ rows) byte = if list_any (is_in byte) row.0 then Some row.1 else row_of rows byte

-- the form that a row stands for, where there is one
abbrev pub form_if : {A : Type 0} → (A → Form) → Option A → Form
form_if form None = Never
form_if form (Some row) = form row

-- a byte, and what its row stands for
abbrev pub by_byte : {A : Type 0} → Rows A → (A → Form) → Form
by_byte rows form = Told U1 (λ byte. form_if form (row_of rows byte))

-- The reading

-- what stands there isn't of the form; why isn't told
abbrev pub NoForm : Type 0
NoForm = Unit {0}

-- what doesn't fit isn't of the form, wherever it stands
abbrev pub unfit : ℕ → NoForm
unfit at = tt

-- the text of the Utf8 that has a number, or none
abbrev pub Texts : Type 0
Texts = ℕ → Option (List ℕ)

-- a reading that adds the sites that it meets to those met before
abbrev pub SiteReading : Type 0
SiteReading = List FoundSite → Reading NoForm (List FoundSite)

-- what follows a text, or no form where there is none
abbrev pub if_text : Option (List ℕ) → (List ℕ → SiteReading) → SiteReading
if_text None next found left = Err tt
if_text (Some text) next found left = next text found left

-- the width of the number at a site
abbrev pub site_width : Bool → Width
site_width wide = if wide then w16 else w8

-- the sites with one more
abbrev pub with_site : List FoundSite → ℕ → Bool → Bool → ℕ → List FoundSite
with_site found place wide optional n =
    found ++ record { place = place; wide = wide; optional = optional; number = n } ∷ []

-- at most n of one form, up to the last byte
abbrev pub at_most : ℕ → SiteReading → SiteReading
at_most zero form found left = value found left
at_most (suc n) form found left =
    if length left.bytes == 0 then value found left
    else and_then (form found) (at_most n form) left

-- the sites of what is of a form, added to those met before, and what is left after it
abbrev pub reads : Texts → Form → SiteReading
reads texts Nothing found = value found
reads texts Never found = λ left. Err tt
reads texts (Skip n) found = and_then (part unfit n) (λ bytes. value found)
reads texts Rest found =
    λ left. and_then (part unfit (length left.bytes)) (λ bytes. value found) left
reads texts (Site wide optional) found =
    λ left. and_then (number unfit (site_width wide))
    (λ n. value (with_site found left.place wide optional n)) left
reads texts (Named next) found =
    λ left. and_then (number unfit w16)
    (λ n. if_text (texts n) (λ text. reads texts (next text))
    (with_site found left.place true false n)) left
reads texts (Then first next) found = and_then (reads texts first found) (reads texts next)
reads texts (Told size next) found =
    and_then (number unfit (width size)) (λ n. reads texts (next n) found)
reads texts (Sized inner) found =
    and_then (number unfit w32) (λ size. whole unfit unfit size (reads texts inner found))
reads texts (Run item) found =
    λ left. at_most (length left.bytes)
    (λ found now. reads texts (item (now.place - left.place)) found now) found left
