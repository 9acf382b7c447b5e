-- What is read of an image, and what a look-up hands out.
use Rattle.std.specs.Prelude.{ℕ, ◌<◌, ◌≡◌, true, List, length, Option, Some, None, Result, Ok, Err}
use Rattle.std.specs.Prelude.{if◌then◌else◌}
use Rattle.std.specs.Str.{bytes_eq}
use Rattle.jm_form.specs.declared.container.Header.{Header}
use Rattle.jm_form.specs.declared.container.HeaderFault.{HeaderFault}
use Rattle.jm_form.specs.declared.rows.Row.{Row}
use Rattle.jm_form.specs.Entries.{name_of, row_at, texts_end}
use Rattle.jm_form.specs.Head.{fields_of, header_of}
use Rattle.jm_form.specs.Places.{contents_size, strings}
use Rattle.jm_form.specs.Table.{probe}
use Rattle.jm_form.specs.Validity.{SoundRowWith}
use Rattle.jm_valid.specs.Opened.{Front}
use Rattle.jm_reader.specs.declared.look_up.Found.{Found}

-- the header that was read; where it has a fault, the words in its place
abbrev pub head_with : List ℕ → Result Header HeaderFault → Header
head_with b (Err fault) = fields_of b
head_with b (Ok h) = h

-- the header of an image's bytes
abbrev pub head : List ℕ → Header
head b = head_with b (header_of b)

-- the row and the content that a look-up found
abbrev pub found_as : Found → Row × List ℕ
found_as found = (found.row, found.bytes.now)

-- how many bytes of content a look-up hands out
abbrev pub answer_length : Option Found → ℕ
answer_length None = 0
answer_length (Some found) = length found.bytes.now

-- Rows by the index alone

-- the row, if its name is this one
abbrev pub if_named : List ℕ → List ℕ → Option Row → Option Row
if_named section name None = None
if_named section name (Some row) =
    if bytes_eq name (name_of section row) then Some row else None

-- the row of the slot to which a name was led, if it has that name
abbrev pub row_led : List ℕ → Header → List ℕ → Option ℕ → Option Row
row_led b h name None = None
row_led b h name (Some slot) = if_named (strings b h) name (row_at b h slot)

-- the row of the slot to which the table leads a name, if it has that name
abbrev pub row_of_name : List ℕ → Header → List ℕ → Option Row
row_of_name b h name = row_led b h name (probe b h name)

-- the four texts of the row of each slot end in the strings
abbrev pub TextsEnd : List ℕ → Header → Type 0
TextsEnd b h =
    (slot : ℕ) (row : Row) → slot < h.length → row_at b h slot ≡ Some row
    → texts_end (strings b h) row ≡ true

-- the row is sound in the files of this length that begin with these bytes, which hold their index
abbrev pub SoundIn : Front → Row → Type 0
SoundIn front row =
    SoundRowWith (strings front.bytes (head front.bytes))
    (contents_size front.length (head front.bytes)) row
