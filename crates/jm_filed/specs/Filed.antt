-- An image in a file on a shelf, whose contents are read one by one (this project's rule).
use Rattle.std.specs.Prelude.{ℕ, ◌≡◌, ◌≤◌, ◌+◌, List, length, Some, Ok, Option}
use Rattle.jm_form.specs.declared.container.Header.{Header}
use Rattle.jm_form.specs.Head.{IsFileOf, header_with, index_length}
use Rattle.jm_outside.specs.Files.{Files, file, file_part, part}
use Rattle.jm_outside.specs.Outcome.{Shows}
use Rattle.jm_valid.specs.Opened.{Front}
use Rattle.jm_filed.specs.declared.extent.Extent.{Extent}

-- the bytes of a file at an extent
abbrev pub content_at : List ℕ → Extent → List ℕ
content_at b x = part b x.at x.size

-- the extent lies within a file of so many bytes
abbrev pub IsWithin : ℕ → Extent → Type 0
IsWithin size x = x.at + x.size ≤ size

-- the file at a path has these bytes, where the files are told
abbrev pub IsAt : Option Files → List ℕ → List ℕ → Type 0
IsAt told path b = Shows told (λ files. Some b ≡ file files path)

-- these bytes are a file of an index, and the one at a path, where the files are told
abbrev pub IsFiled : Front → Option Files → List ℕ → List ℕ → Type 0
IsFiled index told path b = IsFileOf index.bytes index.length b × IsAt told path b

-- a text was read at an extent of the file at a path: it has the size, and is what stands there,
-- where the files are told
pub record IsReadAt (told : Option Files) (path : List ℕ) (x : Extent) (text : List ℕ)
    : Type 0 where
  pub size : length text ≡ x.size
  pub shown : Shows told (λ files. file_part files path x.at x.size ≡ Some text)

-- these bytes are the index of an image and no more, and that of the file at a path, where the
-- files are told
pub record IsIndexAt (index : Front) (told : Option Files) (path : List ℕ) : Type 0 where
  pub alone : (h : Header) → header_with index.bytes index.length ≡ Ok h
      → length index.bytes ≡ index_length h
  pub filed : Shows told (λ files. (b : List ℕ) × (Some b ≡ file files path)
      × IsFileOf index.bytes index.length b)
