-- A look-up in a file by its index, and the content that it leads to (this project's rule).
use Rattle.std.specs.Prelude.{ℕ, ◌≡◌, ◌+◌, ◌≤◌, List, take, drop, Option, Some, None}
use Rattle.std.specs.Prelude.{IfSome, option_map, Result, Ok}
use Rattle.jm_form.specs.declared.rows.Row.{Row}
use Rattle.jm_form.specs.Entries.{content_of}
use Rattle.jm_form.specs.Head.{IsFileOf}
use Rattle.jm_form.specs.Places.{contents}
use Rattle.jm_outside.specs.Files.{Files}
use Rattle.jm_reader.specs.Look.{SoundIn, head}
use Rattle.jm_valid.specs.Opened.{Front}
use Rattle.jm_inspect.specs.declared.stop.Stop.{Stop}
use Rattle.jm_inspect.specs.FileParts.{Comes, IsPart, LacksPart}

-- what a look-up finds in a file: a row and its content
abbrev pub LookUp : Type 0
LookUp = List ℕ → Option (Row × List ℕ)

-- in each file that begins with this front a look-up finds this row and its content, or nothing
pub record Seeks (sought : LookUp) (front : Front) (row : Option Row) : Type 0 where
  pub found : (b : List ℕ) → IsFileOf front.bytes front.length b
      → row ≡ option_map (λ found. found.0) (sought b)
  pub content : (b : List ℕ) → IsFileOf front.bytes front.length b
      → IfSome row (λ row. sought b ≡ Some (row, content_of (contents b (head b)) row))
  pub sound : IfSome row (SoundIn front)

-- in each file that begins with this front the content of a row begins at this place, and ends
-- within the file
pub record BeginsAt (front : Front) (row : Row) (place : ℕ) : Type 0 where
  pub within : (b : List ℕ) → IsFileOf front.bytes front.length b
      → place + row.size ≤ front.length
  pub content : (b : List ℕ) → IsFileOf front.bytes front.length b
      → take row.size (drop place b) ≡ content_of (contents b (head b)) row

-- how many bytes the content of a row has
abbrev pub row_size : Option Row → ℕ
row_size None = 0
row_size (Some row) = row.size

-- these are the bytes of a row's content, if there is a row, where the file tells them
abbrev pub IsContent : Option Files → List ℕ → ℕ → Option Row → Option (List ℕ) → Type 0
IsContent told path place None None = Unit {0}
IsContent told path place (Some row) (Some content) = IsPart told path place row.size content
IsContent told path place row content = ⊥

-- what reading the content of a row comes to, if there is a row
abbrev pub ReadsContent : Option Files → List ℕ → Front → Option Row
    → Result (Option (List ℕ)) Stop → Type 0
ReadsContent told path front None result = result ≡ Ok None
ReadsContent told path front (Some row) result =
    (place : ℕ) × BeginsAt front row place
    × Comes path (λ content. IsContent told path place (Some row) content)
    (LacksPart told path place row.size) result
