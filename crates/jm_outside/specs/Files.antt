-- The files that a shelf tells: a finite map from path to bytes, as a list of pairs (this project's
-- rule).
use Rattle.std.specs.Prelude.{ℕ, ◌≡◌, ◌<◌, List, [], ◌∷◌, ◌++◌, Option, Some, None, map}
use Rattle.std.specs.Prelude.{unwrap_or, option_map, All, IsUtf8, if◌then◌else◌, ◌==◌, length}
use Rattle.std.specs.Prelude.{take, drop}
use Rattle.std.specs.List.{filter_map}
use Rattle.std.specs.List.Sorted.{IsStrictlySortedBy}
use Rattle.std.specs.Str.{bytes_eq}
use Rattle.std.specs.Cmp.Lexicographic.{slice_cmp}
use Rattle.std.specs.Ordering.{nat_cmp, match_ordering}

-- each file's path and its bytes
abbrev pub Files : Type 0
Files = List (List ℕ × List ℕ)

-- the paths, in the order of the files
abbrev pub paths : Files → List (List ℕ)
paths files = map (λ f. f.0) files

-- texts that rise in byte order, each once: unsigned bytes, a proper prefix first
abbrev pub Rising : List (List ℕ) → Type 0
Rising texts = IsStrictlySortedBy (slice_cmp nat_cmp) texts

-- the numbers of a list are bytes
abbrev pub AreBytes : List ℕ → Type 0
AreBytes numbers = All (λ byte. byte < 256) numbers

-- each file has bytes alone
abbrev pub HaveBytes : Files → Type 0
HaveBytes files = All (λ f. AreBytes f.1) files

-- files rise by their paths, each path is text, and each file has bytes alone
pub record IsSound (files : Files) : Type 0 where
  pub rising : Rising (paths files)
  pub texts : All IsUtf8 (paths files)
  pub bytes : HaveBytes files

-- the bytes of the file at a path
abbrev pub file : Files → List ℕ → Option (List ℕ)
file [] path = None
file (f ∷ files) path = if bytes_eq path f.0 then Some f.1 else file files path

-- the length of the file at a path, in bytes
abbrev pub file_length : Files → List ℕ → Option ℕ
file_length files path = option_map (λ bytes. length bytes) (file files path)

-- a part of the bytes of a text: at most so many of those from a place on
abbrev pub part : List ℕ → ℕ → ℕ → List ℕ
part bytes at count = take count (drop at bytes)

-- a part of the bytes of the file at a path
abbrev pub file_part : Files → List ℕ → ℕ → ℕ → Option (List ℕ)
file_part files path at count = option_map (λ bytes. part bytes at count) (file files path)

-- the file at a path is there and has that many bytes from a place on
abbrev pub HasPart : Files → List ℕ → ℕ → ℕ → Type 0
HasPart files path at count =
    option_map (λ bytes. length bytes) (file_part files path at count) ≡ Some count

-- the files with these bytes at a path, in place of what it had: in front of the first path above
abbrev pub put : Files → List ℕ → List ℕ → Files
put [] path bytes = (path, bytes) ∷ []
put (f ∷ files) path bytes =
    match_ordering (slice_cmp nat_cmp path f.0)
    ((path, bytes) ∷ f ∷ files) ((f.0, bytes) ∷ files) (f ∷ put files path bytes)

-- the files with bytes at the end of a path's own, or of an empty file where none was there
abbrev pub add : Files → List ℕ → List ℕ → Files
add files path bytes = put files path (unwrap_or (file files path) [] ++ bytes)

-- what follows a front in a text that begins so
abbrev pub after_front : List ℕ → List ℕ → Option (List ℕ)
after_front [] text = Some text
after_front (b ∷ front) [] = None
after_front (b ∷ front) (c ∷ text) = if b == c then after_front front text else None

-- every r for which the folder, a slash and r make a path, in the order of the files
abbrev pub names_below : List ℕ → Files → List (List ℕ)
names_below folder files = filter_map (λ f. after_front (folder ++ 47 ∷ []) f.0) files
