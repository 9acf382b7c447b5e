-- The text of `list` (this project's rule).
use Rattle.std.specs.Prelude.{ℕ, List, [], ◌∷◌, ◌++◌, length, map, flat_map, Option}
use Rattle.std.specs.Fmt.{decimal}
use Rattle.hex.specs.Hex.{encode_lower}
use Rattle.sha2.specs.Sha256.{sha256}
use Rattle.jm_names.specs.Shown.{shown}
use Rattle.jm_pattern.specs.declared.signs.Sign.{Sign}
use Rattle.jm_names.specs.ByName.{Named}
use Rattle.jm_filed.specs.Taken.{taken}
use Rattle.jm_filed.specs.declared.taking.TakenEntry.{TakenEntry}

-- a line: a size in bytes, a space, a name as it is shown and a newline
abbrev pub sized_line : ℕ × List ℕ → List ℕ
sized_line e = decimal e.0 ++ 32 ∷ shown e.1 ++ 10 ∷ []

-- the size and the name of an entry
abbrev pub sized : Named → ℕ × List ℕ
sized e = (length e.1, e.0)

-- the same of an entry that is taken by the index, which says the size
abbrev pub sized_as : TakenEntry → ℕ × List ℕ
sized_as t = (t.content.size, t.name)

-- the text of `list`: a line for each entry that is taken
abbrev pub list_text : List ℕ → Option (List (List Sign)) → List ℕ
list_text b include = flat_map sized_line (map sized (taken b include))

-- `list --sha256`

-- a line: the digest of a content (FIPS 180-4) as 64 digits, a space, and the line of `list`
abbrev pub digest_line : Named → List ℕ
digest_line e = encode_lower (sha256 e.1) ++ 32 ∷ sized_line (sized e)

-- the text of `list --sha256`: such a line for each entry that is taken
abbrev pub digest_list_text : List ℕ → Option (List (List Sign)) → List ℕ
digest_list_text b include = flat_map digest_line (taken b include)
