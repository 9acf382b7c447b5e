-- Contents that are read of an image's file while files are made (this project's rule).
use Rattle.std.specs.Prelude.{ℕ, ◌≡◌, Bool, List, length, map, take, Option, Some, None}
use Rattle.std.specs.List.{list_any, sum_by}
use Rattle.std.specs.Str.{bytes_eq}
use Rattle.jm_outside.specs.Files.{Files}
use Rattle.jm_outside.specs.Outcome.{Shows}
use Rattle.jm_filed.specs.Filed.{IsAt}
use Rattle.jm_filed.specs.declared.taking.TakenEntry.{TakenEntry}
use Rattle.jm_extract.specs.Extracted.{path_of}
use Rattle.jm_filed.specs.Taken.{content_in}

-- how many bytes the contents of some entries have together, as the index says
abbrev pub sizes : List TakenEntry → ℕ
sizes entries = sum_by (λ t. t.content.size) entries

-- the file of one of the entries is made at this path
abbrev pub is_made_at : List ℕ → List ℕ → List TakenEntry → Bool
is_made_at path dir entries = list_any (λ t. bytes_eq (path_of dir t.name) path) entries

-- these are the contents of the first of the entries, where the files are told
abbrev pub AreContents : Option Files → List ℕ → List TakenEntry → List (List ℕ) → Type 0
AreContents told b entries texts =
    Shows told (λ files. texts ≡ map (content_in b) (take (length texts) entries))

-- the content is kept, or read of the file that is at the path
abbrev pub HasContent : Option Files → List ℕ → List ℕ → List ℕ → Option (List ℕ) → Type 0
HasContent told path b content None = IsAt told path b
HasContent told path b content (Some kept) = Shows told (λ files. kept ≡ content)

-- how many bytes are read for an entry whose content is kept, or isn't
abbrev pub unkept_size : {A : Type 0} → TakenEntry → Option A → ℕ
unkept_size t None = t.content.size
unkept_size t (Some kept) = 0
