-- Contents of an image that were read from its file, one by one (this project's rule). A name and
-- the content that was read under it are a pair.
use Rattle.std.specs.Prelude.{ℕ, ◌≡◌, List, length, map, All, Contains, Option}
use Rattle.jm_form.specs.declared.rows.Compression.{Compression}
use Rattle.jm_form.specs.Entries.{Entry, content_of}
use Rattle.jm_form.specs.Places.{contents}
use Rattle.jm_form.specs.Rows.{judged}
use Rattle.jm_names.specs.ByName.{Named}
use Rattle.jm_outside.specs.Files.{Files}
use Rattle.jm_outside.specs.Outcome.{Shows}
use Rattle.jm_reader.specs.Look.{head}
use Rattle.jm_reader.specs.Walk.{entries_of}
use Rattle.jm_valid.specs.Opened.{Front}
use Rattle.jm_filed.specs.Filed.{IsFiled}

-- The names of an image, and what stands for each

-- the name and the content of an entry
abbrev pub named : Entry → Named
named e = (e.name, e.content)

-- of all entries
abbrev pub all_named : List ℕ → List Named
all_named b = map named (entries_of b)

-- the name of an entry, and the bytes that stand where its row, as the compression judges it, says
abbrev pub named_by : Compression → List ℕ → Entry → Named
named_by c b e = (e.name, content_of (contents b (head b)) (judged c e.row))

-- of all entries
abbrev pub all_named_by : Compression → List ℕ → List Named
all_named_by c b = map (named_by c b) (entries_of b)

-- What was read

-- each of these names has this content in the image
abbrev pub HasContents : List ℕ → List Named → Type 0
HasContents b read = All (Contains (map named (entries_of b))) read

-- a name has a content of so many bytes among those that an image has
abbrev pub IsSizedIn : List Named → Named → Type 0
IsSizedIn all p =
    (content : List ℕ) × Contains all (p.0, content) × (length content ≡ length p.1)

-- each of these names has a content of so many bytes in the image
abbrev pub HasSizes : List ℕ → List Named → Type 0
HasSizes b read = All (IsSizedIn (map named (entries_of b))) read

-- what was read under one name is one content
abbrev pub AgreeByName : List Named → Type 0
AgreeByName read =
    (p q : Named) → Contains read p → Contains read q → p.0 ≡ q.0 → p.1 ≡ q.1

-- by what each file of an index has for its names, these were read from the one at a path: they
-- have the sizes that the index says, are read of each name as one, and are what the file has,
-- where it is told
pub record AreReadOf (all : List ℕ → List Named) (index : Front) (told : Option Files)
    (path : List ℕ) (read : List Named) : Type 0 where
  pub agree : AgreeByName read
  pub sizes : (b : List ℕ) → IsFiled index told path b → All (IsSizedIn (all b)) read
  pub contents : (b : List ℕ) → IsFiled index told path b
      → Shows told (λ files. All (Contains (all b)) read)

-- these contents were read from the file of an index at a path
abbrev pub AreRead : Front → Option Files → List ℕ → List Named → Type 0
AreRead index told path read = AreReadOf all_named index told path read

-- these bytes were read from it, each where the row of its name says, as the compression judges it
abbrev pub AreReadBy : Compression → Front → Option Files → List ℕ → List Named → Type 0
AreReadBy c index told path read = AreReadOf (all_named_by c) index told path read

-- each of these names has these bytes in the image, where its row says, as the compression judges
-- it
abbrev pub HasBytesBy : Compression → List ℕ → List Named → Type 0
HasBytesBy c b read = All (Contains (all_named_by c b)) read
