-- What a work on the image in a file comes to (this project's rule).
use Rattle.std.specs.Prelude.{ℕ, ◌≡◌, List, Option, Some, None}
use Rattle.jm_form.specs.declared.damage.Damage.{Damage}
use Rattle.jm_form.specs.Damages.{first_damage, stored_damage}
use Rattle.jm_outside.specs.Files.{Files, file}
use Rattle.jm_outside.specs.Outcome.{Shows}
use Rattle.jm_words.specs.declared.tasks.ImageWork.{ImageWork}
use Rattle.jm_inspect.specs.Outcome.{Outcome, damaged, image_outcome, not_there}

-- this is the file of a path, where the files are told
abbrev pub HasFile : Option Files → List ℕ → Option (List ℕ) → Type 0
HasFile told path found = Shows told (λ files. found ≡ file files path)

-- what comes of the file of a path, if it is there, by what comes of its bytes
abbrev pub FoundComesTo
    : (List ℕ → Outcome → Type 0) → List ℕ → Option (List ℕ) → Outcome → Type 0
FoundComesTo Bytes path None due = due ≡ not_there path
FoundComesTo Bytes path (Some b) due = Bytes b due

-- what comes of the file of a path; over a shelf that tells nothing, what comes of some file
abbrev pub FileComesTo : Option Files → List ℕ → (List ℕ → Outcome → Type 0) → Outcome → Type 0
FileComesTo told path Bytes due =
    (found : Option (List ℕ)) × HasFile told path found × FoundComesTo Bytes path found due

-- what comes of the bytes of an image, by their first damage, if they have one
abbrev pub OpenedComesTo : (Outcome → Type 0) → Option Damage → Outcome → Type 0
OpenedComesTo Sound None due = Sound due
OpenedComesTo Sound (Some damage) due = due ≡ damaged damage

-- what comes of the image in the file of a path, by its damage, as one says which that is, and by
-- what comes of bytes without one
abbrev pub JudgedComes
    : (List ℕ → Option Damage) → Option Files → List ℕ → (List ℕ → Outcome → Type 0) → Outcome
    → Type 0
JudgedComes damage_of told path Sound due =
    FileComesTo told path (λ b. OpenedComesTo (Sound b) (damage_of b)) due

-- the same of an image in which no content may be compressed
abbrev pub ImageComes : Option Files → List ℕ → (List ℕ → Outcome → Type 0) → Outcome → Type 0
ImageComes told path Sound due = JudgedComes first_damage told path Sound due

-- the same of an image whose contents may be compressed, read as stored
abbrev pub StoredComes : Option Files → List ℕ → (List ℕ → Outcome → Type 0) → Outcome → Type 0
StoredComes told path Sound due = JudgedComes stored_damage told path Sound due

-- what is due for the text of the source; where that isn't told, for some text
abbrev pub TextComesTo : Option (List ℕ) → (List ℕ → Outcome) → Outcome → Type 0
TextComesTo rest of_text due =
    (text : List ℕ) × Shows rest (λ told. text ≡ told) × (due ≡ of_text text)

-- what comes of a work on the image in the file of a path, by the told text of the source
abbrev pub WorkComesTo : Option Files → Option (List ℕ) → List ℕ → ImageWork → Outcome → Type 0
WorkComesTo told rest path work due =
    ImageComes told path (λ b. TextComesTo rest (image_outcome work b)) due
