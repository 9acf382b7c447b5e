-- How many bytes of its image a command takes from the shelf (this project's rule).
use Rattle.std.specs.Prelude.{ℕ, ◌+◌, ◌≡◌, ◌≤◌, true, false, List, length, Option, Some, None}
use Rattle.std.specs.Prelude.{Result, Ok, Err}
use Rattle.std.specs.List.{sum_by}
use Rattle.jm_filed.specs.Taken.{nodes, taken}
use Rattle.jm_form.specs.declared.container.Header.{Header}
use Rattle.jm_form.specs.declared.damage.Damage.{Damage}
use Rattle.jm_form.specs.Damages.{first_damage}
use Rattle.jm_form.specs.declared.container.HeaderFault.{HeaderFault}
use Rattle.jm_form.specs.Head.{IsFileOf, header_of, index_length}
use Rattle.jm_form.specs.declared.rows.Row.{Row}
use Rattle.jm_form.specs.Validity.{look}
use Rattle.jm_extract.specs.Extracted.{taken_size}
use Rattle.jm_jrt.specs.Stat.{node_sought}
use Rattle.jm_names.specs.ByName.{Named}
use Rattle.jm_outside.specs.Files.{Files}
use Rattle.jm_pattern.specs.declared.signs.Sign.{Sign}
use Rattle.jm_valid.specs.Opened.{Front}
use Rattle.jm_words.specs.declared.tasks.ImageWork.{ImageWork}
use Rattle.jm_words.specs.declared.tasks.ImageWork.TheVariants as work
use Rattle.jm_inspect.specs.Cat.{content_of}
use Rattle.jm_inspect.specs.Works.{HasFile}

-- how many first bytes are taken, by what was read as the header: the index; 28 where there is none
abbrev pub front_with : Result Header HeaderFault → ℕ
front_with (Ok h) = index_length h
front_with (Err fault) = 28

-- how many first bytes are taken of a file
abbrev pub front_size : List ℕ → ℕ
front_size b = front_with (header_of b)

-- bytes that are taken after the front; none, where the file has a damage
abbrev pub unless_damaged : Option Damage → ℕ → ℕ
unless_damaged None more = more
unless_damaged (Some damage) more = 0

-- the bytes that are taken of a file for contents in it: the front, and these, if it is an image
-- without a damage, as one says which that is
abbrev pub opened_size_by : (List ℕ → Option Damage) → (List ℕ → ℕ) → List ℕ → ℕ
opened_size_by damage_of more b = front_size b + unless_damaged (damage_of b) (more b)

-- the same of an image in which no content may be compressed
abbrev pub opened_size : (List ℕ → ℕ) → List ℕ → ℕ
opened_size more b = opened_size_by first_damage more b

-- those for a content that is found in it
abbrev pub sought_size : (List ℕ → Option (Row × List ℕ)) → List ℕ → ℕ
sought_size sought b = opened_size (λ c. length (content_of (sought c))) b

-- how many bytes the contents of some entries have together
abbrev pub contents_size : List Named → ℕ
contents_size entries = sum_by (λ e. length e.1) entries

-- those for the contents of the entries that are taken
abbrev pub digests_size : Option (List (List Sign)) → List ℕ → ℕ
digests_size include b = opened_size (λ c. contents_size (taken c include)) b

-- those for the contents of the nodes
abbrev pub nodes_size : List ℕ → ℕ
nodes_size b = opened_size (λ c. contents_size (nodes c)) b

-- those for the contents that are extracted
abbrev pub extract_size : Option (List (List Sign)) → List ℕ → ℕ
extract_size include b = opened_size (λ c. taken_size c include) b

-- the file of a path, if it is there, has that many bytes taken of it, and nothing besides is taken
abbrev pub TakesOf : (List ℕ → ℕ → ℕ → Type 0) → Option (List ℕ) → (old new : ℕ) → Type 0
TakesOf Takes None old new = new ≡ old
TakesOf Takes (Some b) old new = Takes b old new

-- the same of the file of a path; over a shelf that tells nothing, of some file
abbrev pub TakesBy
    : Option Files → List ℕ → (List ℕ → ℕ → ℕ → Type 0) → (old new : ℕ) → Type 0
TakesBy told path Takes old new =
    (found : Option (List ℕ)) × HasFile told path found × TakesOf Takes found old new

-- at most that many bytes of it
abbrev pub TakesFrom : Option Files → List ℕ → (List ℕ → ℕ) → (old new : ℕ) → Type 0
TakesFrom told path most old new =
    TakesBy told path (λ b before after. after ≤ before + most b) old new

-- at most that many bytes of each file that begins with this front
abbrev pub TakesOfFront : Front → (List ℕ → ℕ) → (old new : ℕ) → Type 0
TakesOfFront front most old new =
    (b : List ℕ) → IsFileOf front.bytes front.length b → new ≤ old + most b

-- how many bytes a work that goes by the index takes of an image without a damage, after its front;
-- `serve` takes the whole file, and of it this says nothing
abbrev pub work_length : ImageWork → List ℕ → ℕ
work_length (work.Cat name) b = length (content_of (look b name))
work_length (work.Ls folder) b = length (content_of (node_sought b folder))
work_length (work.Extract dir include) b = taken_size b include
work_length (work.List include true) b = contents_size (taken b include)
work_length (work.Verify true) b = contents_size (nodes b)
work_length _ b = 0

-- what a work on the image in the file of a path takes: `info`, `verify` and `list` the front,
-- and of an image without a damage `cat` and `ls` the content of the name or of the folder's node
-- besides, `extract` and `list` with digests those of the entries that they take, and `verify`
-- those of the nodes where it judges them; `serve` the file
abbrev pub WorkTakes : Option Files → List ℕ → ImageWork → (old new : ℕ) → Type 0
WorkTakes told path work.Info old new = TakesFrom told path front_size old new
WorkTakes told path (work.Verify false) old new = TakesFrom told path front_size old new
WorkTakes told path (work.Verify true) old new = TakesFrom told path nodes_size old new
WorkTakes told path (work.List include false) old new = TakesFrom told path front_size old new
WorkTakes told path (work.List include true) old new =
    TakesFrom told path (digests_size include) old new
WorkTakes told path (work.Cat name) old new =
    TakesFrom told path (sought_size (λ b. look b name)) old new
WorkTakes told path (work.Ls folder) old new =
    TakesFrom told path (sought_size (λ b. node_sought b folder)) old new
WorkTakes told path (work.Extract dir include) old new =
    TakesFrom told path (extract_size include) old new
WorkTakes told path work.Serve old new = TakesFrom told path (λ b. length b) old new
