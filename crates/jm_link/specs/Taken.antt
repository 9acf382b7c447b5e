-- What a `link` takes of the files on a shelf (this project's rule).
use Rattle.std.specs.Prelude.{ℕ, ◌≡◌, ◌≤◌, ◌+◌, ◌⊎◌, List, Option, Some, None, Ok}
use Rattle.jm_form.specs.Layout.{Written}
use Rattle.jm_modpath.specs.Listed.{all_infos_size}
use Rattle.jm_modset.specs.Found.{Finds, Found, Sources, roots_among}
use Rattle.jm_modset.specs.Infos.{infos_of, sizes}
use Rattle.jm_modset.specs.Shown.{awaited_at, candidates_of, gathered}
use Rattle.jm_outside.specs.Files.{Files}
use Rattle.jm_outside.specs.Outcome.{Shows}
use Rattle.jm_texts.specs.NameRefusals.{first_bad_name}
use Rattle.jm_link.specs.Closing.{ClosesAmong}
use Rattle.jm_link.specs.Linked.{Request}
use Rattle.jm_link.specs.Links.{path_files}

-- how many bytes the descriptors of an image have together, if there is an image
abbrev pub image_infos_size : Option (List ℕ) → ℕ
image_infos_size None = 0
image_infos_size (Some b) = sizes (infos_of b)

-- how many bytes the descriptors of all sources have together
abbrev pub infos_size : Sources → ℕ
infos_size source =
    image_infos_size source.image + all_infos_size source.files source.directories

-- these are the contents that are read of the modules that are linked: nothing is refused before
pub record AreAwaited (source : Sources) (asked : Request) (contents : List Written) : Type 0 where
  pub found : Found
  pub finds : Finds asked.release source (Ok found)
  pub places : List ℕ
  pub closes : ClosesAmong (candidates_of found.modules) (roots_among found.named asked.roots)
      asked.bind (Ok places)
  pub fit : first_bad_name (gathered found.modules places) ≡ None
  pub are : contents ≡ awaited_at found.modules places

-- by the count of bytes of files that were handed out: the descriptors at most, or besides these
-- the contents of the modules that are linked: of those of a module path all, of those of an image
-- all but the descriptors
abbrev pub TakesOf : Sources → Request → (old new : ℕ) → Type 0
TakesOf source asked old new =
    (new ≤ old + infos_size source)
    ⊎ ((contents : List Written) × AreAwaited source asked contents
    × (new ≤ old + infos_size source + sizes contents))

-- the same of an image and of a module path on a shelf; where it shows a module path and tells
-- nothing, nothing is said
abbrev pub LinkTakes : Option Files → Option (List ℕ) → List (List ℕ) → Request → (old new : ℕ)
    → Type 0
LinkTakes told image directories asked old new =
    Shows (path_files directories told) (λ files. TakesOf
    (record { image = image; files = files; directories = directories }) asked old new)
