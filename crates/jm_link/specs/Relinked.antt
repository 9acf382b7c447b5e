-- Relinking: what is linked of the image that a link made, with all its modules and without
-- plug-ins, is that image (this project's rule).
use Rattle.std.specs.Prelude.{ℕ, ◌≡◌, ◌≤◌, Bool, true, false, List, [], All, Contains}
use Rattle.std.specs.Prelude.{Option, Some, None, Result, Ok, Err}
use Rattle.jm_closure.specs.Modules.{HasName}
use Rattle.jm_form.specs.Layout.{names_of}
use Rattle.jm_modset.specs.Found.{Finds, Found, Sources, image_alone, roots_among}
use Rattle.jm_modset.specs.Shown.{candidates_of}
use Rattle.jm_outside.specs.Files.{Files, IsSound, file}
use Rattle.jm_outside.specs.Holds.{Holds}
use Rattle.jm_words.specs.declared.tasks.Plugin.{Plugin}
use Rattle.jm_words.specs.declared.tasks.Plugin.TheVariants as plugin
use Rattle.jm_relink.specs.Files.{info_entry}
use Rattle.jm_link.specs.declared.linking.LinkStop.{LinkStop}
use Rattle.jm_link.specs.declared.linking.LinkStop.TheVariants as stop
use Rattle.jm_link.specs.declared.linking.Summary.{Summary}
use Rattle.jm_link.specs.Chosen.{Chosen}
use Rattle.jm_link.specs.Linked.{LinkedImage, LinksFrom, Request}

-- an image stands on a shelf: it is a file of some, which are as every shelf tells its files
abbrev pub IsImageOnShelf : Option (List ℕ) → Type 0
IsImageOnShelf None = Unit {0}
IsImageOnShelf (Some b) =
    (files : Files) × IsSound files × (path : List ℕ) × (file files path ≡ Some b)

-- sources stand on a shelf: the files of the module path are as every shelf tells its files, and
-- the image is one of such files
abbrev pub AreOnShelf : Sources → Type 0
AreOnShelf source = IsSound source.files × IsImageOnShelf source.image

-- a module of this name is linked
abbrev pub Takes : Sources → Request → List ℕ → Type 0
Takes source asked name =
    (found : Found) × Finds asked.release source (Ok found) × (i : ℕ)
    × Chosen asked.bind (candidates_of found.modules) (roots_among found.named asked.roots) i
    × HasName (candidates_of found.modules) i name

-- Relinking

-- a plug-in that leaves the resources in their order
abbrev pub leaves_order : Plugin → Bool
leaves_order (plugin.Order patterns) = false
leaves_order (plugin.KeepOrder names) = false
leaves_order (plugin.Exclude patterns) = true
leaves_order plugin.Strip = true
leaves_order plugin.Compact = true
leaves_order plugin.Packages = true
leaves_order plugin.DropSystemModules = true

-- a link of some sources made these bytes of what stands on a shelf, without an order of resources,
-- and the descriptor of each module that it took stands in them
pub record IsLinkedFrom (source : Sources) (first : Request) (b : List ℕ) : Type 0 where
  pub stands : AreOnShelf source
  pub image : LinkedImage
  pub linked : LinksFrom source first (Ok image)
  pub made : b ≡ image.bytes
  pub unordered : All (λ one. leaves_order one ≡ true) first.plugins
  pub infos : (name : List ℕ) → Takes source first name
      → Contains (names_of image.resources) (info_entry name)

-- a link made these bytes; what is asked for names none but the modules that it took, and takes all
-- of them, in the same byte order and with no plug-in, with that link's release or a later one
pub record Relinks (b : List ℕ) (asked : Request) : Type 0 where
  pub source : Sources
  pub first : Request
  pub was : IsLinkedFrom source first b
  pub roots : (found : Found) → Finds asked.release (image_alone b) (Ok found) → (name : List ℕ)
      → Contains (roots_among found.named asked.roots) name → Takes source first name
  pub takes : (name : List ℕ) → Takes source first name → Takes (image_alone b) asked name
  pub release : first.release ≤ asked.release
  pub order : asked.order ≡ first.order
  pub plugins : asked.plugins ≡ []

-- by the answer: the file at the path is these bytes; no refusal
abbrev pub IsGivenBack : List ℕ → List ℕ → Result Summary LinkStop → (old new : Option Files)
    → Type 0
IsGivenBack b path (Ok summary) old new = Holds old path b new
IsGivenBack b path (Err (stop.Refused refusal)) old new = ⊥
IsGivenBack b path (Err (stop.NotThere listed)) old new = ⊥
IsGivenBack b path (Err stop.Outside) old new = Unit {0}
IsGivenBack b path (Err stop.Memory) old new = Unit {0}

-- relinking an image alone gives it back
abbrev pub GivesBack : Option (List ℕ) → List (List ℕ) → Request → List ℕ
    → Result Summary LinkStop → (old new : Option Files) → Type 0
GivesBack (Some b) [] asked path answer old new =
    Relinks b asked → IsGivenBack b path answer old new
GivesBack _ _ asked path answer old new = Unit {0}
