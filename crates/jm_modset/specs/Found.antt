-- What a link finds: the modules of an image, and those of a module path whose name none of these
-- has, as a JVM finds its own modules before those of its module path (JEP 261; the word for all
-- modules is that of `jlink`). The number in front is the release of Java SE whose classes are
-- taken.
use Rattle.std.specs.Prelude.{ℕ, ◌≡◌, nat_lt, Bool, not, ◌&&◌, List, [], ◌∷◌, ◌++◌}
use Rattle.std.specs.Prelude.{filter, find, length, map, codes, Option, Some, None, option_map}
use Rattle.std.specs.Prelude.{Result, Ok, Err, if◌then◌else◌}
use Rattle.std.specs.List.{list_any}
use Rattle.std.specs.Str.{bytes_eq}
use Rattle.jm_bytes.specs.Checks.{unless_fault}
use Rattle.jm_bytes.specs.Results.{followed}
use Rattle.jm_closure.specs.declared.candidate.Candidate.{Candidate}
use Rattle.jm_closure.specs.Modules as closure
use Rattle.jm_modpath.specs.declared.refusal.PathRefusal.{PathRefusal}
use Rattle.jm_modpath.specs.declared.refusal.PathRefusal.TheVariants as path
use Rattle.jm_modpath.specs.Modules.{path_refusal, visible}
use Rattle.jm_outside.specs.Files.{Files}
use Rattle.jm_relink.specs.declared.fault.RelinkFault.{RelinkFault}
use Rattle.jm_relink.specs.declared.fault.RelinkFault.TheVariants as relink
use Rattle.jm_relink.specs.Modules.{ModulesOf, SeenModule}
use Rattle.jm_texts.specs.declared.refusal.Refusal.{Refusal}
use Rattle.jm_texts.specs.declared.refusal.Refusal.TheVariants as refusal
use Rattle.jm_modset.specs.Shown.{Shown, candidates_of, name_of, of_entries, of_folder}

-- Sources

-- where a link takes its modules from: the bytes of an image, if there is one, and the directories
-- of a module path on a shelf with these files
pub record Sources : Type 0 where
  pub image : Option (List ℕ)
  pub files : Files
  pub directories : List (List ℕ)

-- the bytes of an image alone
abbrev pub image_alone : List ℕ → Sources
image_alone b = record { image = Some b; files = []; directories = [] }

-- The modules of a module path

-- the refusal of a module path as one of a link
abbrev pub path_refusal_as : PathRefusal → Refusal
path_refusal_as (path.BadInfo path fault) = refusal.BadInfo path fault
path_refusal_as (path.TwoModules dir name) = refusal.TwoModules dir name

-- the modules that a module path shows, or its first refusal
abbrev pub path_shows : ℕ → Files → List (List ℕ) → Result (List Shown) Refusal
path_shows release files directories =
    unless_fault (option_map path_refusal_as (path_refusal release files directories))
    (map (of_folder files) (visible release files directories))

-- The modules of an image

-- the fault of an image's modules as the refusal of a link
abbrev pub image_refusal : RelinkFault → Refusal
image_refusal (relink.BadInfo name fault) = refusal.BadEntry name fault
image_refusal (relink.Foreign name) = refusal.Foreign name

-- the modules of an image as a link takes them
abbrev pub seen_shows : Result (List SeenModule) RelinkFault → Result (List Shown) Refusal
seen_shows (Ok seen) = Ok (map of_entries seen)
seen_shows (Err fault) = Err (image_refusal fault)

-- an image shows these modules, or is refused so; without an image there are none
abbrev pub ImageShows : ℕ → Option (List ℕ) → Result (List Shown) Refusal → Type 0
ImageShows release None shown = shown ≡ Ok []
ImageShows release (Some b) shown =
    (seen : Result (List SeenModule) RelinkFault) × ModulesOf release b seen
    × (shown ≡ seen_shows seen)

-- Both

-- the modules that a link finds, and the names that the word for all modules stands for
pub record Found : Type 0 where
  pub modules : List Shown
  pub named : List (List ℕ)

-- one of the modules has the name
abbrev pub is_called : List Candidate → List ℕ → Bool
is_called found name = list_any (λ c. bytes_eq name (closure.name_of c)) found

-- a module is called like one of the two trees; the least such name
abbrev pub reserved : List Candidate → Option Refusal
reserved found =
    option_map (λ name. refusal.ReservedModule name)
    (find (is_called found) (codes "modules" ∷ codes "packages" ∷ []))

-- the modules of a module path whose name no module of the image has
abbrev pub unhidden_by : List Shown → List Shown → List Shown
unhidden_by image path = filter (λ m. not (is_called (candidates_of image) (name_of m))) path

-- the modules that the word for all stands for: those of the module path, where there is one, also
-- those that the image hides, else those of the image
abbrev pub all_of : List (List ℕ) → List Shown → List Shown → List Shown
all_of [] image path = image
all_of (directory ∷ directories) image path = path

-- what is found of the modules of an image and of a module path
abbrev pub found_of : List (List ℕ) → List Shown → List Shown → Found
found_of directories image path = record {
  modules = image ++ unhidden_by image path;
  named = map name_of (all_of directories image path);
}

-- the rule: what a link finds, or the first refusal: of the image, then of the module path
abbrev pub Finds : ℕ → Sources → Result Found Refusal → Type 0
Finds release source found =
    (image : Result (List Shown) Refusal) × ImageShows release source.image image
    × (found ≡ followed image (λ ms.
    followed (path_shows release source.files source.directories) (λ ps.
    Ok (found_of source.directories ms ps))))

-- Roots

-- the word that stands for all modules, `ALL-MODULE-PATH`
abbrev pub is_all : List ℕ → Bool
is_all name = bytes_eq name (codes "ALL-MODULE-PATH")

-- the names that are asked for without the word
abbrev pub plain_names : List (List ℕ) → List (List ℕ)
plain_names asked = filter (λ name. not (is_all name)) asked

-- the word is among the names that are asked for, and stands for a name
abbrev pub asks_all : List (List ℕ) → List (List ℕ) → Bool
asks_all named asked = nat_lt 0 (length named) && list_any is_all asked

-- the roots of a link: the names that are asked for, of which the word stands for some names, where
-- there is one
abbrev pub roots_among : List (List ℕ) → List (List ℕ) → List (List ℕ)
roots_among named asked =
    if asks_all named asked then plain_names asked ++ named else asked
