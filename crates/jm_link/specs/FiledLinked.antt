-- What a `link` did, whatever a shelf tells of its files (this project's rule).
use Rattle.std.specs.Prelude.{ℕ, ◌≡◌, List, Option, Some, None, Result}
use Rattle.jm_filed.specs.Filed.{IsFiled}
use Rattle.jm_modset.specs.Parts.{TellsNothing}
use Rattle.jm_outside.specs.Files.{Files}
use Rattle.jm_outside.specs.Shelves.{ShelfSeen}
use Rattle.jm_valid.specs.Opened.{Front}
use Rattle.jm_link.specs.declared.linking.LinkStop.{LinkStop}
use Rattle.jm_link.specs.declared.linking.Summary.{Summary}
use Rattle.jm_link.specs.Linked.{Request}
use Rattle.jm_link.specs.Links.{ComesTo, LinksBy}
use Rattle.jm_link.specs.Relinked.{GivesBack}
use Rattle.jm_link.specs.Taken.{LinkTakes}

-- an image in a file: its index, and the path of the file
pub record IndexedFile : Type 0 where
  pub index : Front
  pub path : List ℕ

-- these bytes are a file of the image's index, the one at its path where files are told; there are
-- none without an image
abbrev pub AreBytesOf : Option IndexedFile → Option Files → Option (List ℕ) → Type 0
AreBytesOf None told bytes = bytes ≡ None
AreBytesOf (Some image) told None = ⊥
AreBytesOf (Some image) told (Some b) = IsFiled image.index told image.path b

-- what a link of the modules of an image, if there is one, and of a module path did: there is a
-- file of the image of which it did what is due, gave back what a link made, and took no more than
-- the descriptors and the files of modules that are linked
pub record FiledLinks (image : Option IndexedFile) (directories : List (List ℕ)) (asked : Request)
    (output : List ℕ) (answer : Result Summary LinkStop) (old new : ShelfSeen)
    (handed new_handed : ℕ) : Type 0 where
  pub bytes : Option (List ℕ)
  pub are : AreBytesOf image old.told bytes
  pub links : LinksBy (ComesTo old.told bytes directories asked) (TellsNothing old.told) output
      answer old new
  pub gives_back : GivesBack bytes directories asked output answer old.told new.told
  pub takes : LinkTakes old.told bytes directories asked handed new_handed
