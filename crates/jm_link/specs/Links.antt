-- What a `link` did to the files of a shelf (this project's rule).
use Rattle.std.specs.Prelude.{ℕ, ◌≡◌, ◌⊎◌, IsTrue, List, [], ◌∷◌, length}
use Rattle.std.specs.Prelude.{Option, Some, Result, Ok, Err}
use Rattle.jm_bytes.specs.declared.words.Order.{Order}
use Rattle.jm_form.specs.Layout.{Written}
use Rattle.jm_outside.specs.Files.{Files}
use Rattle.jm_outside.specs.Outcome.{Shows}
use Rattle.jm_writer.specs.Laid.{IsLaidOut}
use Rattle.jm_outside.specs.Holds.{Holds, HoldsPart}
use Rattle.jm_outside.specs.Shelves.{ShelfFailed, ShelfSeen}
use Rattle.jm_link.specs.declared.linking.LinkStop.{LinkStop}
use Rattle.jm_link.specs.declared.linking.LinkStop.TheVariants as stop
use Rattle.jm_link.specs.declared.linking.Summary.{Summary}
use Rattle.jm_texts.specs.declared.refusal.Refusal.{Refusal}
use Rattle.jm_link.specs.Linked.{LinkedImage, LinksFrom, PlugsTo, Request}
use Rattle.jm_words.specs.declared.tasks.LinkTask.{LinkTask}

-- what of a task decides its image, whatever shows the modules
abbrev pub request_of : LinkTask → Request
request_of task = record {
  release = task.release;
  roots = task.roots;
  bind = task.bind;
  plugins = task.plugins;
  order = task.order;
}

-- what is told of an image: the numbers of its modules and resources, its length, its slots
abbrev pub summary_of : LinkedImage → Summary
summary_of image = record {
  modules = image.modules;
  resources = length image.resources;
  length = length image.bytes;
  slots = image.slots;
}

-- an image in this order that is what the layout of its resources is; of a refusal, nothing
abbrev pub IsLaid : Order → Result LinkedImage Refusal → Type 0
IsLaid order (Ok image) = IsLaidOut order image.resources image.bytes
IsLaid order (Err refusal) = Unit {0}

-- the files that show the modules of a module path, where a shelf tells them; without directories
-- none do
abbrev pub path_files : List (List ℕ) → Option Files → Option Files
path_files [] told = Some []
path_files (directory ∷ directories) told = told

-- this is what the link comes to of an image, if there is one, and of a module path, where the
-- shelf tells its files; told or not, an image is valid, hands out exactly its resources, and tells
-- exactly their trees
abbrev pub ComesTo : Option Files → Option (List ℕ) → List (List ℕ) → Request
    → Result LinkedImage Refusal → Type 0
ComesTo told image directories asked result =
    Shows (path_files directories told) (λ files. LinksFrom
    (record { image = image; files = files; directories = directories }) asked result)
    × IsLaid asked.order result

-- what a link did, where its result is one of these

-- the file at a path is these bytes and stands whole under its own name, the making of files was
-- ended after it, all others are as before, and no call failed
pub record StandsAt (path bytes : List ℕ) (old new : ShelfSeen) : Type 0 where
  pub holds : Holds old.told path bytes new.told
  pub whole : IsTrue new.whole
  pub durable : IsTrue new.durable
  pub kept : new.faults ≡ old.faults

-- it failed: before it wrote, or with a front of its image written, which may be all of it
abbrev pub BreaksOff : (Result LinkedImage Refusal → Type 0) → List ℕ → (old new : ShelfSeen)
    → Type 0
BreaksOff Comes path old new =
    (new.told ≡ old.told)
    ⊎ ((image : LinkedImage) × Comes (Ok image) × HoldsPart old.told path image.bytes new.told)

-- by the answer: the image stands at the path; a refusal, or a listed file that isn't there, so
-- that `Absent` holds, and no file was changed; a failure of the outside, or no memory
abbrev pub LinksBy : (Result LinkedImage Refusal → Type 0) → Type 0 → List ℕ
    → Result Summary LinkStop → (old new : ShelfSeen) → Type 0
LinksBy Comes Absent path (Ok summary) old new =
    (image : LinkedImage) × Comes (Ok image) × (summary ≡ summary_of image)
    × StandsAt path image.bytes old new
LinksBy Comes Absent path (Err (stop.Refused refusal)) old new =
    Comes (Err refusal) × (new.told ≡ old.told)
LinksBy Comes Absent path (Err (stop.NotThere listed)) old new =
    Absent × (new.told ≡ old.told)
LinksBy Comes Absent path (Err stop.Outside) old new =
    BreaksOff Comes path old new × ShelfFailed old new
LinksBy Comes Absent path (Err stop.Memory) old new = BreaksOff Comes path old new

-- what the resources of that many modules come to, and an image is laid out
abbrev pub PoolComesTo : Request → ℕ → List Written → Result LinkedImage Refusal → Type 0
PoolComesTo asked modules resources result =
    PlugsTo asked modules resources result × IsLaid asked.order result
