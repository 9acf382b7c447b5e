-- Contents of files that are linked, as they are read of a shelf: a file of its own is read whole,
-- a part of an image at its extent (this project's rule).
use Rattle.std.specs.Prelude.{ℕ, ◌≡◌, ◌≢◌, List, length, Contains, Option, Some, None, IfSome}
use Rattle.std.specs.Prelude.{IsUtf8, Result, Ok, Err, map}
use Rattle.std.specs.List.{AllZip, sum_by}
use Rattle.jm_filed.specs.Filed.{IsReadAt}
use Rattle.jm_form.specs.Layout.{Written}
use Rattle.jm_modpath.specs.Modules.{bytes_at}
use Rattle.jm_outside.specs.declared.shelf.ShelfError.{ShelfError}
use Rattle.jm_outside.specs.declared.shelf.ShelfError.TheVariants as outside
use Rattle.jm_outside.specs.Files.{Files, file}
use Rattle.jm_outside.specs.Outcome.{Shows}
use Rattle.jm_modset.specs.declared.contents.ReadStop.{ReadStop}
use Rattle.jm_modset.specs.declared.contents.ReadStop.TheVariants as stop
use Rattle.jm_modset.specs.declared.files.Content.{Content}
use Rattle.jm_modset.specs.declared.files.Content.TheVariants as content
use Rattle.jm_modset.specs.declared.files.LinkFile.{LinkFile}

-- the path of a file of its own is UTF-8
abbrev pub PathIsText : Content → Type 0
PathIsText (content.File path) = IsUtf8 path
PathIsText (content.Part extent) = Unit {0}

-- a file of its own is among told ones, with the bytes that were described of it
abbrev pub IsToldIn : Files → Content → Option (List ℕ) → Type 0
IsToldIn files (content.File path) described =
    (file files path ≢ None) × IfSome described (λ bytes. bytes ≡ bytes_at files path)
IsToldIn files (content.Part extent) described = Unit {0}

-- a content that was had: of a file of its own the bytes that were described, if some were, and
-- those that a shelf tells; of a part of an image the bytes that were described, or what was read
abbrev pub IsContentOf : Option Files → List ℕ → Content → Option (List ℕ) → List ℕ → Type 0
IsContentOf told image (content.File path) described text =
    IfSome described (λ bytes. text ≡ bytes) × Shows told (λ files. text ≡ bytes_at files path)
IsContentOf told image (content.Part extent) (Some described) text = text ≡ described
IsContentOf told image (content.Part extent) None text = IsReadAt told image extent text

-- a resource is a file that was read
abbrev pub IsReadAs : Option Files → List ℕ → LinkFile → Written → Type 0
IsReadAs told image f r = (r.0 ≡ f.name) × IsContentOf told image f.content f.described r.1

-- the resources are these files, in their order
abbrev pub AreReadAs : Option Files → List ℕ → List LinkFile → List Written → Type 0
AreReadAs told image fs resources = AllZip (IsReadAs told image) fs resources

-- how many bytes are read for a content: all of a file of its own, and a part of an image that
-- wasn't described
abbrev pub read_size : Files → Content → Option (List ℕ) → ℕ
read_size files (content.File path) described = length (bytes_at files path)
read_size files (content.Part extent) (Some described) = 0
read_size files (content.Part extent) None = extent.size

-- how many bytes are read for these files together
abbrev pub read_sizes : Files → List LinkFile → ℕ
read_sizes files fs = sum_by (λ f. read_size files f.content f.described) fs

-- a shelf tells these files, or the content is a part of an image
abbrev pub IsSizedBy : Option Files → Files → Content → Type 0
IsSizedBy told files (content.File path) = told ≡ Some files
IsSizedBy told files (content.Part extent) = Unit {0}

-- the shelf doesn't tell its files: one that does never says of a listed file that it isn't there
abbrev pub TellsNothing : Option Files → Type 0
TellsNothing told = Shows told (λ files. ⊥)

-- by the answer: a listed file isn't there, on a shelf that tells nothing, and its content is such
abbrev pub LacksSuch : {A : Type 0} → Option Files → (Content → Type 0) → Result A ReadStop
    → Type 0
LacksSuch told Such (Ok given) = Unit {0}
LacksSuch told Such (Err (stop.NotThere path)) = TellsNothing told × Such (content.File path)
LacksSuch told Such (Err stop.Outside) = Unit {0}
LacksSuch told Such (Err stop.Memory) = Unit {0}

-- by the answer: a listed file isn't there on a shelf that tells nothing, and is one of these
abbrev pub OnlyLacks : {A : Type 0} → Option Files → List LinkFile → Result A ReadStop → Type 0
OnlyLacks told fs = LacksSuch told (Contains (map (λ f. f.content) fs))

-- why a call of a shelf stops the reading
abbrev pub stop_of : ShelfError → ReadStop
stop_of outside.Failed = stop.Outside
stop_of outside.Memory = stop.Memory

-- a fact after contents were read, unless the outside failed or no memory was found
abbrev pub AfterRead : {A : Type 0} → Type 0 → Result A ReadStop → Type 0
AfterRead Fact (Ok given) = Fact
AfterRead Fact (Err (stop.NotThere path)) = Fact
AfterRead Fact (Err stop.Outside) = Unit {0}
AfterRead Fact (Err stop.Memory) = Unit {0}
