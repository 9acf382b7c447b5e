-- What the steps of a `decompress` come to (this project's rule).
use Rattle.std.specs.Prelude.{ℕ, ◌≡◌, ◌≤◌, ◌+◌, ◌⊎◌, ◌++◌, List, [], ◌∷◌, map, All, Option, Some}
use Rattle.std.specs.Prelude.{None, Result, Ok, Err, if◌then◌else◌}
use Rattle.std.specs.List.{AllZip}
use Rattle.jm_bytes.specs.declared.words.Order.{Order}
use Rattle.jm_filed.specs.declared.extent.Extent.{Extent}
use Rattle.jm_filed.specs.declared.file_order.PlacedName.{PlacedName}
use Rattle.jm_filed.specs.Filed.{IsFiled, IsReadAt, IsWithin, content_at}
use Rattle.jm_filed.specs.FileOrder.{file_order}
use Rattle.jm_form.specs.declared.rows.Row.{Row}
use Rattle.jm_form.specs.Head.{IsFileOf}
use Rattle.jm_form.specs.Layout.{Written}
use Rattle.jm_form.specs.Places.{strings}
use Rattle.jm_form.specs.Rows.{as_stored}
use Rattle.jm_link.specs.declared.linking.LinkStop.{LinkStop}
use Rattle.jm_link.specs.declared.linking.LinkStop.TheVariants as stop
use Rattle.jm_modset.specs.Shown.{AreFit}
use Rattle.jm_link.specs.Steps.{StepGives}
use Rattle.jm_names.specs.Names.{is_node}
use Rattle.jm_outside.specs.Files.{Files}
use Rattle.jm_pool.specs.Pairs.{bytes_of}
use Rattle.jm_reader.specs.Look.{SoundIn, head}
use Rattle.jm_texts.specs.declared.refusal.Refusal.{Refusal}
use Rattle.jm_valid.specs.Opened.{Front}
use Rattle.jm_decompress.specs.declared.held.HeldImage.{HeldImage}
use Rattle.jm_decompress.specs.declared.held.HeldResource.{HeldResource}
use Rattle.jm_decompress.specs.declared.resources.StoredResource.{StoredResource}
use Rattle.jm_decompress.specs.declared.told.ToldResources.{ToldResources}
use Rattle.jm_decompress.specs.Decompressed.{AreByName, AreContents, IsContentOf, IsPacked}
use Rattle.jm_decompress.specs.Decompressed.{index_refusal, stored_bytes, stored_sizes}

-- What the index tells

-- what is listed of one entry, if it is a resource
abbrev pub resource_alone : ℕ × List ℕ × Row → List StoredResource
resource_alone x = if is_node x.1 then [] else record { name = x.1; row = x.2 } ∷ []

-- the stored bytes of a resource lie in the files of an index
abbrev pub LiesIn : Front → StoredResource → Type 0
LiesIn front r = SoundIn front (as_stored r.row)

-- the name of a resource, and what its row says of its content
abbrev pub placed_of : StoredResource → PlacedName
placed_of r = record { offset = r.row.offset; size = r.row.size; name = r.name }

-- The stored bytes

-- a text was read at an extent of the file at a path at which the stored bytes of a row stand in
-- each file of the index
pub record IsStoredRead (index : Front) (told : Option Files) (path : List ℕ) (row : Row)
    (text : List ℕ) : Type 0 where
  pub extent : Extent
  pub within : IsWithin index.length extent
  pub content : (b : List ℕ) → IsFileOf index.bytes index.length b
      → content_at b extent ≡ stored_bytes b row
  pub read : IsReadAt told path extent text

-- a resource stands with what was read as its stored bytes
abbrev pub IsHeldRead : Front → Option Files → List ℕ → StoredResource → HeldResource → Type 0
IsHeldRead index told path r h =
    (h.resource ≡ r) × IsStoredRead index told path r.row h.stored

-- these resources do, in their order
abbrev pub AreHeldRead : Front → Option Files → List ℕ → List StoredResource → List HeldResource
    → Type 0
AreHeldRead index told path rs held = AllZip (IsHeldRead index told path) rs held

-- a resource stands with its stored bytes
abbrev pub IsHeld : List ℕ → HeldResource → Type 0
IsHeld b h = h.stored ≡ stored_bytes b h.resource.row

-- these resources do
abbrev pub AreHeld : List ℕ → List HeldResource → Type 0
AreHeld b held = All (IsHeld b) held

-- What the steps give

-- the resources of an image and the order of their contents, of which nothing is refused yet
pub record AreTold (b : List ℕ) (told : ToldResources) : Type 0 where
  pub named : AreByName b told.resources
  pub order : told.order ≡ file_order b
  pub free : index_refusal told.resources ≡ None
  pub fit : AreFit (map (λ r. r.name) told.resources)

-- the resources of an image are refused so by their index
abbrev pub IsRefusedBy : List ℕ → Refusal → Type 0
IsRefusedBy b given =
    (rs : List StoredResource) × AreByName b rs × (index_refusal rs ≡ Some given)

-- by the answer: what the index tells of the resources, or what it refuses
abbrev pub Judges : List ℕ → Result ToldResources LinkStop → Type 0
Judges b = StepGives (AreTold b) (IsRefusedBy b) ⊥ ⊥

-- what is told of resources that stand with their stored bytes
abbrev pub told_as : HeldImage → ToldResources
told_as held = record { resources = map (λ h. h.resource) held.resources; order = held.order }

-- the resources of an image stand with their stored bytes, and nothing of them is refused yet
pub record IsHeldImage (b : List ℕ) (held : HeldImage) : Type 0 where
  pub told : AreTold b (told_as held)
  pub bytes : AreHeld b held.resources

-- what the reading of an image in a file gives: there is a file of the index, the one at the path
-- where files are told, of which the answer is; and no more was handed out than the stored bytes of
-- its resources
pub record ReadsImage (index : Front) (told : Option Files) (path : List ℕ)
    (answer : Result HeldImage LinkStop) (handed new_handed : ℕ) : Type 0 where
  pub bytes : List ℕ
  pub filed : IsFiled index told path bytes
  pub gives : StepGives (IsHeldImage bytes) (IsRefusedBy bytes) ⊥ (Unit {0}) answer
  pub takes : new_handed ≤ handed + stored_sizes bytes

-- these are the byte order and the strings of an image
pub record AreTextsOf (b : List ℕ) (endian : Order) (texts : List ℕ) : Type 0 where
  pub order : endian ≡ (head b).order
  pub strings : texts ≡ strings b (head b)

-- by the answer: the name of a resource with its content, or why it can't be had
abbrev pub ContentGives : List ℕ → StoredResource → Result Written LinkStop → Type 0
ContentGives b r = StepGives (IsContentOf b r) (IsPacked b r) ⊥ ⊥

-- by the answer: the contents of resources, or the refusal of the first that can't be had
abbrev pub ContentsGive : List ℕ → List StoredResource → Result (List Written) LinkStop → Type 0
ContentsGive b rs =
    StepGives (λ pool. AreContents b rs (Ok pool)) (λ given. AreContents b rs (Err given)) ⊥ ⊥

-- a pair that was had
abbrev pub had : Written → Result Written LinkStop
had p = Ok p

-- where pairs were had one after another, the name of the next one is new
abbrev pub NewAtEach : List (Result Written LinkStop) → Type 0
NewAtEach all =
    (done : List Written) (p : Written) (rest : List (Result Written LinkStop))
    → all ≡ map had done ++ Ok p ∷ rest → bytes_of p.0 done ≡ None

-- by the answer: all of these pairs were had; or what stands first among them instead of one, if it
-- isn't want of memory
abbrev pub PutsAll : List (Result Written LinkStop) → Result (List Written) LinkStop → Type 0
PutsAll all (Ok pool) = all ≡ map had pool
PutsAll all (Err given) =
    (given ≡ stop.Memory)
    ⊎ ((done : List Written) × (rest : List (Result Written LinkStop))
    × (all ≡ map had done ++ Err given ∷ rest))
