-- What writing the image of resources comes to (this project's rule).
use Rattle.std.specs.Prelude.{ℕ, ◌≡◌, ◌⊎◌, List, Some, None, Result, Ok, Err}
use Rattle.jm_bytes.specs.declared.words.Order.{Order}
use Rattle.jm_form.specs.Layout.{Written}
use Rattle.jm_outside.specs.Holds.{HoldsPart}
use Rattle.jm_outside.specs.Shelves.{ShelfFailed, ShelfSeen}
use Rattle.jm_link.specs.declared.linking.LinkStop.{LinkStop}
use Rattle.jm_link.specs.declared.linking.LinkStop.TheVariants as stop
use Rattle.jm_link.specs.declared.linking.Summary.{Summary}
use Rattle.jm_link.specs.Linked.{image_with, layout_refusal}
use Rattle.jm_link.specs.Links.{StandsAt, summary_of}

-- nothing refuses the image, and the file at the path has a front of it, or the files are as before
pub record WritesPart (order : Order) (modules : ℕ) (resources : List Written) (path : List ℕ)
    (old new : ShelfSeen) : Type 0 where
  pub free : layout_refusal order resources ≡ None
  pub part : HoldsPart old.told path (image_with order modules resources).bytes new.told

-- by the answer: the image stands at the path; its refusal, and no file was changed; a failure of
-- the shelf; no memory
abbrev pub WritesImage : Order → ℕ → List Written → List ℕ → Result Summary LinkStop
    → (old new : ShelfSeen) → Type 0
WritesImage order modules resources path (Ok summary) old new =
    (layout_refusal order resources ≡ None)
    × (summary ≡ summary_of (image_with order modules resources))
    × StandsAt path (image_with order modules resources).bytes old new
WritesImage order modules resources path (Err (stop.Refused given)) old new =
    (layout_refusal order resources ≡ Some given) × (new.told ≡ old.told)
WritesImage order modules resources path (Err (stop.NotThere listed)) old new = ⊥
WritesImage order modules resources path (Err stop.Outside) old new =
    WritesPart order modules resources path old new × ShelfFailed old new
WritesImage order modules resources path (Err stop.Memory) old new =
    (new.told ≡ old.told) ⊎ WritesPart order modules resources path old new
