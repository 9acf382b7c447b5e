-- What the code answers of a reading, and of a form.
use Rattle.std.specs.Prelude.{◌≡◌, List, Result, Ok, Err}
use Rattle.jm_bytes.specs.declared.faults.Or.{Or}
use Rattle.jm_bytes.specs.declared.faults.Or.TheVariants.{Fault, Memory}
use Rattle.jm_class.specs.Readings.{Left, Outcome, continued, ended}
use Rattle.jm_poolmap.specs.declared.forms.Content.{Content}
use Rattle.jm_poolmap.specs.declared.forms.Place.{Place}
use Rattle.jm_poolmap.specs.declared.forms.Unknown.{Unknown}
use Rattle.jm_poolmap.specs.declared.site.FoundSite.{FoundSite}
use Rattle.jm_poolmap.specs.Attributes.{attribute_with, body}
use Rattle.jm_poolmap.specs.Forms.{Form, Texts, NoForm, unfit, reads}
use Rattle.jm_poolmap.specs.Views.{content_of}

-- a reading gives this and leaves this, or what stands there doesn't fit
abbrev pub Reads : {T A : Type 0} → (T → A) → Outcome NoForm A → Result T Unknown → Left → Type 0
Reads data_of outcome (Ok v) left = outcome ≡ Ok (data_of v, left)
Reads data_of outcome (Err unknown) left = outcome ≡ Err tt

-- what stands from a place on is of a form, and its sites are added to those met before; or it
-- isn't of the form; want of memory tells nothing
abbrev pub Finds : {T : Type 0} → Texts → Form → List FoundSite → Left → Result T (Or Unknown)
    → List FoundSite → Left → Type 0
Finds texts form found left (Ok v) new next = reads texts form found left ≡ Ok (new, next)
Finds texts form found left (Err (Fault unknown)) new next = reads texts form found left ≡ Err tt
Finds texts form found left (Err Memory) new next = Unit {0}

-- an attribute is read up to its body, where that of a Code is of a form: it is read as these bytes
-- are, to their end, by the form of what the body consists of; or it isn't of its form
abbrev pub Opens : Texts → Form → Place → List FoundSite → Left
    → Result (Content × Left) (Or Unknown) → List FoundSite → Left → Type 0
Opens texts code place found left (Ok (content, inner)) new next =
    reads texts (attribute_with code place) found left
    ≡ continued (ended unfit (reads texts (body code (content_of content)) new) inner)
    (λ all end. Ok (all, next))
Opens texts code place found left (Err (Fault unknown)) new next =
    reads texts (attribute_with code place) found left ≡ Err tt
Opens texts code place found left (Err Memory) new next = Unit {0}
