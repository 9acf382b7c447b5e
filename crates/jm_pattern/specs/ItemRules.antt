-- What the items of a comma list read as, and which fault a list has (this project's rule).
use Rattle.std.specs.Prelude.{◌≡◌, ◌≢◌, ◌<◌, ◌+◌, [], ℕ, List, Some, IsTrue, IsFalse, slice_get}
use Rattle.jm_pattern.specs.Items.{is_refused, items_of, without_glob}
use Rattle.jm_pattern.specs.Reading.{IsFaultOf, Reads}
use Rattle.jm_pattern.specs.declared.signs.PatternFault.{PatternFault}
use Rattle.jm_pattern.specs.declared.signs.PatternFault.TheVariants.{BadEscape, Empty, Prefix}
use Rattle.jm_pattern.specs.declared.signs.Sign.{Sign}

-- an item reads as these signs: it isn't refused, and what is left without its `glob:` reads so
abbrev pub ItemReads : List ℕ → List Sign → Type 0
ItemReads item signs =
    IsFalse (is_refused item) × (without_glob item ≢ []) × Reads (without_glob item) signs

-- why the item of a number is no pattern
abbrev pub IsItemFault : ℕ → List ℕ → PatternFault → Type 0
IsItemFault number item (Prefix refused) = (refused ≡ number) × IsTrue (is_refused item)
IsItemFault number item (BadEscape at) =
    IsFalse (is_refused item) × IsFaultOf (without_glob item) (BadEscape at)
IsItemFault number item Empty = IsFalse (is_refused item) × IsFaultOf (without_glob item) Empty

-- the fault of items whose numbers go on from one: an item has it, and all in front of it read
pub record IsFirstItemFault (number : ℕ) (items : List (List ℕ)) (fault : PatternFault)
    : Type 0 where
  pub place : ℕ
  pub item : List ℕ
  pub there : slice_get items place ≡ Some item
  pub before : (k : ℕ) (other : List ℕ) → k < place → slice_get items k ≡ Some other
      → (signs : List Sign) × ItemReads other signs
  pub faulty : IsItemFault (number + place) item fault

-- the fault of a list
abbrev pub IsListFault : List ℕ → PatternFault → Type 0
IsListFault text fault = IsFirstItemFault 0 (items_of text) fault
