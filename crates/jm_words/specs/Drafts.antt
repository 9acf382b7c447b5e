-- What words give (this project's rule): fields with their values, and the plug-ins.
use Rattle.std.specs.Prelude.{◌≡◌, ℕ, Bool, false, ◌||◌, List, [], ◌∷◌, ◌++◌, filter}
use Rattle.std.specs.Prelude.{Option, None, Some, option_map, is_none, is_some, if◌then◌else◌}
use Rattle.std.specs.List.{filter_map, find}
use Rattle.jm_bytes.specs.declared.words.Order.{Order}
use Rattle.jm_pattern.specs.declared.signs.Sign.{Sign}
use Rattle.jm_words.specs.declared.tasks.Plugin.{Plugin}
use Rattle.jm_words.specs.declared.drafts.Draft.{Draft}
use Rattle.jm_words.specs.declared.given.Value.{Value}
use Rattle.jm_words.specs.declared.given.Value.TheVariants as value
use Rattle.jm_words.specs.declared.tables.Field.{Field}
use Rattle.jm_words.specs.declared.tables.Field.TheVariants as field
use Rattle.jm_words.specs.Givens.{Given, plugin_in}
use Rattle.jm_words.specs.Tables.{same_field}

-- all that is given, the plug-ins apart, both in the order of their words, with the number of the
-- first word that asks for the order of an image
abbrev pub draft_of : Option ℕ → List Given → Draft
draft_of kept givens = record {
  values = filter (λ given. is_none (plugin_in given)) givens;
  plugins = filter_map plugin_in givens;
  kept_at = kept;
}

-- the value of a field, if it is given: a second is a fault of its word
abbrev pub the : Field → List Given → Option Value
the field values =
    option_map (λ given. given.value) (find (λ given. same_field given.field field) values)

-- a field is given
abbrev pub has : List Given → Field → Bool
has values field = is_some (the field values)

-- the path that a value is, if it is one
abbrev pub path_in : Option Value → Option (List ℕ)
path_in (Some (value.Path path)) = Some path
path_in _ = None

-- the name or the path in an image that a value is, if it is one
abbrev pub name_in : Option Value → Option (List ℕ)
name_in (Some (value.Name name)) = Some name
name_in _ = None

-- the paths that a value is, or none
abbrev pub paths_in : Option Value → List (List ℕ)
paths_in (Some (value.Paths paths)) = paths
paths_in _ = []

-- the path of an image to link is given
abbrev pub gives_image : List Given → Bool
gives_image values = is_some (path_in (the field.FromImage values))

-- the words have a module path or an image
abbrev pub gives_modules : List Given → Bool
gives_modules values = has values field.Directories || has values field.FromImage

-- the names that a value is, if it is some
abbrev pub names_in : Option Value → Option (List (List ℕ))
names_in (Some (value.Names names)) = Some names
names_in _ = None

-- the number that a value is, if it is one
abbrev pub number_in : Option Value → Option ℕ
number_in (Some (value.Number number)) = Some number
number_in _ = None

-- the order that a value is, if it is one
abbrev pub order_in : Option Value → Option Order
order_in (Some (value.Order order)) = Some order
order_in _ = None

-- the patterns that a value is, if it is some
abbrev pub patterns_in : Option Value → Option (List (List Sign))
patterns_in (Some (value.Patterns patterns)) = Some patterns
patterns_in _ = None

-- The same, word by word: words of the proofs

-- what is given before the first word
abbrev pub nothing : Draft
nothing = record { values = []; plugins = []; kept_at = None }

-- what is given, with one thing more, which is a plug-in or none
abbrev pub with_part : Draft → Given → Option Plugin → Draft
with_part draft given None = record draft { values = draft.values ++ given ∷ [] }
with_part draft given (Some plugin) = record draft { plugins = draft.plugins ++ plugin ∷ [] }

-- what is given asks for the order of an image
abbrev pub asks_order : Option Given → Bool
asks_order None = false
asks_order (Some given) = same_field given.field field.KeepOrder

-- the number of the first word that asks for the order of an image, with one word more, if it gives
-- something
abbrev pub kept_with : ℕ → Option Given → Option ℕ → Option ℕ
kept_with at given None = if asks_order given then Some at else None
kept_with at given (Some first) = Some first

-- what is given, with one thing more by the word of a number
abbrev pub with_given : ℕ → Draft → Given → Draft
with_given at draft given = record (with_part draft given (plugin_in given)) {
  kept_at = kept_with at (Some given) draft.kept_at;
}

-- the values of other fields than one are what they were
abbrev pub LeavesOthers : Field → List Given → List Given → Type 0
LeavesOthers field old new =
    (other : Field) → same_field field other ≡ false → the other new ≡ the other old
