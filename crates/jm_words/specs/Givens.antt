-- What an argument or an option gives (this project's rule).
use Rattle.std.specs.Prelude.{ℕ, List, [], Option, Some, None, option_map}
use Rattle.jm_names.specs.UtfForms.{modified}
use Rattle.jm_words.specs.declared.given.Value.{Value}
use Rattle.jm_words.specs.declared.given.Value.TheVariants as value
use Rattle.jm_words.specs.declared.tables.Field.{Field}
use Rattle.jm_words.specs.declared.tables.Field.TheVariants as field
use Rattle.jm_words.specs.declared.tables.Form.{Form}
use Rattle.jm_words.specs.declared.tables.Form.TheVariants as form
use Rattle.jm_words.specs.declared.tasks.Plugin.{Plugin}
use Rattle.jm_words.specs.declared.tasks.Plugin.TheVariants as plugin
use Rattle.jm_words.specs.Tables.{Row, limits}
use Rattle.jm_words.specs.Values.{folder_of, folders_of, inner_path_of, names_of, number_of}
use Rattle.jm_words.specs.Values.{order_of, path_of, patterns_of}

-- what an argument or an option gives: a field, and its value
pub record Given : Type 0 where
  pub field : Field
  pub value : Value

-- what a text of a form means for a field, or none where it isn't of the form; no text is of that
-- of a flag
abbrev pub value_of : Field → Form → List ℕ → Option Value
value_of field form.Flag text = None
value_of field form.Path text = option_map value.Path (path_of text)
value_of field form.Folder text = option_map value.Path (folder_of text)
value_of field form.Folders text = option_map value.Paths (folders_of text)
value_of field form.Name text = Some (value.Name (modified text))
value_of field form.InnerPath text = option_map value.Name (inner_path_of text)
value_of field form.Names text = option_map value.Names (names_of text)
value_of field form.Number text = option_map value.Number (number_of (limits field) text)
value_of field form.Order text = option_map value.Order (order_of text)
value_of field form.Patterns text = option_map value.Patterns (patterns_of text)

-- what a text gives as that of an argument or of an option's value, if it is of the row's form
abbrev pub given_of : Row → List ℕ → Option Given
given_of row text =
    option_map (λ value. record { field = row.field; value = value })
    (value_of row.field row.form text)

-- what an option without a value gives
abbrev pub flag_given : Row → Given
flag_given row = record { field = row.field; value = value.Flag }

-- the plug-in that a value of a field is, if it is one
abbrev pub plugin_of : Field → Value → Option Plugin
plugin_of field.Exclude (value.Patterns names) = Some (plugin.Exclude names)
plugin_of field.Rank (value.Patterns names) = Some (plugin.Order names)
plugin_of field.KeepOrder value.Flag = Some (plugin.KeepOrder [])
plugin_of field.Strip value.Flag = Some plugin.Strip
plugin_of field.Compact value.Flag = Some plugin.Compact
plugin_of field.Packages value.Flag = Some plugin.Packages
plugin_of field.DropSystemModules value.Flag = Some plugin.DropSystemModules
plugin_of _ _ = None

-- the plug-in that is given, if it is one
abbrev pub plugin_in : Given → Option Plugin
plugin_in given = plugin_of given.field given.value
