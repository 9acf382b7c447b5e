-- The texts of the help, of the rows of the tables (this project's rule).
use Rattle.std.specs.Prelude.{ℕ, List, [], ◌∷◌, ◌++◌, codes, flat_map}
use Rattle.std.specs.Prelude.{if◌then◌else◌}
use Rattle.jm_words.specs.declared.tables.Form.{Form}
use Rattle.jm_words.specs.declared.tables.Form.TheVariants as form
use Rattle.jm_words.specs.declared.tables.Part.{Part}
use Rattle.jm_words.specs.declared.tables.Part.TheVariants as part
use Rattle.jm_words.specs.declared.tables.Verb.{Verb}
use Rattle.jm_words.specs.declared.tables.Verb.TheVariants as verb
use Rattle.jm_words.specs.Tables.{Row, digests, include, nodes, options, same_part, verbs}

-- the words of a command, and what it does, line by line
abbrev pub lines : Verb → List (List ℕ × List ℕ)
lines verb.Link = (
  codes "link --module-path DIRS --add-modules NAMES --output FILE [options] [plug-ins]",
  codes "links modules and all that they require, except by requires static",
)
    ∷ (
      codes "link --from-image FILE --add-modules NAMES --output FILE [options] [plug-ins]",
      codes "the same with the modules of another image; --module-path may stand too",
    )
    ∷ []
lines verb.Cat = (codes "cat IMAGE NAME", codes "prints the bytes of the entry of that name") ∷ []
lines verb.List = (
  codes "list IMAGE [--include PATTERNS] [--sha256]",
  codes "prints the size and the name of each resource",
)
    ∷ []
lines verb.Ls = (codes "ls IMAGE PATH", codes "prints what a folder of the image holds") ∷ []
lines verb.Info = (codes "info IMAGE", codes "prints what the header says") ∷ []
lines verb.Extract = (
  codes "extract IMAGE --dir DIR [--include PATTERNS]",
  codes "writes each resource to a file below DIR",
)
    ∷ []
lines verb.Verify = (
  codes "verify IMAGE [--nodes]",
  codes "checks the structure of the image and prints the number of its entries",
)
    ∷ []
lines verb.Decompress = (
  codes "decompress IMAGE --output FILE",
  codes "writes the image of the resources of a compressed image, uncompressed",
)
    ∷ []
lines verb.Serve = (codes "serve IMAGE", codes "answers the lines of the input") ∷ []
lines verb.Gen = (
  codes "gen DIR --modules N --classes N --seed N",
  codes "makes modules below DIR and links them",
)
    ∷ []
lines verb.Describe = (
  codes "describe FILE [--release N]",
  codes "prints what a module-info.class says",
)
    ∷ []
lines verb.Help = (codes "--help", codes "prints this text") ∷ []
lines verb.Version = (codes "--version", codes "prints the version of the program") ∷ []

-- words, and below them what they do
abbrev pub entry_text : List ℕ → List ℕ → List ℕ
entry_text words does = codes "  " ++ words ++ codes "\n      " ++ does ++ codes "\n"

-- a line of a command
abbrev pub line_text : List ℕ × List ℕ → List ℕ
line_text line = entry_text line.0 line.1

-- the lines of a command
abbrev pub verb_text : Verb → List ℕ
verb_text verb = flat_map line_text (lines verb)

-- the word for the value of a form, with a space in front
abbrev pub value_word : Form → List ℕ
value_word form.Path = codes " FILE"
value_word form.Folder = codes " DIR"
value_word form.Folders = codes " DIRS"
value_word form.Names = codes " NAMES"
value_word form.Number = codes " N"
value_word form.Order = codes " ORDER"
value_word form.Patterns = codes " PATTERNS"
value_word _ = []

-- what a row is, and below it what it does
abbrev pub row_text : Row → List ℕ
row_text row = entry_text (row.name ++ value_word row.form) row.line

-- what stands of a row in a part of the help, if it has its line there
abbrev pub text_in : Part → Row → List ℕ
text_in part row = if same_part row.part part then row_text row else []

-- the options of a command that have their lines in a part of the help
abbrev pub options_text : Verb → Part → List ℕ
options_text verb part = flat_map (text_in part) (options verb)

-- the help: all commands, the options and the plug-ins
abbrev pub help_text : List ℕ
help_text =
    codes "usage: jm_tool COMMAND ..\n\ncommands:\n"
    ++ flat_map verb_text verbs
    ++ codes "\noptions:\n"
    ++ options_text verb.Link part.Options
    ++ row_text include
    ++ row_text digests
    ++ row_text nodes
    ++ codes "\nplug-ins:\n"
    ++ options_text verb.Link part.Plugins
    ++ codes "\n"
