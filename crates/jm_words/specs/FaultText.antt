-- The text of a fault of the words (this project's rule).
use Rattle.std.specs.Prelude.{ℕ, List, ◌++◌, codes}
use Rattle.std.specs.Fmt.{decimal}
use Rattle.jm_words.specs.declared.errors.WordsFault.{WordsFault}
use Rattle.jm_words.specs.declared.errors.WordsKind.{WordsKind}
use Rattle.jm_words.specs.declared.errors.WordsKind.TheVariants as kind

-- the name of a kind of fault
abbrev pub kind_text : WordsKind → List ℕ
kind_text kind.NoCommand = codes "NoCommand"
kind_text kind.UnknownCommand = codes "UnknownCommand"
kind_text kind.UnknownOption = codes "UnknownOption"
kind_text kind.Repeated = codes "Repeated"
kind_text kind.NoValue = codes "NoValue"
kind_text kind.BadValue = codes "BadValue"
kind_text kind.TooManyArguments = codes "TooManyArguments"
kind_text kind.Missing = codes "Missing"

-- a fault in print: its kind and its word's number
abbrev pub fault_text : WordsFault → List ℕ
fault_text fault = kind_text fault.kind ++ codes " at " ++ decimal fault.at
