-- What a command line says (this project's rule): each word has a role by the words before it; the
-- first fault of a word in its role decides, and a missing argument or option comes last. A place
-- is that of a word behind the command, from 0, so the word at place i has the number i + 2.
use Rattle.std.specs.Prelude.{ℕ, zero, suc, ◌+◌, ◌==◌, List, [], ◌∷◌, length, drop}
use Rattle.std.specs.Prelude.{map, count_by, slice_get, unwrap_or, Option, Some, None, option_map}
use Rattle.std.specs.Prelude.{if◌then◌else◌}
use Rattle.std.specs.Prelude.{Result, Ok}
use Rattle.std.specs.List.{filter_map, find, range_with_len}
use Rattle.jm_bytes.specs.Checks.{first_fault, unless_fault}
use Rattle.jm_bytes.specs.Results.{followed}
use Rattle.jm_words.specs.declared.tasks.Command.{Command}
use Rattle.jm_words.specs.declared.errors.WordsFault.{WordsFault}
use Rattle.jm_words.specs.declared.errors.WordsKind.TheVariants as kind
use Rattle.jm_words.specs.Givens.{Given}
use Rattle.jm_words.specs.declared.tables.Verb.{Verb}
use Rattle.jm_words.specs.declared.drafts.Draft.{Draft}
use Rattle.jm_words.specs.Commands.{command_of, verb_named}
use Rattle.jm_words.specs.Drafts.{asks_order, draft_of, gives_image}
use Rattle.jm_words.specs.Roles.{Role, fault_at, fault_in, given_by, is_argument, role_of, waiting}
use Rattle.jm_words.specs.Tables.{Row, arguments, options}

-- the word at a place
abbrev pub word_at : List (List ℕ) → ℕ → List ℕ
word_at words i = unwrap_or (slice_get words i) []

-- the role of the word at a place: it is the value of the option in front of it, if that one waits
-- for its value, and else what it is by itself
abbrev pub role_at : Verb → List (List ℕ) → ℕ → Role
role_at verb words zero = role_of (options verb) None (word_at words 0)
role_at verb words (suc i) =
    role_of (options verb) (waiting (role_at verb words i)) (word_at words (suc i))

-- the roles of the words before a place
abbrev pub roles_before : Verb → List (List ℕ) → ℕ → List Role
roles_before verb words i = map (role_at verb words) (range_with_len 0 i)

-- the arguments of the command that are left at a place: all but as many as stand before it
abbrev pub left_at : Verb → List (List ℕ) → ℕ → List Row
left_at verb words i = drop (count_by is_argument (roles_before verb words i)) (arguments verb)

-- what the word at a place gives in its role
abbrev pub given_at : Verb → List (List ℕ) → ℕ → Option Given
given_at verb words i = given_by (left_at verb words i) (role_at verb words i)

-- what the words before a place give in their roles, in their order
abbrev pub givens_before : Verb → List (List ℕ) → ℕ → List Given
givens_before verb words i = filter_map (given_at verb words) (range_with_len 0 i)

-- the number of the first word before a place that asks for the order of an image
abbrev pub kept_before : Verb → List (List ℕ) → ℕ → Option ℕ
kept_before verb words i =
    option_map (λ j. j + 2)
    (find (λ j. asks_order (given_at verb words j)) (range_with_len 0 i))

-- what the words before a place give, the plug-ins apart
abbrev pub draft_before : Verb → List (List ℕ) → ℕ → Draft
draft_before verb words i = draft_of (kept_before verb words i) (givens_before verb words i)

-- the first fault, in the order of `word_checks`, that the word at a place has in its role
abbrev pub fault_of : Verb → List (List ℕ) → ℕ → Option WordsFault
fault_of verb words i =
    fault_in (i + 2) (draft_before verb words i).values (left_at verb words i)
    (i + 2 == length words + 1) (role_at verb words i)

-- the first fault of the words before a place
abbrev pub fault_before : Verb → List (List ℕ) → ℕ → Option WordsFault
fault_before verb words i = first_fault (map (fault_of verb words) (range_with_len 0 i))

-- what the words behind a command give, or the first fault of one of them
abbrev pub draft_given : Verb → List (List ℕ) → Result Draft WordsFault
draft_given verb words =
    unless_fault (fault_before verb words (length words)) (draft_before verb words (length words))

-- what words give, or the fault of the first word that asks for the order of an image, where no
-- image is given
abbrev pub with_image : Draft → Result Draft WordsFault
with_image draft =
    unless_fault
    (if gives_image draft.values then None
    else option_map (λ at. record { at = at; kind = kind.BadValue }) draft.kept_at) draft

-- the command that is made, or `Missing` with the number of all words
abbrev pub command_or_missing : ℕ → Option Command → Result Command WordsFault
command_or_missing all None = fault_at all kind.Missing
command_or_missing all (Some command) = Ok command

-- the command of what the words give, or their fault
abbrev pub command_unless_fault : Verb → ℕ → Result Draft WordsFault → Result Command WordsFault
command_unless_fault verb all given =
    followed (followed given with_image)
    (λ draft. command_or_missing all (command_of verb draft))

-- the command of a name that was looked up, with the words behind it, or their first fault
abbrev pub command_after : Option Verb → List (List ℕ) → Result Command WordsFault
command_after None words = fault_at 1 kind.UnknownCommand
command_after (Some verb) words =
    command_unless_fault verb (length words + 1) (draft_given verb words)

-- what the words of a command line say: the command of which each field is the value of the one
-- word that gives it, or its default, with the plug-ins of all words that give one; or the first
-- fault, with its word's number
abbrev pub command_in : List (List ℕ) → Result Command WordsFault
command_in [] = fault_at 0 kind.NoCommand
command_in (name ∷ words) = command_after (verb_named name) words

-- something holds of what the words of a command line say
abbrev pub Says : List (List ℕ) → (Result Command WordsFault → Type 0) → Type 0
Says words Holds = Holds (command_in words)
