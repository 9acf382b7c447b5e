-- The role of a word behind the command, and what is wrong with a word in its role (this project's
-- rule).
use Rattle.std.specs.Prelude.{ℕ, Bool, true, false, not, nat_eq, ◌==◌, ◌&&◌, List, [], ◌∷◌}
use Rattle.std.specs.Prelude.{Option, Some, None, option_map, is_some, is_none, Result, Err}
use Rattle.std.specs.Prelude.{if◌then◌else◌, codes}
use Rattle.std.specs.List.{find, before_first, starts_with}
use Rattle.std.specs.Str.{bytes_eq}
use Rattle.jm_bytes.specs.Checks.{fault_if, first_fault}
use Rattle.jm_words.specs.declared.errors.WordsFault.{WordsFault}
use Rattle.jm_words.specs.declared.errors.WordsKind.{WordsKind}
use Rattle.jm_words.specs.declared.errors.WordsKind.TheVariants as kind
use Rattle.jm_words.specs.Drafts.{has}
use Rattle.jm_words.specs.Givens.{Given, flag_given, given_of}
use Rattle.jm_words.specs.Tables.{Row, is_flag}
use Rattle.jm_words.specs.Values.{behind_first}

-- the role of a word behind the command: an option that the command doesn't have; an option
-- without a value; an option that waits for its value; an option with its value behind `=`; the
-- value of the option in front of it; or an argument
pub data Role : Type 0 where
  Unknown : Role
  Flag : Row → Role
  Waits : Row → Role
  WithValue : Row → List ℕ → Role
  ValueFor : Row → List ℕ → Role
  AsArgument : List ℕ → Role

-- a byte is `=`
abbrev pub is_equals : ℕ → Bool
is_equals b = b == 61

-- a word begins with two hyphens
abbrev pub has_hyphens : List ℕ → Bool
has_hyphens word = starts_with nat_eq word (codes "--")

-- the option of a name
abbrev pub option_named : List ℕ → List Row → Option Row
option_named name rows = find (λ row. bytes_eq row.name name) rows

-- what stands behind the first `=` of a word, if it has one
abbrev pub value_behind : List ℕ → Option (List ℕ)
value_behind word = behind_first 61 word

-- the role of an option without a value behind `=`: it has none, or waits for it
abbrev pub bare_role : Row → Role
bare_role row = if is_flag row.form then Flag row else Waits row

-- the role of a word that names an option, if the command has it, with the value behind its `=`
abbrev pub option_role : Option Row → Option (List ℕ) → Role
option_role None value = Unknown
option_role (Some row) (Some text) = WithValue row text
option_role (Some row) None = bare_role row

-- the role of a word for which no option waits
abbrev pub plain_role : List Row → List ℕ → Role
plain_role rows word =
    if has_hyphens word
    then option_role (option_named (before_first is_equals word) rows) (value_behind word)
    else AsArgument word

-- the role of a word: the value of the option that waits for it, if one does, whatever it is
abbrev pub role_of : List Row → Option Row → List ℕ → Role
role_of rows None word = plain_role rows word
role_of rows (Some row) word = ValueFor row word

-- the option that a word in its role names
abbrev pub named_by : Role → Option Row
named_by (Flag row) = Some row
named_by (Waits row) = Some row
named_by (WithValue row text) = Some row
named_by _ = None

-- the option that waits for the next word
abbrev pub waiting : Role → Option Row
waiting (Waits row) = Some row
waiting _ = None

-- the role is that of an argument
abbrev pub is_argument : Role → Bool
is_argument (AsArgument text) = true
is_argument _ = false

-- the role is that of an option that the command doesn't have
abbrev pub is_unknown : Role → Bool
is_unknown Unknown = true
is_unknown _ = false

-- a text stands for the first of the arguments that are left
abbrev pub first_argument : List Row → List ℕ → Option Given
first_argument [] text = None
first_argument (row ∷ left) text = given_of row text

-- what a word in its role gives, where some arguments are left
abbrev pub given_by : List Row → Role → Option Given
given_by left (Flag row) = Some (flag_given row)
given_by left (WithValue row text) = given_of row text
given_by left (ValueFor row text) = given_of row text
given_by left (AsArgument text) = first_argument left text
given_by left _ = None

-- no argument is left
abbrev pub is_none_left : List Row → Bool
is_none_left [] = true
is_none_left (row ∷ left) = false

-- a form is asked of the text of a word in its role
abbrev pub has_form : List Row → Role → Bool
has_form left (WithValue row text) = true
has_form left (ValueFor row text) = true
has_form left (AsArgument text) = not (is_none_left left)
has_form left _ = false

-- an option stands again where its field is given already. Plug-ins may, and give none of these
-- values
abbrev pub stands_again : List Given → Option Row → Bool
stands_again values None = false
stands_again values (Some row) = has values row.field

-- what can be wrong with a word in its role, in the order in which it is judged, where these values
-- are given and these arguments are left, and it is the last word or not
abbrev pub word_checks : List Given → List Row → Bool → Role → List (Option WordsKind)
word_checks values left last role =
    fault_if (is_unknown role) kind.UnknownOption
    ∷ fault_if (stands_again values (named_by role)) kind.Repeated
    ∷ fault_if (is_some (waiting role) && last) kind.NoValue
    ∷ fault_if (has_form left role && is_none (given_by left role)) kind.BadValue
    ∷ fault_if (is_argument role && is_none_left left) kind.TooManyArguments
    ∷ []

-- a fault of a kind, with the number of its word
abbrev pub fault_at : {A : Type 0} → ℕ → WordsKind → Result A WordsFault
fault_at at kind = Err (record { at = at; kind = kind })

-- the first fault of a word of a number in its role
abbrev pub fault_in : ℕ → List Given → List Row → Bool → Role → Option WordsFault
fault_in at values left last role =
    option_map (λ kind. record { at = at; kind = kind })
    (first_fault (word_checks values left last role))
