-- How the words behind a command are read, from left to right (this project's rule): words of the
-- proofs.
use Rattle.std.specs.Prelude.{ℕ, zero, suc, ◌==◌, List, [], ◌∷◌, drop}
use Rattle.std.specs.Prelude.{Option, Some, None, Result, Ok}
use Rattle.jm_bytes.specs.Checks.{unless_fault}
use Rattle.jm_words.specs.declared.drafts.Draft.{Draft}
use Rattle.jm_words.specs.declared.errors.WordsFault.{WordsFault}
use Rattle.jm_words.specs.declared.errors.WordsKind.TheVariants as kind
use Rattle.jm_words.specs.declared.tables.Verb.{Verb}
use Rattle.jm_words.specs.Drafts.{with_given}
use Rattle.jm_words.specs.Givens.{Given, given_of}
use Rattle.jm_words.specs.Roles.{Role, AsArgument, fault_at, fault_in, given_by, waiting}
use Rattle.jm_words.specs.Rule.{draft_before, left_at, role_at}
use Rattle.jm_words.specs.Tables.{Row}

-- what stands after some words: what was given, the arguments still to come, and the option whose
-- value is the next word
pub record Standing : Type 0 where
  pub draft : Draft
  pub left : List Row
  pub pending : Option Row

-- the option that waits for the word at a place
abbrev pub pending_at : Verb → List (List ℕ) → ℕ → Option Row
pending_at verb words zero = None
pending_at verb words (suc i) = waiting (role_at verb words i)

-- what stands at a place
abbrev pub standing_at : Verb → List (List ℕ) → ℕ → Standing
standing_at verb words i = record {
  draft = draft_before verb words i;
  left = left_at verb words i;
  pending = pending_at verb words i;
}

-- what was given, with what the word of a number gives, if it gives something
abbrev pub with_word : ℕ → Draft → Option Given → Draft
with_word at draft None = draft
with_word at draft (Some given) = with_given at draft given

-- the arguments that are left after a word in its role
abbrev pub left_behind : List Row → Role → List Row
left_behind left (AsArgument text) = drop 1 left
left_behind left _ = left

-- what stands after a word of a number in its role that has no fault
abbrev pub after_sound : ℕ → Standing → Role → Standing
after_sound at standing role = record {
  draft = with_word at standing.draft (given_by standing.left role);
  left = left_behind standing.left role;
  pending = waiting role;
}

-- what stands after a word of a number in its role, or its first fault; `all` is the last's number
abbrev pub after_role : ℕ → ℕ → Standing → Role → Result Standing WordsFault
after_role at all standing role =
    unless_fault (fault_in at standing.draft.values standing.left (at == all) role)
    (after_sound at standing role)

-- what stands after a text that gives something, or `BadValue` where it gives nothing
abbrev pub after_text : ℕ → Option Given → Standing → Result Standing WordsFault
after_text at None standing = fault_at at kind.BadValue
after_text at (Some given) standing =
    Ok (record standing { draft = with_given at standing.draft given; pending = None })

-- what stands after an argument, or its fault
abbrev pub after_argument : ℕ → List ℕ → List Row → Standing → Result Standing WordsFault
after_argument at word [] standing = fault_at at kind.TooManyArguments
after_argument at word (row ∷ left) standing =
    after_text at (given_of row word) (record standing { left = left; pending = None })
