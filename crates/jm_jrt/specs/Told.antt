-- What the content of a node tells, and where it is bad (jimage 1.0 for the nodes; what is bad is
-- this project's rule).
use Rattle.std.specs.Prelude.{◌≡◌, ℕ, ◌+◌, ◌-◌, ◌*◌, ◌/◌, ◌%◌, ◌<◌, ◌==◌, nat_lt, Bool, true, false}
use Rattle.std.specs.Prelude.{◌&&◌, not, List, length, map, Option, Some, None, option_map}
use Rattle.std.specs.Prelude.{Result, Ok, Err, unwrap_or, if◌then◌else◌}
use Rattle.std.specs.List.{range_with_len}
use Rattle.jm_bytes.specs.Checks.{fault_if, first_fault, unless_fault}
use Rattle.jm_bytes.specs.Word.{word}
use Rattle.jm_form.specs.declared.rows.Row.{Row}
use Rattle.jm_form.specs.declared.trees.Holds.{Holds}
use Rattle.jm_form.specs.declared.trees.Holds.TheVariants.{Children, Owners}
use Rattle.jm_form.specs.declared.trees.Owner.{Owner}
use Rattle.jm_form.specs.Entries.{name_of, row_at_place, spelled_row, texts_end}
use Rattle.jm_form.specs.Places.{strings}
use Rattle.jm_form.specs.Rows.{blank}
use Rattle.jm_form.specs.Texts.{text_at, text_ends}
use Rattle.jm_reader.specs.Look.{head}
use Rattle.jm_jrt.specs.declared.jrt_error.JrtError.{JrtError}
use Rattle.jm_jrt.specs.declared.jrt_error.JrtError.TheVariants.{BadNode}
use Rattle.jm_jrt.specs.declared.words.Form.{Form}
use Rattle.jm_jrt.specs.declared.words.Form.TheVariants as form

-- Words of a content: word k stands at the place 4k

-- word k of a node's content, from byte 4k on, in the byte order of the image
abbrev pub word_of : List ℕ → List ℕ → ℕ → ℕ
word_of b content k = word (head b).order content (4 * k)

-- the content has all four bytes of word k
abbrev pub fits : List ℕ → ℕ → Bool
fits content k = nat_lt k (length content / 4)

-- how many words of four bytes a content is read as; the last may not fit
abbrev pub word_count : List ℕ → ℕ
word_count content = (length content + 3) / 4

-- how many pairs of words a content is read as; the last may not fit
abbrev pub pair_count : List ℕ → ℕ
pair_count content = (length content + 7) / 8

-- the place of word k where it isn't sound
abbrev pub word_fault : (ℕ → Bool) → ℕ → Option ℕ
word_fault is_sound k = fault_if (not (is_sound k)) (4 * k)

-- the place of the first bad one of so many words
abbrev pub first_bad_word : (ℕ → Bool) → ℕ → Option ℕ
first_bad_word is_sound n = first_fault (map (word_fault is_sound) (range_with_len 0 n))

-- `BadNode` with that place
abbrev pub words_fault : (ℕ → Bool) → ℕ → Option JrtError
words_fault is_sound n = option_map (λ at. BadNode at) (first_bad_word is_sound n)

-- The form of children

-- the row that is spelled at a place of the locations, or none where it is blank or isn't there
abbrev pub row_told : List ℕ → ℕ → Option Row
row_told b place = spelled_row (row_at_place b (head b) place)

-- there is a row, and its texts end
abbrev pub is_row_sound : List ℕ → Option Row → Bool
is_row_sound section None = false
is_row_sound section (Some row) = texts_end section row

-- word k is there and leads to a row whose texts end
abbrev pub is_child_sound : List ℕ → List ℕ → ℕ → Bool
is_child_sound b content k =
    fits content k && is_row_sound (strings b (head b)) (row_told b (word_of b content k))

-- the name that the row at a place of the locations spells
abbrev pub name_told : List ℕ → ℕ → List ℕ
name_told b place = name_of (strings b (head b)) (unwrap_or (row_told b place) blank)

-- the names that so many words tell, from word k on
abbrev pub names_from : List ℕ → List ℕ → ℕ → ℕ → List (List ℕ)
names_from b content k n =
    map (λ k. name_told b (word_of b content k)) (range_with_len k n)

-- the names that are told from one word on
abbrev pub names_left : List ℕ → List ℕ → ℕ → List (List ℕ)
names_left b content next = names_from b content next (word_count content - next)

-- the children that the content of a node tells, or the place of its first bad word
abbrev pub children_told : List ℕ → List ℕ → Result Holds JrtError
children_told b content =
    unless_fault (words_fault (is_child_sound b content) (word_count content))
    (Children (names_left b content 0))

-- The form of pairs

-- the first word of a pair is a flag, and the second the place of a text that ends
abbrev pub is_half_sound : List ℕ → ℕ → ℕ → Bool
is_half_sound section k n = if k % 2 == 0 then nat_lt n 2 else text_ends section n

-- word k is there, and is as a word of a pair must be
abbrev pub is_pair_sound : List ℕ → List ℕ → ℕ → Bool
is_pair_sound b content k =
    fits content k && is_half_sound (strings b (head b)) k (word_of b content k)

-- the owner that pair k tells
abbrev pub owner_told : List ℕ → List ℕ → ℕ → Owner
owner_told b content k = record {
  empty = word_of b content (2 * k) == 1;
  «module» = text_at (strings b (head b)) (word_of b content (2 * k + 1));
}

-- the owners that n pairs tell, from one on
abbrev pub owners_from : List ℕ → List ℕ → ℕ → ℕ → List Owner
owners_from b content k n = map (owner_told b content) (range_with_len k n)

-- the owners that are told from one pair on
abbrev pub owners_left : List ℕ → List ℕ → ℕ → List Owner
owners_left b content next = owners_from b content next (pair_count content - next)

-- the owners that the content of a node tells, or the place of its first bad word
abbrev pub owners_told : List ℕ → List ℕ → Result Holds JrtError
owners_told b content =
    unless_fault (words_fault (is_pair_sound b content) (2 * pair_count content))
    (Owners (owners_left b content 0))

-- Either form

-- word k is as it must be in a content of this form
abbrev pub is_word_sound : List ℕ → List ℕ → Form → ℕ → Bool
is_word_sound b content form.Children = is_child_sound b content
is_word_sound b content form.Owners = is_pair_sound b content

-- how many words a content of this form is read as
abbrev pub words_read : List ℕ → Form → ℕ
words_read content form.Children = word_count content
words_read content form.Owners = 2 * pair_count content

-- the place of the first bad word of a content of this form
abbrev pub bad_word : List ℕ → List ℕ → Form → Option ℕ
bad_word b content form = first_bad_word (is_word_sound b content form) (words_read content form)

-- `BadNode` with that place
abbrev pub fault_of : List ℕ → List ℕ → Form → Option JrtError
fault_of b content form = words_fault (is_word_sound b content form) (words_read content form)

-- all that a content of this form tells
abbrev pub all_told : List ℕ → List ℕ → Form → Holds
all_told b content form.Children = Children (names_left b content 0)
all_told b content form.Owners = Owners (owners_left b content 0)

-- what it tells, or the place of its first bad word
abbrev pub told_in : List ℕ → List ℕ → Form → Result Holds JrtError
told_in b content form.Children = children_told b content
told_in b content form.Owners = owners_told b content

-- The rule

-- the least word of a content of this form that isn't as it must be stands at this place
pub record HasBadWord (b content : List ℕ) (form : Form) (at : ℕ) : Type 0 where
  pub k : ℕ
  pub place : at ≡ 4 * k
  pub read : k < words_read content form
  pub bad : is_word_sound b content form k ≡ false
  pub before : (j : ℕ) → j < k → is_word_sound b content form j ≡ true

-- each word of a content of this form is as it must be
abbrev pub HasNoBadWord : List ℕ → List ℕ → Form → Type 0
HasNoBadWord b content form =
    (k : ℕ) → k < words_read content form → is_word_sound b content form k ≡ true

-- the place of the least bad word, or none where there is no bad word
abbrev pub IsBadWord : List ℕ → List ℕ → Form → Option ℕ → Type 0
IsBadWord b content form (Some at) = HasBadWord b content form at
IsBadWord b content form None = HasNoBadWord b content form

-- the rule: a content of this form tells what all its words tell, where none is bad, and else
-- `BadNode` with the place of the least bad one
abbrev pub Tells : List ℕ → List ℕ → Form → Result Holds JrtError → Type 0
Tells b content form (Ok holds) =
    HasNoBadWord b content form × (holds ≡ all_told b content form)
Tells b content form (Err error) =
    (at : ℕ) × (error ≡ BadNode at) × HasBadWord b content form at
