-- A name as texts with marks around them (jimage 1.0: `/module/parent/base.extension`).
use Rattle.std.specs.Prelude.{ℕ, ◌==◌, List, [], ◌∷◌, ◌++◌, Option, Some, None, option_to_list}
use Rattle.std.specs.Prelude.{if◌then◌else◌}
use Rattle.std.specs.List.{flat_map}
use Rattle.jm_form.specs.Texts.{text_at}
use Rattle.jm_reader.specs.declared.marks.MarkedText.{MarkedText}

-- a text with its marks, which it has only where it isn't empty
abbrev pub marked : Option ℕ → Option ℕ → List ℕ → List ℕ
marked before after [] = []
marked before after (b ∷ text) = option_to_list before ++ ((b ∷ text) ++ option_to_list after)

-- the text at a place of some bytes, with its marks
abbrev pub marked_text : List ℕ → MarkedText → List ℕ
marked_text bytes text = marked text.before text.after (text_at bytes text.place)

-- the texts with their marks, one behind the other
abbrev pub spelling : List ℕ → List MarkedText → List ℕ
spelling bytes texts = flat_map (marked_text bytes) texts

-- what stands behind a mark at the front of a name, and how many bytes the mark takes; nothing
-- where the name doesn't begin with the mark
abbrev pub behind_mark : Option ℕ → List ℕ → ℕ × List ℕ
behind_mark None name = (0, name)
behind_mark (Some mark) [] = (0, [])
behind_mark (Some mark) (b ∷ name) = if b == mark then (1, name) else (0, [])
