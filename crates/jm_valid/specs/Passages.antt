-- What texts do to all states of the hash (this project's rule).
use Rattle.std.specs.Prelude.{◌≡◌, ◌≤◌, ℕ, ◌-◌, ◌*◌, List, length, map}
use Rattle.std.specs.List.{range_with_len}
use Rattle.jm_form.specs.Texts.{text_at}
use Rattle.jm_names.specs.Hash.{state_after}

-- The passage of a text: the states after it of the numbers from 0 to 256.
abbrev pub passage_of : List ℕ → List ℕ
passage_of text = map (λ state. state_after state text) (range_with_len 0 257)

-- The passage of the text at the place that lies so many stretches of 512 bytes from the front.
abbrev pub nth_passage : List ℕ → ℕ → List ℕ
nth_passage texts nth = passage_of (text_at texts (nth * 512))

-- The passages of the texts at the first so many such places, the last place first.
abbrev pub passages : List ℕ → ℕ → List (List ℕ)
passages texts count = map (λ k. nth_passage texts (count - 1 - k)) (range_with_len 0 count)

-- These are the passages of as many such places as there are of them, which may be none.
abbrev pub ArePassages : List ℕ → List (List ℕ) → Type 0
ArePassages texts ps = ps ≡ passages texts (length ps)

-- A text has 512 bytes or more.
abbrev pub HasLongText : List ℕ → Type 0
HasLongText texts = (place : ℕ) × (512 ≤ length (text_at texts place))
