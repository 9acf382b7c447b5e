-- Texts of the strings section: each ends at a zero byte (jimage 1.0).
use Rattle.std.specs.Prelude.{ℕ, ◌+◌, ◌-◌, ◌<◌, ◌==◌, Bool, List, length, drop}
use Rattle.std.specs.List.{after_last, before_first, list_any}

-- the bytes from a place up to the next zero byte
abbrev pub text_at : List ℕ → ℕ → List ℕ
text_at section place = before_first (λ x. x == 0) (drop place section)

-- a zero byte stands at the place or behind it
abbrev pub text_ends : List ℕ → ℕ → Bool
text_ends section place = list_any (λ x. x == 0) (drop place section)

-- the text at a place ends within the bytes, at a zero byte of them
pub record EndsWithin (bytes : List ℕ) (place : ℕ) : Type 0 where
  pub within : place + length (text_at bytes place) < length bytes

-- how many bytes stand in front of what is behind the last zero byte: 0 where no byte is zero
abbrev pub ended_length : List ℕ → ℕ
ended_length section = length section - length (after_last (λ x. x == 0) section)
