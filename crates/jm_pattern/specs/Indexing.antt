-- Patterns that are looked up by their bytes (words of the proof).
use Rattle.std.specs.Prelude.{ℕ, ◌≡◌, ◌∷◌, [], List, Option, Some, None, Bool, false, option_map}
use Rattle.std.specs.Prelude.{is_none, take, filter, get_or, position}
use Rattle.std.specs.List.{range_with_len}
use Rattle.std.specs.Option.{option_map_or}
use Rattle.std.specs.Str.{bytes_eq}
use Rattle.jm_pattern.specs.Numbers.{number_of}
use Rattle.jm_pattern.specs.declared.signs.Sign.{Sign}
use Rattle.jm_pattern.specs.declared.signs.Sign.TheVariants.{AnyRun, Run, One, Byte}

-- the one text that signs match, where all are bytes
abbrev pub literal : List Sign → Option (List ℕ)
literal [] = Some []
literal (AnyRun ∷ signs) = None
literal (Run ∷ signs) = None
literal (One ∷ signs) = None
literal (Byte b ∷ signs) = option_map (λ text. b ∷ text) (literal signs)

-- signs are the bytes of this text
abbrev pub is_literal : List ℕ → List Sign → Bool
is_literal text signs = option_map_or (bytes_eq text) (literal signs) false

-- of the first so many patterns, each text has the number of the first that is its bytes, and those
-- that aren't bytes alone are told by their numbers, rising
pub record IsIndexTo (count : ℕ) (patterns : List (List Sign)) (literals : List (List ℕ × ℕ))
    (others : List ℕ) : Type 0 where
  pub first : (text : List ℕ)
      → number_of text literals ≡ position (is_literal text) (take count patterns)
  pub rest : others
      ≡ filter (λ number. is_none (literal (get_or patterns number []))) (range_with_len 0 count)
