-- A table that serves its names (jimage 1.0): the look-up leads each name to its slot.
use Rattle.std.specs.Prelude.{ℕ, ◌≡◌, ◌≢◌, ◌<◌, List, [], length, Some, AllPairs, slice_index}
use Rattle.std.specs.Prelude.{slice_index_or}
use Rattle.jm_form.specs.Greedy.{bucket_of}
use Rattle.jm_form.specs.Table.{redirect_of, slot_of}

-- the redirect word of each name's bucket leads the name to its slot, in the look-up's own words,
-- and no two names share one
pub record Serves (names : List (List ℕ)) (slots : ℕ) (words given : List ℕ) : Type 0 where
  pub words_length : length words ≡ slots
  pub given_length : length given ≡ length names
  pub led : (place : ℕ) → place < length names →
      slot_of slots (slice_index_or names place [])
      (redirect_of (slice_index words (bucket_of slots (slice_index_or names place []))))
      ≡ Some (slice_index given place)
  pub apart : AllPairs (λ a b. a ≢ b) given
