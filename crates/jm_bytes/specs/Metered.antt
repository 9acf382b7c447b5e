-- A counter of bytes read, with the bytes that it is tied to (this project's rule).
use Rattle.std.specs.Prelude.{◌≡◌, ◌≤◌, ◌+◌, ℕ, List}

-- a count of bytes read, with the bytes that it is tied to
pub record Metered : Type 0 where
  pub bytes : List ℕ
  pub count : ℕ

-- n more bytes of the same list were read
pub record Costs (old new : Metered) (n : ℕ) : Type 0 where
  pub bytes : new.bytes ≡ old.bytes
  pub count : new.count ≡ old.count + n

-- a count rose by at most n
pub record RisesAtMost (old new n : ℕ) : Type 0 where
  pub least : old ≤ new
  pub most : new ≤ old + n

-- at most n more bytes of the same list were read
pub record CostsAtMost (old new : Metered) (n : ℕ) : Type 0 where
  pub bytes : new.bytes ≡ old.bytes
  pub count : RisesAtMost old.count new.count n
