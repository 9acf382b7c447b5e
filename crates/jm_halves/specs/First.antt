-- The least place with a value (this project's rule: the answer that one thread gives).
use Rattle.std.specs.Prelude.{ℕ, ◌<◌, ◌≤◌, Option, Some, None, IfSome, IfNone}

-- the least place from low on and below high that has a value, with the value, or none has one;
-- `gives` says of a place which value it has, if it has one
pub record IsFirstIn {D : Type 0}
    (gives : ℕ → Option D → Type 0) (low high : ℕ) (found : Option (ℕ × D)) : Type 0 where
  -- what is found is the value at a place within
  pub value : IfSome found (λ r. (low ≤ r.0) × (r.0 < high) × gives r.0 (Some r.1))
  -- no place before it has a value
  pub before : IfSome found (λ r. (i : ℕ) → low ≤ i → i < r.0 → gives i None)
  -- where nothing is found, no place has a value
  pub none : IfNone found ((i : ℕ) → low ≤ i → i < high → gives i None)
