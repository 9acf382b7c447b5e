-- How far the buckets have come that are given their redirects in turn (this project's rule).
use Rattle.std.specs.Prelude.{ℕ, ◌≡◌, ◌<◌, ◌==◌, Bool, List, [], length, map, filter, All}
use Rattle.std.specs.List.{flat_map, range_with_len}
use Rattle.jm_names.specs.Hash.{hash, default_seed}
use Rattle.jm_form.specs.declared.table.Redirect.{Redirect}
use Rattle.jm_form.specs.Greedy.{given_in_turn, buckets_in_turn, names_in, redirect_in}
use Rattle.jm_redirect.specs.declared.turns.Turn.{Turn}
use Rattle.jm_redirect.specs.Marks.{Marks, TakenBelow}
use Rattle.jm_redirect.specs.Turns.{turns_of}

-- the turns of the names of a bucket
abbrev pub turns_in : List (List ℕ) → ℕ → ℕ → List Turn
turns_in names slots bucket =
    filter (λ turn. turn.bucket == bucket) (turns_of (map (hash default_seed) names) slots)

-- a bucket of a table, with names
pub record HasNames (names : List (List ℕ)) (slots bucket : ℕ) : Type 0 where
  pub below : bucket < slots
  pub some : 0 < length (names_in names slots bucket)

-- these turns are left: what the buckets got in front of them stands in the redirects and the
-- flags, and the definition goes on from there
pub record Reached (names : List (List ℕ)) (slots : ℕ) (flags : List Bool)
    (redirects : List Redirect) (free : ℕ) (turns : List Turn) : Type 0 where
  pub taken : List ℕ
  pub given : List (ℕ × Redirect)
  pub buckets : List ℕ
  pub long : length redirects ≡ slots
  pub size : length flags ≡ slots
  pub marks : Marks flags taken
  pub below : TakenBelow free taken
  pub got : redirects ≡ map (redirect_in given) (range_with_len 0 slots)
  pub left : turns ≡ flat_map (turns_in names slots) buckets
  pub sound : All (HasNames names slots) buckets
  pub leads : given_in_turn names slots [] [] (buckets_in_turn names slots) ≡
      given_in_turn names slots taken given buckets
