-- Which resources the patterns and the names of a plug-in take (JEP 282; the patterns are this
-- project's rule).
use Rattle.std.specs.Prelude.{ℕ, Bool, not, List, [], ◌∷◌, ◌++◌, filter, map}
use Rattle.std.specs.Str.{bytes_eq}
use Rattle.jm_pattern.specs.declared.signs.Sign.{Sign}
use Rattle.jm_pattern.specs.ComputedMatching.{matches, matches_any}

-- the pairs whose name no pattern matches
abbrev pub excluded : List (List Sign) → List (List ℕ × List ℕ) → List (List ℕ × List ℕ)
excluded patterns pairs = filter (λ pair. not (matches_any patterns pair.0)) pairs

-- test by test, the pairs whose name passes it and no earlier one, then those whose name passes
-- none, each part in the order of the list
abbrev pub ranked : List (List ℕ → Bool) → List (List ℕ × List ℕ) → List (List ℕ × List ℕ)
ranked [] pairs = pairs
ranked (test ∷ tests) pairs =
    filter (λ pair. test pair.0) pairs
    ++ ranked tests (filter (λ pair. not (test pair.0)) pairs)

-- pattern by pattern, the pairs that match it and no earlier one, then those that match none
abbrev pub ordered : List (List Sign) → List (List ℕ × List ℕ) → List (List ℕ × List ℕ)
ordered patterns pairs = ranked (map matches patterns) pairs

-- the pairs of these names, in the order of the names, then those of other names
abbrev pub kept : List (List ℕ) → List (List ℕ × List ℕ) → List (List ℕ × List ℕ)
kept names pairs = ranked (map bytes_eq names) pairs
