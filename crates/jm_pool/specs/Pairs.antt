-- A pool of resources: pairs of a name and its bytes, in an order (this project's rule).
use Rattle.std.specs.Prelude.{ℕ, ◌≢◌, Bool, List, Option, map, filter, slice_get, slice_set}
use Rattle.std.specs.Prelude.{IsPermutation}
use Rattle.std.specs.List.{zip, filter_map, range_with_len, AllPairs}
use Rattle.std.specs.Map.{lookup}
use Rattle.std.specs.Str.{bytes_eq}

-- the names, in order
abbrev pub names_of : List (List ℕ × List ℕ) → List (List ℕ)
names_of pairs = map (λ p. p.0) pairs

-- the bytes of all names, in order
abbrev pub contents_of : List (List ℕ × List ℕ) → List (List ℕ)
contents_of pairs = map (λ p. p.1) pairs

-- no two pairs have the same name
abbrev pub NamesDiffer : List (List ℕ × List ℕ) → Type 0
NamesDiffer pairs = AllPairs (λ one other. one ≢ other) (names_of pairs)

-- the bytes of a name, or none
abbrev pub bytes_of : List ℕ → List (List ℕ × List ℕ) → Option (List ℕ)
bytes_of name pairs = lookup (λ other. bytes_eq name other) pairs

-- the items whose flag is true, in their order
abbrev pub flagged_items : {X : Type 0} → List Bool → List X → List X
flagged_items flags items = map (λ p. p.1) (filter (λ p. p.0) (zip flags items))

-- the items at these places, in the order of the places
abbrev pub items_at : {X : Type 0} → List ℕ → List X → List X
items_at places items = filter_map (λ place. slice_get items place) places

-- the list has each place below n once
abbrev pub IsOrderOf : ℕ → List ℕ → Type 0
IsOrderOf n places = IsPermutation (range_with_len 0 n) places

-- the pairs, with other bytes for the name at a place
abbrev pub with_bytes_at : List (List ℕ × List ℕ) → ℕ → List ℕ → List (List ℕ × List ℕ)
with_bytes_at pairs place bytes = zip (names_of pairs) (slice_set (contents_of pairs) place bytes)
