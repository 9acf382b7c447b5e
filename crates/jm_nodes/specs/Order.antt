-- Lists of texts in byte order, and lists of the same elements (this project's rule).
use Rattle.std.specs.Prelude.{ℕ, ◌≡◌, Bool, List, AllPairs, Contains}
use Rattle.std.specs.Cmp.Lexicographic.{slice_cmp}
use Rattle.std.specs.List.{list_any}
use Rattle.std.specs.Ordering.{nat_cmp}
use Rattle.std.specs.Str.{bytes_eq}
use Rattle.std.specs.declared.cmp.Ordering.TheVariants.{Less}

-- each text stands in byte order before all later ones
abbrev pub IsRising : List (List ℕ) → Type 0
IsRising texts = AllPairs (λ text later. slice_cmp nat_cmp text later ≡ Less) texts

-- the text is one of these
abbrev pub is_among : List ℕ → List (List ℕ) → Bool
is_among text texts = list_any (λ other. bytes_eq other text) texts

-- each element of one list is one of the other
pub record SameElements {X : Type 0} (xs ys : List X) : Type 0 where
  pub has : (x : X) → Contains xs x → Contains ys x
  pub only : (x : X) → Contains ys x → Contains xs x
