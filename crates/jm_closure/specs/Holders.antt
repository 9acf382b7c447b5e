-- Which places hold which texts, and the least text that two places hold (this project's rule).
use Rattle.std.specs.Prelude.{ℕ, ◌≡◌, ◌≢◌, ◌↔◌, ◌<◌, List, ◌++◌, Option, Some, None, Contains, map}
use Rattle.jm_closure.specs.Least.{IsLeastOf}
use Rattle.jm_closure.specs.Places.{place_in}

-- two places hold the text
abbrev pub IsHeldTwice : (ℕ → List ℕ → Type 0) → List ℕ → Type 0
IsHeldTwice Held text = (i : ℕ) × (j : ℕ) × (i ≢ j) × Held i text × Held j text

-- one place of each text that is held, and the least text that two hold
pub record Noted (Held : ℕ → List ℕ → Type 0) (holders : List (List ℕ × ℕ))
    (least : Option (List ℕ)) : Type 0 where
  pub holder : (text : List ℕ) (i : ℕ) → place_in holders text ≡ Some i → Held i text
  pub unheld : (text : List ℕ) → place_in holders text ≡ None → (i : ℕ) → ¬ Held i text
  pub least_twice : IsLeastOf (IsHeldTwice Held) least

-- a list of places with texts says so
abbrev pub Pairs : List (ℕ × List ℕ) → ℕ → List ℕ → Type 0
Pairs pairs i text = Contains pairs (i, text)

-- a place holds these texts besides
abbrev pub besides : List (ℕ × List ℕ) → ℕ → List (List ℕ) → List (ℕ × List ℕ)
besides pairs place texts = pairs ++ map (λ text. (place, text)) texts

-- whatever is noted, it is noted with these texts of a place besides
abbrev pub Notes : List (List ℕ × ℕ) → Option (List ℕ) → List (List ℕ × ℕ) → Option (List ℕ)
    → ℕ → List (List ℕ) → Type 0
Notes holders least holders' least' place texts =
    (pairs : List (ℕ × List ℕ)) → Noted (Pairs pairs) holders least
    → Noted (Pairs (besides pairs place texts)) holders' least'

-- what the chosen modules below a place have is noted
abbrev pub NotedBelow : (ℕ → List ℕ → Type 0) → ℕ → List (List ℕ × ℕ) → Option (List ℕ) → Type 0
NotedBelow Held n holders least =
    (pairs : List (ℕ × List ℕ))
    × ((i : ℕ) (text : List ℕ) → Contains pairs (i, text) ↔ ((i < n) × Held i text))
    × Noted (Pairs pairs) holders least
