-- The text of a module's descriptor, one part after another.
use Rattle.std.proofs.Common.{◌≡◌, ℕ, List, ◌∷◌, ◌++◌, flat_map, sym}
use Rattle.std.proofs.lemmas.List.{append_assoc}
use Rattle.jm_names.specs.Shown.{shown}
use Rattle.jm_texts.specs.DescribeText.{behind_comma, listed_behind}

-- the first name stands after the word, and each other one after a comma
pub listed_names : (word name : List ℕ) (names : List (List ℕ))
    → listed_behind word (name ∷ names) ≡ word ++ shown name ++ flat_map behind_comma names
listed_names word name names = sym (append_assoc word (shown name) (flat_map behind_comma names))
