-- The lengths that are still to be tried.
use Rattle.std.proofs.Common.{◌≡◌, ℕ, suc, ◌+◌, ◌-◌, ◌%◌, ◌==◌, ◌<◌, ◌≤◌, Bool, true, false, cond, List, []}
use Rattle.std.proofs.Common.{◌∷◌, Option, Some, None, All, refl, ap, ◌∙◌, arith}
use Rattle.std.proofs.lemmas.Bool.{eqb-true, eqb-false}
use Rattle.std.proofs.lemmas.List.Elements.{All-nil, All-cons}
use Rattle.std.specs.Option.{option_or}
use Rattle.jm_form.specs.Greedy.{GreedyTable, greedy, greedy_among, table_lengths, lengths_from, next_length}

-- the lengths behind so many
pub lengths_left : ℕ → ℕ → List ℕ
lengths_left tried slots = lengths_from (64 - tried) slots

pub lengths_all : (count : ℕ) → table_lengths count ≡ lengths_left 0 count
unfolding table_lengths lengths_left
lengths_all count = refl

pub lengths_none : (tried slots : ℕ) → 64 ≤ tried → lengths_left tried slots ≡ []
unfolding lengths_left
lengths_none tried slots all = let none : 64 - tried ≡ 0 = omega arith in ap (λ n. lengths_from n slots) none

pub lengths_next : (tried slots : ℕ) → tried < 64 → lengths_left tried slots ≡ slots ∷ lengths_left (tried + 1) (next_length slots)
unfolding lengths_left
lengths_next tried slots below = let left : 64 - tried ≡ suc (64 - (tried + 1)) = omega arith in ap (λ n. lengths_from n slots) left

-- a length that has a table, and one that has none
pub among_here : (names : List (List ℕ)) (tried slots : ℕ) (table : GreedyTable) → tried < 64 → greedy names slots ≡ Some table
    → greedy_among names (lengths_left tried slots) ≡ Some table
among_here names tried slots table below is = ap (greedy_among names) (lengths_next tried slots below) ∙ first (greedy names slots) is
  where
    first : (o : Option GreedyTable) → o ≡ Some table
        → option_or o (greedy_among names (lengths_left (tried + 1) (next_length slots))) ≡ Some table
    first o is = rw is refl

pub among_later : (names : List (List ℕ)) (tried slots : ℕ) → tried < 64 → greedy names slots ≡ None
    → greedy_among names (lengths_left tried slots) ≡ greedy_among names (lengths_left (tried + 1) (next_length slots))
among_later names tried slots below is = ap (greedy_among names) (lengths_next tried slots below) ∙ later (greedy names slots) is
  where
    later : (o : Option GreedyTable) → o ≡ None → option_or o (greedy_among names (lengths_left (tried + 1) (next_length slots)))
        ≡ greedy_among names (lengths_left (tried + 1) (next_length slots))
    later o is = rw is refl

-- no length has a table
pub among_none : (names : List (List ℕ)) (lengths : List ℕ) → greedy_among names lengths ≡ None → All (λ slots. greedy names slots
    ≡ None) lengths
among_none names [] none = All-nil (λ slots. greedy names slots ≡ None)
among_none names (slots ∷ lengths) none = go (greedy names slots) refl none (λ rest. among_none names lengths rest)
  where
    go : (o : Option GreedyTable) → greedy names slots ≡ o → option_or o (greedy_among names lengths) ≡ None
        → (greedy_among names lengths ≡ None → All (λ s. greedy names s ≡ None) lengths)
        → All (λ s. greedy names s ≡ None) (slots ∷ lengths)
    go None e none rest = All-cons (λ s. greedy names s ≡ None) slots lengths e (rest none)
    go (Some table) e none rest = cc

-- the next length is one or two more
pub next_within : (slots : ℕ) → (slots ≤ next_length slots) × (next_length slots ≤ slots + 2)
next_within slots = go ((slots + 1) % 2 == 0)
  where
    go : (b : Bool) → (slots ≤ cond b (slots + 2) (slots + 1)) × (cond b (slots + 2) (slots + 1) ≤ slots + 2)
    go true = (omega arith, omega arith)
    go false = (omega arith, omega arith)

-- the next length, as the code adds to it
pub next_odd : (slots : ℕ) → slots + (1 + slots % 2) ≡ next_length slots
next_odd slots = go ((slots + 1) % 2 == 0) refl
  where
    go : (b : Bool) → ((slots + 1) % 2 == 0) ≡ b → slots + (1 + slots % 2) ≡ cond b (slots + 2) (slots + 1)
    go true test = let even = eqb-true ((slots + 1) % 2) 0 test in omega (arith, even)
    go false test = let odd = eqb-false ((slots + 1) % 2) 0 test in omega (arith, odd)
