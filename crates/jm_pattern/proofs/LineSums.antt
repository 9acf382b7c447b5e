-- Sums over the lines of a name, of what stands from each line's begin on.
use Rattle.std.proofs.Common.{◌≡◌, ◌≤◌, ◌+◌, ◌∷◌, ◌==◌, [], ℕ, zero, suc, Bool, true, false, cond, List, All, length, refl, arith}
use Rattle.std.proofs.Math.Nat.{le_refl}
use Rattle.std.proofs.lemmas.Bool.{eqb-false}
use Rattle.std.proofs.lemmas.List.Elements.{All-nil, All-cons}
use Rattle.jm_pattern.specs.MatchingSteps.{behind_line}
use Rattle.jm_pattern.specs.MatchingCosts.{line_places}
use Rattle.jm_pattern.proofs.Runs.{InRun}

-- the sum over the lines behind the first
abbrev pub over_later : (List ℕ → ℕ) → List ℕ → ℕ
over_later f [] = 0
over_later f (b ∷ name) = cond (b == 47) (f name + over_later f name) (over_later f name)

-- the sum over all lines
abbrev pub over_lines : (List ℕ → ℕ) → List ℕ → ℕ
over_lines f name = f name + over_later f name

-- what stands so many lines further on
abbrev pub lines_on : ℕ → List ℕ → List ℕ
lines_on zero name = name
lines_on (suc j) name = behind_line (lines_on j name)

-- a line has a place, and all lines have one for each byte and one at the end
pub places_some : (n : List ℕ) → 1 ≤ line_places n
places_some [] = omega arith
places_some (b ∷ n) = go (b == 47)
  where
    go : (slash : Bool) → 1 ≤ cond slash 1 (1 + line_places n)
    go true = omega arith
    go false = omega arith

pub places_all : (n : List ℕ) → over_lines line_places n ≡ length n + 1
places_all [] = refl
places_all (b ∷ n) = go (b == 47) (places_all n)
  where
    go : (slash : Bool) → line_places n + over_later line_places n ≡ length n + 1 → cond slash 1 (1 + line_places n)
        + cond slash (line_places n + over_later line_places n) (over_later line_places n) ≡ suc (length n) + 1
    go true more = omega (arith, more)
    go false more = omega (arith, more)

pub places_most : (n : List ℕ) → line_places n ≤ length n + 1
places_most n = omega (arith, places_all n)

pub behind_line-shorter : (n : List ℕ) → length (behind_line n) ≤ length n
behind_line-shorter [] = omega arith
behind_line-shorter (b ∷ n) = go (b == 47) (behind_line-shorter n)
  where
    go : (slash : Bool) → length (behind_line n) ≤ length n → length (cond slash n (behind_line n)) ≤ suc (length n)
    go true more = omega arith
    go false more = omega (arith, more)

-- the sum of two, and of nothing
later_add : (f g : List ℕ → ℕ) (n : List ℕ) → over_later (λ m. f m + g m) n ≡ over_later f n + over_later g n
later_add f g [] = refl
later_add f g (b ∷ n) = go (b == 47) (later_add f g n)
  where
    go : (slash : Bool) → over_later (λ m. f m + g m) n ≡ over_later f n + over_later g n
        → cond slash (f n + g n + over_later (λ m. f m + g m) n) (over_later (λ m. f m + g m) n) ≡ cond slash (f n + over_later f n)
        (over_later f n) + cond slash (g n + over_later g n) (over_later g n)
    go true more = omega (arith, more)
    go false more = more

pub lines_add : (f g : List ℕ → ℕ) (n : List ℕ) → over_lines (λ m. f m + g m) n ≡ over_lines f n + over_lines g n
lines_add f g n = omega (arith, later_add f g n)

pub later_none : (n : List ℕ) → over_later (λ m. 0) n ≡ 0
later_none [] = refl
later_none (b ∷ n) = go (b == 47) (later_none n)
  where
    go : (slash : Bool) → over_later (λ m. 0) n ≡ 0 → cond slash (0 + over_later (λ m. 0) n) (over_later (λ m. 0) n) ≡ 0
    go true more = omega (arith, more)
    go false more = more

-- the sum of what begins a line later, and some lines later
line_later : (f : List ℕ → ℕ) (n : List ℕ) → over_lines (λ m. f (behind_line m)) n ≡ over_later f n + f []
line_later f [] = omega arith
line_later f (b ∷ n) = go (b == 47) (line_later f n)
  where
    go : (slash : Bool) → over_lines (λ m. f (behind_line m)) n ≡ over_later f n + f [] → f (cond slash n (behind_line n))
        + cond slash (f (behind_line n) + over_later (λ m. f (behind_line m)) n) (over_later (λ m. f (behind_line m)) n)
        ≡ cond slash (f n + over_later f n) (over_later f n) + f []
    go true more = omega (arith, more)
    go false more = more

pub lines_later : (f : List ℕ → ℕ) (j : ℕ) (n : List ℕ) → ((m : List ℕ) → f [] ≤ f m) → over_lines (λ m. f (lines_on j m)) n
    ≤ over_lines f n
lines_later f zero n least = le_refl (over_lines f n)
lines_later f (suc j) n least =
    let first = lines_later (λ m. f (behind_line m)) j n (λ m. least (behind_line m)) in
    omega (arith, first, line_later f n, least n)

-- where a name has a `/`, the first line and the others
pub first_line : (f : List ℕ → ℕ) (n : List ℕ) → ¬ All InRun n → over_lines f n ≡ f n + over_lines f (behind_line n)
first_line f [] slash = absurd (slash (All-nil InRun))
first_line f (b ∷ n) slash = go (b == 47) refl (first_line f n)
  where
    go : (x : Bool) → b == 47 ≡ x → (¬ All InRun n → over_lines f n ≡ f n + over_lines f (behind_line n))
        → f (b ∷ n) + cond x (f n + over_later f n) (over_later f n) ≡ f (b ∷ n) + over_lines f (cond x n (behind_line n))
    go true e more = refl
    go false e more = let later = more (λ a. slash (All-cons InRun b n (eqb-false b 47 e) a)) in omega (arith, later)
