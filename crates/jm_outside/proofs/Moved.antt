-- Bytes that a source in memory moves.
use Rattle.std.proofs.Common.{◌≡◌, ◌≤◌, ◌+◌, ℕ, List, [], ◌∷◌, ◌++◌, length, take, drop, sym, ap, ◌∙◌, arith}
use Rattle.std.proofs.lemmas.List.{drop-drop, length-take-le, take_at, take-append-drop}
use Rattle.jm_outside.specs.ComputedCuts.{given_count}

-- no more than are left are given
pub given_within : (cuts : List ℕ) (left room : ℕ) → given_count cuts left room ≤ left
given_within [] left room = omega arith
given_within (cut ∷ cuts) left room = omega arith

-- what is left of a text is what moved to a front, and what is left then
pub moved_on : (n at : ℕ) (bytes rest into moved : List ℕ) → rest ≡ drop at bytes → n ≤ length rest
    → moved ≡ take n rest ++ drop n into → drop at bytes ≡ take n moved ++ drop (at + n) bytes
moved_on n at bytes rest into moved is within put =
    let front : take n moved ≡ take n rest = ap (take n) put ∙ take_at (take n rest) (drop n into) n (length-take-le n rest within) in
    let behind : drop (at + n) bytes ≡ drop n rest = sym (drop-drop n at bytes) ∙ ap (drop n) (sym is) in
    rw (front, behind) (sym is ∙ sym (take-append-drop n rest))
