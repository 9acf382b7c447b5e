-- The rank of a name by patterns, and by the place at which it stands in a list of names.
use Rattle.std.proofs.Common.{◌≡◌, ℕ, ◌+◌, ◌<◌, ◌≤◌, List, [], ◌∷◌, ◌++◌, Some, None, Bool, true, false, cond, not}
use Rattle.std.proofs.Common.{get_or, nat_lt, take, length, map, suc, refl, sym, ap, ◌∙◌, arith}
use Rattle.std.specs.List.{filter, list_any, position, position_or_len}
use Rattle.std.specs.Prelude.{unwrap_or, ◌||◌}
use Rattle.std.specs.Str.{bytes_eq}
use Rattle.std.proofs.lemmas.Bool.{false≢true}
use Rattle.std.proofs.lemmas.Bool.Decides.{nat_tests}
use Rattle.std.proofs.lemmas.List.{length-take-le, take_all, take_more}
use Rattle.std.proofs.lemmas.List.Sums.{prefix_len-le-length}
use Rattle.std.proofs.lemmas.Slice.Eq.{bytes_eq-Decides}
use Rattle.jm_pattern.specs.declared.signs.Sign.{Sign}
use Rattle.jm_pattern.specs.ComputedMatching.{matches, matches_any}
use Rattle.jm_pattern.specs.Numbers.{number_of, with_number}
use Rattle.jm_pattern.proofs.NumberLaws.{numbered_more}
use Rattle.jm_plugins.specs.Matching.{excluded}
use Rattle.jm_plugins.specs.Numbered.{AreNumbered}
use Rattle.jm_plugins.specs.Steps.{rank}
use Rattle.jm_plugins.proofs.OrderLaws.{filter_alike}

-- the first test of a list that is made of one
pub rank_of_map : {X : Type 0} (f : X → List ℕ → Bool) (xs : List X) (name : List ℕ) → rank (map f xs) name
    ≡ position_or_len (λ x. f x name) xs
rank_of_map f [] name = refl
rank_of_map f (x ∷ xs) name = ap (λ (n : ℕ). cond (not (f x name)) (1 + n) 0) (rank_of_map f xs name)

-- tests with the same answers
position_alike : {X : Type 0} (p q : X → Bool) → ((x : X) → p x ≡ q x) → (xs : List X) → position_or_len p xs ≡ position_or_len q xs
position_alike p q same [] = refl
position_alike p q same (x ∷ xs) = rw (same x, position_alike p q same xs) refl

bytes_same : (xs ys : List ℕ) → bytes_eq xs ys ≡ bytes_eq ys xs
bytes_same xs ys = go (bytes_eq xs ys) refl (bytes_eq ys xs) refl
  where
    go : (a : Bool) → bytes_eq xs ys ≡ a → (b : Bool) → bytes_eq ys xs ≡ b → bytes_eq xs ys ≡ bytes_eq ys xs
    go true one true other = one ∙ sym other
    go false one false other = one ∙ sym other
    go true one false other = absurd (false≢true (sym other ∙ (bytes_eq-Decides ys xs).1 (sym ((bytes_eq-Decides xs ys).0 one))))
    go false one true other = absurd (false≢true (sym one ∙ (bytes_eq-Decides xs ys).1 (sym ((bytes_eq-Decides ys xs).0 other))))

-- the rank of a name by its first place
pub rank_of_names : (names : List (List ℕ)) (name : List ℕ) → position_or_len (bytes_eq name) names ≡ rank (map bytes_eq names) name
rank_of_names names name = position_alike (bytes_eq name) (λ other. bytes_eq other name) (bytes_same name) names
    ∙ sym (rank_of_map bytes_eq names name)

-- that place by the numbers
pub numbered_first : (names : List (List ℕ)) (numbers : List (List ℕ × ℕ)) (name : List ℕ) → AreNumbered names numbers
    → unwrap_or (number_of name numbers) (length names) ≡ position_or_len (bytes_eq name) names
numbered_first names numbers name are = ap (λ o. unwrap_or o (length names)) (are name) ∙ given (position_or_len (bytes_eq name) names)
    (length names) (prefix_len-le-length (λ other. not (bytes_eq name other)) names)
  where
    given : (a n : ℕ) → a ≤ n → unwrap_or (cond (nat_lt a n) (Some a) None) n ≡ a
    given a n within = grind (arith, nat_tests)

-- a name more
pub numbered_on : (names : List (List ℕ)) (count : ℕ) (numbers : List (List ℕ × ℕ)) (name : List ℕ) → count < length names
    → get_or names count [] ≡ name → AreNumbered (take count names) numbers
    → AreNumbered (take (count + 1) names) (with_number name count numbers)
numbered_on names count numbers name below here are text =
    ap (λ (k : ℕ). number_of text (with_number name k numbers)) (sym (length-take-le count names (omega (arith, below))))
    ∙ numbered_more bytes_eq (take count names) name name numbers (λ other. refl) are text
    ∙ ap (λ n. position (bytes_eq text) (take count names ++ n ∷ [])) (sym here)
    ∙ ap (position (bytes_eq text)) (sym (take_more names count [] below))

pub numbered_all : (names : List (List ℕ)) (count : ℕ) (numbers : List (List ℕ × ℕ)) → length names ≤ count
    → AreNumbered (take count names) numbers → AreNumbered names numbers
numbered_all names count numbers past are text = are text ∙ ap (position (bytes_eq text)) (take_all count names past)

-- an element passes where the first that does is one of the list
any_first : {X : Type 0} (p : X → Bool) (xs : List X) → nat_lt (position_or_len p xs) (length xs) ≡ list_any p xs
any_first p [] = grind (arith, nat_tests)
any_first p (x ∷ xs) = go (p x) (any_first p xs)
  where
    go : (b : Bool) → nat_lt (position_or_len p xs) (length xs) ≡ list_any p xs → nat_lt (cond (not b) (1 + position_or_len p xs) 0)
        (suc (length xs)) ≡ (b || list_any p xs)
    go true rest = grind (arith, nat_tests)
    go false rest = grind (arith, nat_tests, rest)

-- what is left of the pairs where those so matched are dropped
pub excluded_is : (patterns : List (List Sign)) (pairs : List (List ℕ × List ℕ))
    → filter (λ pair. not (nat_lt (position_or_len (λ pattern. matches pattern pair.0) patterns) (length patterns))) pairs
    ≡ excluded patterns pairs
excluded_is patterns pairs = filter_alike
    (λ pair. not (nat_lt (position_or_len (λ pattern. matches pattern pair.0) patterns) (length patterns)))
    (λ pair. not (matches_any patterns pair.0)) (λ pair. ap not (any_first (λ pattern. matches pattern pair.0) patterns)) pairs
