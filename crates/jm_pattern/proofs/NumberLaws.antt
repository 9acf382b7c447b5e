-- Texts with the numbers under which they came first.
use Rattle.std.proofs.Common.{◌≡◌, ◌==◌, ℕ, ◌+◌, ◌≤◌, List, [], ◌∷◌, ◌++◌, Option, Some, None, Bool, true, false, cond, not}
use Rattle.std.proofs.Common.{nat_lt, length, map, is_some, refl, sym, ap, ◌∙◌, arith}
use Rattle.std.specs.List.{position, position_or_len}
use Rattle.std.specs.Map.{lookup}
use Rattle.std.specs.Str.{bytes_eq}
use Rattle.std.proofs.lemmas.List.{length_push}
use Rattle.std.proofs.lemmas.Bool.Decides.{nat_tests}
use Rattle.std.proofs.lemmas.List.Folds.{position_or_len_push}
use Rattle.std.proofs.lemmas.List.Sums.{prefix_len-le-length}
use Rattle.std.proofs.lemmas.Slice.Eq.{bytes_eq-Decides}
use Rattle.jm_pattern.specs.Numbers.{number_of, with_number}

-- the first of two values
abbrev pub or_else : {A : Type 0} → Option A → Option A → Option A
or_else o later = cond (is_some o) o later

-- the number of a text among some entries is that among the pairs that show them
pub lookup_numbers : {K : Type 0} (key : K → List ℕ) (text : List ℕ) (es : List (K × ℕ)) → lookup (λ k. bytes_eq text (key k)) es
    ≡ number_of text (map (λ e. (key e.0, e.1)) es)
lookup_numbers key text [] = refl
lookup_numbers key text (e ∷ es) = ap (cond (bytes_eq text (key e.0)) (Some e.1)) (lookup_numbers key text es)

-- a pair more
number_push : (text other : List ℕ) (number : ℕ) (pairs : List (List ℕ × ℕ)) → number_of text (pairs ++ (other, number) ∷ [])
    ≡ or_else (number_of text pairs) (cond (bytes_eq text other) (Some number) None)
number_push text other number [] = refl
number_push text other number (p ∷ pairs) = go (bytes_eq text p.0) (number_push text other number pairs)
  where
    go : (b : Bool) → number_of text (pairs ++ (other, number) ∷ []) ≡ or_else (number_of text pairs)
        (cond (bytes_eq text other) (Some number) None)
        → cond b (Some p.1) (number_of text (pairs ++ (other, number) ∷ []))
        ≡ or_else (cond b (Some p.1) (number_of text pairs)) (cond (bytes_eq text other) (Some number) None)
    go true rest = refl
    go false rest = rest

-- a new text goes last
pub number_new : (text : List ℕ) (number : ℕ) (pairs : List (List ℕ × ℕ)) → number_of text pairs ≡ None
    → pairs ++ (text, number) ∷ [] ≡ with_number text number pairs
number_new text number pairs none = rw none refl

-- a text more, where it is new
number_more : (text other : List ℕ) (number : ℕ) (pairs : List (List ℕ × ℕ)) → number_of text (with_number other number pairs)
    ≡ or_else (number_of text pairs) (cond (bytes_eq text other) (Some number) None)
number_more text other number pairs = go (number_of other pairs) refl (bytes_eq text other) refl
  where
    kept : (o : Option ℕ) → o ≡ or_else o None
    kept None = refl
    kept (Some n) = refl

    some : (o : Option ℕ) (m : ℕ) → o ≡ Some m → o ≡ or_else o (Some number)
    some None m is = cc
    some (Some n) m is = refl

    there : (m : ℕ) → number_of other pairs ≡ Some m → (b : Bool) → bytes_eq text other ≡ b → number_of text pairs
        ≡ or_else (number_of text pairs) (cond b (Some number) None)
    there m is true same = some (number_of text pairs) m (ap (λ t. number_of t pairs) ((bytes_eq-Decides text other).0 same) ∙ is)
    there m is false other_text = kept (number_of text pairs)

    go : (o : Option ℕ) → number_of other pairs ≡ o → (b : Bool) → bytes_eq text other ≡ b
        → number_of text (cond (is_some (number_of other pairs)) pairs (pairs ++ (other, number) ∷ []))
        ≡ or_else (number_of text pairs) (cond (bytes_eq text other) (Some number) None)
    go None is b same = rw is (number_push text other number pairs)
    go (Some m) is b same = rw (is, same) (there m is b same)

-- an element more in a search
module _ {X : Type 0} (p : X → Bool) where
  placed : (a n : ℕ) (b : Bool) → a ≤ n → cond (nat_lt (cond (a == n) (n + cond b 0 1) a) (n + 1)) (Some (cond (a == n)
      (n + cond b 0 1) a)) None ≡ or_else (cond (nat_lt a n) (Some a) None) (cond b (Some n) None)
  placed a n true within = grind (arith, nat_tests)
  placed a n false within = grind (arith, nat_tests)

  abbrev pushed : List X → X → ℕ
  pushed xs x = cond (position_or_len p xs == length xs) (length xs + cond (p x) 0 1) (position_or_len p xs)

  pub position_push : (xs : List X) (x : X) → position p (xs ++ x ∷ []) ≡ or_else (position p xs) (cond (p x) (Some (length xs)) None)
  position_push xs x =
      ap (λ (a : ℕ). cond (nat_lt a (length (xs ++ x ∷ []))) (Some a) None) (position_or_len_push p xs x)
      ∙ ap (λ (n : ℕ). cond (nat_lt (pushed xs x) n) (Some (pushed xs x)) None) (length_push xs x)
      ∙ placed (position_or_len p xs) (length xs) (p x) (prefix_len-le-length (λ y. not (p y)) xs)

-- numbers that are those of the first elements with a text, with an element more
pub numbered_more : {X : Type 0} (test : List ℕ → X → Bool) (xs : List X) (x : X) (other : List ℕ) (pairs : List (List ℕ × ℕ))
    → ((text : List ℕ) → test text x ≡ bytes_eq text other)
    → ((text : List ℕ) → number_of text pairs ≡ position (test text) xs) → (text : List ℕ)
    → number_of text (with_number other (length xs) pairs) ≡ position (test text) (xs ++ x ∷ [])
numbered_more test xs x other pairs own so_far text =
    number_more text other (length xs) pairs
    ∙ ap (λ o. or_else o (cond (bytes_eq text other) (Some (length xs)) None)) (so_far text)
    ∙ ap (λ b. or_else (position (test text) xs) (cond b (Some (length xs)) None)) (sym (own text))
    ∙ sym (position_push (test text) xs x)
