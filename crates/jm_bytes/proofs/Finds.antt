-- The first element that passes a test, by the elements that a list contains.
use Rattle.std.proofs.Common.{◌≡◌, ◌⊎◌, inl, inr, Bool, true, false, cond, List, [], ◌∷◌, Some, None, Contains, refl, sym, ap, ◌∙◌}
use Rattle.std.proofs.lemmas.Bool.{false≢true}
use Rattle.std.specs.List.{filter, find}
use Rattle.jm_bytes.proofs.Choice.{same_some}
use Rattle.jm_bytes.proofs.Members.{contains_none, contains_here, contains_later, contains_cases}

-- the one element that passes is found
pub find_only : {X : Type 0} (p : X → Bool) (xs : List X) (x : X) → Contains xs x → p x ≡ true → ((y : X) → Contains xs y → p y
    ≡ true → y ≡ x) → find p xs ≡ Some x
find_only p [] x there passes only = absurd (contains_none x there)
find_only {X} p (y ∷ xs) x there passes only = go (p y) refl (contains_cases y xs x there) (λ later. find_only p xs x later passes
    (λ z behind. only z (contains_later y xs z behind)))
  where
    go : (b : Bool) → p y ≡ b → (y ≡ x) ⊎ Contains xs x → (Contains xs x → find p xs ≡ Some x) → cond b (Some y) (find p xs) ≡ Some x
    go true e place rest = ap (λ (z : X). Some z) (only y (contains_here y xs) e)
    go false e (inl same) rest = absurd (false≢true (sym e ∙ ap p same ∙ passes))
    go false e (inr later) rest = rest later

pub find_none : {X : Type 0} (p : X → Bool) (xs : List X) → ((y : X) → Contains xs y → p y ≡ false) → find p xs ≡ None
find_none p [] fails = refl
find_none p (x ∷ xs) fails =
    let here : p x ≡ false = fails x (contains_here x xs) in
    rw here (find_none p xs (λ y there. fails y (contains_later x xs y there)))

-- what is found is contained and passes
pub find_found : {X : Type 0} (p : X → Bool) (xs : List X) (x : X) → find p xs ≡ Some x → Contains xs x × (p x ≡ true)
find_found p [] x e = cc
find_found {X} p (y ∷ xs) x e = go (p y) refl e (λ later. find_found p xs x later)
  where
    go : (b : Bool) → p y ≡ b → cond b (Some y) (find p xs) ≡ Some x → (find p xs ≡ Some x → Contains xs x × (p x ≡ true))
        → Contains (y ∷ xs) x × (p x ≡ true)
    go true passes e rest = let same = same_some y x e in rw (← same) (contains_here y xs, passes)
    go false fails e rest = let both = rest e in (contains_later y xs x both.0, both.1)

-- where none is found none passes
pub find_nowhere : {X : Type 0} (p : X → Bool) (xs : List X) → find p xs ≡ None → (y : X) → Contains xs y → p y ≡ false
find_nowhere p [] e y there = absurd (contains_none y there)
find_nowhere {X} p (x ∷ xs) e y there = go (p x) refl e (contains_cases x xs y there) (λ none later. find_nowhere p xs none y later)
  where
    go : (b : Bool) → p x ≡ b → cond b (Some x) (find p xs) ≡ None → (x ≡ y) ⊎ Contains xs y → (find p xs ≡ None → Contains xs y
        → p y ≡ false) → p y ≡ false
    go true passes e place rest = cc
    go false fails e (inl same) rest = ap p (sym same) ∙ fails
    go false fails e (inr later) rest = rest e later

-- a filter that keeps all that pass, and a test with the same answers
pub find_filtered : {X : Type 0} (p r q : X → Bool) → ((x : X) → r x ≡ p x) → ((x : X) → p x ≡ true → q x ≡ true) → (xs : List X)
    → find r (filter q xs) ≡ find p xs
find_filtered p r q same keeps [] = refl
find_filtered {X} p r q same keeps (x ∷ xs) = go (p x) refl (q x) refl (find_filtered p r q same keeps xs)
  where
    go : (passes : Bool) → p x ≡ passes → (kept : Bool) → q x ≡ kept → find r (filter q xs) ≡ find p xs
        → find r (cond kept (x ∷ filter q xs) (filter q xs)) ≡ cond passes (Some x) (find p xs)
    go true passes false out rest = absurd (false≢true (sym out ∙ keeps x passes))
    go false fails false out rest = rest
    go true passes true kept rest = let here = same x ∙ passes in rw here refl
    go false fails true kept rest = let here = same x ∙ fails in rw here rest
