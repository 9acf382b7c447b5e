-- Lists, one item more.
use Rattle.std.proofs.Common.{◌≡◌, ℕ, zero, suc, ◌+◌, ◌<◌, List, [], ◌∷◌, ◌++◌, length, take, drop, get_or}
use Rattle.std.proofs.Common.{slice_get, Some, All, map, option_map, subst, refl, sym, ap, ◌∙◌, arith}
use Rattle.std.proofs.lemmas.List.Elements.{All-push}

-- what is left from a place on begins with the item there
pub drop_there : {A : Type 0} (xs : List A) (i : ℕ) (x : A) → slice_get xs i ≡ Some x → drop i xs ≡ x ∷ drop (i + 1) xs
drop_there [] i x is = cc
drop_there (y ∷ xs) zero x is = cc
drop_there (y ∷ xs) (suc i) x is = let next : suc i + 1 ≡ suc (i + 1) = omega arith in rw next (drop_there xs i x is)

pub take_there : {A : Type 0} (xs : List A) (i : ℕ) (x : A) → slice_get xs i ≡ Some x → take (i + 1) xs ≡ take i xs ++ x ∷ []
take_there [] i x is = cc
take_there (y ∷ xs) zero x is = cc
take_there (y ∷ xs) (suc i) x is = let next : suc i + 1 ≡ suc (i + 1) = omega arith in rw next (ap (λ l. y ∷ l) (take_there xs i x is))

pub drop_at_index : {A : Type 0} (xs : List A) (i : ℕ) (d : A) → i < length xs → drop i xs ≡ get_or xs i d ∷ drop (i + 1) xs
drop_at_index [] i d below = absurd (omega arith)
drop_at_index (y ∷ xs) zero d below = refl
drop_at_index (y ∷ xs) (suc i) d below = let next : suc i + 1 ≡ suc (i + 1) = omega arith in rw next (drop_at_index xs i d (omega arith))

-- nothing is left at the end
pub drop_none : {A : Type 0} (xs : List A) (i : ℕ) → length xs ≡ i → drop i xs ≡ []
drop_none [] i is = rw (sym is) refl
drop_none (x ∷ xs) zero is = absurd (omega arith)
drop_none (x ∷ xs) (suc i) is = drop_none xs i (omega arith)

-- lists with the same items at all places
pub same_items : {A : Type 0} (xs ys : List A) (d : A) → length xs ≡ length ys → ((i : ℕ) → i < length ys → get_or xs i d
    ≡ get_or ys i d) → xs ≡ ys
same_items [] [] d long same = refl
same_items [] (y ∷ ys) d long same = absurd (omega arith)
same_items (x ∷ xs) [] d long same = absurd (omega arith)
same_items (x ∷ xs) (y ∷ ys) d long same =
    ap (λ h. h ∷ xs) (same 0 (omega arith)) ∙ ap (λ l. y ∷ l) (same_items xs ys d (omega arith) (λ i below. same (suc i) (omega arith)))

mapped_there : {A B : Type 0} (f : A → B) (xs : List A) (i : ℕ) (x : A) → slice_get xs i ≡ Some x → slice_get (map f xs) i ≡ Some (f x)
mapped_there f [] i x is = cc
mapped_there f (y ∷ xs) zero x is = ap (option_map f) is
mapped_there f (y ∷ xs) (suc i) x is = mapped_there f xs i x is

-- what holds of the first items under a function holds with one item more
pub all_mapped : {A B : Type 0} (P : B → Type 0) (f : A → B) (xs : List A) (i : ℕ) (x : A) → slice_get xs i ≡ Some x
    → All P (take i (map f xs)) → P (f x) → All P (take (i + 1) (map f xs))
all_mapped P f xs i x is before one =
    subst (All P) (sym (take_there (map f xs) i (f x) (mapped_there f xs i x is))) (All-push P (take i (map f xs)) (f x) before one)
