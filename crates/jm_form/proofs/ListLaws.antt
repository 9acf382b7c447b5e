-- Lists behind a front, and lists that grow with what a function gives of each item.
use Rattle.std.proofs.Common.{◌≡◌, ℕ, suc, ◌+◌, ◌<◌, ◌||◌, Bool, true, false, List, [], ◌∷◌, ◌++◌, take, drop}
use Rattle.std.proofs.Common.{length, get_or, map, append-nil, Option, Some, None, refl, sym, ap, ◌∙◌, arith}
use Rattle.std.proofs.lemmas.List.{take_more}
use Rattle.std.proofs.lemmas.List.Elements.{filter_map-append}
use Rattle.std.specs.List.{cons_option, filter_map, list_any}

-- Behind a front

pub any_behind : (p : ℕ → Bool) (front back : List ℕ) → list_any p back ≡ true → list_any p (front ++ back) ≡ true
any_behind p [] back some = some
any_behind p (b ∷ front) back some = go (p b) (any_behind p front back some)
  where
    go : (c : Bool) → list_any p (front ++ back) ≡ true → (c || list_any p (front ++ back)) ≡ true
    go true rest = refl
    go false rest = rest

pub drop_front : (front back : List ℕ) (k : ℕ) → drop (length front + k) (front ++ back) ≡ drop k back
drop_front [] back k = let none : 0 + k ≡ k = omega arith in ap (λ n. drop n back) none
drop_front (b ∷ front) back k =
    let next : length (b ∷ front) + k ≡ suc (length front + k) = omega arith in
    ap (λ n. drop n (b ∷ (front ++ back))) next ∙ drop_front front back k

-- What a function gives of each item

-- a list that grows with what a function gives of each item
pub grown : {X Y : Type 0} (f : X → Option Y) (xs : List X) (i : ℕ) (x : X) (old new : List Y) → i < length xs → x ≡ get_or xs i x
    → new ≡ old ++ filter_map f (x ∷ []) → old ≡ filter_map f (take i xs) → new ≡ filter_map f (take (i + 1) xs)
grown f xs i x old new below is put so_far =
    rw (put, so_far, take_more xs i x below, ← is) (sym (filter_map-append f (take i xs) (x ∷ [])))

-- the same by what it gives of the next item
pub grown_some : {X Y : Type 0} (f : X → Option Y) (xs : List X) (i : ℕ) (x : X) (y : Y) (old new : List Y) → i < length xs
    → x ≡ get_or xs i x → f x ≡ Some y → new ≡ old ++ y ∷ [] → old ≡ filter_map f (take i xs) → new ≡ filter_map f (take (i + 1) xs)
grown_some f xs i x y old new below is gives put so_far = grown f xs i x old new below is (rw gives put) so_far

pub grown_none : {X Y : Type 0} (f : X → Option Y) (xs : List X) (i : ℕ) (x : X) (old : List Y) → i < length xs
    → x ≡ get_or xs i x → f x ≡ None → old ≡ filter_map f (take i xs) → old ≡ filter_map f (take (i + 1) xs)
grown_none f xs i x old below is gives so_far = grown f xs i x old old below is (rw gives (sym (append-nil old))) so_far

-- what a function gives of mapped items
pub filtered_map : {X Y Z : Type 0} (g : Y → Option Z) (f : X → Y) (xs : List X) → filter_map (λ x. g (f x)) xs ≡ filter_map g (map f xs)
filtered_map g f [] = refl
filtered_map g f (x ∷ xs) = ap (cons_option (g (f x))) (filtered_map g f xs)
