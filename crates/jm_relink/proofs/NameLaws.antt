-- Names of resources: the module and the path of each.
use Rattle.std.proofs.Common.{◌≡◌, ◌≤◌, ℕ, suc, ◌+◌, Bool, true, false, ◌&&◌, ◌||◌, not, cond, List, [], rules}
use Rattle.std.proofs.Common.{◌∷◌, ◌++◌, take, drop, length, Some, refl, sym, ap, ◌∙◌, subst, arith}
use Rattle.std.proofs.lemmas.Bool.{false≢true, eqb-true}
use Rattle.std.proofs.lemmas.List.{append_cancel_left, length-append, take_at}
use Rattle.std.specs.List.{after_first, before_first, list_any, position_or_len}
use Rattle.jm_bytes.proofs.Choice.{chosen, mapped_some, same_first, same_second}
use Rattle.jm_bytes.proofs.Cuts.{first_parts}
use Rattle.jm_form.specs.Trees.{path_of}
use Rattle.jm_form.proofs.ListLaws.{any_behind, drop_front}
use Rattle.jm_names.specs.Names.{is_slash}
use Rattle.jm_names.specs.ByName.{Named}
use Rattle.jm_relink.specs.Files.{Filed, file_name, located, module_and_path}

-- Tests

pub head_false : (p : ℕ → Bool) (b : ℕ) (bs : List ℕ) → list_any p (b ∷ bs) ≡ false → (p b ≡ false) × (list_any p bs ≡ false)
head_false p b bs none = go (p b) (list_any p bs) none
  where
    go : (x y : Bool) → (x || y) ≡ false → (x ≡ false) × (y ≡ false)
    go true y h = absurd (false≢true (sym h))
    go false y h = (refl, h)

-- A module without a slash, and its path

position_behind : (m p : List ℕ) → list_any is_slash m ≡ false → position_or_len is_slash (m ++ 47 ∷ p) ≡ length m
position_behind [] p whole = refl
position_behind (b ∷ m) p whole =
    let tests = head_false is_slash b m whole in
    let rest = position_behind m p tests.1 in
    ap (λ c. cond (not c) (1 + position_or_len is_slash (m ++ 47 ∷ p)) 0) tests.0 ∙ omega (arith, rest)

pub before_slash : (m p : List ℕ) → list_any is_slash m ≡ false → before_first is_slash (m ++ 47 ∷ p) ≡ m
before_slash m p whole = ap (λ n. take n (m ++ 47 ∷ p)) (position_behind m p whole) ∙ take_at m (47 ∷ p) (length m) refl

pub after_slash : (m p : List ℕ) → list_any is_slash m ≡ false → after_first is_slash (m ++ 47 ∷ p) ≡ p
after_slash m p whole = ap (λ n. drop (n + 1) (m ++ 47 ∷ p)) (position_behind m p whole) ∙ drop_front m (47 ∷ p) 1

pub path_of_file : (m p : List ℕ) → list_any is_slash m ≡ false → path_of (file_name m p) ≡ p
path_of_file m p whole = after_slash m p whole

pub parts_of_file : (m p : List ℕ) → list_any is_slash m ≡ false → module_and_path (file_name m p) ≡ Some (m, p)
parts_of_file m p whole =
    rw (any_behind is_slash m (47 ∷ p) refl, before_slash m p whole, after_slash m p whole) refl

-- Names of modules and paths are told by the name

pub names_tell : (m k p q : List ℕ) → list_any is_slash m ≡ false → list_any is_slash k ≡ false → file_name m p ≡ file_name k q
    → (m ≡ k) × (p ≡ q)
names_tell m k p q whole other same =
    let rest : m ++ 47 ∷ p ≡ k ++ 47 ∷ q = append_cancel_left (47 ∷ []) (m ++ 47 ∷ p) (k ++ 47 ∷ q) same in (
      sym (before_slash m p whole) ∙ ap (before_first is_slash) rest ∙ before_slash k q other,
      sym (after_slash m p whole) ∙ ap (after_first is_slash) rest ∙ after_slash k q other,
    )

none_before : (xs : List ℕ) → list_any is_slash (before_first is_slash xs) ≡ false
none_before [] = refl
none_before (x ∷ xs) = go (is_slash x) refl (none_before xs)
  where
    go : (c : Bool) → is_slash x ≡ c → list_any is_slash (before_first is_slash xs) ≡ false
        → list_any is_slash (take (cond (not c) (1 + position_or_len is_slash xs) 0) (x ∷ xs)) ≡ false
    go true is rest = refl
    go false is rest =
        let next : 1 + position_or_len is_slash xs ≡ suc (position_or_len is_slash xs) = omega arith in
        ap (λ n. list_any is_slash (take n (x ∷ xs))) next ∙ ap (λ c. c || list_any is_slash (before_first is_slash xs)) is ∙ rest

both : (a b : Bool) → (a && b) ≡ true → (a ≡ true) × (b ≡ true)
both true b h = (refl, h)
both false b h = absurd (false≢true h)

-- what a name is that has a module and a path
pub record IsFileName (name m p : List ℕ) : Type 0 where
  pub whole : list_any is_slash m ≡ false
  pub is : name ≡ file_name m p

pub file_of_parts : (name m p : List ℕ) → module_and_path name ≡ Some (m, p) → IsFileName name m p
file_of_parts [] m p h = search (rules)
file_of_parts (b ∷ name) m p h = search (rules, eqb-true, chosen, same_first, same_second, first_parts, none_before, both)

-- a resource that is a file of a module has the name that the module and the path make
pub located_from : (r : Named) (e : Filed) → located r ≡ Some e → (list_any is_slash e.0 ≡ false) × (r ≡ (file_name e.0 e.1.0, e.1.1))
located_from r e h =
    let some = mapped_some (λ (cut : List ℕ × List ℕ). (cut.0, (cut.1, r.1))) (module_and_path r.0) e h in
    let cut = some.0 in
    let name = file_of_parts r.0 cut.0 cut.1 some.1 in
    let same : ◌≡◌ {A = Filed} (cut.0, (cut.1, r.1)) e = some.2 in (
      subst (λ (x : Filed). list_any is_slash x.0 ≡ false) same name.whole,
      ap (λ n. (n, r.1)) name.is ∙ ap (λ (x : Filed). (file_name x.0 x.1.0, x.1.1)) same,
    )

-- the path stands after the module and two slashes
pub path_after : (name m p : List ℕ) → module_and_path name ≡ Some (m, p) → (length m + 2 ≤ length name)
    × (drop (length m + 2) name ≡ p)
path_after name m p cut =
    let is = (file_of_parts name m p cut).is in
    let size = ap length is in
    let parts = length-append m (47 ∷ p) in
    let places : length m + 2 ≡ suc (length m + 1) = omega arith in (
      omega (arith, size, parts),
      ap (drop (length m + 2)) is ∙ ap (λ n. drop n (file_name m p)) places ∙ drop_front m (47 ∷ p) 1,
    )
