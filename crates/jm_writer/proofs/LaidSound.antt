-- What a name that passes the check keeps: a byte, no zero byte, and a module, which is a piece of it.
use Rattle.std.proofs.Common.{◌≡◌, ◌≢◌, ℕ, ◌+◌, ◌==◌, ◌&&◌, ◌||◌, inl, inr, Bool, true, false, cond, not}
use Rattle.std.proofs.Common.{List, [], ◌∷◌, ◌++◌, take, drop, Contains, refl, sym, ap, ◌∙◌, subst}
use Rattle.std.proofs.lemmas.Bool.{and_parts, eqb-true, false_from_ne_true, false≢true}
use Rattle.std.proofs.lemmas.List.{take-append-drop}
use Rattle.std.proofs.lemmas.List.Elements.{Contains-append_cases, Contains-append_left, Contains-append_right}
use Rattle.std.proofs.lemmas.List.Splits.{slice_split_first}
use Rattle.std.specs.List.{after_first, after_last, before_first, before_last, list_any, position_or_len, slice_split}
use Rattle.jm_bytes.proofs.Firsts.{position_below}
use Rattle.jm_bytes.proofs.Members.{any_contains, from_map}
use Rattle.jm_names.proofs.JoinLaws.{split-module}
use Rattle.jm_names.specs.NameFaults.{IsSound, has_module, parts}
use Rattle.jm_names.specs.Names.{Cut, cut_rest, cut_tail, dotted, is_dot, is_empty, is_slash, is_tree, split}
use Rattle.jm_names.specs.declared.check.NameFault.TheVariants.{Empty, EmptyPart, Zero}
use Rattle.jm_form.specs.Strings.{IsZeroFree}
use Rattle.jm_form.specs.Trees.{module_of, path_of}

-- Zero bytes

pub free_text : (text : List ℕ) → list_any (λ x. x == 0) text ≡ false → IsZeroFree text
free_text text none there = false≢true (sym none ∙ any_contains (λ x. x == 0) text 0 there refl)

pub free_append : (front back : List ℕ) → IsZeroFree front → IsZeroFree back → IsZeroFree (front ++ back)
free_append front back first second there =
    elim (Contains-append_cases front back 0 there) [
      | inl one ↦ first one
      | inr other ↦ second other
    ]

pub free_take : (n : ℕ) (text : List ℕ) → IsZeroFree text → IsZeroFree (take n text)
free_take n text free there = free (subst (λ l. Contains l 0) (take-append-drop n text) (Contains-append_left (take n text)
    (drop n text) 0 there))

pub free_drop : (n : ℕ) (text : List ℕ) → IsZeroFree text → IsZeroFree (drop n text)
free_drop n text free there = free (subst (λ l. Contains l 0) (take-append-drop n text) (Contains-append_right (take n text)
    (drop n text) 0 there))

dot_or_same : (b : ℕ) (test : Bool) → cond test 46 b ≡ 0 → b ≡ 0
dot_or_same b true is = cc
dot_or_same b false is = is

pub free_dotted : (text : List ℕ) → IsZeroFree text → IsZeroFree (dotted text)
free_dotted text free there =
    let from = from_map (λ b. cond (is_slash b) 46 b) text 0 there in
    free (subst (Contains text) (dot_or_same from.0 (is_slash from.0) from.2) from.1)

-- Modules

true_from : (b : Bool) → (b ≡ false → ⊥) → b ≡ true
true_from true never = refl
true_from false never = absurd (never refl)

first_false : (a b : Bool) → a || b ≡ false → a ≡ false
first_false true b none = cc
first_false false b none = refl

slash_inside : (name : List ℕ) → has_module name ≡ true → list_any is_slash (drop 1 name) ≡ true
slash_inside [] has = cc
slash_inside (b ∷ name) has = (and_parts (is_slash b) (list_any is_slash name) has).1

-- the first part is the module
module_some : (name : List ℕ) → has_module name ≡ true → list_any is_empty (parts name) ≡ false → is_empty (module_of name) ≡ false
module_some name has whole =
    let rest : List ℕ = drop 1 name in
    let cut = slice_split_first is_slash rest 0 (position_below is_slash rest (slash_inside name has)) in
    first_false (is_empty (module_of name)) (list_any is_empty (slice_split is_slash (after_first is_slash rest)))
    (sym (ap (list_any is_empty) cut) ∙ whole)

tail_module : (text parent tail : List ℕ) → (cut_tail text parent tail).«module» ≡ text
tail_module text parent tail = go (list_any is_dot tail && not (is_empty (after_last is_dot tail)))
  where
    go : (b : Bool) → (cond {A = Cut} b (record {
      «module» = text;
      parent = parent;
      base = before_last is_dot tail;
      ext =
          after_last is_dot tail;
    }) (record { «module» = text; parent = parent; base = tail; ext = [] })).«module» ≡ text
    go true = refl
    go false = refl

rest_module : (text rest : List ℕ) → (cut_rest text rest).«module» ≡ text
rest_module text rest = tree (is_tree text)
  where
    below : (b : Bool) → (cond {A = Cut} b (cut_tail text (before_last is_slash rest) (after_last is_slash rest))
        (cut_tail text [] rest)).«module» ≡ text
    below true = tail_module text (before_last is_slash rest) (after_last is_slash rest)
    below false = tail_module text [] rest

    tree : (b : Bool) → (cond {A = Cut} b (record { «module» = text; parent = []; base = rest; ext = [] })
        (cond (not (is_empty (before_last is_slash rest))) (cut_tail text (before_last is_slash rest) (after_last is_slash rest))
        (cut_tail text [] rest))).«module» ≡ text
    tree true = refl
    tree false = below (not (is_empty (before_last is_slash rest)))

module_piece : (name : List ℕ) → has_module name ≡ true → is_empty (module_of name) ≡ false → (split name).«module» ≡ module_of name
module_piece [] has some = cc
module_piece (b ∷ name) has some =
    let tests = and_parts (is_slash b) (list_any is_slash name) has in
    ap (λ cut. cut.«module») (split-module b name (eqb-true b 47 tests.0) tests.1 some) ∙ rest_module (before_first is_slash name)
    (after_first is_slash name)

name_some : (name : List ℕ) → has_module name ≡ true → name ≢ []
name_some [] has = cc
name_some (b ∷ name) has = λ e. cc

-- what the check gives
pub record SoundName (name : List ℕ) : Type 0 where
  pub some : name ≢ []
  pub free : IsZeroFree name
  pub piece : (split name).«module» ≡ module_of name

pub sound_name : (name : List ℕ) → IsSound name → SoundName name
sound_name name sound =
    let has : has_module name ≡ true = true_from (has_module name) (sound Empty) in
    let whole : list_any is_empty (parts name) ≡ false = false_from_ne_true (list_any is_empty (parts name)) (sound EmptyPart) in
    record {
      some = name_some name has;
      free = free_text name (false_from_ne_true (list_any (λ x. x == 0) name) (sound Zero));
      piece = module_piece name has (module_some name has whole);
    }

-- its module and its path have no zero byte
pub free_module : (name : List ℕ) → IsZeroFree name → IsZeroFree (module_of name)
free_module name free = free_take (position_or_len is_slash (drop 1 name)) (drop 1 name) (free_drop 1 name free)

pub free_path : (name : List ℕ) → IsZeroFree name → IsZeroFree (path_of name)
free_path name free = free_drop (position_or_len is_slash (drop 1 name) + 1) (drop 1 name) (free_drop 1 name free)
