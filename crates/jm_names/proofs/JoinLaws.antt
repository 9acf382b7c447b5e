-- The pieces of a name make the name again.
use Rattle.std.proofs.Common.{◌≡◌, ℕ, ◌-◌, ◌<◌, ◌==◌, Bool, true, false, not, ◌&&◌, List, [], ◌∷◌, ◌++◌}
use Rattle.std.proofs.Common.{length, refl, sym, ap, ◌∙◌, append_assoc, append-nil, arith}
use Rattle.std.specs.List.{list_any, suffix_len, before_first, after_first, before_last, after_last}
use Rattle.std.specs.Prelude.{if◌then◌else◌}
use Rattle.std.proofs.lemmas.Bool.{and_parts, eqb-true}
use Rattle.std.proofs.lemmas.Bool.Decides.{nat_tests}
use Rattle.std.proofs.lemmas.List.{length-take}
use Rattle.jm_names.specs.Names.{is_slash, is_dot, is_empty, module_front, parent_front, ext_end, join}
use Rattle.jm_names.specs.Names.{is_tree, base_only, cut_tail, cut_rest, split}
use Rattle.jm_bytes.proofs.Cuts.{before_last_none, first_parts, last_within, last_parts}

-- a module that isn't empty, its slash and the rest
with_module : (text rest name : List ℕ) (x : ℕ) → not (is_empty text) ≡ true → is_slash x ≡ true → text ++ x ∷ rest ≡ name
    → module_front text ++ rest ≡ 47 ∷ name
with_module [] rest name x some mark whole = absurd (cc)
with_module (b ∷ bs) rest name x some mark whole =
    ap (λ ys. 47 ∷ ys) (append_assoc (b ∷ bs) (47 ∷ []) rest)
    ∙ ap (λ y. 47 ∷ ((b ∷ bs) ++ y ∷ rest)) (sym (eqb-true x 47 mark))
    ∙ ap (λ ys. 47 ∷ ys) whole

-- a parent that isn't empty, its slash and the tail
with_parent : (parent tail rest : List ℕ) (x : ℕ) → not (is_empty parent) ≡ true → is_slash x ≡ true → parent ++ x ∷ tail ≡ rest
    → parent_front parent ++ tail ≡ rest
with_parent [] tail rest x some mark whole = absurd (cc)
with_parent (b ∷ bs) tail rest x some mark whole =
    append_assoc (b ∷ bs) (47 ∷ []) tail ∙ ap (λ y. (b ∷ bs) ++ y ∷ tail) (sym (eqb-true x 47 mark)) ∙ whole

-- a base, its dot and an extension that isn't empty
with_ext : (base ext tail : List ℕ) (x : ℕ) → not (is_empty ext) ≡ true → is_dot x ≡ true → base ++ x ∷ ext ≡ tail
    → base ++ ext_end ext ≡ tail
with_ext base [] tail x some mark whole = absurd (cc)
with_ext base (b ∷ bs) tail x some mark whole = ap (λ y. base ++ y ∷ (b ∷ bs)) (sym (eqb-true x 46 mark)) ∙ whole

some_length : (xs : List ℕ) → not (is_empty xs) ≡ true → 0 < length xs
some_length [] h = absurd (cc)
some_length (x ∷ xs) h = omega arith

-- the tail's two pieces make the tail
join-cut_tail : (text parent tail : List ℕ) → join (cut_tail text parent tail) ≡ module_front text ++ (parent_front parent ++ tail)
join-cut_tail text parent tail = go (list_any is_dot tail && not (is_empty (after_last is_dot tail))) refl
  where
    go : (b : Bool) → (list_any is_dot tail && not (is_empty (after_last is_dot tail))) ≡ b
        → join (if b then record { «module» = text; parent = parent; base = before_last is_dot tail; ext = after_last is_dot tail }
        else record { «module» = text; parent = parent; base = tail; ext = [] })
        ≡ module_front text ++ (parent_front parent ++ tail)
    go true e =
        let tests = and_parts (list_any is_dot tail) (not (is_empty (after_last is_dot tail))) e in
        let parts = last_parts is_dot tail 0 (last_within is_dot tail 0 tests.0) in
        ap (λ ys. module_front text ++ (parent_front parent ++ ys)) (with_ext (before_last is_dot tail) (after_last is_dot tail)
        tail parts.0 tests.1 parts.1 parts.2)
    go false e = ap (λ ys. module_front text ++ (parent_front parent ++ ys)) (append-nil tail)

-- the pieces of the rest make the rest
join-cut_rest : (text rest : List ℕ) → join (cut_rest text rest) ≡ module_front text ++ rest
join-cut_rest text rest = tree (is_tree text)
  where
    below : (b : Bool) → not (is_empty (before_last is_slash rest)) ≡ b
        → join (if b then cut_tail text (before_last is_slash rest) (after_last is_slash rest) else cut_tail text [] rest)
        ≡ module_front text ++ rest
    below true e =
        let room : 0 < length (before_last is_slash rest) = some_length (before_last is_slash rest) e in
        let parts = last_parts is_slash rest 0 (omega (
          arith,
          length-take (length rest - suffix_len (λ x. not (is_slash x)) rest -
              1) rest,
        )) in
        join-cut_tail text (before_last is_slash rest) (after_last is_slash rest)
        ∙ ap (λ ys. module_front text ++ ys) (with_parent (before_last is_slash rest) (after_last is_slash rest) rest parts.0 e
        parts.1 parts.2)
    below false e = join-cut_tail text [] rest

    tree : (b : Bool) → join (if b then record { «module» = text; parent = []; base = rest; ext = [] } else
        (if not (is_empty (before_last is_slash rest)) then cut_tail text (before_last is_slash rest) (after_last is_slash rest)
        else cut_tail text [] rest)) ≡ module_front text ++ rest
    tree true = ap (λ ys. module_front text ++ ys) (append-nil rest)
    tree false = below (not (is_empty (before_last is_slash rest))) refl

-- the pieces of a name make the name
pub join-split : (name : List ℕ) → join (split name) ≡ name
join-split [] = refl
join-split (b ∷ name) = go (is_slash b && (list_any is_slash name && not (is_empty (before_first is_slash name)))) refl
  where
    go : (c : Bool) → (is_slash b && (list_any is_slash name && not (is_empty (before_first is_slash name)))) ≡ c
        → join (if c then cut_rest (before_first is_slash name) (after_first is_slash name) else base_only (b ∷ name)) ≡ b ∷ name
    go true e =
        let outer = and_parts (is_slash b) (list_any is_slash name && not (is_empty (before_first is_slash name))) e in
        let inner = and_parts (list_any is_slash name) (not (is_empty (before_first is_slash name))) outer.1 in
        let parts = first_parts is_slash name 0 inner.0 in
        join-cut_rest (before_first is_slash name) (after_first is_slash name)
        ∙ with_module (before_first is_slash name) (after_first is_slash name) name parts.0 inner.1 parts.1 parts.2
        ∙ ap (λ x. x ∷ name) (sym (eqb-true b 47 outer.0))
    go false e = append-nil (b ∷ name)

-- where no slash stands, nothing stands before the last one
pub no_parent : (rest : List ℕ) → list_any is_slash rest ≡ false → is_empty (before_last is_slash rest) ≡ true
no_parent rest none = ap is_empty (before_last_none is_slash rest 0 none)

-- a name with a module is cut at its first two slashes
pub split-module : (b : ℕ) (name : List ℕ) → b ≡ 47 → list_any is_slash name ≡ true → is_empty (before_first is_slash name) ≡ false
    → split (b ∷ name) ≡ cut_rest (before_first is_slash name) (after_first is_slash name)
split-module b name here second some = rw (here, second, some)

-- the test of the length is the test for the empty list
pub is_empty-length : (xs : List ℕ) (r : Bool) → r ≡ (length xs == 0) → r ≡ is_empty xs
is_empty-length [] r h = h
is_empty-length (x ∷ xs) r h = h ∙ grind (arith, nat_tests)

-- the same, turned
pub is_empty-tested : (xs : List ℕ) (r : Bool) → (length xs == 0) ≡ r → is_empty xs ≡ r
is_empty-tested xs r h = sym (is_empty-length xs r (sym h))

pub ruleset parents = (no_parent, is_empty-tested)
