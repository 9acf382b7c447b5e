-- One file more, and one module more.
use Rattle.std.proofs.Common.{◌≡◌, ℕ, ◌+◌, ◌-◌, ◌<◌, ◌≤◌, List, [], ◌∷◌, ◌++◌, Option, map, sym, ap, ◌∙◌, subst, arith}
use Rattle.std.proofs.lemmas.List.{append-nil, map-append}
use Rattle.std.proofs.lemmas.Grind.{flat_map-append}
use Rattle.std.specs.List.{flat_map, range_with_len}
use Rattle.jm_bytes.proofs.Pairs.{range_more, range_with_len-append}
use Rattle.jm_outside.specs.Files.{Files}
use Rattle.jm_outside.specs.Made.{MadeAll, MadePart, Writes}
use Rattle.jm_gen.specs.Generated.{module_name, module_names}
use Rattle.jm_outside.proofs.MadeLaws.{made_append, part_append, part_longer}

-- Numbers one after another

range_split : (n m : ℕ) → n ≤ m → range_with_len 0 m ≡ range_with_len 0 n ++ range_with_len n (m - n)
range_split n m within =
    let count : m ≡ n + (m - n) = omega (arith, within) in
    let start : 0 + n ≡ n = omega arith in
    ap (range_with_len 0) count ∙ range_with_len-append 0 n (m - n)
    ∙ ap (λ (k : ℕ). range_with_len 0 n ++ range_with_len k (m - n)) start

range_next : (n : ℕ) → range_with_len 0 (n + 1) ≡ range_with_len 0 n ++ n ∷ []
range_next n = grind (arith, range_more)

pub name_next : (n : ℕ) → module_names n ++ module_name n ∷ [] ≡ module_names (n + 1)
name_next n = sym (ap (map module_name) (range_next n) ∙ map-append module_name (range_with_len 0 n) (n ∷ []))

-- A file, and then one for each number

pub made_first : (first : List ℕ × List ℕ) (f : ℕ → List ℕ × List ℕ) (old new : Option Files) → MadeAll (first ∷ []) old new
    → MadeAll (first ∷ map f (range_with_len 0 0)) old new
made_first first f old new made = made

pub part_first : (first : List ℕ × List ℕ) (f : ℕ → List ℕ × List ℕ) (m : ℕ) (old new : Option Files)
    → MadePart (first ∷ []) old new → MadePart (first ∷ map f (range_with_len 0 m)) old new
part_first first f m old new part = part_longer (first ∷ []) (map f (range_with_len 0 m)) old new part

next_file : (first : List ℕ × List ℕ) (f : ℕ → List ℕ × List ℕ) (n : ℕ) → (first ∷ map f (range_with_len 0 n)) ++ f n ∷ []
    ≡ first ∷ map f (range_with_len 0 (n + 1))
next_file first f n = grind (arith, map-append, range_next)

pub made_next : (first : List ℕ × List ℕ) (f : ℕ → List ℕ × List ℕ) (n : ℕ) (old now new : Option Files)
    → MadeAll (first ∷ map f (range_with_len 0 n)) old now → MadeAll (f n ∷ []) now new
    → MadeAll (first ∷ map f (range_with_len 0 (n + 1))) old new
made_next first f n old now new done made =
    subst (λ (fs : Writes). MadeAll fs old new) (next_file first f n)
    (made_append (first ∷ map f (range_with_len 0 n)) (f n ∷ []) old now new done made)

pub part_next : (first : List ℕ × List ℕ) (f : ℕ → List ℕ × List ℕ) (n m : ℕ) (old now new : Option Files) → n < m
    → MadeAll (first ∷ map f (range_with_len 0 n)) old now → MadePart (f n ∷ []) now new
    → MadePart (first ∷ map f (range_with_len 0 m)) old new
part_next first f n m old now new inside done part =
    subst (λ (fs : Writes). MadePart (first ∷ fs) old new)
    (sym (ap (map f) (range_split (n + 1) m (omega (arith, inside))) ∙ map-append f (range_with_len 0 (n + 1)) rest))
    (part_longer (first ∷ map f (range_with_len 0 (n + 1))) (map f rest) old new more)
  where
    rest : List ℕ
    rest = range_with_len (n + 1) (m - (n + 1))

    more : MadePart (first ∷ map f (range_with_len 0 (n + 1))) old new
    more = subst (λ (fs : Writes). MadePart fs old new) (next_file first f n) (part_append (first ∷ map f (range_with_len 0 n))
        (f n ∷ []) old now new done part)

-- The files of each number

next_files : (g : ℕ → Writes) (n : ℕ) → flat_map g (range_with_len 0 n) ++ g n ≡ flat_map g (range_with_len 0 (n + 1))
next_files g n = grind (arith, append-nil, flat_map-append, range_next)

pub all_next : (g : ℕ → Writes) (n : ℕ) (old now new : Option Files) → MadeAll (flat_map g (range_with_len 0 n)) old now
    → MadeAll (g n) now new → MadeAll (flat_map g (range_with_len 0 (n + 1))) old new
all_next g n old now new done made =
    subst (λ (fs : Writes). MadeAll fs old new) (next_files g n)
    (made_append (flat_map g (range_with_len 0 n)) (g n) old now new done made)

pub some_next : (g : ℕ → Writes) (n m : ℕ) (old now new : Option Files) → n < m → MadeAll (flat_map g (range_with_len 0 n)) old now
    → MadePart (g n) now new → MadePart (flat_map g (range_with_len 0 m)) old new
some_next g n m old now new inside done part =
    subst (λ (fs : Writes). MadePart fs old new)
    (sym (ap (flat_map g) (range_split (n + 1) m (omega (arith, inside))) ∙ flat_map-append g (range_with_len 0 (n + 1)) rest))
    (part_longer (flat_map g (range_with_len 0 (n + 1))) (flat_map g rest) old new more)
  where
    rest : List ℕ
    rest = range_with_len (n + 1) (m - (n + 1))

    more : MadePart (flat_map g (range_with_len 0 (n + 1))) old new
    more = subst (λ (fs : Writes). MadePart fs old new) (next_files g n) (part_append (flat_map g (range_with_len 0 n)) (g n) old
        now new done part)
