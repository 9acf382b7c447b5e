-- Names in byte order, piece by piece.
use Rattle.std.proofs.Common.{◌≡◌, ◌≢◌, ℕ, List, [], ◌∷◌, ◌++◌, length, take, drop, min, refl, sym, ap, ◌∙◌, arith}
use Rattle.std.specs.Cmp.Lexicographic.{slice_cmp}
use Rattle.std.specs.Ordering.{nat_cmp, ordering_then}
use Rattle.std.specs.declared.cmp.Ordering.{Ordering}
use Rattle.std.specs.declared.cmp.Ordering.TheVariants.{Less, Equal, Greater}
use Rattle.std.proofs.lemmas.List.{append_assoc, length-take-le, take-append-drop}
use Rattle.jm_bytes.proofs.ByteOrderLaws.{cmp_self}
use Rattle.jm_names.specs.Names.{Cut, ext_end, join, module_front, parent_front}
use Rattle.jm_reader.specs.Views.{without_folder}

then_assoc : (o p q : Ordering) → ordering_then (ordering_then o p) q ≡ ordering_then o (ordering_then p q)
then_assoc Less p q = refl
then_assoc Equal p q = refl
then_assoc Greater p q = refl

-- fronts of the same length decide, and then what stands behind them
pub fronts_first : (front other xs ys : List ℕ) → length front ≡ length other → slice_cmp nat_cmp (front ++ xs) (other ++ ys)
    ≡ ordering_then (slice_cmp nat_cmp front other) (slice_cmp nat_cmp xs ys)
fronts_first [] [] xs ys same = refl
fronts_first [] (c ∷ other) xs ys same = absurd (omega arith)
fronts_first (b ∷ front) [] xs ys same = absurd (omega arith)
fronts_first (b ∷ front) (c ∷ other) xs ys same =
    ap (ordering_then (nat_cmp b c)) (fronts_first front other xs ys (omega arith))
    ∙ sym (then_assoc (nat_cmp b c) (slice_cmp nat_cmp front other) (slice_cmp nat_cmp xs ys))

-- a front that both have decides nothing
pub same_front : (front xs ys : List ℕ) → slice_cmp nat_cmp (front ++ xs) (front ++ ys) ≡ slice_cmp nat_cmp xs ys
same_front front xs ys =
    fronts_first front front xs ys refl ∙ ap (λ (o : Ordering). ordering_then o (slice_cmp nat_cmp xs ys)) (cmp_self front)

-- where one of two texts has ended, its part alone decides
pub one_ended : (part bytes other_part other_bytes : List ℕ) → min (length part) (length other_part) ≡ 0 → (part ≡ [] → bytes ≡ [])
    → (other_part ≡ [] → other_bytes ≡ []) → slice_cmp nat_cmp part other_part ≡ slice_cmp nat_cmp (part ++ bytes) (other_part
    ++ other_bytes)
one_ended [] bytes [] other_bytes ended end other_end = rw (end refl, other_end refl) refl
one_ended [] bytes (c ∷ other_part) other_bytes ended end other_end = rw (end refl) refl
one_ended (b ∷ part) bytes [] other_bytes ended end other_end = rw (other_end refl) refl
one_ended (b ∷ part) bytes (c ∷ other_part) other_bytes ended end other_end = absurd (omega (arith, ended))

-- the same number of bytes in front of both parts decides, and then what stands behind them
pub cut_first : (n : ℕ) (part bytes other_part other_bytes : List ℕ) → n ≡ min (length part) (length other_part)
    → slice_cmp nat_cmp (part ++ bytes) (other_part ++ other_bytes)
    ≡ ordering_then (slice_cmp nat_cmp (take n part) (take n other_part)) (slice_cmp nat_cmp (drop n part ++ bytes)
    (drop n other_part ++ other_bytes))
cut_first n part bytes other_part other_bytes is =
    let size = length-take-le n part (omega (arith, is)) in
    let other_size = length-take-le n other_part (omega (arith, is)) in
    ap (λ l. slice_cmp nat_cmp l (other_part ++ other_bytes)) (cut part bytes)
    ∙ ap (slice_cmp nat_cmp (take n part ++ (drop n part ++ bytes))) (cut other_part other_bytes)
    ∙ fronts_first (take n part) (take n other_part) (drop n part ++ bytes) (drop n other_part ++ other_bytes) (size ∙ sym other_size)
  where
    cut : (xs ys : List ℕ) → xs ++ ys ≡ take n xs ++ (drop n xs ++ ys)
    cut xs ys = ap (λ l. l ++ ys) (sym (take-append-drop n xs)) ∙ append_assoc (take n xs) (drop n xs) ys

-- an order that isn't `Equal` decides
pub decided : (o p : Ordering) → o ≢ Equal → o ≡ ordering_then o p
decided Less p some = refl
decided Equal p some = absurd (some refl)
decided Greater p some = refl

-- names of one folder stand as their bases and extensions do
pub same_folder : (one other : Cut) → one.module ≡ other.module → one.parent ≡ other.parent
    → slice_cmp nat_cmp (join (without_folder one)) (join (without_folder other)) ≡ slice_cmp nat_cmp (join one) (join other)
same_folder one other same_module same_parent =
    rw (same_module, same_parent)
    (sym (same_front (module_front other.module) (parent_front other.parent ++ (one.base ++ ext_end one.ext))
    (parent_front other.parent ++ (other.base ++ ext_end other.ext))
    ∙ same_front (parent_front other.parent) (one.base ++ ext_end one.ext) (other.base ++ ext_end other.ext)))
