-- Two rising lists share a first text.
use Rattle.std.proofs.Common.{◌≡◌, ℕ, Bool, true, false, cond, List, [], ◌∷◌, Some, Contains, refl, sym, ap, ◌∙◌, subst, slice_get}
use Rattle.std.proofs.lemmas.List.Kept.{AllPairs-filter}
use Rattle.std.proofs.lemmas.Slice.Eq.{bytes_eq-Decides}
use Rattle.std.specs.Cmp.Lexicographic.{nat_list_cmp_total}
use Rattle.std.specs.List.{filter, find}
use Rattle.std.specs.Str.{bytes_eq}
use Rattle.jm_bytes.proofs.Members.{any_contains, contains_filter, from_any, from_filter}
use Rattle.jm_bytes.proofs.SameOrder.{same_order}
use Rattle.jm_form.proofs.RisingLaws.{Before}
use Rattle.jm_nodes.specs.Order.{is_among, IsRising}
use Rattle.jm_nodes.proofs.OrderLaws.{strict}

abbrev Texts : Type 0
Texts = List (List ℕ)

pub first_found : {X : Type 0} (p : X → Bool) (xs : List X) → slice_get (filter p xs) 0 ≡ find p xs
first_found p [] = refl
first_found {X} p (x ∷ xs) = go (p x) (first_found p xs)
  where
    go : (b : Bool) → slice_get (filter p xs) 0 ≡ find p xs → slice_get (cond b (x ∷ filter p xs) (filter p xs)) 0
        ≡ cond b (Some x) (find p xs)
    go true rest = refl
    go false rest = rest

is_shared : (texts others : Texts) (g : List ℕ) → Contains (filter (λ text. is_among text others) texts) g
    → Contains (filter (λ other. is_among other texts) others) g
is_shared texts others g there =
    let from = from_filter (λ text. is_among text others) texts g there in
    let one = from_any (λ other. bytes_eq other g) others from.1 in
    contains_filter (λ other. is_among other texts) others g (subst (Contains others) ((bytes_eq-Decides one.0 g).0 one.2) one.1)
    (any_contains (λ text. bytes_eq text g) texts g from.0 ((bytes_eq-Decides g g).1 refl))

-- the first text that is among the others is the first of the others that is among the texts
pub first_shared : (texts others : Texts) → IsRising texts → IsRising others → find (λ text. is_among text others) texts
    ≡ find (λ other. is_among other texts) others
first_shared texts others texts_rise others_rise =
    sym (first_found (λ text. is_among text others) texts)
    ∙ ap (λ shared. slice_get shared 0)
    (same_order Before (strict nat_list_cmp_total) (filter (λ text. is_among text others) texts)
    (filter (λ other. is_among other texts) others)
    (AllPairs-filter Before (λ text. is_among text others) texts texts_rise) (AllPairs-filter Before (λ other. is_among other texts)
    others others_rise)
    (is_shared texts others) (is_shared others texts))
    ∙ first_found (λ other. is_among other texts) others
