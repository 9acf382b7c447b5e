-- The least text of a list, and of those with a property.
use Rattle.std.proofs.Common.{◌≡◌, ℕ, ◌+◌, ◌<◌, ◌⊎◌, inl, inr, Bool, true, false, cond, List, [], ◌∷◌}
use Rattle.std.proofs.Common.{◌++◌, length, drop, drop-cons, add-one, get_or, Option, Some, None}
use Rattle.std.proofs.Common.{Contains, refl, sym, ◌∙◌, ap, subst, slice_index_or}
use Rattle.std.specs.Cmp.Lexicographic.{slice_cmp, nat_list_cmp_total}
use Rattle.std.specs.Ordering.{is_eq, is_le, nat_cmp, ordering_reverse}
use Rattle.std.specs.BTreeMap.Comparable.{le_lt_trans}
use Rattle.std.proofs.lemmas.Map.Text.{is_eq-slice_cmp}
use Rattle.std.specs.declared.cmp.Ordering.{Ordering}
use Rattle.std.specs.declared.cmp.Ordering.TheVariants.{Less, Equal, Greater}
use Rattle.std.proofs.lemmas.Slice.Eq.{bytes_eq-Decides}
use Rattle.std.proofs.lemmas.Bool.{false≢true}
use Rattle.jm_bytes.proofs.Members.{contains_none, contains_here, contains_later, contains_cases}
use Rattle.jm_closure.specs.declared.candidate.Candidate.{Candidate}
use Rattle.jm_closure.specs.ComputedLeast.{chosen_of, least_of}
use Rattle.jm_closure.specs.Least.{lesser, IsLeastOf}
use Rattle.jm_closure.specs.Refusals.{IsAtMost}

-- One text, module or need more

pub least_of-append : (p : List ℕ → Bool)
    → (least : Option (List ℕ)) (xs ys : List (List ℕ))
    → least_of p least (xs ++ ys) ≡ least_of p (least_of p least xs) ys
least_of-append p least [] ys = refl
least_of-append p least (x ∷ xs) ys = least_of-append p (cond (p x) (lesser least (Some x)) least) xs ys

pub chosen_at : (flags : List Bool) (found : List Candidate) (i : ℕ) (c : Candidate)
    → i < length flags → i < length found → c ≡ get_or found i c
    → chosen_of (drop i flags) (drop i found)
    ≡ cond (slice_index_or flags i false) (c ∷ chosen_of (drop (i + 1) flags) (drop (i + 1) found))
    (chosen_of (drop (i + 1) flags) (drop (i + 1) found))
chosen_at flags found i c flagged below is =
    rw (add-one, drop-cons flags i false flagged, drop-cons found i c below, ← is) refl

-- a module that is not chosen changes nothing
pub chosen_skips : (flags : List Bool) (found : List Candidate) (i : ℕ) (c : Candidate)
    → i < length flags → i < length found → c ≡ get_or found i c → slice_index_or flags i false ≡ false
    → chosen_of (drop i flags) (drop i found) ≡ chosen_of (drop (i + 1) flags) (drop (i + 1) found)
chosen_skips flags found i c flagged below is passed = chosen_at flags found i c flagged below is ∙ rw passed refl

pub chosen_takes : (flags : List Bool) (found : List Candidate) (i : ℕ) (c : Candidate)
    → i < length flags → i < length found → c ≡ get_or found i c → slice_index_or flags i false ≡ true
    → chosen_of (drop i flags) (drop i found) ≡ c ∷ chosen_of (drop (i + 1) flags) (drop (i + 1) found)
chosen_takes flags found i c flagged below is taken = chosen_at flags found i c flagged below is ∙ rw taken refl

-- The order of texts

pub at_most_itself : (a : List ℕ) → IsAtMost a a
at_most_itself a = go (slice_cmp nat_cmp a a) (is_eq-slice_cmp a a ∙ (bytes_eq-Decides a a).1 refl)
  where
    go : (o : Ordering) → is_eq o ≡ true → is_le o ≡ true
    go Less e = refl
    go Equal e = refl
    go Greater e = absurd (false≢true e)

pub at_most_other : (a b : List ℕ) → is_le (slice_cmp nat_cmp a b) ≡ false → IsAtMost b a
at_most_other a b above = go (slice_cmp nat_cmp b a) (rw (nat_list_cmp_total.antisymm a b) at above)
  where
    go : (o : Ordering) → is_le (ordering_reverse o) ≡ false → is_le o ≡ true
    go Less e = refl
    go Equal e = refl
    go Greater e = absurd (false≢true (sym e))

pub at_most_both : (a b c : List ℕ) → IsAtMost a b → IsAtMost b c → IsAtMost a c
at_most_both a b c first second = go (slice_cmp nat_cmp b c) refl
  where
    go : (o : Ordering) → slice_cmp nat_cmp b c ≡ o → IsAtMost a c
    go Less is = rw (le_lt_trans nat_list_cmp_total a b c first is) refl
    go Equal is =
        let same : b ≡ c = (bytes_eq-Decides b c).0 (sym (is_eq-slice_cmp b c) ∙ ap is_eq is) in
        subst (IsAtMost a) same first
    go Greater is = absurd (false≢true (sym (ap is_le is) ∙ second))

-- The least text

pub least_same : (P Q : List ℕ → Type 0) (least : Option (List ℕ))
    → ((text : List ℕ) → P text → Q text) → ((text : List ℕ) → Q text → P text)
    → IsLeastOf P least → IsLeastOf Q least
least_same P Q None to from none = λ text holds. none text (from text holds)
least_same P Q (Some a) to from (is, least) = (to a is, λ other holds. least other (from other holds))

pub least_with : (P Q : List ℕ → Type 0) (least : Option (List ℕ)) (x : List ℕ)
    → ((text : List ℕ) → Q text → P text ⊎ (text ≡ x)) → ((text : List ℕ) → P text → Q text) → Q x
    → IsLeastOf P least → IsLeastOf Q (lesser least (Some x))
least_with P Q None x cases keeps new none = (
  new,
  λ other holds. elim (cases other holds) [
    | inl old ↦ absurd (none other old)
    | inr same ↦ subst (IsAtMost x) (sym same) (at_most_itself x)
  ],
)
least_with P Q (Some a) x cases keeps new (is, least) = go (is_le (slice_cmp nat_cmp a x)) refl
  where
    go : (b : Bool) → is_le (slice_cmp nat_cmp a x) ≡ b → IsLeastOf Q (cond b (Some a) (Some x))
    go true e = (
      keeps a is,
      λ other holds. elim (cases other holds) [
        | inl old ↦ least other old
        | inr same ↦ subst (IsAtMost a) (sym same) e
      ],
    )
    go false e = (
      new,
      λ other holds. elim (cases other holds) [
        | inl old ↦ at_most_both x a other (at_most_other a x e) (least other old)
        | inr same ↦ subst (IsAtMost x) (sym same) (at_most_itself x)
      ],
    )

-- a text of a list that passes, or one with a property
abbrev OrPassing : (List ℕ → Bool) → (List ℕ → Type 0) → List (List ℕ) → List ℕ → Type 0
OrPassing p P texts text = P text ⊎ (Contains texts text × (p text ≡ true))

abbrev OrIs : (List ℕ → Bool) → (List ℕ → Type 0) → List ℕ → List ℕ → Type 0
OrIs p P x text = P text ⊎ ((text ≡ x) × (p x ≡ true))

first_step : (p : List ℕ → Bool) (P : List ℕ → Type 0) (x : List ℕ) (least : Option (List ℕ)) (b : Bool)
    → p x ≡ b → IsLeastOf P least → IsLeastOf (OrIs p P x) (cond b (lesser least (Some x)) least)
first_step p P x least true e is = least_with P (OrIs p P x) least x
    (λ text either. elim either [ inl old ↦ inl old | inr (same, passes) ↦ inr same ])
    (λ text old. inl old) (inr (refl, e)) is
first_step p P x least false e is = least_same P (OrIs p P x) least (λ text old. inl old)
    (λ text either. elim either [ inl old ↦ old | inr (same, passes) ↦ absurd (false≢true (sym e ∙ passes)) ])
    is

joined_step : (p : List ℕ → Bool) (P : List ℕ → Type 0) (x : List ℕ) (texts : List (List ℕ)) (text : List ℕ)
    → OrPassing p (OrIs p P x) texts text → OrPassing p P (x ∷ texts) text
joined_step p P x texts text (inl (inl old)) = inl old
joined_step p P x texts text (inl (inr (same, passes))) =
    inr (subst (Contains (x ∷ texts)) (sym same) (contains_here x texts), ap p same ∙ passes)
joined_step p P x texts text (inr (later, passes)) = inr (contains_later x texts text later, passes)

parted_step : (p : List ℕ → Bool) (P : List ℕ → Type 0) (x : List ℕ) (texts : List (List ℕ)) (text : List ℕ)
    → OrPassing p P (x ∷ texts) text → OrPassing p (OrIs p P x) texts text
parted_step p P x texts text (inl old) = inl (inl old)
parted_step p P x texts text (inr (there, passes)) = elim (contains_cases x texts text there) [
  | inl same ↦ inl (inr (sym same, ap p same ∙ passes))
  | inr later ↦ inr (later, passes)
]

-- the least of a list that passes
pub least_of-is : (p : List ℕ → Bool) (P : List ℕ → Type 0) (texts : List (List ℕ)) (least : Option (List ℕ))
    → IsLeastOf P least → IsLeastOf (OrPassing p P texts) (least_of p least texts)
least_of-is p P [] least is =
    least_same P (OrPassing p P []) least
    (λ text holds. inl holds)
    (λ text either. elim either [ inl holds ↦ holds | inr (there, passes) ↦ absurd (contains_none text there) ])
    is
least_of-is p P (x ∷ texts) least is =
    least_same (OrPassing p (OrIs p P x) texts) (OrPassing p P (x ∷ texts))
    (least_of p (cond (p x) (lesser least (Some x)) least) texts)
    (joined_step p P x texts) (parted_step p P x texts)
    (least_of-is p (OrIs p P x) texts (cond (p x) (lesser least (Some x)) least) (first_step p P x least (p x) refl is))

-- the least of those of a list that pass
pub least_passing : (p : List ℕ → Bool) (P : List ℕ → Type 0) (texts : List (List ℕ))
    → ((text : List ℕ) → Contains texts text → p text ≡ true → P text)
    → ((text : List ℕ) → P text → Contains texts text × (p text ≡ true))
    → IsLeastOf P (least_of p None texts)
least_passing p P texts to from =
    least_same (OrPassing p (λ text. ⊥) texts) P (least_of p None texts)
    (λ text either. elim either [ inl never ↦ absurd never | inr (there, passes) ↦ to text there passes ])
    (λ text holds. inr (from text holds))
    (least_of-is p (λ text. ⊥) texts None (λ text never. never))
