-- The strings section with one text more, and which texts have a place in it.
use Rattle.std.proofs.Common.{◌≡◌, ℕ, ◌+◌, ◌⊎◌, ◌↔◌, inl, inr, Bool, true, false, cond, List, [], ◌∷◌, ◌++◌}
use Rattle.std.proofs.Common.{Option, Some, None, IsSome, Contains, length, refl, sym, ap, ◌∙◌, subst, arith}
use Rattle.std.proofs.Common.{append_assoc, length-append, option_map}
use Rattle.std.proofs.lemmas.Bool.{false≢true}
use Rattle.std.proofs.lemmas.List.{append-nil}
use Rattle.std.proofs.lemmas.Cmp.{nat_list_eq_equiv}
use Rattle.std.proofs.lemmas.Slice.Eq.{bytes_eq-Decides}
use Rattle.std.specs.Str.{bytes_eq}
use Rattle.jm_bytes.proofs.Members.{contains_here, contains_later, contains_cases, contains_none}
use Rattle.jm_form.specs.Strings.{place_of, section_of}

-- One text more

pub section-push : (texts : List (List ℕ)) (text : List ℕ) → section_of (texts ++ text ∷ []) ≡ section_of texts ++ (text ++ 0 ∷ [])
section-push [] text = append-nil (text ++ 0 ∷ [])
section-push (first ∷ texts) text = ap (λ l. (first ++ 0 ∷ []) ++ l) (section-push texts text)
    ∙ sym (append_assoc (first ++ 0 ∷ []) (section_of texts) (text ++ 0 ∷ []))

pub length-section-push : (texts : List (List ℕ)) (text : List ℕ) → length (section_of (texts ++ text ∷ []))
    ≡ length (section_of texts) + (length text + 1)
length-section-push texts text =
    let one = length-append text (0 ∷ []) in
    let all = length-append (section_of texts) (text ++ 0 ∷ []) in
    ap length (section-push texts text) ∙ omega (arith, one, all)

pub length-first : (first : List ℕ) (texts : List (List ℕ)) → length (section_of (first ∷ texts)) ≡ (length first + 1)
    + length (section_of texts)
length-first first texts =
    let one = length-append first (0 ∷ []) in
    let all = length-append (first ++ 0 ∷ []) (section_of texts) in
    omega (arith, one, all)

-- a text that isn't held gets the place behind all others
pub place_of-push : (text : List ℕ) (texts : List (List ℕ)) → place_of text texts ≡ None → place_of text (texts ++ text ∷ [])
    ≡ Some (length (section_of texts))
place_of-push text [] none = rw (nat_list_eq_equiv.refl text) refl
place_of-push text (first ∷ texts) none = go (bytes_eq text first) (place_of text texts) none (λ e. place_of-push text texts e)
  where
    go : (b : Bool) (o : Option ℕ) → cond b (Some 0) (option_map (λ (place : ℕ). (length first + 1) + place) o) ≡ None
        → (o ≡ None → place_of text (texts ++ text ∷ []) ≡ Some (length (section_of texts)))
        → cond b (Some 0) (option_map (λ (place : ℕ). (length first + 1) + place) (place_of text (texts ++ text ∷ [])))
        ≡ Some (length (section_of (first ∷ texts)))
    go true o none rest = cc
    go false (Some n) none rest = cc
    go false None none rest = ap (option_map (λ (place : ℕ). (length first + 1) + place)) (rest refl)
        ∙ ap (λ (n : ℕ). Some n) (sym (length-first first texts))

-- Places

-- a text has a place exactly where it is held
held-place : (text : List ℕ) (texts : List (List ℕ)) (place : ℕ) → place_of text texts ≡ Some place → Contains texts text
held-place text [] place is = cc
held-place text (first ∷ texts) place is = go (bytes_eq text first) refl (place_of text texts) is (λ p e. contains_later first texts
    text (held-place text texts p e))
  where
    go : (b : Bool) → bytes_eq text first ≡ b → (o : Option ℕ) → cond b (Some 0) (option_map (λ n. (length first + 1) + n) o)
        ≡ Some place → ((p : ℕ) → o ≡ Some p → Contains (first ∷ texts) text) → Contains (first ∷ texts) text
    go true test o is rest = subst (λ t. Contains (t ∷ texts) text) ((bytes_eq-Decides text first).0 test) (contains_here text texts)
    go false test None is rest = cc
    go false test (Some p) is rest = rest p refl

place-held : (text : List ℕ) (texts : List (List ℕ)) → Contains texts text → IsSome (place_of text texts)
place-held text [] there = absurd (contains_none text there)
place-held text (first ∷ texts) there = go (bytes_eq text first) refl (contains_cases first texts text there)
    (λ later. place-held text texts later)
  where
    more : (o : Option ℕ) → IsSome o → IsSome (option_map (λ (n : ℕ). (length first + 1) + n) o)
    more None some = cc
    more (Some n) some = refl

    go : (b : Bool) → bytes_eq text first ≡ b → (first ≡ text) ⊎ Contains texts text
        → (Contains texts text → IsSome (place_of text texts))
        → IsSome (cond b (Some 0) (option_map (λ (n : ℕ). (length first + 1) + n) (place_of text texts)))
    go true test there rest = refl
    go false test (inl same) rest = absurd (false≢true (sym test ∙ ap (bytes_eq text) same ∙ nat_list_eq_equiv.refl text))
    go false test (inr later) rest = more (place_of text texts) (rest later)

held-some : (text : List ℕ) (texts : List (List ℕ)) (o : Option ℕ) → place_of text texts ≡ o → IsSome o → Contains texts text
held-some text texts None is some = cc
held-some text texts (Some place) is some = held-place text texts place is

pub place-iff : (text : List ℕ) (texts : List (List ℕ)) (o : Option ℕ) → o ≡ place_of text texts → IsSome o ↔ Contains texts text
place-iff text texts o is = (λ some. held-some text texts o (sym is) some, λ there. rw is (place-held text texts there))
