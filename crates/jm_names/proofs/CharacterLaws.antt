-- Characters, and runs of them.
use Rattle.std.proofs.Common.{◌≡◌, ℕ, ◌+◌, ◌<◌, true, List, [], ◌∷◌, ◌++◌, length, take, drop, sym, ap, inl, inr, ◌∙◌, append-nil, arith}
use Rattle.std.proofs.lemmas.Bool.{false≢true, cases_lt}
use Rattle.std.proofs.lemmas.List.Folds.{concat-append, list_all-append}
use Rattle.std.proofs.Math.Seq.{take-add}
use Rattle.jm_names.specs.Characters.{is_character, IsText, IsLongestText}

-- a character has at least one byte
pub character_some : (c : List ℕ) → is_character c ≡ true → 0 < length c
character_some [] h = absurd (false≢true h)
character_some (a ∷ c) h = omega arith

-- one more character
pub IsText-more : (bytes : List ℕ) (at n : ℕ) → IsText (take at bytes) → is_character (take n (drop at bytes)) ≡ true
    → IsText (take (at + n) bytes)
IsText-more bytes at n text h = (
  text.0 ++ take n (drop at bytes) ∷ [],
  list_all-append is_character text.0 (take n (drop at bytes) ∷ []) ∙ rw (text.1, h),
  concat-append text.0 (take n (drop at bytes) ∷ []) ∙ ap (λ xs. xs ++ (take n (drop at bytes) ++ [])) text.2
      ∙ ap (λ xs. take at bytes ++ xs) (append-nil (take n (drop at bytes))) ∙ sym (take-add at n bytes),
)

-- one character and a run after it
pub IsText-cons : (bytes : List ℕ) (n m : ℕ) → is_character (take n bytes) ≡ true → IsText (take m (drop n bytes))
    → IsText (take (n + m) bytes)
IsText-cons bytes n m h text = (
  take n bytes ∷ text.0,
  rw (h, text.1),
  ap (λ xs. take n bytes ++ xs) text.2 ∙ sym (take-add n m bytes),
)

-- there is one longest front
pub IsLongestText-unique : (bytes : List ℕ) (a b : ℕ) → IsLongestText a bytes → IsLongestText b bytes → a ≡ b
IsLongestText-unique bytes a b h k = elim (cases_lt a b) [
  | inl lt ↦ absurd (h.longest b lt k.within k.text)
  | inr ge ↦ elim (cases_lt b a) [
    | inl lt ↦ absurd (k.longest a lt h.within h.text)
    | inr le ↦ omega arith
  ]
]
