-- How the values of words are read, step by step.
use Rattle.std.proofs.Common.{◌≡◌, ◌≢◌, ℕ, ◌+◌, ◌*◌, ◌-◌, ◌<◌, ◌≤◌, Bool, false, ◌==◌, List, [], ◌∷◌, ◌++◌, length, get_or, map, take}
use Rattle.std.proofs.Common.{Option, Some, None, IfSome, refl, sym, ap, ◌∙◌, arith, take-append-drop}
use Rattle.std.specs.List.{list_any, before_first, after_first, position_or_len}
use Rattle.std.specs.Str.Pattern.{CutsSuffixes, FindsCharSuffix, IsTrimEndMatches}
use Rattle.std.proofs.Math.Seq.{drop-length}
use Rattle.std.proofs.lemmas.Str.Pattern.{drop_at_char, strip_suffix_char}
use Rattle.std.proofs.lemmas.Bool.{false≢true, false_from_ne_true, ne_eqb}
use Rattle.std.proofs.lemmas.List.{append_assoc}
use Rattle.std.proofs.lemmas.List.Folds.{list_any_at}
use Rattle.std.proofs.lemmas.List.Splits.{slice_split_first, slice_split_none}
use Rattle.jm_bytes.proofs.Firsts.{position_below}
use Rattle.jm_words.specs.Values.{before_text, behind_first, without_slashes, decimal_from, parts_at}

-- a slash at the end goes
pub slash_goes : (text : List ℕ) → without_slashes (text ++ 47 ∷ []) ≡ without_slashes text
slash_goes [] = refl
slash_goes (b ∷ text) = ap (before_text b) (slash_goes text)

-- a text that doesn't end in one stays
pub no_slash_stays : (text : List ℕ) → ((front : List ℕ) → text ≢ front ++ 47 ∷ []) → without_slashes text ≡ text
no_slash_stays [] other = refl
no_slash_stays (b ∷ []) other =
    let no : (b == 47) ≡ false = ne_eqb b 47 (λ is. other [] (ap (λ c. c ∷ []) is)) in rw no refl
no_slash_stays (b ∷ c ∷ text) other =
    ap (before_text b) (no_slash_stays (c ∷ text) (λ front is. other (b ∷ front) (ap (λ rest. b ∷ rest) is)))

-- what was trimmed of its slashes
trimmed : (ns : List ℕ) (text rest : List ℕ) → CutsSuffixes (FindsCharSuffix 47) text ns rest → without_slashes text ≡ without_slashes rest
trimmed [] text rest cut = ap without_slashes (sym cut)
trimmed (n ∷ ns) text rest (m, cut, found, is) =
    let slash : m ≡ rest ++ 47 ∷ [] = sym (take-append-drop (length m - n) m)
    ∙ ap (λ behind. take (length m - n) m ++ behind) (drop_at_char 47 m (length m - n) (length m) found.1 (omega arith)
    ∙ ap (λ behind. 47 ∷ behind) (drop-length m)) ∙ ap (λ front. front ++ 47 ∷ []) (sym is) in
    trimmed ns text m cut ∙ ap without_slashes slash ∙ slash_goes rest

whole : (rest : List ℕ) (o : Option ℕ) → FindsCharSuffix 47 rest o → IfSome o (λ n. n ≡ 0) → without_slashes rest ≡ rest
whole rest None other zero = no_slash_stays rest (strip_suffix_char 47 rest None other (omega arith))
whole rest (Some n) found zero = absurd (omega (arith, found.0, zero))

pub trimmed_is : (text rest : List ℕ) → IsTrimEndMatches (FindsCharSuffix 47) text rest → rest ≡ without_slashes text
trimmed_is text rest ((ns, cut), (o, found, zero)) = sym (trimmed ns text rest cut ∙ whole rest o found zero)

-- more digits make no lesser number
pub decimal_grows : (n : ℕ) (digits : List ℕ) → n ≤ decimal_from n digits
decimal_grows n [] = omega arith
decimal_grows n (b ∷ digits) = omega (arith, decimal_grows (n * 10 + (b - 48)) digits)

-- where a text is cut at its first element that passes
abbrev IsCut : (ℕ → Bool) → List ℕ → List ℕ → List ℕ → Type 0
IsCut test text part behind = (position_or_len test text < length text) × (part ≡ before_first test text) × (behind ≡ after_first test text)

-- the first part of a text that a byte cuts, and the parts behind it
module _ (byte : ℕ) (text : List ℕ) where
  abbrev is_byte : ℕ → Bool
  is_byte b = b == byte

  none : position_or_len is_byte text ≡ length text → list_any is_byte text ≡ false
  none end = false_from_ne_true (list_any is_byte text) (λ some. let below = position_below is_byte text some in absurd (omega arith))

  pub behind_none : position_or_len is_byte text ≡ length text → behind_first byte text ≡ None
  behind_none end = rw (none end) refl

  parts_none : position_or_len is_byte text ≡ length text → parts_at byte text ≡ text ∷ []
  parts_none end = slice_split_none is_byte text (λ k d below. false_from_ne_true (is_byte (get_or text k d))
      (λ is. false≢true (sym (none end) ∙ list_any_at is_byte text k d below is)))

  -- what is made of the parts, one more of which is made, and of the last one
  module _ (made : List ℕ → List ℕ) (all done more : List (List ℕ)) (one : List ℕ) (so_far : all ≡ done ++ map made (parts_at byte text))
      (pushed : more ≡ done ++ one ∷ []) where
    pub part_made : (part behind : List ℕ) → IsCut is_byte text part behind → one ≡ made part → all ≡ more ++ map made (parts_at byte behind)
    part_made part behind (below, before, after) is =
        rw (so_far, pushed, is, before, after, slice_split_first is_byte text 0 below)
        (sym (append_assoc done (made (before_first is_byte text) ∷ []) (map made (parts_at byte (after_first is_byte text)))))

    pub last_made : position_or_len is_byte text ≡ length text → one ≡ made text → all ≡ more
    last_made end is = rw (so_far, pushed, is, parts_none end) refl
