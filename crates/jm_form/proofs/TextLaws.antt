-- Texts that end at a zero byte: compared with the front of a name byte by byte, and which of them end.
use Rattle.std.proofs.Common.{◌≡◌, ◌≢◌, ◌==◌, ℕ, ◌+◌, ◌-◌, ◌<◌, ◌≤◌, ◌⊎◌, inl, inr, true, false, not, ◌||◌}
use Rattle.std.proofs.Common.{List, length, take, drop, reverse, get_or, sym, ap, ◌∙◌, arith, length-take}
use Rattle.std.proofs.Common.{length-drop, get_or-take, get_or-drop, take-append-drop}
use Rattle.std.proofs.lemmas.Bool.{cases_lt, eqb-false, eqb-true, false_from_ne_true, le-ltb, lt-ltb, not-false, not-true}
use Rattle.std.proofs.lemmas.List.{drop-take, get_or-reverse, length-reverse, take_all, take_more_same}
use Rattle.std.proofs.lemmas.List.Sums.{fails_before_first, passes_at_first, prefix_len_passes}
use Rattle.std.proofs.lemmas.List.Sums.{prefix_len_stops, suffix_len-le-length, suffix_len_is}
use Rattle.std.proofs.lemmas.List.Folds.{list_any-append, list_any_at}
use Rattle.std.specs.List.{before_first, list_any, position_or_len, suffix_len}
use Rattle.std.specs.Prelude.{nat_lt}
use Rattle.jm_bytes.proofs.Firsts.{before_first-take, no_first}
use Rattle.jm_form.specs.Texts.{EndsWithin, ended_length, text_at, text_ends}

zero_place : (bytes : List ℕ) (place : ℕ) → EndsWithin bytes place → position_or_len (λ x. x == 0) (drop place bytes)
    ≡ length (text_at bytes place)
zero_place bytes place ends =
    let p : ℕ = position_or_len (λ x. x == 0) (drop place bytes) in
    let size = length-take p (drop place bytes) in
    let rest = length-drop place bytes in
    let within = ends.within in
    omega arith

-- no byte of the text is zero
inside : (bytes : List ℕ) (place n : ℕ) → EndsWithin bytes place → n < length (text_at bytes place) → get_or bytes (place + n) 0 ≢ 0
inside bytes place n ends below =
    let end = zero_place bytes place ends in
    let fails = fails_before_first (λ x. x == 0) (drop place bytes) n 0 (omega arith) in
    eqb-false (get_or bytes (place + n) 0) 0 (rw get_or-drop at fails)

-- the byte behind it is
behind : (bytes : List ℕ) (place : ℕ) → EndsWithin bytes place → get_or bytes (place + length (text_at bytes place)) 0 ≡ 0
behind bytes place ends =
    let end = zero_place bytes place ends in
    let rest = length-drop place bytes in
    let within = ends.within in
    let passes = passes_at_first (λ x. x == 0) (drop place bytes) 0 (omega arith) in
    eqb-true (get_or bytes (place + length (text_at bytes place)) 0) 0 (rw (end, get_or-drop) at passes)

-- a zero byte that isn't behind the text's end ends it
pub zero_ends : (bytes : List ℕ) (place n : ℕ) → EndsWithin bytes place → n ≤ length (text_at bytes place)
    → get_or bytes (place + n) 0 ≡ 0 → n ≡ length (text_at bytes place)
zero_ends bytes place n ends within here = go (first bytes place n within)
  where
    first : (bytes : List ℕ) (place n : ℕ) → n ≤ length (text_at bytes place) → (n ≡ length (text_at bytes place))
        ⊎ (n < length (text_at bytes place))
    first bytes place n within = grind arith

    go : (n ≡ length (text_at bytes place)) ⊎ (n < length (text_at bytes place)) → n ≡ length (text_at bytes place)
    go (inl same) = same
    go (inr below) = absurd (inside bytes place n ends below here)

-- another byte there is one of the text
pub other_inside : (bytes : List ℕ) (place n : ℕ) → EndsWithin bytes place → n ≤ length (text_at bytes place)
    → get_or bytes (place + n) 0 ≢ 0 → n < length (text_at bytes place)
other_inside bytes place n ends within here = go (first bytes place n within)
  where
    first : (bytes : List ℕ) (place n : ℕ) → n ≤ length (text_at bytes place) → (n ≡ length (text_at bytes place))
        ⊎ (n < length (text_at bytes place))
    first bytes place n within = grind arith

    go : (n ≡ length (text_at bytes place)) ⊎ (n < length (text_at bytes place)) → n < length (text_at bytes place)
    go (inl same) = absurd (here (ap (λ (k : ℕ). get_or bytes (place + k) 0) same ∙ behind bytes place ends))
    go (inr below) = below

text_byte : (bytes : List ℕ) (place n : ℕ) → EndsWithin bytes place → n < length (text_at bytes place)
    → get_or (text_at bytes place) n 0 ≡ get_or bytes (place + n) 0
text_byte bytes place n ends below =
    let end = zero_place bytes place ends in
    get_or-take (position_or_len (λ x. x == 0) (drop place bytes)) (drop place bytes) n 0 (omega arith) ∙ get_or-drop place bytes n 0

-- the text ends where it agreed with a name so far: it is this front of the name
pub front_found : (bytes name : List ℕ) (place n : ℕ) → EndsWithin bytes place → n ≤ length (text_at bytes place)
    → take n (text_at bytes place) ≡ take n name → get_or bytes (place + n) 0 ≡ 0 → text_at bytes place ≡ take n name
front_found bytes name place n ends within same here =
    let end = zero_ends bytes place n ends within here in
    sym (take_all n (text_at bytes place) (omega arith)) ∙ same

-- one byte more agrees
pub front_more : (bytes name : List ℕ) (place n : ℕ) → EndsWithin bytes place → n ≤ length (text_at bytes place) → n < length name
    → take n (text_at bytes place) ≡ take n name → get_or bytes (place + n) 0 ≢ 0 → get_or bytes (place + n) 0 ≡ get_or name n 0
    → (n + 1 ≤ length (text_at bytes place)) × (take (n + 1) (text_at bytes place) ≡ take (n + 1) name)
front_more bytes name place n ends within named same some equal =
    let below = other_inside bytes place n ends within some in
    (omega arith, take_more_same (text_at bytes place) name n 0 below named same (text_byte bytes place n ends below ∙ equal))

-- a byte differs: the text is no front of the name
pub front_differs : (bytes name : List ℕ) (place n : ℕ) → EndsWithin bytes place → n ≤ length (text_at bytes place)
    → n < length name → get_or bytes (place + n) 0 ≢ 0 → get_or bytes (place + n) 0 ≢ get_or name n 0 → (m : ℕ)
    → text_at bytes place ≢ take m name
front_differs bytes name place n ends within named some differs m is =
    let below = other_inside bytes place n ends within some in
    let size = ap length is in
    let cut = length-take m name in
    let byte : get_or (take m name) n 0 ≡ get_or name n 0 = get_or-take m name n 0 (omega arith) in
    differs (sym (text_byte bytes place n ends below) ∙ ap (λ (l : List ℕ). get_or l n 0) is ∙ byte)

-- the text is longer than the name
pub front_longer : (bytes name : List ℕ) (place : ℕ) → EndsWithin bytes place → length name ≤ length (text_at bytes place)
    → get_or bytes (place + length name) 0 ≢ 0 → (m : ℕ) → text_at bytes place ≢ take m name
front_longer bytes name place ends within some m is =
    let below = other_inside bytes place (length name) ends within some in
    let size = ap length is in
    let cut = length-take m name in
    absurd (omega arith)

-- Which texts end

-- how many bytes at the section's end aren't zero
abbrev behind_last : List ℕ → ℕ
behind_last section = suffix_len (λ x. not (x == 0)) section

ended_length_is : (section : List ℕ) → ended_length section ≡ length section - behind_last section
ended_length_is section =
    let below = suffix_len-le-length (λ x. not (x == 0)) section in
    let size = length-drop (length section - behind_last section) section in
    omega arith

pub ended_length-le : (section : List ℕ) → ended_length section ≤ length section
ended_length-le section = let is = ended_length_is section in omega arith

-- the last byte in front of that length is zero
last_zero : (section : List ℕ) → 0 < ended_length section → get_or section (ended_length section - 1) 0 == 0 ≡ true
last_zero section some =
    let is = ended_length_is section in
    let turned = length-reverse section in
    let stops : not (get_or (reverse section) (behind_last section) 0 == 0) ≡ false = prefix_len_stops (λ x. not (x == 0))
    (reverse section) 0 (omega arith) in
    let read = get_or-reverse section (behind_last section) 0 (omega arith) in
    let place : length section - 1 - behind_last section ≡ ended_length section - 1 = omega arith in
    let same : get_or (reverse section) (behind_last section) 0 ≡ get_or section (ended_length section - 1) 0 = read
    ∙ ap (λ (k : ℕ). get_or section k 0) place in
    not-false (get_or section (ended_length section - 1) 0 == 0) (sym (ap (λ (x : ℕ). not (x == 0)) same) ∙ stops)

-- none of those behind it is
none_behind : (section : List ℕ) (k : ℕ) → ended_length section ≤ k → k < length section → get_or section k 0 == 0 ≡ false
none_behind section k from to =
    let is = ended_length_is section in
    let turned = length-reverse section in
    let passes : not (get_or (reverse section) (length section - 1 - k) 0 == 0) ≡ true = prefix_len_passes (λ x. not (x == 0))
    (reverse section) (length section - 1 - k) 0 (omega arith) in
    let read = get_or-reverse section (length section - 1 - k) 0 (omega arith) in
    let place : length section - 1 - (length section - 1 - k) ≡ k = omega arith in
    let same : get_or (reverse section) (length section - 1 - k) 0 ≡ get_or section k 0 = read ∙ ap (λ (k : ℕ). get_or section k 0) place in
    not-true (get_or section k 0 == 0) (sym (ap (λ (x : ℕ). not (x == 0)) same) ∙ passes)

-- a text whose place is in front of that length ends in front of it
front_ends : (section : List ℕ) (place : ℕ) → place < ended_length section
    → list_any (λ x. x == 0) (take (ended_length section - place) (drop place section)) ≡ true
front_ends section place below =
    let size = length-drop place section in
    let most = ended_length-le section in
    let zero_byte = last_zero section (omega arith) in
    let last : ℕ = ended_length section - 1 - place in
    let at : place + last ≡ ended_length section - 1 = omega arith in
    let front : List ℕ = take (ended_length section - place) (drop place section) in
    let cut = length-take (ended_length section - place) (drop place section) in
    let read : get_or front last 0 ≡ get_or section (ended_length section - 1) 0 =
    get_or-take (ended_length section - place) (drop place section) last 0 (omega arith) ∙ get_or-drop place section last 0
    ∙ ap (λ (k : ℕ). get_or section k 0) at in
    list_any_at (λ x. x == 0) front last 0 (omega arith) (ap (λ (x : ℕ). x == 0) read ∙ zero_byte)

ends_below : (section : List ℕ) (place : ℕ) → place < ended_length section → text_ends section place ≡ true
ends_below section place below =
    let text : List ℕ = drop place section in
    let size : ℕ = ended_length section - place in
    ap (list_any (λ x. x == 0)) (sym (take-append-drop size text)) ∙ list_any-append (λ x. x == 0) (take size text) (drop size text)
    ∙ ap (λ b. b || list_any (λ x. x == 0) (drop size text)) (front_ends section place below)

-- and no other text ends
pub text_ends-below : (section : List ℕ) (place : ℕ) → text_ends section place ≡ nat_lt place (ended_length section)
text_ends-below section place =
    elim (cases_lt place (ended_length section)) [
      | inl below ↦ ends_below section place below ∙ sym (lt-ltb place (ended_length section) below)
      | inr past ↦ none_past past ∙ sym (le-ltb place (ended_length section) past)
    ]
  where
    none_past : ended_length section ≤ place → text_ends section place ≡ false
    none_past past = no_first (λ x. x == 0) (drop place section) 0 (λ k inside passes. fails k inside passes)
      where
        fails : (k : ℕ) → k < length (drop place section) → get_or (drop place section) k 0 == 0 ≡ true → ⊥
        fails k inside passes =
            let size = length-drop place section in
            let none = none_behind section (place + k) (omega arith) (omega arith) in
            let read : get_or (drop place section) k 0 ≡ get_or section (place + k) 0 = get_or-drop place section k 0 in
            let both = sym passes ∙ ap (λ (x : ℕ). x == 0) read ∙ none in
            cc

pub text_in_front : (section : List ℕ) (place : ℕ) → place < ended_length section → text_at (take (ended_length section) section)
    place ≡ text_at section place
text_in_front section place below =
    let whole : place + (ended_length section - place) ≡ ended_length section = omega arith in
    let cut = drop-take place (ended_length section - place) section in
    let front : drop place (take (ended_length section) section) ≡ take (ended_length section - place) (drop place section) =
    rw whole at cut in
    ap (before_first (λ x. x == 0)) front ∙ (before_first-take (λ x. x == 0) (ended_length section - place) (drop place section)
    (front_ends section place below)).0

pub ends_within : (section : List ℕ) (place : ℕ) → place < ended_length section → EndsWithin section place
ends_within section place below =
    let short = (before_first-take (λ x. x == 0) (ended_length section - place) (drop place section) (front_ends section place below)).1 in
    let cut = length-take (ended_length section - place) (drop place section) in
    let size = length-drop place section in
    record { within = omega arith }

-- the length, from the place of the last zero byte
pub ended_length-last : (section : List ℕ) (place : ℕ) → place < length section → get_or section place 0 == 0 ≡ true
    → ((k : ℕ) → place + 1 ≤ k → k < length section → get_or section k 0 == 0 ≡ true → ⊥) → ended_length section ≡ place + 1
ended_length-last section place inside here after =
    let is = ended_length_is section in
    let size = suffix_len_is (λ x. not (x == 0)) section (place + 1) 0 (omega arith)
    (λ k from to. ap not (false_from_ne_true (get_or section k 0 == 0) (after k from to))) (λ some. ap not (before some)) in
    omega arith
  where
    before : 0 < place + 1 → get_or section (place + 1 - 1) 0 == 0 ≡ true
    before some = let back : place + 1 - 1 ≡ place = omega arith in rw back here

pub ended_length-none : (section : List ℕ) → ((k : ℕ) → 0 ≤ k → k < length section → get_or section k 0 == 0 ≡ true → ⊥)
    → ended_length section ≡ 0
ended_length-none section none =
    let is = ended_length_is section in
    let size = suffix_len_is (λ x. not (x == 0)) section 0 0 (omega arith)
    (λ k from to. ap not (false_from_ne_true (get_or section k 0 == 0) (none k from to))) (λ some. absurd (omega arith)) in
    omega arith
