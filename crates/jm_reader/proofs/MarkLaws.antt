-- A text with its marks at the front of a name.
use Rattle.std.proofs.Common.{◌≡◌, ◌≢◌, ◌==◌, ℕ, zero, suc, ◌+◌, ◌<◌, ◌≤◌, Bool, true, false, cond, List, []}
use Rattle.std.proofs.Common.{◌∷◌, ◌++◌, length, take, get_or, Option, Some, None, option_to_list, refl, sym}
use Rattle.std.proofs.Common.{ap, ◌∙◌, arith, length-append, length-take}
use Rattle.std.proofs.lemmas.Bool.{eq-eqb, eqb-true}
use Rattle.std.proofs.lemmas.List.{append-nil, take_at, length-take-le, take-take}
use Rattle.jm_reader.specs.declared.marks.MarkedText.{MarkedText}
use Rattle.jm_reader.specs.Marks.{behind_mark, marked, marked_text, spelling}

-- where a list and more are a front of another, so is the list alone
front_alone : (xs ys zs : List ℕ) (m : ℕ) → xs ++ ys ≡ take m zs → xs ≡ take (length xs) zs
front_alone xs ys zs m is =
    let size : length xs + length ys ≡ length (take m zs) = sym (length-append xs ys) ∙ ap length is in
    let cut = length-take m zs in
    let front : take (length xs) (xs ++ ys) ≡ take (length xs) (take m zs) = ap (take (length xs)) is in
    sym (take_at xs ys (length xs) refl) ∙ front ∙ take-take (length xs) m zs (omega arith)

-- a text that isn't empty, with its marks
marked_some : (before after : Option ℕ) (text : List ℕ) → 0 < length text → marked before after text ≡ option_to_list before
    ++ (text ++ option_to_list after)
marked_some before after [] some = absurd (omega arith)
marked_some before after (b ∷ text) some = refl

-- what follows the mark in front is a front of what stands behind the mark
pub without_before : (before : Option ℕ) (more name : List ℕ) (m : ℕ) → 0 < length more → option_to_list before ++ more
    ≡ take m name → more ≡ take (length more) (behind_mark before name).1
without_before None more name m some is = front_alone more [] name m (append-nil more ∙ is)
without_before (Some mark) more [] m some is =
    let size = ap length is in
    let nothing : List ℕ = [] in
    let cut = length-take m nothing in
    absurd (omega arith)
without_before (Some mark) more (b ∷ name) zero some is = cc
without_before (Some mark) more (b ∷ name) (suc m) some is =
    let same : b ≡ mark = cc in
    let rest : more ≡ take m name = cc in
    let here : b == mark ≡ true = eq-eqb b mark same in
    rw here (front_alone more [] name m (append-nil more ∙ rest))

-- and a front of what stands behind the mark is one of the name, with the mark in front
pub with_before : (before : Option ℕ) (name : List ℕ) (k : ℕ) → 0 < k → k ≤ length (behind_mark before name).1
    → (option_to_list before ++ take k (behind_mark before name).1 ≡ take ((behind_mark before name).0 + k) name)
    × ((behind_mark before name).0 + k ≤ length name)
with_before None name k some fits = (ap (λ (n : ℕ). take n name) (omega arith), omega arith)
with_before (Some mark) [] k some fits = absurd (omega arith)
with_before (Some mark) (b ∷ name) k some fits = go (b == mark) refl fits
  where
    go : (t : Bool) → b == mark ≡ t → k ≤ length (cond {A = ℕ × List ℕ} t (1, name) (0, [])).1
        → (mark ∷ take k (cond {A = ℕ × List ℕ} t (1, name) (0, [])).1 ≡ take ((cond {A = ℕ × List ℕ} t (1, name) (0, [])).0 + k)
        (b ∷ name)) × ((cond {A = ℕ × List ℕ} t (1, name) (0, [])).0 + k ≤ suc (length name))
    go false other fits = absurd (omega arith)
    go true here fits =
        let same : mark ≡ b = sym (eqb-true b mark here) in
        let more : 1 + k ≡ suc k = omega arith in
        (ap (λ (c : ℕ). c ∷ take k name) same ∙ sym (ap (λ (n : ℕ). take n (b ∷ name)) more), omega arith)

-- a text that is no front of what stands behind the mark is none of the name with its marks
pub no_front : (before after : Option ℕ) (text name : List ℕ) → ((k : ℕ) → text ≢ take k (behind_mark before name).1) → (m : ℕ)
    → marked before after text ≢ take m name
no_front before after [] name other m is = other 0 refl
no_front before after (b ∷ text) name other m is =
    let more : List ℕ = (b ∷ text) ++ option_to_list after in
    let some : 0 < length more = omega (arith, length-append (b ∷ text) (option_to_list after)) in
    let after_mark = without_before before more name m some is in
    other (length (b ∷ text)) (front_alone (b ∷ text) (option_to_list after) (behind_mark before name).1 (length more) after_mark)

-- a text without its mark behind is none of the name with its marks
pub no_mark_behind : (before after : Option ℕ) (text name : List ℕ) (n : ℕ) → 0 < n → n ≤ length (behind_mark before name).1 → text
    ≡ take n (behind_mark before name).1 → ((k : ℕ) → take n (behind_mark before name).1 ++ option_to_list after ≢ take k
    (behind_mark before name).1) → (m : ℕ) → marked before after text ≢ take m name
no_mark_behind before after text name n some fits is other m whole =
    let size : length text ≡ n = ap length is ∙ length-take-le n (behind_mark before name).1 fits in
    let more : List ℕ = text ++ option_to_list after in
    let longer = length-append text (option_to_list after) in
    let shape = marked_some before after text (omega arith) in
    let after_mark = without_before before more name m (omega arith) (sym shape ∙ whole) in
    other (length more) (ap (λ l. l ++ option_to_list after) (sym is) ∙ after_mark)

-- a text with its mark behind is a front of the name with its marks
pub front_marked : (before after : Option ℕ) (text name : List ℕ) (n k : ℕ) → 0 < n → n + k ≤ length (behind_mark before name).1
    → text ≡ take n (behind_mark before name).1 → take (n + k) (behind_mark before name).1 ≡ take n (behind_mark before name).1
    ++ option_to_list after → (marked before after text ≡ take ((behind_mark before name).0 + n + k) name)
    × ((behind_mark before name).0 + n + k ≤ length name)
front_marked before after text name n k some fits is mark =
    let rest : List ℕ = (behind_mark before name).1 in
    let size : length text ≡ n = ap length is ∙ length-take-le n rest (omega arith) in
    let shape = marked_some before after text (omega arith) in
    let whole : text ++ option_to_list after ≡ take (n + k) rest = ap (λ l. l ++ option_to_list after) is ∙ sym mark in
    let put = with_before before name (n + k) (omega arith) fits in
    let sum : (behind_mark before name).0 + (n + k) ≡ (behind_mark before name).0 + n + k = omega arith in
    (shape ∙ ap (λ l. option_to_list before ++ l) whole ∙ put.0 ∙ ap (λ (j : ℕ). take j name) sum, (let fit = put.1 in omega arith))

-- a name of which the first text with its marks is no front is not spelled
pub not_spelled : (bytes name : List ℕ) (texts : List MarkedText) (d : MarkedText) → 0 < length texts
    → ((n : ℕ) → marked_text bytes (get_or texts 0 d) ≢ take n name) → name ≢ spelling bytes texts
not_spelled bytes name [] d some other is = absurd (omega arith)
not_spelled bytes name (text ∷ texts) d some other is =
    let first : List ℕ = marked_text bytes text in
    other (length first) (sym (ap (λ l. take (length first) l) is ∙ take_at first (spelling bytes texts) (length first) refl))
