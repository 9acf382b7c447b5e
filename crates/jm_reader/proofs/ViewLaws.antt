-- A name as its four pieces with their marks.
use Rattle.std.proofs.Common.{◌≡◌, ◌≢◌, ℕ, Bool, true, false, List, [], ◌∷◌, ◌++◌, length, refl, sym, ap, ◌∙◌}
use Rattle.std.proofs.lemmas.Bool.{false_from_ne_true}
use Rattle.std.proofs.lemmas.Bool.Decides.{Decides-eqb}
use Rattle.std.proofs.lemmas.List.{append_assoc}
use Rattle.std.proofs.lemmas.Slice.Eq.{starts_is}
use Rattle.std.specs.List.{starts_with}
use Rattle.std.specs.Prelude.{drop, nat_eq}
use Rattle.jm_names.specs.Names.{ext_end, join, module_front, parent_front}
use Rattle.jm_reader.specs.Views.{cut_from, mark_of}

module_marks : (piece rest : List ℕ) → module_front piece ++ rest ≡ mark_of piece (47 ∷ []) ++ (piece ++ (mark_of piece (47 ∷ []) ++ rest))
module_marks [] rest = refl
module_marks (b ∷ piece) rest = ap (λ l. 47 ∷ l) (append_assoc (b ∷ piece) (47 ∷ []) rest)

parent_marks : (piece rest : List ℕ) → parent_front piece ++ rest ≡ piece ++ (mark_of piece (47 ∷ []) ++ rest)
parent_marks [] rest = refl
parent_marks (b ∷ piece) rest = append_assoc (b ∷ piece) (47 ∷ []) rest

ext_marks : (piece : List ℕ) → ext_end piece ≡ mark_of piece (46 ∷ []) ++ piece
ext_marks [] = refl
ext_marks (b ∷ piece) = refl

pub joined_marks : (m p b e : List ℕ) → join (cut_from m p b e) ≡ mark_of m (47 ∷ [])
    ++ (m ++ (mark_of m (47 ∷ []) ++ (p ++ (mark_of p (47 ∷ []) ++ (b ++ (mark_of e (46 ∷ []) ++ e))))))
joined_marks m p b e =
    ap (λ l. module_front m ++ (parent_front p ++ (b ++ l))) (ext_marks e)
    ∙ ap (λ l. module_front m ++ l) (parent_marks p (b ++ (mark_of e (46 ∷ []) ++ e)))
    ∙ module_marks m (p ++ (mark_of p (47 ∷ []) ++ (b ++ (mark_of e (46 ∷ []) ++ e))))

-- bytes that are the front and more, or no front and more, begin with it, or don't
pub begins : (bytes front rest : List ℕ) (answer : Bool) → (answer ≡ true → bytes ≡ front ++ rest)
    → (answer ≡ false → (more : List ℕ) → bytes ≢ front ++ more) → answer ≡ starts_with nat_eq bytes front
begins bytes front rest true whole none =
    let is = starts_is Decides-eqb bytes front (starts_with nat_eq bytes front) refl in sym (is.1 rest (whole refl))
begins bytes front rest false whole none =
    let is = starts_is Decides-eqb bytes front (starts_with nat_eq bytes front) refl in
    sym (false_from_ne_true (starts_with nat_eq bytes front) (λ there. none refl (drop (length front) bytes) (is.0 there)))
