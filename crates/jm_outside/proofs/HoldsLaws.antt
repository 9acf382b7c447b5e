-- Bytes that are added to a file, one piece after another.
use Rattle.std.proofs.Common.{◌≡◌, inl, inr, ℕ, ◌+◌, true, cond, List, [], ◌∷◌, ◌++◌, length, take, Option}
use Rattle.std.proofs.Common.{Some, None, option_map, unwrap_or, refl, sym, ap, ◌∙◌, subst, arith}
use Rattle.std.proofs.Common.{length-append}
use Rattle.std.specs.Ordering.{is_eq, nat_cmp, match_ordering}
use Rattle.std.specs.declared.cmp.Ordering.{Ordering}
use Rattle.std.specs.declared.cmp.Ordering.TheVariants.{Less, Equal, Greater}
use Rattle.std.specs.Cmp.Lexicographic.{slice_cmp}
use Rattle.std.proofs.lemmas.Cmp.{nat_list_eq_equiv}
use Rattle.std.proofs.lemmas.List.{take-append-le, take_all}
use Rattle.std.proofs.Math.Seq.{take-append-add, take-append_seam}
use Rattle.std.proofs.lemmas.Map.Text.{is_eq-slice_cmp}
use Rattle.jm_bytes.proofs.Choice.{same_some}
use Rattle.jm_outside.specs.Files.{Files, file, put, add}
use Rattle.jm_outside.specs.Outcome.{AddsFront, AsBeforeOrEmpty, Told}
use Rattle.jm_outside.proofs.Laws.{file-put}
use Rattle.jm_outside.specs.Holds.{Holds, HoldsPart}

-- a path compared with itself
same_path : (path : List ℕ) → is_eq (slice_cmp nat_cmp path path) ≡ true
same_path path = is_eq-slice_cmp path path ∙ nat_list_eq_equiv.refl path

-- the last bytes that a path was given stand
pub put-put : (files : Files) (path first second : List ℕ) → put (put files path first) path second ≡ put files path second
put-put [] path first second = go (slice_cmp nat_cmp path path) (same_path path)
  where
    go : (o : Ordering) → is_eq o ≡ true → match_ordering o ((path, second) ∷ (path, first) ∷ []) ((path, second) ∷ [])
        ((path, first) ∷ put [] path second) ≡ (path, second) ∷ []
    go Less is = cc
    go Equal is = refl
    go Greater is = cc
put-put (f ∷ files) path first second = go (slice_cmp nat_cmp path f.0) refl (put-put files path first second)
  where
    again : (o : Ordering) → is_eq o ≡ true → match_ordering o ((path, second) ∷ (path, first) ∷ (f ∷ files)) ((path, second)
        ∷ (f ∷ files)) ((path, first) ∷ put (f ∷ files) path second) ≡ (path, second) ∷ (f ∷ files)
    again Less is = cc
    again Equal is = refl
    again Greater is = cc

    go : (o : Ordering) → slice_cmp nat_cmp path f.0 ≡ o → put (put files path first) path second ≡ put files path second
        → put (match_ordering o ((path, first) ∷ f ∷ files) ((f.0, first) ∷ files) (f ∷ put files path first)) path second
        ≡ match_ordering o ((path, second) ∷ f ∷ files) ((f.0, second) ∷ files) (f ∷ put files path second)
    go Less is rest = again (slice_cmp nat_cmp path path) (same_path path)
    go Equal is rest = rw is refl
    go Greater is rest = rw (is, rest) refl

-- bytes that are added to a file with known bytes
pub add-put : (files : Files) (path done more : List ℕ) → add (put files path done) path more ≡ put files path (done ++ more)
add-put files path done more =
    let has : file (put files path done) path ≡ Some done = file-put files path done path
    ∙ ap (λ b. cond b (Some done) (file files path)) (nat_list_eq_equiv.refl path) in
    ap (λ o. put (put files path done) path (unwrap_or o [] ++ more)) has ∙ put-put files path done (done ++ more)

-- a piece was added
pub holds_more : (base now new : Option Files) (path done piece : List ℕ) → Holds base path done now → new
    ≡ option_map (λ files. add files path piece) now → Holds base path (done ++ piece) new
holds_more base now new path done piece holds is = is ∙ ap (option_map (λ files. add files path piece)) holds ∙ go base
  where
    go : (o : Option Files) → option_map (λ files. add files path piece) (option_map (λ files. put files path done) o)
        ≡ option_map (λ files. put files path (done ++ piece)) o
    go None = refl
    go (Some files) = ap (λ (f : Files). Some f) (add-put files path done piece)

-- the file holds a front of more bytes
pub part_of_more : (base now : Option Files) (path bytes more : List ℕ) → HoldsPart base path bytes now
    → HoldsPart base path (bytes ++ more) now
part_of_more None now path bytes more part = tt
part_of_more (Some old) None path bytes more part = part
part_of_more (Some old) (Some new) path bytes more (inl same) = inl same
part_of_more (Some old) (Some new) path bytes more (inr (n, within, is)) =
    let size = length-append bytes more in
    inr (n, omega (arith, size, within), is ∙ ap (put old path) (sym (take-append-le n bytes more within)))

-- a front of a piece was added
pub part_added : (base now new : Option Files) (path done piece : List ℕ) → Holds base path done now
    → Told now new (λ (o n : Files). AddsFront o n path piece) → HoldsPart base path (done ++ piece) new
part_added None now new path done piece holds told = tt
part_added (Some old) now new path done piece holds told =
    go new (subst (λ (o : Option Files). Told o new (λ (a b : Files). AddsFront a b path piece)) holds told)
  where
    go : (o : Option Files) → Told (Some (put old path done)) o (λ (a b : Files). AddsFront a b path piece)
        → HoldsPart (Some old) path (done ++ piece) o
    go None told = told
    go (Some files) (inl same) =
        let size = length-append done piece in
        inr (length done, omega (arith, size), same ∙ ap (put old path) (sym (take-append_seam done piece)))
    go (Some files) (inr (n, within, is)) =
        let size = length-append done piece in
        inr (
          length done + n,
          omega (arith, size, within),
          is ∙ add-put old path done (take n piece)
              ∙ ap (put old path) (sym (take-append-add done piece n)),
        )

-- the file was made empty or not at all
pub part_made : (old new : Option Files) (path bytes : List ℕ) → Told old new (λ (a b : Files). AsBeforeOrEmpty a b path)
    → HoldsPart old path bytes new
part_made None new path bytes told = tt
part_made (Some old) None path bytes told = told
part_made (Some old) (Some new) path bytes (inl same) = inl same
part_made (Some old) (Some new) path bytes (inr empty) = inr (0, omega arith, empty)

-- a file that holds all the bytes holds a front of them
pub part_of_whole : (base now : Option Files) (path bytes : List ℕ) → Holds base path bytes now → HoldsPart base path bytes now
part_of_whole None now path bytes holds = tt
part_of_whole (Some old) None path bytes holds = cc
part_of_whole (Some old) (Some new) path bytes holds =
    inr (
      length bytes,
      omega arith,
      same_some new (put old path bytes) holds
          ∙ ap (put old path) (sym (take_all (length bytes) bytes (omega arith))),
    )
