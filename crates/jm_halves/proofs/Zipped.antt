-- Items beside the answers to them, list by list: for the map and for its callers.
use Rattle.std.proofs.Common.{◌≡◌, ℕ, ◌+◌, ◌-◌, ◌<◌, ◌≤◌, List, [], ◌∷◌, ◌++◌, length, get_or, take, drop}
use Rattle.std.proofs.Common.{take-add, map, slice_range, Result, Ok, Err, IfOk, IsOkAnd, sym, subst, ap, ◌∙◌}
use Rattle.std.proofs.Common.{arith}
use Rattle.std.proofs.Math.Seq.{take-length}
use Rattle.std.proofs.lemmas.List.{drop-drop, take_more}
use Rattle.std.proofs.lemmas.Slice.Zip.{AllZip-map, all_zipped_more}
use Rattle.std.specs.Borrow.{Bor}
use Rattle.std.specs.Fn.{FnReturns, FnReturnsAt}
use Rattle.std.specs.List.{AllZip}
use denote.Param.Members.{Shared}
use Rattle.jm_halves.specs.ComputedPieces.{piece_start, pieces_between}
use Rattle.jm_halves.proofs.Borders.{piece_start-mono, piece_start-first, piece_start-end}

-- a range is its front and the rest of it
range-append : {A : Type 0} (xs : List A) (a b c : ℕ) → a ≤ b → b ≤ c → slice_range xs a b ++ slice_range xs b c ≡ slice_range xs a c
range-append xs a b c front rest =
    let split = take-add (b - a) (c - b) (drop a xs) in
    let whole : (b - a) + (c - b) ≡ c - a = omega arith in
    let seam : a + (b - a) ≡ b = omega arith in
    sym (rw (whole, drop-drop (b - a) a xs, seam) at split)

module _ {A B : Type 0} (R : A → B → Type 0) where
  -- two lists with their answers, one behind the other
  zip_append : (xs zs : List A) (ys ws : List B) → AllZip R xs ys → AllZip R zs ws → AllZip R (xs ++ zs) (ys ++ ws)
  zip_append [] zs [] ws front back = back
  zip_append [] zs (y ∷ ys) ws front back = absurd front
  zip_append (x ∷ xs) zs [] ws front back = absurd front
  zip_append (x ∷ xs) zs (y ∷ ys) ws front back = (front.0, zip_append xs zs ys ws front.1 back)

  -- the pieces of a run and those of the run behind it
  pub zip_runs : (xs : List A) (pieces from middle to : ℕ) → 0 < pieces → from ≤ middle → middle ≤ to → (ys zs : List B)
      → AllZip R (pieces_between xs pieces from middle) ys → AllZip R (pieces_between xs pieces middle to) zs
      → AllZip R (pieces_between xs pieces from to) (ys ++ zs)
  zip_runs xs pieces from middle to some a b ys zs front back =
      let start = piece_start (length xs) pieces in
      subst (λ (l : List A). AllZip R l (ys ++ zs))
      (range-append xs (start from) (start middle) (start to) (piece_start-mono (length xs) pieces from middle some a)
      (piece_start-mono (length xs) pieces middle to some b))
      (zip_append _ _ ys zs front back)

  -- the same of two answers that may be errors
  pub zip_joined : {V E : Type 0} (items : V → List B) (xs : List A) (pieces from middle to : ℕ) → 0 < pieces → from ≤ middle → middle ≤ to
      → (front back all : Result V E) → IfOk all (λ v. IsOkAnd front (λ a. IsOkAnd back (λ b. items v ≡ items a ++ items b)))
      → IfOk front (λ v. AllZip R (pieces_between xs pieces from middle) (items v))
      → IfOk back (λ v. AllZip R (pieces_between xs pieces middle to) (items v))
      → IfOk all (λ v. AllZip R (pieces_between xs pieces from to) (items v))
  zip_joined items xs pieces from middle to some a b (Ok ys) (Ok zs) (Ok all) joined front back =
      subst (λ (l : List B). AllZip R (pieces_between xs pieces from to) l) (sym joined)
      (zip_runs xs pieces from middle to some a b (items ys) (items zs) front back)
  zip_joined items xs pieces from middle to some a b (Ok ys) (Err e) (Ok all) joined front back = absurd joined
  zip_joined items xs pieces from middle to some a b (Err e) back (Ok all) joined front back' = absurd joined
  zip_joined items xs pieces from middle to some a b front back (Err e) joined front' back' = tt

  -- all pieces are the whole list
  pub zip_whole : (xs : List A) (pieces : ℕ) → 0 < pieces → (ys : List B) → AllZip R (pieces_between xs pieces 0 pieces) ys → AllZip R xs ys
  zip_whole xs pieces some ys zipped =
      let all : pieces_between xs pieces 0 pieces ≡ xs = rw (
        piece_start-first (length xs) pieces,
        piece_start-end (length xs)
            pieces some,
      ) (grind (arith, take-length {A = A})) in
      subst (λ (l : List A). AllZip R l ys) all zipped

  -- one more item with its answer
  pub zip_step : (xs : List A) (ys : List B) (i : ℕ) (x : A) (y : B) → i < length xs → x ≡ get_or xs i x
      → AllZip R (take i xs) ys → R x y → AllZip R (take (i + 1) xs) (ys ++ y ∷ [])
  zip_step xs ys i x y inside here zipped says =
      subst (λ (l : List A). AllZip R l (ys ++ y ∷ []))
      (ap (λ z. take i xs ++ z ∷ []) here ∙ sym (take_more xs i x inside))
      (all_zipped_more R (take i xs) ys x y zipped says)

  -- what each answer to an item of the list meets
  pub zip_weaker : (Q : A → B → Type 0) (xs : List A) (ys : List B) → ((x : A) (y : B) → R x y → Q x y) → AllZip R xs ys → AllZip Q xs ys
  zip_weaker Q [] [] weaker zipped = zipped
  zip_weaker Q [] (y ∷ ys) weaker zipped = absurd zipped
  zip_weaker Q (x ∷ xs) [] weaker zipped = absurd zipped
  zip_weaker Q (x ∷ xs) (y ∷ ys) weaker zipped = (weaker x y zipped.0, zip_weaker Q xs ys weaker zipped.1)

-- for a caller of `map_halves`: each answer meets what is said of any answer to the item
pub zipped_each : {F A B : Type 0} (g : Shared F (Bor A × Unit {0}) B) (f : F) (Q : A → B → Type 0) (xs : List A) (ys : List B)
    → ((x : Bor A) (b : B) → FnReturns g f (x, tt) b → Q x.now b) → AllZip (FnReturnsAt g f) xs ys → AllZip Q xs ys
zipped_each g f Q xs ys answers zipped =
    zip_weaker (FnReturnsAt g f) Q xs ys (λ x y says. subst (λ z. Q z y) says.shows (answers says.shown y says.says)) zipped

-- for a caller of `map_halves` whose function answers v of each item: the answers are v of the items
pub zipped_map_ok : {F A B E : Type 0} (g : Shared F (Bor A × Unit {0}) B) (f : F) (v : A → B) (xs : List A) (r : Result (List B) E)
    → ((x : Bor A) (b : B) → FnReturns g f (x, tt) b → b ≡ v x.now) → IfOk r (λ ys. AllZip (FnReturnsAt g f) xs ys)
    → IfOk r (λ ys. ys ≡ map v xs)
zipped_map_ok g f v xs (Ok ys) answers zipped =
    AllZip-map v xs ys (zip_weaker (FnReturnsAt g f) (λ x y. y ≡ v x) xs ys (λ x y says. answers says.shown y says.says
    ∙ ap v says.shows) zipped)
zipped_map_ok g f v xs (Err e) answers zipped = tt
