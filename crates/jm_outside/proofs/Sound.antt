-- Files that rise by their paths, each of which is text, and that have bytes alone stay so; and so do the
-- names below a folder.
use Rattle.std.proofs.Common.{◌≡◌, ◌<◌, ℕ, List, [], ◌∷◌, ◌++◌, Option, Some, None, refl, sym, ◌∙◌, ap, All}
use Rattle.std.proofs.Common.{IsUtf8, lit<, drop, length, length-append, arith, rules, Result, Ok, Err, OnOk}
use Rattle.std.proofs.Common.{OnErr, Bool, true, false, cond, get_or, unwrap_or, Fits, w8}
use Rattle.std.specs.Ordering.{nat_cmp, match_ordering, ordering_reverse}
use Rattle.std.specs.declared.cmp.Ordering.{Ordering}
use Rattle.std.specs.declared.cmp.Ordering.TheVariants.{Less, Equal, Greater}
use Rattle.std.specs.Cmp.Lexicographic.{slice_cmp, nat_list_cmp_total}
use Rattle.std.specs.List.{AllByRecursion, filter_map, cons_option}
use Rattle.std.specs.List.Sorted.{IsStrictlySortedBy}
use Rattle.std.proofs.lemmas.List.Elements.{All-nil, All-cons, All-head, All-tail, All-append, All-from_get_or}
use Rattle.std.specs.Str.{bytes_eq}
use Rattle.std.proofs.lemmas.Str.{IsUtf8-drop, IsUtf8-append, IsUtf8-encode, IsUtf8-had, encode_ascii, IsCharBoundary-from_take}
use Rattle.std.specs.Str.{IsCharBoundary}
use Rattle.std.proofs.lemmas.List.{take_at, drop_at}
use Rattle.std.proofs.lemmas.Bool.Decides.{nat_tests}
use Rattle.jm_outside.specs.Files.{Files, Rising, AreBytes, HaveBytes, paths, file, put, after_front, names_below}
use Rattle.jm_outside.proofs.Names.{front_of}

-- a text below another is below all that rise above that
below_all : (path p : List ℕ) (ps : List (List ℕ)) → slice_cmp nat_cmp path p ≡ Less → AllByRecursion (λ q. slice_cmp nat_cmp p q
    ≡ Less) ps → AllByRecursion (λ q. slice_cmp nat_cmp path q ≡ Less) ps
below_all path p [] below all = tt
below_all path p (q ∷ ps) below all = (nat_list_cmp_total.trans path p q below all.0, below_all path p ps below all.1)

-- what is below all paths stays so where another path above it comes in
below_put : (p path bytes : List ℕ) (files : Files) → slice_cmp nat_cmp p path ≡ Less → AllByRecursion (λ q. slice_cmp nat_cmp p q
    ≡ Less) (paths files) → AllByRecursion (λ q. slice_cmp nat_cmp p q ≡ Less) (paths (put files path bytes))
below_put p path bytes [] below all = (below, tt)
below_put p path bytes (f ∷ files) below all = go (slice_cmp nat_cmp path f.0) (below_put p path bytes files below all.1)
  where
    go : (o : Ordering) → AllByRecursion (λ q. slice_cmp nat_cmp p q ≡ Less) (paths (put files path bytes))
        → AllByRecursion (λ q. slice_cmp nat_cmp p q ≡ Less) (paths (match_ordering o ((path, bytes) ∷ f ∷ files) ((f.0, bytes)
        ∷ files) (f ∷ put files path bytes)))
    go Less later = (below, all)
    go Equal later = all
    go Greater later = (all.0, later)

turned : (p q : List ℕ) → slice_cmp nat_cmp p q ≡ Greater → slice_cmp nat_cmp q p ≡ Less
turned p q h = nat_list_cmp_total.antisymm q p ∙ ap ordering_reverse h

pub rising_put : (files : Files) (path bytes : List ℕ) → Rising (paths files) → Rising (paths (put files path bytes))
unfolding IsStrictlySortedBy
rising_put [] path bytes rising = (tt, tt)
rising_put (f ∷ files) path bytes rising = go (slice_cmp nat_cmp path f.0) refl (rising_put files path bytes rising.1)
  where
    go : (o : Ordering) → slice_cmp nat_cmp path f.0 ≡ o → Rising (paths (put files path bytes))
        → Rising (paths (match_ordering o ((path, bytes) ∷ f ∷ files) ((f.0, bytes) ∷ files) (f ∷ put files path bytes)))
    go Less h later = ((h, below_all path f.0 (paths files) h rising.0), rising)
    go Equal h later = rising
    go Greater h later = (below_put f.0 path bytes files (turned path f.0 h) rising.0, later)

pub all_put : (P : List ℕ → Type 0) (files : Files) (path bytes : List ℕ) → P path → All P (paths files)
    → All P (paths (put files path bytes))
all_put P [] path bytes this all = All-cons P path [] this (All-nil P)
all_put P (f ∷ files) path bytes this all = go (slice_cmp nat_cmp path f.0) (all_put P files path bytes this
    (All-tail P f.0 (paths files) all))
  where
    go : (o : Ordering) → All P (paths (put files path bytes))
        → All P (paths (match_ordering o ((path, bytes) ∷ f ∷ files) ((f.0, bytes) ∷ files) (f ∷ put files path bytes)))
    go Less later = All-cons P path (paths (f ∷ files)) this all
    go Equal later = all
    go Greater later = All-cons P f.0 (paths (put files path bytes)) (All-head P f.0 (paths files) all) later

-- what holds of the bytes of each file holds so where others that have it come in
pub contents_put : (P : List ℕ → Type 0) (files : Files) (path bytes : List ℕ) → P bytes → All (λ (f : List ℕ × List ℕ). P f.1) files
    → All (λ (f : List ℕ × List ℕ). P f.1) (put files path bytes)
contents_put P [] path bytes this all = All-cons (λ (f : List ℕ × List ℕ). P f.1) (path, bytes) [] this
    (All-nil (λ (f : List ℕ × List ℕ). P f.1))
contents_put P (f ∷ files) path bytes this all = go (slice_cmp nat_cmp path f.0) (contents_put P files path bytes this rest)
  where
    rest : All (λ (f : List ℕ × List ℕ). P f.1) files
    rest = All-tail (λ (f : List ℕ × List ℕ). P f.1) f files all

    go : (o : Ordering) → All (λ (f : List ℕ × List ℕ). P f.1) (put files path bytes)
        → All (λ (f : List ℕ × List ℕ). P f.1) (match_ordering o ((path, bytes) ∷ f ∷ files) ((f.0, bytes) ∷ files)
        (f ∷ put files path bytes))
    go Less later = All-cons (λ (f : List ℕ × List ℕ). P f.1) (path, bytes) (f ∷ files) this all
    go Equal later = All-cons (λ (f : List ℕ × List ℕ). P f.1) (f.0, bytes) files this rest
    go Greater later = All-cons (λ (f : List ℕ × List ℕ). P f.1) f (put files path bytes)
        (All-head (λ (f : List ℕ × List ℕ). P f.1) f files all) later

-- what a list of `u8` holds
pub bytes_of_type : (numbers : List ℕ) → ((k : ℕ) → Fits w8 (get_or numbers k 0)) → AreBytes numbers
bytes_of_type numbers fits = All-from_get_or (λ byte. byte < 256) numbers 0 (λ k _. (fits k).fits)

file_bytes : (files : Files) (path : List ℕ) → HaveBytes files → AreBytes (unwrap_or (file files path) [])
file_bytes [] path all = All-nil (λ byte. byte < 256)
file_bytes (f ∷ files) path all = go (bytes_eq path f.0) (file_bytes files path (All-tail (λ (f : List ℕ × List ℕ). AreBytes f.1) f files all))
  where
    go : (b : Bool) → AreBytes (unwrap_or (file files path) []) → AreBytes (unwrap_or (cond b (Some f.1) (file files path)) [])
    go true later = All-head (λ (f : List ℕ × List ℕ). AreBytes f.1) f files all
    go false later = later

-- the bytes of a file with more at their end
pub bytes_added : (files : Files) (path bytes : List ℕ) → HaveBytes files → AreBytes bytes
    → AreBytes (unwrap_or (file files path) [] ++ bytes)
bytes_added files path bytes all more =
    All-append (λ byte. byte < 256) (unwrap_or (file files path) []) bytes (file_bytes files path all) more

-- what the fields of a shelf in memory say of its files
pub record Keeps (files : Files) : Type 0 where
  pub rising : Rising (paths files)
  pub texts : All (λ p. ∥ IsUtf8 p ∥₁) (paths files)
  pub bytes : HaveBytes files

pub none_kept : (files : Files) → files ≡ [] → Keeps files
unfolding IsStrictlySortedBy
none_kept files none = rw none (record {
  rising = tt;
  texts = All-nil (λ p. ∥ IsUtf8 p ∥₁);
  bytes = All-nil (λ (f : List ℕ × List ℕ). AreBytes f.1);
})

-- the same after a change that may find no memory
pub kept_after : {T E : Type 0} (r : Result T E) (old new : Files) (path bytes : List ℕ) → IsUtf8 path → AreBytes bytes
    → OnOk r (new ≡ put old path bytes) → OnErr r (new ≡ old) → Keeps old → Keeps new
kept_after (Ok x) old new path bytes text numbers ok err kept = rw ok (record {
  rising = rising_put old path bytes kept.rising;
  texts =
      all_put (λ p. ∥ IsUtf8 p ∥₁) old path bytes ∣ text ∣₁ kept.texts;
  bytes = contents_put AreBytes old path bytes numbers kept.bytes;
})
kept_after (Err e) old new path bytes text numbers ok err kept = rw err kept

-- a common front leaves the order as it is
same_front : (front a b : List ℕ) → slice_cmp nat_cmp (front ++ a) (front ++ b) ≡ slice_cmp nat_cmp a b
same_front [] a b = refl
same_front (x ∷ front) a b = rw (level x) (same_front front a b)
  where
    level : (x : ℕ) → nat_cmp x x ≡ Equal
    level x = grind (arith, nat_tests)

-- the names behind a front
abbrev behind : List ℕ → Files → List (List ℕ)
behind front files = filter_map (λ f. after_front front f.0) files

below_names : (front r : List ℕ) (files : Files) → AllByRecursion (λ q. slice_cmp nat_cmp (front ++ r) q ≡ Less) (paths files)
    → AllByRecursion (λ q. slice_cmp nat_cmp r q ≡ Less) (behind front files)
below_names front r [] all = tt
below_names front r (f ∷ files) all = go (after_front front f.0) refl (below_names front r files all.1)
  where
    go : (o : Option (List ℕ)) → after_front front f.0 ≡ o → AllByRecursion (λ q. slice_cmp nat_cmp r q ≡ Less) (behind front files)
        → AllByRecursion (λ q. slice_cmp nat_cmp r q ≡ Less) (cons_option o (behind front files))
    go None is later = later
    go (Some s) is later =
        let path : f.0 ≡ front ++ s = front_of front f.0 s is in
        (sym (same_front front r s) ∙ rw path at all.0, later)

rising_names : (front : List ℕ) (files : Files) → Rising (paths files) → Rising (behind front files)
unfolding IsStrictlySortedBy
rising_names front [] rising = tt
rising_names front (f ∷ files) rising = go (after_front front f.0) refl (rising_names front files rising.1)
  where
    go : (o : Option (List ℕ)) → after_front front f.0 ≡ o → Rising (behind front files) → Rising (cons_option o (behind front files))
    go None is later = later
    go (Some s) is later =
        let path : f.0 ≡ front ++ s = front_of front f.0 s is in
        let above : AllByRecursion (λ q. slice_cmp nat_cmp f.0 q ≡ Less) (paths files) = rising.0 in
        (below_names front s files (rw path at above), later)

text_behind : (a b : List ℕ) → IsUtf8 a → IsUtf8 (a ++ b) → IsUtf8 b
text_behind a b front whole =
    let cut : IsCharBoundary (a ++ b) (length a) = IsCharBoundary-from_take (a ++ b) (length a) whole
    (omega (arith, length-append a b)) (rw (take_at a b (length a) refl) front) in
    let rest : IsUtf8 (drop (length a) (a ++ b)) = IsUtf8-drop (a ++ b) (length a) whole cut in
    rw (drop_at a b (length a) refl) at rest

texts_behind : (front : List ℕ) (files : Files) → IsUtf8 front → All (λ p. ∥ IsUtf8 p ∥₁) (paths files) → All IsUtf8 (behind front files)
texts_behind front [] text all = All-nil IsUtf8
texts_behind front (f ∷ files) text all = go (after_front front f.0) refl (texts_behind front files text
    (All-tail (λ p. ∥ IsUtf8 p ∥₁) f.0 (paths files) all))
  where
    go : (o : Option (List ℕ)) → after_front front f.0 ≡ o → All IsUtf8 (behind front files)
        → All IsUtf8 (cons_option o (behind front files))
    go None is later = later
    go (Some s) is later =
        let path : f.0 ≡ front ++ s = front_of front f.0 s is in
        let own : IsUtf8 f.0 = IsUtf8-had f.0 (All-head (λ p. ∥ IsUtf8 p ∥₁) f.0 (paths files) all) in
        All-cons IsUtf8 s (behind front files) (text_behind front s text (rw path at own)) later

slash : IsUtf8 (47 ∷ [])
slash = rw (encode_ascii 47 (lit< tt)) at (IsUtf8-encode 47 (search rules))

pub rising_below : (folder : List ℕ) (files : Files) → Keeps files → Rising (names_below folder files)
rising_below folder files kept = rising_names (folder ++ 47 ∷ []) files kept.rising

pub texts_below : (folder : List ℕ) (files : Files) → IsUtf8 folder → Keeps files → All IsUtf8 (names_below folder files)
texts_below folder files text kept = texts_behind (folder ++ 47 ∷ []) files (IsUtf8-append folder (47 ∷ []) text slash) kept.texts
