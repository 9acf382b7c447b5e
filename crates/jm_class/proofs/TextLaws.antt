-- One law for each form of a layout: what bytes say by it is fit and they are its text, and the text of
-- what is fit says it.
use Rattle.std.proofs.Common.{◌≡◌, ℕ, ◌<◌, Bool, true, false, cond, List, [], ◌∷◌, ◌++◌, length, Some, None}
use Rattle.std.proofs.Common.{refl, sym, ap, ◌∙◌, subst, Ok}
use Rattle.std.proofs.lemmas.List.{append-nil}
use Rattle.std.proofs.lemmas.List.Elements.{All-nil, All-cons, All-head, All-tail}
use Rattle.std.specs.Int.{to_be_bytes}
use Rattle.std.specs.List.{flat_map}
use Rattle.std.specs.Prelude.{All}
use Rattle.jm_bytes.proofs.Choice.{same_some}
use Rattle.jm_class.specs.Classes.{u2, u4, counted_text, sized_text, FitsCounted, FitsSized}
use Rattle.jm_class.specs.Layouts.{Layout, Size, U2, U4, width, limit, Value, Number, Bytes, Told, Sized, Times, Then, tested}
use Rattle.jm_class.specs.Layouts.{listed, sized_bytes, Says, SaysEach, reading}
use Rattle.jm_class.specs.Readings.{Left}
use Rattle.jm_class.proofs.LayoutLaws.{reading-says, says-reading}
use Rattle.jm_class.proofs.ReadingLaws.{IsBytes, ReadBack}

pub record Lawful {F A : Type 0} (layout : Layout F A) (text : A → List ℕ) (Fits : A → Type 0) : Type 0 where
  pub back : (a : A) (bytes : List ℕ) → Says layout a bytes → Fits a × (bytes ≡ text a)
  pub forth : (a : A) → Fits a → Says layout a (text a)

-- what was read is fit and its text stood there, and the text of what is fit is read back
module _ {F A : Type 0} (short : ℕ → F) (layout : Layout F A) (text : A → List ℕ) (Fits : A → Type 0) (law : Lawful layout text Fits)
  where
    pub read-back : (left next : Left) (a : A) → IsBytes left.bytes → reading short layout left ≡ Ok (a, next)
        → Fits a × (left.bytes ≡ text a ++ next.bytes)
    read-back left next a bytes e =
        let took = reading-says short layout left next a bytes e in
        let is = law.back a took.front took.says in
        (is.0, took.bytes ∙ ap (λ t. t ++ next.bytes) is.1)

    pub read-forth : (place : ℕ) (a : A) (rest : List ℕ) → Fits a → ReadBack (reading short layout) place (text a) a rest
    read-forth place a rest fits = says-reading short layout place a (text a) rest (law.forth a fits)

-- The forms

module _ {F A : Type 0} where
  -- a value that takes no bytes
  pub value-lawful : (Fits : A → Type 0) (a : A) → Fits a → ((b : A) → Fits b → b ≡ a) → Lawful {F = F} (Value a) (λ _. []) Fits
  value-lawful Fits a fits only = record {
    back = λ b bytes says. (subst Fits (sym says.0) fits, says.1);
    forth = λ b fit. (only b fit, refl);
  }

  -- the value that a sequence makes: the one with the parts that were read
  pub made-lawful : (E : A → Type 0) (a : A) → E a → ((b : A) → E b → b ≡ a) → Lawful {F = F} (Value a) (λ _. []) (λ b. E b × Unit {0})
  made-lawful E a parts only = value-lawful (λ b. E b × Unit {0}) a (parts, tt) (λ b fits. only b fits.0)

  -- the same, said in other words
  pub said-lawful : {layout : Layout F A} (text words : A → List ℕ) (Fits Other : A → Type 0) → Lawful layout text Fits
      → ((a : A) → Fits a → Other a) → ((a : A) → Other a → Fits a) → ((a : A) → Fits a → text a ≡ words a) → Lawful layout words Other
  said-lawful {layout} text words Fits Other law other fits same = record {
    back = λ a bytes says. let is = law.back a bytes says in (other a is.0, is.1 ∙ same a is.0);
    forth = λ a is. subst (Says layout a) (same a (fits a is)) (law.forth a (fits a is));
  }

  -- what is told otherwise where it doesn't fit
  pub told-lawful : (fault : ℕ → F) (inner : Layout F A) (text : A → List ℕ) (Fits : A → Type 0) → Lawful inner text Fits
      → Lawful (Told fault inner) text Fits
  told-lawful fault inner text Fits law = record { back = law.back; forth = law.forth }

  -- a part of its own after its length
  pub sized-lawful : (fault : ℕ → F) (inner : Layout F A) (text : A → List ℕ) (Fits : A → Type 0) → Lawful inner text Fits
      → Lawful (Sized fault inner) (λ a. sized_text (text a)) (λ a. Fits a × FitsSized (text a))
  sized-lawful fault inner text Fits law = record {
    back = λ a bytes (inside, below, is, says).
        let held = law.back a inside says in (
          (held.0, subst FitsSized held.1 below),
          is ∙ rw held.1 (ap (λ t. u4 (length (text a)) ++ t) (sym (append-nil (text a)))),
        );
    forth = λ a fits. (text a, fits.1, ap (λ t. u4 (length (text a)) ++ t) (append-nil (text a)), law.forth a fits.0);
  }

module _ {F : Type 0} where
  pub number-lawful : (size : Size) → Lawful {F = F} (Number size) (to_be_bytes (width size)) (λ n. n < limit size)
  number-lawful size = record { back = λ n bytes says. says; forth = λ n below. (below, refl) }

  -- a number that passes a test
  pub tested-lawful : (size : Size) (test : ℕ → Bool) (fault : ℕ → ℕ → F) → Lawful (tested size test fault) (to_be_bytes (width size))
      (λ n. (n < limit size) × (test n ≡ true))
  tested-lawful size test fault = record {
    back = λ n bytes (m, found, (below, is)).
        let passes = passed_test m n (test m) refl found in
        let same = sym passes.0 in
        (subst (λ n. (n < limit size) × (test n ≡ true)) same (below, passes.1), is ∙ ap (to_be_bytes (width size)) same);
    forth = λ n fits. (n, rw fits.1 refl, (fits.0, refl));
  }
    where
      passed_test : (m n : ℕ) (b : Bool) → test m ≡ b → cond b (Some m) None ≡ Some n → (n ≡ m) × (test m ≡ true)
      passed_test m n true is found = (sym (same_some m n found), is)
      passed_test m n false is found = cc

  pub bytes-lawful : (n : ℕ) → Lawful {F = F} (Bytes n) (λ xs. xs) (λ xs. length xs ≡ n)
  bytes-lawful n = record {
    back = λ xs bytes says. (ap length says.1 ∙ says.0, sym says.1);
    forth = λ xs size. (size, refl);
  }

-- one after the other: c is said by its part p c and by what follows
module _ {F A C : Type 0} (first : Layout F A) (next : A → Layout F C) (text : A → List ℕ) (Fits : A → Type 0) (p : C
    → A) (words : C → List ℕ) (E : C → Type 0) (G : A → C → Type 0) where
  pub then-lawful : Lawful first text Fits → ((a : A) → Fits a → Lawful (next a) words (λ c. (E c × (p c ≡ a)) × G a c))
      → Lawful (Then first next) (λ c. text (p c) ++ words c) (λ c. E c × (Fits (p c) × G (p c) c))
  then-lawful law laws = record {
    back = λ c bytes (a, front, after, is, one, two).
        let fits = law.back a front one in
        let rest = (laws a fits.0).back c after two in
        let same = sym rest.0.0.1 in (
          (rest.0.0.0, (subst Fits same fits.0, subst (λ a. G a c) same rest.0.1)),
          is ∙ rw (fits.1, rest.1) (ap (λ a. text a ++ words c) same),
        );
    forth = λ c fits. (
      p c,
      text (p c),
      words c,
      refl,
      law.forth (p c) fits.1.0,
      (laws (p c) fits.1.0).forth c ((fits.0, refl), fits.1.1),
    );
  }

-- that many of one kind
module _ {F A : Type 0} (item : Layout F A) (text : A → List ℕ) (Fits : A → Type 0) (law : Lawful item text Fits) where
  each_back : (xs : List A) (bytes : List ℕ) → SaysEach (Says item) xs bytes → All Fits xs × (bytes ≡ flat_map text xs)
  each_back [] bytes none = (All-nil Fits, none)
  each_back (x ∷ xs) bytes (front, after, is, one, more) =
      let first = law.back x front one in
      let rest = each_back xs after more in
      (All-cons Fits x xs first.0 rest.0, is ∙ rw (first.1, rest.1) refl)

  each_forth : (xs : List A) → All Fits xs → SaysEach (Says item) xs (flat_map text xs)
  each_forth [] all = refl
  each_forth (x ∷ xs) all =
      (text x, flat_map text xs, refl, law.forth x (All-head Fits x xs all), each_forth xs (All-tail Fits x xs all))

  pub times-lawful : (n : ℕ) → Lawful (Times n item) (flat_map text) (λ xs. (length xs ≡ n) × All Fits xs)
  times-lawful n = record {
    back = λ xs bytes says. let all = each_back xs bytes says.1 in ((says.0, all.0), all.1);
    forth = λ xs fits. (fits.0, each_forth xs fits.1);
  }

abbrev pub Always : {A : Type 0} → A → Type 0
Always a = Unit {0}

-- a length, and that many bytes; a count, and that many of one kind
module _ {F : Type 0} where
  pub sized_bytes-lawful : Lawful {F = F} sized_bytes sized_text FitsSized
  sized_bytes-lawful =
      said-lawful _ sized_text _ FitsSized
      (then-lawful _ _ u4 _ length (λ xs. xs) Always (λ _ _. Unit {0}) (number-lawful U4)
      (λ size fits. said-lawful _ _ _ _ (bytes-lawful size) (λ xs is. ((tt, is), tt)) (λ xs is. is.0.1) (λ xs is. refl)))
      (λ xs fits. fits.1.0) (λ xs fits. (tt, (fits, tt))) (λ xs fits. ap (λ t. u4 (length xs) ++ t) (sym (append-nil xs)))

  pub listed-lawful : {A : Type 0} (item : Layout F A) (text : A → List ℕ) (Fits : A → Type 0) → Lawful item text Fits
      → Lawful (listed item) (counted_text text) (FitsCounted Fits)
  listed-lawful item text Fits law =
      said-lawful _ (counted_text text) _ (FitsCounted Fits)
      (then-lawful _ _ u2 _ length (flat_map text) Always (λ _ xs. All Fits xs) (number-lawful U2)
      (λ count fits. said-lawful _ _ _ _ (times-lawful item text Fits law count) (λ xs is. ((tt, is.0), is.1))
      (λ xs is. (is.0.1, is.1)) (λ xs is. refl)))
      (λ xs fits. (fits.1.0, fits.1.1)) (λ xs fits. (tt, (fits.0, fits.1))) (λ xs fits. ap (λ t. u2 (length xs) ++ t)
      (sym (append-nil (flat_map text xs))))
