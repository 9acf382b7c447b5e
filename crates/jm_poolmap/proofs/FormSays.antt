-- What is of a form is read by a layout: one law for each way to make forms.
use Rattle.std.proofs.Common.{◌≡◌, ℕ, zero, suc, ◌+◌, ◌*◌, ◌≤◌, Bool, true, false, cond}
use Rattle.std.proofs.Common.{List, [], ◌∷◌, ◌++◌, length, take, drop, Option, Some, None, Ok, Err, refl, sym, ap}
use Rattle.std.proofs.Common.{subst, ◌∙◌, arith, drop-drop, length-drop, take-add}
use Rattle.std.proofs.lemmas.Bool.{le-leb, leb-true}
use Rattle.std.proofs.lemmas.List.Elements.{All-nil, All-cons}
use Rattle.std.specs.Int.{w16, w32, byte_len, from_be_bytes}
use Rattle.std.specs.Prelude.{All, nat_le}
use Rattle.jm_class.specs.Layouts.{Layout, Size, U2, U4, width, Value, Number, Bytes, Sized, Times, Then, listed}
use Rattle.jm_class.specs.Layouts.{sized_bytes, reading}
use Rattle.jm_class.specs.Readings.{Left, Outcome, Reading, Takes, behind, part, number, ended, inner_part, whole}
use Rattle.jm_class.proofs.ReadingLaws.{passed, same_left, same_value, TookAll, ended-back, ended-forth}
use Rattle.jm_class.proofs.TextLaws.{Always}
use Rattle.jm_poolmap.specs.declared.site.FoundSite.{FoundSite}
use Rattle.jm_poolmap.specs.Attributes.{handler}
use Rattle.jm_poolmap.specs.Forms as form
use Rattle.jm_poolmap.specs.Forms.{Form, Nothing, Skip, Site, Named, Told, Texts, NoForm, unfit, times}
use Rattle.jm_poolmap.specs.Forms.{SiteReading, counted, form_if, if_text, reads}

-- a reading gives a value, for which this holds
pub record ReadsSo {F A : Type 0} (short : ℕ → F) (layout : Layout F A) (P : A → Type 0) (left next : Left) : Type 0 where
  pub said : A
  pub reads : reading short layout left ≡ Ok (said, next)
  pub good : P said

-- what is of the form is read by the layout as something for which this holds
pub record Follows {F A : Type 0} (texts : Texts) (form : Form) (layout : Layout F A) (P : A → Type 0) : Type 0 where
  pub law : (short : ℕ → F) (found : List FoundSite) (left : Left) (new : List FoundSite) (next : Left)
      → reads texts form found left ≡ Ok (new, next) → ReadsSo short layout P left next

-- what follows a text is read where there is one
pub text_there : (name : Option (List ℕ)) (next : List ℕ → SiteReading) (found : List FoundSite) (left : Left) (r : List FoundSite × Left)
    → if_text name next found left ≡ Ok r → (text : List ℕ) × (name ≡ Some text) × (next text found left ≡ Ok r)
text_there (Some text) next found left r e = (text, refl, e)
text_there None next found left r e = cc

-- a law of all readings by a form
pub follows : {F A : Type 0} {texts : Texts} {form : Form} {layout : Layout F A} {P : A → Type 0}
    → ((short : ℕ → F) (found : List FoundSite) (left : Left) (new : List FoundSite) (next : Left)
    → reads texts form found left ≡ Ok (new, next) → ReadsSo short layout P left next) → Follows texts form layout P
follows law = record { law = law }

-- Bytes are read alike, whatever fault is told where they don't fit

module _ {F : Type 0} (short : ℕ → F) where
  pub takes : (n : ℕ) (left next : Left) (a : List ℕ) → part short n left ≡ Ok (a, next) → Takes n left a next
  takes n left next a e = go (nat_le n (length left.bytes)) refl e
    where
      go : (fits : Bool) → nat_le n (length left.bytes) ≡ fits → ◌≡◌ {A = Outcome F (List ℕ)}
          (cond fits (Ok (take n left.bytes, behind n left)) (Err (short left.place))) (Ok (a, next)) → Takes n left a next
      go true fits e = record { fits = leb-true _ _ fits; bytes = sym (same_value _ _ _ _ e); left = sym (same_left _ _ _ _ e) }
      go false fits e = cc

  pub part_taken : (n : ℕ) (left next : Left) (a : List ℕ) → Takes n left a next → part short n left ≡ Ok (a, next)
  part_taken n left next a is = rw (le-leb n (length left.bytes) is.fits, is.bytes, is.left) refl

-- parts one after the other are one part
both_taken : (m n : ℕ) (left middle next : Left) (a b : List ℕ) → Takes m left a middle → Takes n middle b next
    → Takes (m + n) left (a ++ b) next
both_taken m n left middle next a b one two =
    let fits : n ≤ length (drop m left.bytes) = subst (λ (l : Left). n ≤ length l.bytes) one.left two.fits in
    let place : (left.place + m) + n ≡ left.place + (m + n) = omega arith in
    record {
      fits = omega (arith, one.fits, fits, length-drop m left.bytes);
      bytes = rw (one.bytes, two.bytes, one.left) (sym (take-add m n left.bytes));
      left = two.left ∙ rw (one.left, place, drop-drop n m left.bytes) refl;
    }

module _ {F : Type 0} (short : ℕ → F) where
  abbrev part_alike : {n : ℕ} {left next : Left} {a : List ℕ} → part unfit n left ≡ Ok (a, next) → ReadsSo short (Bytes n) Always left next
  part_alike {n} {left} {next} {a} e =
      record { said = a; reads = part_taken short n left next a (takes unfit n left next a e); good = tt }

  abbrev pub number_alike : {size : Size} {left next : Left} {n : ℕ} → number unfit (width size) left ≡ Ok (n, next)
      → ReadsSo short (Number size) Always left next
  number_alike {size} {left} {next} {n} e =
      let got = passed (part unfit (byte_len (width size)) left) _ n next e in
      record { said = n; reads = rw ((part_alike got.is).reads, same_value _ n _ _ got.rest, same_left _ n _ _ got.rest) refl; good = tt }

  -- what is left, by another name
  moved : {A B : Type 0} {layout : Layout F A} {P : A → Type 0} {left middle next : Left} {b c : B}
      → ◌≡◌ {A = Outcome NoForm B} (Ok (b, middle)) (Ok (c, next)) → ReadsSo short layout P left middle → ReadsSo short layout P left next
  moved {layout} {P} {left} e so = subst (ReadsSo short layout P left) (same_left _ _ _ _ e) so

  -- one after the other
  pub both : {A B : Type 0} {first : Layout F A} {more : A → Layout F B} {P : A → Type 0} {Q : B → Type 0} {left middle end : Left}
      → (one : ReadsSo short first P left middle) → ReadsSo short (more one.said) Q middle end → ReadsSo short (Then first more) Q left end
  both one two = record { said = two.said; reads = rw one.reads two.reads; good = two.good }

  -- a part that a reading takes whole: the part alike, and what was read of it
  whole_alike : {A : Type 0} (inner : Reading NoForm A) (n : ℕ) (left next : Left) (a : A) → whole unfit unfit n inner left ≡ Ok (a, next)
      → (inside : List ℕ) × (part short n left ≡ Ok (inside, next)) × TookAll inner (record { place = left.place; bytes = inside }) a
  whole_alike inner n left next a e =
      let one = passed (inner_part unfit n left) _ a next e in
      let cut = passed (part unfit n left) _ one.first one.middle one.is in
      let two = passed (ended unfit inner one.first) _ a next one.rest in
      let all = subst (TookAll inner one.first) (same_value _ _ _ _ two.rest) (ended-back unfit inner one.first _ _ two.is) in
      let inside = same_value _ _ _ _ cut.rest in
      let after = same_left _ _ _ _ cut.rest ∙ same_left _ _ _ _ two.rest in
      (cut.first, (part_alike cut.is).reads ∙ ap (λ l. Ok (cut.first, l)) after, subst (λ part. TookAll inner part a) (sym inside) all)

module _ {F : Type 0} {texts : Texts} where
  pub nothing-follows : {A : Type 0} {layout : Layout F A} {P : A → Type 0} (a : A)
      → ((short : ℕ → F) (left : Left) → reading short layout left ≡ Ok (a, left)) → P a → Follows texts Nothing layout P
  nothing-follows a read good = follows (λ short found left new next e.
      moved short e (record { said = a; reads = read short left; good = good }))

  skip-bytes : (n : ℕ) → Follows {F = F} texts (Skip n) (Bytes n) Always
  skip-bytes n = follows (λ short found left new next e.
      let got = passed (part unfit n left) _ new next e in
      moved short got.rest (part_alike short got.is))

  site-bytes : {optional : Bool} → Follows {F = F} texts (Site true optional) (Bytes 2) Always
  site-bytes {optional} = follows (λ short found left new next e.
      let got = passed (number unfit w16 left) _ new next e in
      let cut = passed (part unfit 2 left) _ got.first got.middle got.is in
      moved short got.rest (moved short cut.rest (part_alike short cut.is)))

  -- two bytes are a number
  bytes-number : {form : Form} → Follows {F = F} texts form (Bytes 2) Always → Follows {F = F} texts form (Number U2) Always
  bytes-number law = follows (λ short found left new next e.
      let one = law.law short found left new next e in
      record { said = from_be_bytes w16 one.said; reads = rw one.reads refl; good = tt })

  pub skip-follows : Follows {F = F} texts (Skip 2) (Number U2) Always
  skip-follows = bytes-number (skip-bytes 2)

  pub site-follows : {optional : Bool} → Follows {F = F} texts (Site true optional) (Number U2) Always
  site-follows = bytes-number site-bytes

  pub then-follows : {A B : Type 0} {head tail : Form} {first : Layout F A} {more : A → Layout F B} {P : A → Type 0} {Q : B → Type 0}
      → Follows texts head first P → ((a : A) → P a → Follows texts tail (more a) Q)
      → Follows texts (form.Then head tail) (Then first more) Q
  then-follows one two = follows (λ short found left new next e.
      let got = passed _ _ new next e in
      let first = one.law short _ _ _ _ got.is in
      both short first ((two first.said first.good).law short _ _ _ _ got.rest))

  pub told-follows : {A : Type 0} {inner : ℕ → Form} {size : Size} {more : ℕ → Layout F A} {P : A → Type 0}
      → ((n : ℕ) → Follows texts (inner n) (more n) P) → Follows texts (Told size inner) (Then (Number size) more) P
  told-follows law = follows (λ short found left new next e.
      let got = passed _ _ new next e in
      both short (number_alike short got.is) ((law got.first).law short _ _ _ _ got.rest))

  -- what a row says, where there is one
  pub row-follows : {A B : Type 0} {inner : B → Form} {layout : Layout F A} {P : A → Type 0} (row : Option B)
      → ((said : B) → row ≡ Some said → Follows texts (inner said) layout P) → Follows texts (form_if inner row) layout P
  row-follows (Some said) law = law said refl
  row-follows None law = follows (λ short found left new next e. cc)

  pub sized_bytes-follow : {inner : Form} → Follows {F = F} texts (form.Sized inner) sized_bytes Always
  sized_bytes-follow {inner} = follows (λ short found left new next e.
      let got = passed (number unfit w32 left) _ new next e in
      let (inside, part, all) = whole_alike short (reads texts inner found) got.first got.middle next new got.rest in
      both short (number_alike short {size = U4} got.is) (record { said = inside; reads = part; good = tt }))

  then-bytes : {head tail : Form} {m n : ℕ} → Follows {F = F} texts head (Bytes m) Always → Follows {F = F} texts tail (Bytes n) Always
      → Follows {F = F} texts (form.Then head tail) (Bytes (m + n)) Always
  then-bytes {m} {n} one two = follows (λ short found left new next e.
      let is = (then-follows one (λ _ _. two)).law short found left new next e in
      let got = passed (part short m left) _ is.said next is.reads in
      let whole = both_taken m n left got.middle next _ _ (takes short m left _ _ got.is) (takes short n got.middle next _ got.rest) in
      record { said = got.first ++ is.said; reads = part_taken short (m + n) left next _ whole; good = tt })

-- what follows from a form's law
module _ {F A : Type 0} {texts : Texts} {inner : Form} {layout : Layout F A} {P : A → Type 0} (law : Follows texts inner layout P) where
  -- one alone
  last-follows : Follows texts (form.Then inner Nothing) layout P
  last-follows = follows (λ short found left new next e.
      let got = passed _ _ new next e in
      moved short got.rest (law.law short _ _ _ _ got.is))

  -- a value that is made of what is said
  pub made-follows : {B : Type 0} {Q : B → Type 0} {made : A → B} → ((a : A) → P a → Q (made a))
      → Follows texts inner (Then layout (λ a. Value (made a))) Q
  made-follows {made} good = follows (λ short found left new next e.
      let one = law.law short found left new next e in
      both short one (record { said = made one.said; reads = refl; good = good one.said one.good }))

  times-follows : (n : ℕ) → Follows texts (times n inner) (Times n layout) (All P)
  times-follows zero = nothing-follows [] (λ _ _. refl) (All-nil P)
  times-follows (suc n) = follows (λ short found left new next e.
      let got = passed (reads texts inner found left) (reads texts (times n inner)) new next e in
      let one = law.law short _ _ _ _ got.is in
      let rest = (times-follows n).law short _ _ _ _ got.rest in
      record { said = one.said ∷ rest.said; reads = rw (one.reads, rest.reads) refl; good = All-cons P _ _ one.good rest.good })

  pub counted-follows : Follows texts (counted U2 inner) (listed layout) (All P)
  counted-follows = told-follows times-follows

  pub sized-follows : {fault : ℕ → F} → Follows texts (form.Sized inner) (Sized fault layout) P
  sized-follows {fault} = follows (λ short found left new next e.
      let got = passed (number unfit w32 left) _ new next e in
      let size = (number_alike short {size = U4} got.is).reads in
      let (inside, part, all) = whole_alike short (reads texts inner found) got.first got.middle next new got.rest in
      let told : ℕ → F = λ at. fault left.place in
      let one = law.law told _ _ _ _ all.is in
      let end = ended-forth told (reading told layout) _ one.said (record { end = all.end; is = one.reads; none = all.none }) in
      record { said = one.said; reads = rw (size, part, end) refl; good = one.good })

pub handlers-follow : {F : Type 0} {texts : Texts} (n : ℕ) → Follows {F = F} texts (times n handler) (Bytes (8 * n)) Always
handlers-follow zero = nothing-follows [] (λ short left.
    let place : left.place + 0 ≡ left.place = omega arith in rw (le-leb (8 * 0) (length left.bytes) (omega arith), place) refl) tt
handlers-follow {F} {texts} (suc n) = subst (λ size. Follows {F = F} texts (times (suc n) handler) (Bytes size) Always) (omega arith)
    (then-bytes (then-bytes (skip-bytes 6) (last-follows site-bytes)) (handlers-follow n))
