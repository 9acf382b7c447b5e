-- What is of the form of a class reads as a class, and its attributes are known.
use Rattle.std.proofs.Common.{◌≡◌, ℕ, ◌^◌, ◌<◌, ◌≤◌, Bool, true, false, ◌&&◌}
use Rattle.std.proofs.Common.{List, [], ◌++◌, length, drop, Some, Ok, Err, refl, sym, ap}
use Rattle.std.proofs.Common.{subst, ◌∙◌, arith, append-nil, drop_at}
use Rattle.std.proofs.lemmas.Bool.{and_from, le-leb, eq-eqb}
use Rattle.std.specs.Int.{w16}
use Rattle.std.specs.Prelude.{All, nat_le, is_some, codes, option_and_then}
use Rattle.std.specs.Str.{bytes_eq}
use Rattle.jm_bytes.proofs.Choice.{same_some}
use Rattle.jm_class.specs.declared.class.ClassFault.{ClassFault}
use Rattle.jm_class.specs.declared.class.ClassFault.TheVariants.{Short}
use Rattle.jm_class.specs.Classes.{SlotData, AttributeData, ClassData, u2, u4, magic, pool_text, class_text, utf8_at, ReadsAs}
use Rattle.jm_class.specs.Classes.{is_code_name, IsPoolFrom, IsClass}
use Rattle.jm_class.specs.ClassLayout.{name_field, opaque_field, code_fields, held_field}
use Rattle.jm_class.specs.ClassLayout.{attribute_field, member_field, parts_field}
use Rattle.jm_class.specs.Layouts.{Layout, U2, Value, Then}
use Rattle.jm_class.specs.Layouts.{Says, reading, at_front}
use Rattle.jm_class.specs.Readings.{Left, Outcome, Reading, number, ended}
use Rattle.jm_class.proofs.ReadingLaws.{IsBytes, passed, same_value, TookAll, ended-back}
use Rattle.jm_class.proofs.LayoutLaws.{reading-says, says-reading, reading-gives}
use Rattle.jm_class.proofs.ClassLaws.{magic-lawful, major-lawful, class-lawful}
use Rattle.jm_class.proofs.PoolLaws.{pool-lawful}
use Rattle.jm_class.proofs.TextLaws.{Always}
use Rattle.jm_poolmap.specs.declared.site.FoundSite.{FoundSite}
use Rattle.jm_poolmap.specs.declared.forms.Place as place
use Rattle.jm_poolmap.specs.declared.forms.Place.TheVariants.{Class, Field, Method, Code}
use Rattle.jm_poolmap.specs.Attributes.{Content, Coded, rows_at, named, content_at, body, code, attribute_of_code, attribute}
use Rattle.jm_poolmap.specs.Forms as form
use Rattle.jm_poolmap.specs.Forms.{Form, Nothing, Skip, Site, Named, Told, Texts, NoForm, unfit, times}
use Rattle.jm_poolmap.specs.Forms.{SiteReading, counted, form_if, if_text, reads}
use Rattle.jm_poolmap.specs.Sites.{member, class, pool_end, back, met, found_in}
use Rattle.jm_poolmap.proofs.FormSays.{ReadsSo, Follows, text_there, follows, number_alike, both, nothing-follows, skip-follows}
use Rattle.jm_poolmap.proofs.FormSays.{site-follows, then-follows, told-follows, row-follows, sized_bytes-follow}
use Rattle.jm_poolmap.proofs.FormSays.{made-follows, counted-follows, sized-follows, handlers-follow}

-- Attributes

-- an attribute is one that is known in its place
abbrev pub IsKnown : List SlotData → place.Place → AttributeData → Type 0
IsKnown pool place a = is_some (content_at place pool a.name) ≡ true

-- a place is in a method, where a Code is taken apart
abbrev pub in_method : place.Place → Bool
in_method Method = true
in_method _ = false

module _ (pool : List SlotData) where
  -- the number of a name, and what follows by its text
  named-follows : {A : Type 0} {next : List ℕ → Form} {more : ℕ → Layout ClassFault A} (Q : A → Type 0)
      → ((n : ℕ) (text : List ℕ) → utf8_at pool n ≡ Some text → Follows (utf8_at pool) (next text) (more n) Q)
      → Follows (utf8_at pool) (Named next) (Then (name_field pool) more) Q
  named-follows {next} Q law = follows (λ short found left new end e.
      let got = passed (number unfit w16 left) _ new end e in
      let n = got.first in
      let number = (number_alike {F = ClassFault} short {size = U2} got.is).reads in
      let (text, there, rest) = text_there (utf8_at pool n) _ _ got.middle (new, end) got.rest in
      let name : ReadsSo short (name_field pool) Always left got.middle = record { said = n; reads = rw (number, there) refl; good = tt } in
      both short name ((law n text there).law short _ _ _ _ rest))

  -- an attribute of a Code
  opaque-follows : Follows (utf8_at pool) attribute_of_code (opaque_field pool) Always
  opaque-follows = named-follows Always (λ n text is. row-follows (named (rows_at Code) text) (λ content row.
      made-follows sized_bytes-follow (λ _ _. tt)))

  code-follows : Follows (utf8_at pool) code (code_fields pool) Always
  code-follows =
      then-follows skip-follows (λ max_stack _.
      then-follows skip-follows (λ max_locals _.
      then-follows sized_bytes-follow (λ code _.
      then-follows (told-follows handlers-follow) (λ handlers _.
      then-follows (counted-follows opaque-follows) (λ attributes _.
      nothing-follows _ (λ _ _. refl) tt)))))

  -- in a method a Code is what is called so
  coded_row : (place : place.Place) (text : List ℕ) → in_method place && bytes_eq text (codes "Code") ≡ true
      → named (rows_at place) text ≡ Some Coded
  coded_row Method text is = let same : bytes_eq text (codes "Code") ≡ true = is in rw same refl
  coded_row Class text is = cc
  coded_row Field text is = cc
  coded_row Code text is = cc

  abbrev held : ℕ → Bool → Layout ClassFault AttributeData
  held n coded = Then (held_field pool coded) (λ body. Value (record { name = n; body = body }))

  held-follows : (place : place.Place) (n : ℕ) (text : List ℕ) (content : Content) → named (rows_at place) text ≡ Some content
      → is_some (content_at place pool n) ≡ true → (coded : Bool) → in_method place && bytes_eq text (codes "Code") ≡ coded
      → Follows (utf8_at pool) (form.Sized (body code content)) (held n coded) (IsKnown pool place)
  held-follows place n text content row known false is =
      made-follows (made-follows sized_bytes-follow {Q = Always} (λ _ _. tt)) (λ _ _. known)
  held-follows place n text content row known true is =
      subst (λ content. Follows (utf8_at pool) (form.Sized (body code content)) (held n true) (IsKnown pool place))
      (same_some Coded content (sym (coded_row place text is) ∙ row))
      (made-follows (made-follows (sized-follows code-follows) {Q = Always} (λ _ _. tt)) (λ _ _. known))

  pub attribute-follows : (place : place.Place)
      → Follows (utf8_at pool) (attribute place) (attribute_field pool (in_method place)) (IsKnown pool place)
  attribute-follows place = named-follows (IsKnown pool place) (λ n text is. row-follows (named (rows_at place) text) (λ content row.
      let known = ap (option_and_then (named (rows_at place))) is ∙ row in
      subst (λ t. Follows (utf8_at pool) (form.Sized (body code content)) (held n (in_method place && is_code_name t)) (IsKnown pool place))
      (sym is) (held-follows place n text content row (rw known refl) (in_method place && bytes_eq text (codes "Code")) refl)))

  -- Members and the class

  pub member-follows : (place : place.Place)
      → Follows (utf8_at pool) (member place) (member_field pool (in_method place)) Always
  member-follows place =
      then-follows skip-follows (λ access _.
      then-follows site-follows (λ name _.
      then-follows site-follows (λ descriptor _.
      then-follows (counted-follows (attribute-follows place)) (λ attributes _.
      nothing-follows _ (λ _ _. refl) tt))))

-- a class has these versions and this pool, and its attributes are known
abbrev pub IsKnownClass : ℕ → ℕ → List SlotData → ClassData → Type 0
IsKnownClass minor major pool c = (c.minor ≡ minor) × ((c.major ≡ major) × ((c.pool ≡ pool) × All (IsKnown pool Class) c.attributes))

pub class-follows : (minor major : ℕ) (pool : List SlotData)
    → Follows (utf8_at pool) class (parts_field minor major pool) (IsKnownClass minor major pool)
class-follows minor major pool =
    then-follows skip-follows (λ access _.
    then-follows site-follows (λ this_class _.
    then-follows site-follows (λ super_class _.
    then-follows (counted-follows site-follows) (λ interfaces _.
    then-follows (counted-follows (member-follows pool Field)) (λ fields _.
    then-follows (counted-follows (member-follows pool Method)) (λ methods _.
    then-follows (counted-follows (attribute-follows pool Class)) (λ attributes known.
    nothing-follows _ (λ _ _. refl) (refl, (refl, (refl, known))))))))))

-- Whole classes

-- what stands in a class up to the end of its pool: the magic, the versions and the pool
abbrev pub head_text : ℕ → ℕ → List SlotData → List ℕ
head_text minor major pool = u4 magic ++ (u2 minor ++ (u2 major ++ pool_text pool))

-- sites are met where the reading came to an end
pub met_all : (reader : Reading NoForm (List FoundSite)) (left : Left) (found : List FoundSite) → met (ended unfit reader left) ≡ Some found
    → TookAll reader left found
met_all reader left found is = go (ended unfit reader left) refl is
  where
    go : (outcome : Outcome NoForm (List FoundSite)) → ended unfit reader left ≡ outcome → met outcome ≡ Some found
        → TookAll reader left found
    go (Ok r) e is = subst (TookAll reader left) (same_some r.0 found is) (ended-back unfit reader left r.1 r.0 e)
    go (Err fault) e is = cc

-- what is read to its end says so by the layout
read_says : {F A : Type 0} (short : ℕ → F) (layout : Layout F A) (left : Left) (a : A) → IsBytes left.bytes
    → TookAll (reading short layout) left a → Says layout a left.bytes
read_says short layout left a bytes all =
    let took = reading-says short layout left all.end a bytes all.is in
    subst (Says layout a) (sym (took.bytes ∙ ap (λ t. took.front ++ t) all.none ∙ append-nil took.front)) took.says

-- bytes of the form of a class read as a class, put after versions that are taken and a pool
pub form-reads : (minor major : ℕ) (pool : List SlotData) (left : Left) (found : List FoundSite) → minor < 2 ^ 16
    → (45 ≤ major) × (major ≤ 69) → length pool < 65535 → IsPoolFrom false pool → IsBytes left.bytes
    → met (ended unfit (reads (utf8_at pool) class []) left) ≡ Some found
    → (c : ClassData) × (ReadsAs (head_text minor major pool ++ left.bytes) c × IsKnownClass minor major pool c)
form-reads minor major pool left found below taken slots fits bytes is =
    let all = met_all (reads (utf8_at pool) class []) left found is in
    let known = (class-follows minor major pool).law Short [] left found all.end all.is in
    let says = read_says Short (parts_field minor major pool) left known.said bytes
    (record { end = all.end; is = known.reads; none = all.none }) in
    let is = and_from (nat_le 45 major) (nat_le major 69) (le-leb 45 major taken.0) (le-leb major 69 taken.1) in
    let first = magic-lawful.forth magic (omega arith, eq-eqb magic magic refl) in
    let third = major-lawful.forth major (omega (arith, taken.1), is) in
    let fourth = pool-lawful.forth pool (slots, fits) in
    let whole = class-lawful.back known.said (head_text minor major pool ++ left.bytes)
    (magic, _, _, refl, first, (minor, _, _, refl, (below, refl), (major, _, _, refl, third, (pool, _, _, refl, fourth, says)))) in
    (known.said, (record { well_formed = whole.0; text = sym whole.1 }, known.good))

-- what stands after the pool of a class says that class
parts_say : (c : ClassData) → IsClass c → (minor : ℕ) × (major : ℕ) × Says (parts_field minor major c.pool) c (back c)
parts_say c fits =
    let (found, _, _, cut1, says1, (minor, _, _, cut2, says2, (major, _, _, cut3, says3, (pool, _, after, cut4, says4, says)))) =
    class-lawful.forth c fits in
    let magic_text = (magic-lawful.back found _ says1).1 in
    let major_text = (major-lawful.back major _ says3).1 in
    let pool_is = (pool-lawful.back pool _ says4).1 in
    let head = u4 found ++ (u2 minor ++ (u2 major ++ pool_text pool)) in
    let text : class_text c ≡ head ++ after = rw (cut1, cut2, cut3, cut4, magic_text, says2.1, major_text, pool_is) refl in
    let parts = parts_field minor major pool in
    let read = says-reading Short parts 0 c after [] says in
    let same = reading-gives Short (λ c. c.pool ≡ pool) parts (at_front (after ++ [])) _ c (λ _ _ _ _ _ _ _ _ _ _ _. refl) read.1 in
    let size = ap (λ pool. length (pool_text pool)) same in
    let rest : back c ≡ after = ap (drop (pool_end c)) text ∙ drop_at head after (pool_end c) (omega (arith, size)) in
    (minor, major, subst (λ pool. Says (parts_field minor major pool) c (back c)) (sym same) (subst (Says parts c) (sym rest) says))

-- each attribute of a class that has sites is one that is known
pub attributes_known : (c : ClassData) (found : List FoundSite) → IsClass c → found_in c ≡ Some found
    → All (λ a. is_some (content_at Class c.pool a.name) ≡ true) c.attributes
attributes_known c found fits is =
    let left : Left = record { place = pool_end c; bytes = back c } in
    let all = met_all (reads (utf8_at c.pool) class []) left found is in
    let (minor, major, says) = parts_say c fits in
    let known = (class-follows minor major c.pool).law Short [] left found all.end all.is in
    let read = says-reading Short (parts_field minor major c.pool) (pool_end c) c (back c) [] says in
    let same = same_value known.said c all.end _ (sym known.reads ∙ rw (append-nil (back c)) at read.1) in
    subst (λ d. All (IsKnown c.pool Class) d.attributes) same known.good.1.1.1
