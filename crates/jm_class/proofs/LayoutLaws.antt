-- What is read by a layout is what the bytes say, both ways, whatever stands after it. Each law stands
-- once, for all layouts.
use Rattle.std.proofs.Common.{◌≡◌, ℕ, zero, suc, ◌<◌, List, [], ◌∷◌, ◌++◌, length, Option, Some, None, ok_or}
use Rattle.std.proofs.Common.{Ok, Err, refl, sym, ap, subst, ◌∙◌, append_assoc}
use Rattle.std.proofs.lemmas.List.{append-nil}
use Rattle.std.specs.Int.{to_be_bytes}
use Rattle.std.specs.Prelude.{All}
use Rattle.jm_bytes.proofs.Choice.{same_ok}
use Rattle.jm_class.specs.Classes.{u4}
use Rattle.jm_class.specs.Layouts.{Layout, Size, U2, U4, width, limit, Value, Number, Field, Bytes, Told, Sized, Times, Then, Says, with_left}
use Rattle.jm_class.specs.Layouts.{listed, reading, at_front, value_of, whole_text, text_fields, IsGood, HasFirstFault}
use Rattle.jm_class.specs.Readings.{Left, Outcome, value, and_then, counted, number, ended, whole}
use Rattle.jm_class.proofs.FaultLaws.{Agrees, reading-agrees, ended_agrees, no_fault, one_fault, passed_good}
use Rattle.jm_class.proofs.ReadingLaws.{IsBytes, bytes_behind, bytes_front, passed, same_value, same_left, Took, ReadBack, part-back}
use Rattle.jm_class.proofs.ReadingLaws.{part-forth, number-back, number-forth, counted-back, counted-forth, part_whole-back, part_whole-forth}
use Rattle.jm_class.proofs.ReadingLaws.{TookAll, ended-back, ended-forth}

module _ {F : Type 0} where
  -- what was read is what the bytes in front say
  pub reading-says : {A : Type 0} (short : ℕ → F) (layout : Layout F A) (left next : Left) (a : A) → IsBytes left.bytes
      → reading short layout left ≡ Ok (a, next) → Took (Says layout) left a next
  reading-says short (Value b) left next a bytes e = record {
    front = [];
    says = (sym (same_value {F = F} b a left next e), refl);
    bytes = ap (λ (l : Left). l.bytes) (same_left {F = F} b a left next e);
  }
  reading-says short (Number size) left next a bytes e =
      let took = number-back short size left next a bytes e in
      record { front = to_be_bytes (width size) a; says = (took.0, refl); bytes = took.1 }
  reading-says {A} short (Field size found refused) left next a bytes e =
      let got = passed (number short (width size) left) (λ n. with_left (ok_or (found n) (refused left.place n))) a next e in
      let took = number-back short size left got.middle got.first bytes got.is in
      go got.first got.middle took.0 took.1 (found got.first) refl got.rest
    where
      go : (n : ℕ) (middle : Left) → n < limit size → left.bytes ≡ to_be_bytes (width size) n ++ middle.bytes → (value : Option A)
          → found n ≡ value → with_left (ok_or value (refused left.place n)) middle ≡ Ok (a, next)
          → Took (Says (Field size found refused)) left a next
      go n middle below is (Some b) there e = record {
        front = to_be_bytes (width size) n;
        says = (n, there ∙ ap (λ x. Some x) (same_value {F = F} b a middle next e), (below, refl));
        bytes = is ∙ ap (λ (l : Left). to_be_bytes (width size) n ++ l.bytes) (same_left {F = F} b a middle next e);
      }
      go n middle below is None there e = cc
  reading-says short (Bytes size) left next a bytes e =
      let took = part-back short size left next a e in
      record { front = a; says = (took.0, refl); bytes = took.1 }
  reading-says short (Told fault inner) left next a bytes e =
      let took = reading-says (λ at. fault left.place) inner left next a bytes e in
      record { front = took.front; says = took.says; bytes = took.bytes }
  reading-says short (Sized fault inner) left next a bytes e =
      let inside = reading (λ at. fault left.place) inner in
      let got = passed (number short (width U4) left) (λ size. whole short (λ at. fault left.place) size inside) a next e in
      let size = number-back short U4 left got.middle got.first bytes got.is in
      let cut = part_whole-back (λ at. fault left.place) inside short got.first got.middle next a got.rest in
      let more = bytes_behind (u4 got.first) got.middle.bytes (subst IsBytes size.1 bytes) in
      let took = reading-says (λ at. fault left.place) inner (record { place = got.middle.place; bytes = cut.inside }) cut.all.end a
      (bytes_front cut.inside next.bytes (subst IsBytes cut.bytes more)) cut.all.is in
      let all : cut.inside ≡ took.front = took.bytes ∙ ap (λ t. took.front ++ t) cut.all.none ∙ append-nil took.front in
      record {
        front = u4 (length cut.inside) ++ cut.inside;
        says = (cut.inside, subst (λ n. n < limit U4) (sym cut.size) size.0, refl, subst (Says inner a) (sym all) took.says);
        bytes = size.1 ∙ ap (λ t. u4 got.first ++ t) cut.bytes ∙ sym (append_assoc (u4 got.first) cut.inside next.bytes)
            ∙ ap (λ n. (u4 n ++ cut.inside) ++ next.bytes) (sym cut.size);
      }
  reading-says short (Times n item) left next a bytes e =
      let took = counted-back (reading short item) (Says item)
      (λ left next a bytes e. reading-says short item left next a bytes e) n left next a bytes e in
      record { front = took.front; says = took.says; bytes = took.bytes }
  reading-says short (Then first more) left next b bytes e =
      let got = passed (reading short first left) (λ a. reading short (more a)) b next e in
      let one = reading-says short first left got.middle got.first bytes got.is in
      let rest = bytes_behind one.front got.middle.bytes (subst IsBytes one.bytes bytes) in
      let two = reading-says short (more got.first) got.middle next b rest got.rest in
      record {
        front = one.front ++ two.front;
        says = (got.first, one.front, two.front, refl, one.says, two.says);
        bytes = one.bytes ∙ ap (λ m. one.front ++ m) two.bytes ∙ sym (append_assoc one.front two.front next.bytes);
      }

  -- what the bytes say is read
  pub says-reading : {A : Type 0} (short : ℕ → F) (layout : Layout F A) (place : ℕ) (a : A) (text rest : List ℕ) → Says layout a text
      → ReadBack (reading short layout) place text a rest
  says-reading short (Value b) place a text rest (same, none) = (place, rw (same, none) refl)
  says-reading short (Number size) place n text rest (below, is) =
      let read = number-forth short size place n rest below in
      (read.0, rw is read.1)
  says-reading short (Field size found refused) place a text rest (n, there, (below, is)) =
      let read = number-forth short size place n rest below in
      (read.0, rw (is, read.1, there) refl)
  says-reading short (Bytes size) place a text rest (fits, same) =
      rw same (part-forth short size place text rest fits)
  says-reading short (Told fault inner) place a text rest says = says-reading (λ at. fault place) inner place a text rest says
  says-reading short (Sized fault inner) place a text rest (inside, below, is, says) =
      let size = number-forth short U4 place (length inside) (inside ++ rest) below in
      let read = says-reading (λ at. fault place) inner size.0 a inside [] says in
      let all = part_whole-forth (λ at. fault place) (reading (λ at. fault place) inner) short (length inside) size.0 a inside rest refl
      (record { end = record { place = read.0; bytes = [] }; is = rw (append-nil inside) at read.1; none = refl }) in
      (all.0, rw (is, size.1, all.1) refl)
  says-reading short (Times n item) place xs text rest (size, each) =
      counted-forth (reading short item) (Says item) (λ place a text rest says. says-reading short item place a text rest says) n place xs
      text rest size each
  says-reading short (Then first more) place b text rest (a, front, after, is, one, two) =
      let read = says-reading short first place a front (after ++ rest) one in
      let next = says-reading short (more a) read.0 b after rest two in
      (next.0, rw (is, append_assoc front after rest, read.1, next.1) refl)

-- Whole texts

module _ {F A : Type 0} (short rest : ℕ → F) (layout : Layout F A) (text : List ℕ) where
  -- a whole text is read to its end
  pub whole-back : (a : A) → whole_text short rest layout text ≡ Ok a → TookAll (reading short layout) (at_front text) a
  whole-back a is = go (ended rest (reading short layout) (at_front text)) refl is
    where
      go : (outcome : Outcome F A) → ended rest (reading short layout) (at_front text) ≡ outcome → value_of outcome ≡ Ok a
          → TookAll (reading short layout) (at_front text) a
      go (Ok r) e is = ended-back rest (reading short layout) (at_front text) r.1 a (e ∙ ap (λ b. Ok (b, r.1)) (same_ok {E = F} r.0 a is))
      go (Err fault) e is = cc

  pub whole-forth : (a : A) → TookAll (reading short layout) (at_front text) a → whole_text short rest layout text ≡ Ok a
  whole-forth a all = ap value_of (ended-forth rest (reading short layout) (at_front text) a all)

  pub whole-says : (a : A) → IsBytes text → whole_text short rest layout text ≡ Ok a → Says layout a text
  whole-says a bytes is =
      let all = whole-back a is in
      let took = reading-says short layout (at_front text) all.end a bytes all.is in
      subst (Says layout a) (sym (took.bytes ∙ ap (λ t. took.front ++ t) all.none ∙ append-nil took.front)) took.says

  pub says-whole : (a : A) → Says layout a text → whole_text short rest layout text ≡ Ok a
  says-whole a says =
      let read = says-reading short layout 0 a text [] says in
      whole-forth a (record { end = record { place = read.0; bytes = [] }; is = rw (append-nil text) at read.1; none = refl })

  whole-agrees : Agrees (ended rest (reading short layout) (at_front text)) (text_fields short rest layout text) (λ a end. [])
  whole-agrees = ended_agrees (reading short layout (at_front text)) rest _ (λ a end. []) (reading-agrees short layout _ (at_front text))

  pub whole-fault : (fault : F) → whole_text short rest layout text ≡ Err fault → HasFirstFault (text_fields short rest layout text) fault
  whole-fault fault is = go (ended rest (reading short layout) (at_front text)) whole-agrees is
    where
      go : (outcome : Outcome F A) → Agrees outcome (text_fields short rest layout text) (λ a end. []) → value_of outcome ≡ Err fault
          → HasFirstFault (text_fields short rest layout text) fault
      go (Ok r) agrees is = cc
      go (Err found) agrees is =
          let same : found ≡ fault = cc in subst (HasFirstFault (text_fields short rest layout text)) same agrees

  pub fault-whole : (fault : F) → HasFirstFault (text_fields short rest layout text) fault → whole_text short rest layout text ≡ Err fault
  fault-whole fault has = go (ended rest (reading short layout) (at_front text)) whole-agrees
    where
      go : (outcome : Outcome F A) → Agrees outcome (text_fields short rest layout text) (λ a end. []) → value_of outcome ≡ Err fault
      go (Ok r) agrees = absurd (no_fault (text_fields short rest layout text) fault (passed_good _ agrees) has)
      go (Err found) agrees = ap (λ f. Err f) (one_fault (text_fields short rest layout text) found fault agrees has)

  pub whole-good : (a : A) → whole_text short rest layout text ≡ Ok a → All IsGood (text_fields short rest layout text)
  whole-good a is = go (ended rest (reading short layout) (at_front text)) whole-agrees is
    where
      go : (outcome : Outcome F A) → Agrees outcome (text_fields short rest layout text) (λ a end. []) → value_of outcome ≡ Ok a
          → All IsGood (text_fields short rest layout text)
      go (Ok r) agrees is = passed_good (text_fields short rest layout text) agrees
      go (Err found) agrees is = cc

-- What is read by one layout, and by another one

module _ {F : Type 0} (short : ℕ → F) where
  pub record Stays {A : Type 0} (old new : Layout F A) : Type 0 where
    pub read : (left next : Left) (a : A) → reading short old left ≡ Ok (a, next) → reading short new left ≡ Ok (a, next)

  pub same-stays : {A : Type 0} (layout : Layout F A) → Stays layout layout
  same-stays layout = record { read = λ left next a e. e }

  pub field-stays : {A : Type 0} (size : Size) (found more : ℕ → Option A) (refused other : ℕ → ℕ → F)
      → ((n : ℕ) (a : A) → found n ≡ Some a → more n ≡ Some a) → Stays (Field size found refused) (Field size more other)
  field-stays {A} size found more refused other stays = record {
    read = λ left next a e.
        let got = passed (number short (width size) left) (λ n. with_left (ok_or (found n) (refused left.place n))) a next e in
        let is = got.is in
        rw is (go left.place next a got.first got.middle (found got.first) refl got.rest);
  }
    where
      go : (place : ℕ) (next : Left) (a : A) (n : ℕ) (middle : Left) (value : Option A) → found n ≡ value
          → with_left (ok_or value (refused place n)) middle ≡ Ok (a, next) → with_left (ok_or (more n) (other place n)) middle ≡ Ok (a, next)
      go place next a n middle (Some b) there e = let also = stays n b there in rw also e
      go place next a n middle None there e = cc

  pub then-stays : {A B : Type 0} (first other : Layout F A) (next more : A → Layout F B) → Stays first other
      → ((a : A) → Stays (next a) (more a)) → Stays (Then first next) (Then other more)
  then-stays first other next more one two = record {
    read = λ left end b e.
        let got = passed (reading short first left) (λ a. reading short (next a)) b end e in
        let same = one.read left got.middle got.first got.is in
        rw same ((two got.first).read got.middle end b got.rest);
  }

  times_stay : {A : Type 0} (old new : Layout F A) → Stays old new → (n : ℕ) (left next : Left) (xs : List A)
      → counted n (reading short old) left ≡ Ok (xs, next) → counted n (reading short new) left ≡ Ok (xs, next)
  times_stay old new stays zero left next xs e = e
  times_stay old new stays (suc n) left next xs e =
      let one = passed (reading short old left) (λ x. and_then (counted n (reading short old)) (λ xs. value (x ∷ xs))) xs next e in
      let two = passed (counted n (reading short old) one.middle) (λ xs. value (one.first ∷ xs)) xs next one.rest in
      let first = stays.read left one.middle one.first one.is in
      let rest = times_stay old new stays n one.middle two.middle two.first two.is in
      rw (first, rest) two.rest

  pub listed-stays : {A : Type 0} (old new : Layout F A) → Stays old new → Stays (listed old) (listed new)
  listed-stays old new stays = then-stays (Number U2) (Number U2) (λ n. Times n old) (λ n. Times n new) (same-stays (Number U2))
      (λ n. record { read = times_stay old new stays n })

  pub whole-stays : {A : Type 0} (rest : ℕ → F) (old new : Layout F A) (text : List ℕ) (a : A) → Stays old new
      → whole_text short rest old text ≡ Ok a → whole_text short rest new text ≡ Ok a
  whole-stays rest old new text a stays is =
      let all = whole-back short rest old text a is in
      whole-forth short rest new text a
      (record { end = all.end; is = stays.read (at_front text) all.end a all.is; none = all.none })

-- What each value has that is read

module _ {F : Type 0} (short : ℕ → F) where
  -- each value that a layout can give has this
  abbrev pub Gives : {A : Type 0} → (A → Type 0) → Layout F A → Type 0
  Gives P (Value a) = P a
  Gives {A} P (Field size found refused) = (n : ℕ) (a : A) → found n ≡ Some a → P a
  Gives P (Then first next) = Gives (λ a. Gives P (next a)) first
  Gives {A} P _ = (a : A) → P a

  pub reading-gives : {A : Type 0} (P : A → Type 0) (layout : Layout F A) (left next : Left) (a : A) → Gives P layout
      → reading short layout left ≡ Ok (a, next) → P a
  reading-gives P (Value b) left next a gives e = subst P (same_value {F = F} b a left next e) gives
  reading-gives {A} P (Field size found refused) left next a gives e =
      let got = passed (number short (width size) left) (λ n. with_left (ok_or (found n) (refused left.place n))) a next e in
      go got.first got.middle (found got.first) refl got.rest
    where
      go : (n : ℕ) (middle : Left) (value : Option A) → found n ≡ value → with_left (ok_or value (refused left.place n)) middle
          ≡ Ok (a, next) → P a
      go n middle (Some b) there e = subst P (same_value {F = F} b a middle next e) (gives n b there)
      go n middle None there e = cc
  reading-gives P (Then first more) left next b gives e =
      let got = passed (reading short first left) (λ a. reading short (more a)) b next e in
      reading-gives P (more got.first) got.middle next b
      (reading-gives (λ a. Gives P (more a)) first left got.middle got.first gives got.is) got.rest
  reading-gives P (Number size) left next a gives e = gives a
  reading-gives P (Bytes size) left next a gives e = gives a
  reading-gives P (Told fault inner) left next a gives e = gives a
  reading-gives P (Sized fault inner) left next a gives e = gives a
  reading-gives P (Times n item) left next a gives e = gives a

  pub whole-gives : {A : Type 0} (rest : ℕ → F) (P : A → Type 0) (layout : Layout F A) (text : List ℕ) (a : A) → Gives P layout
      → whole_text short rest layout text ≡ Ok a → P a
  whole-gives rest P layout text a gives is =
      let all = whole-back short rest layout text a is in
      reading-gives P layout (at_front text) all.end a gives all.is
