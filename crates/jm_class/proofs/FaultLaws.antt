-- What a reading gave agrees with the fields of a layout: where it is a value, the fields that were
-- taken are good ones, and those after them follow; where it is a fault, that is the first one of the
-- fields. A list of fields has one fault.
use Rattle.std.proofs.Common.{◌≡◌, ℕ, zero, suc, ◌+◌, inl, inr, Bool, true, false, cond, List, [], ◌∷◌, ◌++◌, length, take, Option}
use Rattle.std.proofs.Common.{Some, None, Result, Ok, Err, map, refl, sym, ap, subst, ◌∙◌, arith, append_assoc}
use Rattle.std.proofs.lemmas.Bool.{leb-true, leb-false, le-leb, eqb-true, eq-eqb, ne_eqb}
use Rattle.std.proofs.lemmas.List.{append-nil}
use Rattle.std.proofs.lemmas.List.Elements.{All-nil, All-cons, All-append, All-head, All-tail}
use Rattle.std.specs.Int.{byte_len, from_be_bytes}
use Rattle.std.specs.Prelude.{All, nat_le, nat_eq, not, ok_or}
use Rattle.jm_bytes.specs.Checks.{fault_if, first_fault}
use Rattle.jm_bytes.proofs.Choice.{same_some}
use Rattle.jm_class.specs.Layouts.{Layout, Size, U4, width, Value, Number, Field, Bytes, Told, Sized, Times, Then, with_left, fault_of}
use Rattle.jm_class.specs.Layouts.{reading, FieldSeen, Stands, Ends, Following, if_value, field, number_field, bytes_field, ending, each}
use Rattle.jm_class.specs.Layouts.{fields, IsGood, IsFaultOf, HasFirstFault}
use Rattle.jm_class.specs.Readings.{Left, behind, Outcome, Reading, value, continued, part, number, counted, ended, whole}

-- good fields, and the rest after them
pub record Passes {F : Type 0} (fields rest : List (FieldSeen F)) : Type 0 where
  pub taken : List (FieldSeen F)
  pub good : All IsGood taken
  pub list : fields ≡ taken ++ rest

-- what a reading gave agrees with the fields
abbrev pub Agrees : {F A : Type 0} → Outcome F A → List (FieldSeen F) → Following F A → Type 0
Agrees (Ok r) fields next = Passes fields (next r.0 r.1)
Agrees (Err fault) fields next = HasFirstFault fields fault

module _ {F : Type 0} where
  -- what agrees after good fields agrees with all of them
  agrees_behind : {A : Type 0} (outcome : Outcome F A) (fields middle : List (FieldSeen F)) (next : Following F A)
      → Passes fields middle → Agrees outcome middle next → Agrees outcome fields next
  agrees_behind (Ok r) fields middle next one two = record {
    taken = one.taken ++ two.taken;
    good = All-append IsGood one.taken two.taken one.good two.good;
    list = one.list ∙ ap (λ l. one.taken ++ l) two.list ∙ sym (append_assoc one.taken two.taken (next r.0 r.1));
  }
  agrees_behind (Err fault) fields middle next one two = record {
    before = one.taken ++ two.before;
    field = two.field;
    after = two.after;
    list = one.list ∙ ap (λ l. one.taken ++ l) two.list ∙ sym (append_assoc one.taken two.before (two.field ∷ two.after));
    good = All-append IsGood one.taken two.before one.good two.good;
    bad = two.bad;
  }

  -- one reading after another
  then_agrees : {A B : Type 0} (outcome : Outcome F A) (more : A → Reading F B) (fields : List (FieldSeen F))
      (middle : Following F A) (next : Following F B) → Agrees outcome fields middle
      → ((a : A) (left : Left) → Agrees (more a left) (middle a left) next) → Agrees (continued outcome more) fields next
  then_agrees (Ok r) more fields middle next one two = agrees_behind (more r.0 r.1) fields (middle r.0 r.1) next one (two r.0 r.1)
  then_agrees (Err fault) more fields middle next one two = one

  -- no field is taken
  passes_all : {fields : List (FieldSeen F)} → Passes fields fields
  passes_all = record { taken = []; good = All-nil IsGood; list = refl }

  -- one good field is taken, or it is bad
  one_good : (field : FieldSeen F) (rest : List (FieldSeen F)) → IsGood field → Passes (field ∷ rest) rest
  one_good field rest good = record { taken = field ∷ []; good = All-cons IsGood field [] good (All-nil IsGood); list = refl }

  one_bad : (field : FieldSeen F) (rest : List (FieldSeen F)) (fault : F) → IsFaultOf field fault → HasFirstFault (field ∷ rest) fault
  one_bad field rest fault bad = record { before = []; field = field; after = rest; list = refl; good = All-nil IsGood; bad = bad }

  -- a field, judged by its bytes
  field_agrees : {A : Type 0} (short : ℕ → F) (size : ℕ) (judge : ℕ → List ℕ → Result A F) (next : Following F A) (left : Left)
      (outcome : Outcome F A) → outcome ≡ cond (nat_le size (length left.bytes))
      (with_left (judge left.place (take size left.bytes)) (behind size left)) (Err (short left.place))
      → Agrees outcome (field short size judge next left) next
  field_agrees {A} short size judge next left outcome is =
      rw is (go (nat_le size (length left.bytes)) refl (judge left.place (take size left.bytes)))
    where
      go : (b : Bool) → nat_le size (length left.bytes) ≡ b → (verdict : Result A F)
          → Agrees (cond b (with_left verdict (behind size left)) (Err (short left.place)))
          (Stands left.place size (left.place + length left.bytes) (short left.place) (fault_of verdict)
          ∷ cond b (if_value verdict next (behind size left)) []) next
      go false test verdict =
          one_bad _ _ _ (inl ((λ fits. let over = leb-false size (length left.bytes) test in omega (arith, over, fits)), refl))
      go true test (Ok a) = one_good _ _ (let fits = leb-true size (length left.bytes) test in omega (arith, fits), refl)
      go true test (Err fault) = one_bad _ _ _ (inr (let fits = leb-true size (length left.bytes) test in omega (arith, fits), refl))

  -- a number as a choice, and what follows it
  number_with : {A : Type 0} (short : ℕ → F) (size : Size) (more : ℕ → Reading F A) (left : Left)
      → continued (number short (width size) left) more ≡ cond (nat_le (byte_len (width size)) (length left.bytes))
      (more (from_be_bytes (width size) (take (byte_len (width size)) left.bytes)) (behind (byte_len (width size)) left))
      (Err (short left.place))
  number_with {A} short size more left = go (nat_le (byte_len (width size)) (length left.bytes))
    where
      go : (b : Bool) → ◌≡◌ {A = Outcome F A} (continued (continued
          (cond b (Ok (take (byte_len (width size)) left.bytes, behind (byte_len (width size)) left)) (Err (short left.place)))
          (λ bytes. value (from_be_bytes (width size) bytes))) more)
          (cond b (more (from_be_bytes (width size) (take (byte_len (width size)) left.bytes)) (behind (byte_len (width size)) left))
          (Err (short left.place)))
      go true = refl
      go false = refl

  number_agrees : (short : ℕ → F) (size : Size) (next : Following F ℕ) (left : Left)
      → Agrees (number short (width size) left) (number_field short size next left) next
  number_agrees short size next left =
      field_agrees short (byte_len (width size)) (λ at bytes. Ok (from_be_bytes (width size) bytes)) next left _
      (same (number short (width size) left) ∙ number_with short size value left)
    where
      same : (outcome : Outcome F ℕ) → outcome ≡ continued outcome value
      same (Ok r) = refl
      same (Err fault) = refl

  bytes_agrees : (short : ℕ → F) (size : ℕ) (next : Following F (List ℕ)) (left : Left)
      → Agrees (part short size left) (bytes_field short size next left) next
  bytes_agrees short size next left = field_agrees short size (λ at bytes. Ok bytes) next left _ refl

  -- no byte is left after what was read
  pub ended_agrees : {A : Type 0} (outcome : Outcome F A) (rest : ℕ → F) (fields : List (FieldSeen F)) (next : Following F A)
      → Agrees outcome fields (λ a left. ending rest left (next a left))
      → Agrees (continued outcome (λ a left. cond (nat_eq (length left.bytes) 0) (Ok (a, left)) (Err (rest left.place)))) fields next
  ended_agrees {A} outcome rest fields next law =
      then_agrees outcome _ fields (λ a left. ending rest left (next a left)) next law (λ a left. go a left (nat_eq (length left.bytes) 0) refl)
    where
      go : (a : A) (left : Left) (none : Bool) → nat_eq (length left.bytes) 0 ≡ none
          → Agrees (cond none (Ok (a, left)) (Err (rest left.place))) (ending rest left (next a left)) next
      go a left true test = one_good _ _ (let none = eqb-true (length left.bytes) 0 test in omega (arith, none))
      go a left false test = one_bad _ _ _ ((λ same. absurd (some_left left.bytes test same)), refl)
        where
          some_left : (bytes : List ℕ) → nat_eq (length bytes) 0 ≡ false → left.place ≡ left.place + length bytes → ⊥
          some_left [] test same = cc
          some_left (b ∷ bytes) test same = omega (arith, same)

  -- a part that a reading takes whole
  part_agrees : {A : Type 0} (short rest : ℕ → F) (n : ℕ) (item : Reading F A) (form : Following F A → Left → List (FieldSeen F))
      → ((next : Following F A) (left : Left) → Agrees (item left) (form next left) next) → (next : Following F A) (left : Left)
      → Agrees (whole short rest n item left) (bytes_field short n (λ bytes after. form (λ a end. ending rest end (next a after))
      (record { place = left.place; bytes = bytes })) left) next
  part_agrees {A} short rest n item form law next left =
      rw (cut_is (nat_le n (length left.bytes)))
      (then_agrees (part short n left) _ _ _ next (bytes_agrees short n _ left)
      (λ bytes after. then_agrees (ended rest item (record { place = left.place; bytes = bytes })) _ _ (λ a end. next a after) next
      (ended_agrees (item (record { place = left.place; bytes = bytes })) rest _ (λ a end. next a after)
      (law _ (record { place = left.place; bytes = bytes })))
      (λ a end. passes_all)))
    where
      cut_is : (b : Bool) → ◌≡◌ {A = Outcome F A}
          (continued (continued (cond b (Ok (take n left.bytes, behind n left)) (Err (short left.place)))
          (λ bytes. value (record { place = left.place; bytes = bytes })))
          (λ inner next. continued (ended rest item inner) (λ a end. Ok (a, next))))
          (continued (cond b (Ok (take n left.bytes, behind n left)) (Err (short left.place)))
          (λ bytes next. continued (ended rest item (record { place = left.place; bytes = bytes })) (λ a end. Ok (a, next))))
      cut_is true = refl
      cut_is false = refl

  -- that many of one kind
  each_agrees : {A : Type 0} (item : Reading F A) (form : Following F A → Left → List (FieldSeen F))
      → ((next : Following F A) (left : Left) → Agrees (item left) (form next left) next) → (n : ℕ) (next : Following F (List A))
      (left : Left) → Agrees (counted n item left) (each n form next left) next
  each_agrees item form law zero next left = passes_all
  each_agrees item form law (suc n) next left =
      then_agrees (item left) _ _ (λ a after. each n form (λ more. next (a ∷ more)) after) next
      (law (λ a. each n form (λ more. next (a ∷ more))) left)
      (λ a after. then_agrees (counted n item after) _ _ (λ more last. next (a ∷ more) last) next
      (each_agrees item form law n (λ more. next (a ∷ more)) after)
      (λ more last. passes_all))

  -- a reading has the fault of its fields
  pub reading-agrees : {A : Type 0} (short : ℕ → F) (layout : Layout F A) (next : Following F A) (left : Left)
      → Agrees (reading short layout left) (fields short layout next left) next
  reading-agrees short (Value a) next left = passes_all
  reading-agrees short (Number size) next left = number_agrees short size next left
  reading-agrees short (Field size found refused) next left =
      field_agrees short (byte_len (width size))
      (λ at bytes. ok_or (found (from_be_bytes (width size) bytes)) (refused at (from_be_bytes (width size) bytes))) next left _
      (number_with short size (λ n. with_left (ok_or (found n) (refused left.place n))) left)
  reading-agrees short (Bytes size) next left = bytes_agrees short size next left
  reading-agrees short (Told fault inner) next left = reading-agrees (λ at. fault left.place) inner next left
  reading-agrees short (Sized fault inner) next left =
      then_agrees (number short (width U4) left) _ _ _ next (number_agrees short U4 _ left)
      (λ size after. part_agrees short (λ at. fault left.place) size (reading (λ at. fault left.place) inner)
      (fields (λ at. fault left.place) inner) (λ more inside. reading-agrees (λ at. fault left.place) inner more inside) next after)
  reading-agrees short (Times n item) next left =
      each_agrees (reading short item) (fields short item) (λ next left. reading-agrees short item next left) n next left
  reading-agrees short (Then first more) next left =
      then_agrees (reading short first left) (λ a. reading short (more a)) _ (λ a after. fields short (more a) next after) next
      (reading-agrees short first (λ a. fields short (more a) next) left) (λ a after. reading-agrees short (more a) next after)

  -- A list of fields has one fault at most

  -- the fault of a field, or none
  abbrev pub field_fault : FieldSeen F → Option F
  field_fault (Stands place size part_end missing refused) = cond (nat_le (place + size) part_end) refused (Some missing)
  field_fault (Ends place part_end rest) = fault_if (not (nat_eq place part_end)) rest

  good_none : (field : FieldSeen F) → IsGood field → field_fault field ≡ None
  good_none (Stands place size part_end missing refused) good = let fits = le-leb (place + size) part_end good.0 in rw fits good.1
  good_none (Ends place part_end rest) good = let same = eq-eqb place part_end good in rw same refl

  bad_some : (field : FieldSeen F) (fault : F) → IsFaultOf field fault → field_fault field ≡ Some fault
  bad_some (Stands place size part_end missing refused) fault (inr bad) =
      let fits = le-leb (place + size) part_end bad.0 in
      rw fits bad.1
  bad_some (Stands place size part_end missing refused) fault (inl short) = go (nat_le (place + size) part_end) refl
    where
      go : (b : Bool) → nat_le (place + size) part_end ≡ b → cond b refused (Some missing) ≡ Some fault
      go true is = absurd (short.0 (leb-true (place + size) part_end is))
      go false is = ap (λ f. Some f) short.1
  bad_some (Ends place part_end rest) fault bad =
      let some = ne_eqb place part_end bad.0 in
      rw some (ap (λ f. Some f) bad.1)

  good_behind : (good rest : List (FieldSeen F)) → All IsGood good
      → first_fault (map field_fault (good ++ rest)) ≡ first_fault (map field_fault rest)
  good_behind [] rest all = refl
  good_behind (field ∷ good) rest all =
      let none = good_none field (All-head IsGood field good all) in
      rw none (good_behind good rest (All-tail IsGood field good all))

  -- the fault of the rule is the first one
  fault_first : (fields : List (FieldSeen F)) (fault : F) → HasFirstFault fields fault
      → first_fault (map field_fault fields) ≡ Some fault
  fault_first fields fault has =
      let bad = bad_some has.field fault has.bad in
      rw has.list (good_behind has.before (has.field ∷ has.after) has.good ∙ rw bad refl)

  pub one_fault : (fields : List (FieldSeen F)) (fault other : F) → HasFirstFault fields fault → HasFirstFault fields other → fault ≡ other
  one_fault fields fault other one two = same_some fault other (sym (fault_first fields fault one) ∙ fault_first fields other two)

  -- good fields have none
  pub no_fault : (fields : List (FieldSeen F)) (fault : F) → All IsGood fields → HasFirstFault fields fault → ⊥
  no_fault fields fault good has =
      let none = ap (λ fields. first_fault (map field_fault fields)) (sym (append-nil fields)) ∙ good_behind fields [] good in
      let both = sym none ∙ fault_first fields fault has in
      cc

  -- fields that all passed are good
  pub passed_good : (fields : List (FieldSeen F)) → Passes fields [] → All IsGood fields
  passed_good fields passes = subst (All IsGood) (sym (passes.list ∙ append-nil passes.taken)) passes.good
