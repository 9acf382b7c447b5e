-- The class of a module that only requires others is well formed, and its descriptor has its name
-- and its needs.
use Rattle.std.proofs.Common.{◌≡◌, ℕ, suc, ◌+◌, ◌-◌, ◌*◌, ◌^◌, ◌<◌, ◌≤◌, inl, inr, true, false, List, [], ◌∷◌}
use Rattle.std.proofs.Common.{◌++◌, length, Some, None, Result, Ok, Err, OnOk, IfOk, refl, sym, ap, ◌∙◌}
use Rattle.std.proofs.Common.{arith, append_assoc, length-append}
use Rattle.std.proofs.lemmas.Bool.{ne_eqb}
use Rattle.std.proofs.lemmas.List.{append-nil}
use Rattle.std.proofs.lemmas.List.Elements.{All-nil, All-cons, All-head, All-tail}
use Rattle.std.proofs.lemmas.Nat.{from_be_bytes-to_be_bytes_2}
use Rattle.std.specs.Prelude.{All, nat_eq, slice_get, option_and_then}
use Rattle.jm_class.specs.Classes.{SlotData, Constant, Opaque, u2, slot_at, utf8_at, IsPoolFrom, IsAttribute, IsMember, IsClass, ReadsAs}
use Rattle.jm_modinfo.specs.Constants.{named_by, named_at, is_legal}
use Rattle.jm_modinfo.specs.declared.constants.Kind.TheVariants.{Class, Module}
use Rattle.jm_modinfo.specs.declared.descriptor.Need.{Need}
use Rattle.jm_modinfo.specs.Descriptors.{InfoOf}
use Rattle.jm_class.specs.Layouts.{Layout, U2, Number, listed, Says, SaysEach}
use Rattle.jm_modinfo.specs.declared.faults.InfoFault.{InfoFault}
use Rattle.jm_modinfo.specs.ModuleLayout as layout
use Rattle.jm_modinfo.specs.ModuleLayout.{allowed}
use Rattle.jm_modinfo.specs.Written.{utf8, IsName, IsWritable, need_slots, info_pool, needs_text, info_body}
use Rattle.jm_modinfo.specs.Written.{info_class, info_text, plain_descriptor}

-- Well formed

needs_fit : (number : ℕ) (needs : List Need) → All IsWritable needs → IsPoolFrom false (need_slots number needs)
needs_fit number [] all = refl
needs_fit number (n ∷ needs) all =
    let first = All-head IsWritable n needs all in
    (inl (refl, first.name.1), (inr refl, needs_fit (number + 2) needs (All-tail IsWritable n needs all)))

length-slots : (number : ℕ) (needs : List Need) → length (need_slots number needs) ≡ 2 * length needs
length-slots number [] = refl
length-slots number (n ∷ needs) = let rest = length-slots (number + 2) needs in omega (arith, rest)

length-needs : (number : ℕ) (needs : List Need) → length (needs_text number needs) ≡ 6 * length needs
length-needs number [] = refl
length-needs number (n ∷ needs) =
    let rest = length-needs (number + 2) needs in
    let none = ap length (append-nil (needs_text (number + 2) needs)) in
    omega (arith, rest, none)

length-body : (needs : List Need) → length (info_body needs) ≡ 16 + 6 * length needs
length-body needs =
    let own = length-needs 7 needs in
    let all = length-append (needs_text 7 needs) (u2 0 ++ (u2 0 ++ (u2 0 ++ (u2 0 ++ [])))) in
    omega (arith, own, all)

pub info_class-fits : (name : List ℕ) (needs : List Need) → IsName name → All IsWritable needs → length needs ≤ 1000
    → IsClass (info_class name needs)
info_class-fits name needs named all count = record {
  minor = omega arith;
  major = (omega arith, omega arith);
  slots = let size = length-slots 6 needs in omega (arith, size, count);
  pool = (inl (refl, omega arith), (inr refl, (inl (refl, omega arith), (inl (refl, named.1), (inr refl, needs_fit 6 needs all)))));
  access = omega arith;
  this_class = omega arith;
  super_class = omega arith;
  interfaces = (omega arith, All-nil (λ i. i < 2 ^ 16));
  fields = (omega arith, All-nil (IsMember (info_pool name needs) false));
  methods = (omega arith, All-nil (IsMember (info_pool name needs) true));
  attributes = (
    omega arith,
    All-cons (IsAttribute (info_pool name needs) false) (record { name = 3; body = Opaque (info_body needs) }) []
        (record { name = (omega arith, refl); body = tt; bytes = let size = length-body needs in omega (arith, size, count) })
        (All-nil (IsAttribute (info_pool name needs) false)),
  );
}

-- The constants of the needs

at_front : {A : Type 0} (front rest : List A) (x : A) → slice_get (front ++ x ∷ rest) (length front) ≡ Some x
at_front [] rest x = refl
at_front (y ∷ front) rest x = at_front front rest x

slot_behind : (pool : List SlotData) (n : ℕ) → slot_at pool (suc n) ≡ slice_get pool n
slot_behind pool n = let same : suc n - 1 ≡ n = omega arith in
    let test : nat_eq (suc n) 0 ≡ false = ne_eqb (suc n) 0 (λ e. absurd (omega (arith, e))) in
    rw (test, same) refl

slot_there : (pool front rest : List SlotData) (slot : SlotData) (number : ℕ) → pool ≡ front ++ slot ∷ rest → number
    ≡ suc (length front) → slot_at pool number ≡ Some slot
slot_there pool front rest slot number is at = ap (λ p. slot_at p number) is ∙ ap (slot_at (front ++ slot ∷ rest)) at
    ∙ slot_behind (front ++ slot ∷ rest) (length front) ∙ at_front front rest slot

-- the name of each need and its Module constant stand at these numbers
abbrev Placed : List SlotData → ℕ → List Need → Type 0
Placed pool number [] = Unit {0}
Placed pool number (n ∷ needs) =
    (slot_at pool number ≡ Some (utf8 n.name)) × (slot_at pool (number + 1) ≡ Some (Constant 19 (u2 number)))
    × Placed pool (number + 2) needs

placed : (pool front : List SlotData) (number : ℕ) (needs : List Need) → pool ≡ front ++ need_slots number needs → number
    ≡ suc (length front) → Placed pool number needs
placed pool front number [] is at = tt
placed pool front number (n ∷ needs) is at =
    let rest = need_slots (number + 2) needs in
    let one : pool ≡ (front ++ utf8 n.name ∷ []) ++ Constant 19 (u2 number) ∷ rest = is
    ∙ sym (append_assoc front (utf8 n.name ∷ []) (Constant 19 (u2 number) ∷ rest)) in
    let both : pool ≡ (front ++ utf8 n.name ∷ Constant 19 (u2 number) ∷ []) ++ rest = is
    ∙ sym (append_assoc front (utf8 n.name ∷ Constant 19 (u2 number) ∷ []) rest) in
    let size_one = length-append front (utf8 n.name ∷ []) in
    let size_both = length-append front (utf8 n.name ∷ Constant 19 (u2 number) ∷ []) in (
      slot_there pool front (Constant 19 (u2 number) ∷ rest) (utf8 n.name) number is at,
      slot_there pool (front ++ utf8 n.name ∷ []) rest (Constant 19 (u2 number)) (number + 1) one (omega (arith, at, size_one)),
      placed pool (front ++ utf8 n.name ∷ Constant 19 (u2 number) ∷ []) (number + 2) needs both (omega (arith, at, size_both)),
    )

utf8_there : (pool : List SlotData) (number : ℕ) (text : List ℕ) → slot_at pool number ≡ Some (utf8 text) → utf8_at pool number ≡ Some text
utf8_there pool number text is = rw is refl

module_there : (pool : List SlotData) (index number : ℕ) (text : List ℕ) → number < 2 ^ 16 → slot_at pool index
    ≡ Some (Constant 19 (u2 number)) → utf8_at pool number ≡ Some text → named_at pool Module index ≡ Some text
module_there pool index number text below is named =
    ap (option_and_then (named_by pool Module)) is
    ∙ ap (λ (n : ℕ). utf8_at pool n) (from_be_bytes-to_be_bytes_2 number below) ∙ named

-- The body

module _ (pool : List SlotData) where
  zero-said : Says {F = InfoFault} (Number U2) 0 (u2 0)
  zero-said = (omega arith, refl)

  none-said : {A : Type 0} (item : Layout InfoFault A) → Says (listed item) [] (u2 0)
  none-said item = (0, u2 0, [], refl, zero-said, (refl, refl))

  need-said : (number : ℕ) (n : Need) → IsWritable n → number < 2 ^ 16 → n.flags < 2 ^ 16
      → named_at pool Module number ≡ Some n.name
      → Says (layout.need pool) n (u2 number ++ (u2 n.flags ++ u2 0))
  need-said number n fits below flags named =
      let version : Some None ≡ Some n.version = ap (λ v. Some v) (sym fits.version) in
      let name : allowed Module (named_at pool Module number) ≡ Some n.name = rw (named, fits.name.0) refl in (
        n.name,
        u2 number,
        _,
        refl,
        (number, name, (below, refl)),
        (
          n.flags,
          u2 n.flags,
          _,
          refl,
          (flags, refl),
          (n.version, u2 0, [], refl, (0, version, (omega arith, refl)), (refl, refl)),
        ),
      )

  needs-said : (number : ℕ) (needs : List Need) → All IsWritable needs → All (λ n. n.flags < 2 ^ 16) needs
      → Placed pool number needs → number + 1 + 2 * length needs < 2 ^ 16
      → SaysEach (Says (layout.need pool)) needs (needs_text (number + 1) needs)
  needs-said number [] all flags there below = refl
  needs-said number (n ∷ needs) all flags (name, constant, rest) below =
      let first = All-head IsWritable n needs all in
      let small : number < 2 ^ 16 = omega (arith, below) in
      let found = module_there pool (number + 1) number n.name small constant (utf8_there pool number n.name name) in
      let one = need-said (number + 1) n first (omega (arith, below)) (All-head (λ n. n.flags < 2 ^ 16) n needs flags) found in
      let more = needs-said (number + 2) needs (All-tail IsWritable n needs all) (All-tail (λ n. n.flags < 2 ^ 16) n needs flags)
      rest (omega (arith, below)) in
      let next : number + 2 + 1 ≡ number + 1 + 2 = omega arith in
      (_, needs_text (number + 1 + 2) needs ++ [], refl, one, rw (append-nil (needs_text (number + 1 + 2) needs)) (rw next at more))

  body-said : (name : List ℕ) (needs : List Need) → is_legal name ≡ true → named_at pool Module 5 ≡ Some name
      → length needs < 2 ^ 16 → SaysEach (Says (layout.need pool)) needs (needs_text 7 needs)
      → Says (layout.module_layout pool) (plain_descriptor name needs) (info_body needs)
  body-said name needs legal named count said =
      let found : allowed Module (named_at pool Module 5) ≡ Some name = rw (named, legal) refl in (
        name,
        u2 5,
        _,
        refl,
        (5, found, (omega arith, refl)),
        (
          0,
          u2 0,
          _,
          refl,
          zero-said,
          (
            None,
            u2 0,
            _,
            refl,
            (0, refl, (omega arith, refl)),
            (
              needs,
              u2 (length needs) ++ needs_text 7 needs,
              _,
              refl,
              (length needs, u2 (length needs), needs_text 7 needs, refl, (count, refl), (refl, said)),
              (
                [],
                u2 0,
                _,
                refl,
                none-said (layout.opened pool),
                (
                  [],
                  u2 0,
                  _,
                  refl,
                  none-said (layout.opened pool),
                  ([], u2 0, _, refl, none-said (layout.named pool Class), ([], u2 0, _, refl, none-said (layout.provides pool), (refl, refl))),
                ),
              ),
            ),
          ),
        ),
      )

pub info_class-info : (name : List ℕ) (needs : List Need) → IsName name → All IsWritable needs → All (λ n. n.flags < 2 ^ 16) needs
    → length needs ≤ 1000 → InfoOf (info_class name needs) (plain_descriptor name needs)
info_class-info name needs named all flags count =
    let pool = info_pool name needs in
    let there = placed pool (utf8 _ ∷ Constant 7 _ ∷ utf8 _ ∷ utf8 name ∷ Constant 19 (u2 4) ∷ []) 6 needs refl refl in
    record {
      access = refl;
      major = omega arith;
      body = info_body needs;
      only = refl;
      says = body-said pool name needs named.0 refl (omega (arith, count)) (needs-said pool 6 needs all flags there (omega (arith, count)));
      main = refl;
    }

-- What was written

pub written_ok : {E : Type 0} (name : List ℕ) (needs : List Need) (result : Result (List ℕ) E) → IsClass (info_class name needs)
    → IfOk result (λ text. text ≡ info_text name needs) → IfOk result (λ text. ReadsAs text (info_class name needs))
written_ok name needs (Ok text) fits is = record { well_formed = fits; text = sym is }
written_ok name needs (Err error) fits is = tt

pub info_ok : {T E P : Type 0} (result : Result T E) → P → OnOk result P
info_ok (Ok value) holds = holds
info_ok (Err error) holds = tt
