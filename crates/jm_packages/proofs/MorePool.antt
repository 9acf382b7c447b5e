-- What stands in a pool still does with more constants after it, and so a class of it is well
-- formed still.
use Rattle.std.proofs.Common.{◌≡◌, ℕ, zero, suc, ◌-◌, Bool, true, false, cond, ◌&&◌, List, [], ◌∷◌, ◌++◌}
use Rattle.std.proofs.Common.{Option, Some, None, refl, sym, ap, ◌∙◌, subst}
use Rattle.std.proofs.lemmas.Bool.{false≢true}
use Rattle.std.proofs.lemmas.List.Elements.{All-weaker}
use Rattle.std.specs.Prelude.{is_some, nat_eq, slice_get, option_and_then}
use Rattle.jm_class.specs.Classes.{SlotData, Constant, Hole, OpaqueData, CodeData, BodyData, Opaque, Coded}
use Rattle.jm_class.specs.Classes.{AttributeData, MemberData, slot_at, utf8_of, utf8_at, is_wide, IsPoolFrom}
use Rattle.jm_class.specs.Classes.{NamesText, FitsCounted, is_code_name, IsOpaque, IsCode, IsBody}
use Rattle.jm_class.specs.Classes.{IsAttribute, IsMember}

get_stays : {X : Type 0} (xs ys : List X) (i : ℕ) (x : X) → slice_get xs i ≡ Some x → slice_get (xs ++ ys) i ≡ Some x
get_stays [] ys i x is = cc
get_stays (y ∷ xs) ys zero x is = is
get_stays (y ∷ xs) ys (suc i) x is = get_stays xs ys i x is

-- constants after a pool
pub pool_longer : (due : Bool) (pool more : List SlotData) → IsPoolFrom due pool → IsPoolFrom false more → IsPoolFrom due (pool ++ more)
pool_longer due [] more is later = subst (λ d. IsPoolFrom d more) (sym is) later
pool_longer true (Hole ∷ pool) more is later = pool_longer false pool more is later
pool_longer true (Constant tag body ∷ pool) more is later = absurd is
pool_longer false (Constant tag body ∷ pool) more is later = (is.0, pool_longer (is_wide tag) pool more is.1 later)
pool_longer false (Hole ∷ pool) more is later = absurd is

-- what a number finds through an option, if the option finds the same
then_stays : {X Y : Type 0} (f : X → Option Y) (old new : Option X) (y : Y) → ((x : X) → old ≡ Some x → new ≡ Some x)
    → option_and_then f old ≡ Some y → option_and_then f new ≡ Some y
then_stays f None new y same is = cc
then_stays f (Some x) new y same is = ap (option_and_then f) (same x refl) ∙ is

module _ (pool more : List SlotData) where
  pub slot_stays : (index : ℕ) (slot : SlotData) → slot_at pool index ≡ Some slot → slot_at (pool ++ more) index ≡ Some slot
  slot_stays index slot is = go (nat_eq index 0) is
    where
      go : (b : Bool) → cond b None (slice_get pool (index - 1)) ≡ Some slot → cond b None (slice_get (pool ++ more) (index - 1))
          ≡ Some slot
      go true same = cc
      go false same = get_stays pool more (index - 1) slot same

  pub utf8_stays : (index : ℕ) (text : List ℕ) → utf8_at pool index ≡ Some text → utf8_at (pool ++ more) index ≡ Some text
  utf8_stays index text is = then_stays utf8_of (slot_at pool index) (slot_at (pool ++ more) index) text (slot_stays index) is

  pub text_stays : (index : ℕ) → is_some (utf8_at pool index) ≡ true → utf8_at (pool ++ more) index ≡ utf8_at pool index
  text_stays index is = go (utf8_at pool index) refl is
    where
      go : (o : Option (List ℕ)) → utf8_at pool index ≡ o → is_some o ≡ true → utf8_at (pool ++ more) index ≡ o
      go None found none = absurd (false≢true none)
      go (Some text) found some = utf8_stays index text found

  -- Parts of a class

  names_stays : (name : ℕ) → NamesText pool name → NamesText (pool ++ more) name
  names_stays name is = (is.0, ap is_some (text_stays name is.1) ∙ is.1)

  opaque_stays : (a : OpaqueData) → IsOpaque pool a → IsOpaque (pool ++ more) a
  opaque_stays a is = record { name = names_stays a.name is.name; bytes = is.bytes }

  code_stays : (c : CodeData) → IsCode pool c → IsCode (pool ++ more) c
  code_stays c is = record {
    max_stack = is.max_stack;
    max_locals = is.max_locals;
    code = is.code;
    rows = is.rows;
    handlers = is.handlers;
    attributes = (is.attributes.0, All-weaker (IsOpaque pool) (IsOpaque (pool ++ more)) opaque_stays c.attributes is.attributes.1);
  }

  body_stays : (coded : Bool) (b : BodyData) → IsBody pool coded b → IsBody (pool ++ more) coded b
  body_stays false (Opaque bytes) is = tt
  body_stays true (Opaque bytes) is = absurd is
  body_stays false (Coded code) is = absurd is
  body_stays true (Coded code) is = code_stays code is

  pub attribute_stays : (in_method : Bool) (a : AttributeData) → IsAttribute pool in_method a → IsAttribute (pool ++ more) in_method a
  attribute_stays in_method a is = record {
    name = names_stays a.name is.name;
    body = subst (λ o. IsBody (pool ++ more) (in_method && is_code_name o) a.body) (sym (text_stays a.name is.name.1))
        (body_stays (in_method && is_code_name (utf8_at pool a.name)) a.body is.body);
    bytes = is.bytes;
  }

  member_stays : (in_method : Bool) (m : MemberData) → IsMember pool in_method m → IsMember (pool ++ more) in_method m
  member_stays in_method m is = record {
    access = is.access;
    name = is.name;
    descriptor = is.descriptor;
    attributes = (
      is.attributes.0,
      All-weaker (IsAttribute pool in_method) (IsAttribute (pool ++ more) in_method)
          (attribute_stays in_method) m.attributes is.attributes.1,
    );
  }

  pub members_stay : (in_method : Bool) (ms : List MemberData) → FitsCounted (IsMember pool in_method) ms
      → FitsCounted (IsMember (pool ++ more) in_method) ms
  members_stay in_method ms is = (
    is.0,
    All-weaker (IsMember pool in_method) (IsMember (pool ++ more) in_method)
        (member_stays in_method) ms is.1,
  )
