-- A well-formed class is well formed without its debug information, and reads back.
use Rattle.std.proofs.Common.{◌≤◌, Bool, true, false, List, length, map, filter, arith}
use Rattle.std.proofs.lemmas.List.{length-map}
use Rattle.std.proofs.lemmas.List.Elements.{All-filter, All-map, All-weaker}
use Rattle.jm_bytes.proofs.Members.{length_filter}
use Rattle.jm_class.specs.Classes.{SlotData, OpaqueData, CodeData, BodyData, Opaque, Coded, AttributeData}
use Rattle.jm_class.specs.Classes.{MemberData, ClassData, held_text, utf8_at, is_code_name}
use Rattle.jm_class.specs.Classes.{FitsCounted, IsOpaque, IsCode, IsBody, IsAttribute, IsMember, IsClass}
use Rattle.jm_strip.specs.Strip.{stays, strip_code, strip_body, strip_attribute, strip_method, strip}
use Rattle.jm_strip.proofs.Shorter.{code-shorter}

-- fewer items, and changed ones

fewer : {A : Type 0} (P : A → Type 0) (test : A → Bool) (xs : List A) → FitsCounted P xs → FitsCounted P (filter test xs)
fewer P test xs fits = let size = length_filter test xs in let most = fits.0 in (omega (arith, size, most), All-filter test P xs fits.1)

changed : {A B : Type 0} (P : A → Type 0) (Q : B → Type 0) (f : A → B) → ((a : A) → P a → Q (f a)) → (xs : List A)
    → FitsCounted P xs → FitsCounted Q (map f xs)
changed P Q f more xs fits =
    let size = length-map xs f in
    let most = fits.0 in (omega (arith, size, most), All-map Q f xs (All-weaker P (λ a. Q (f a)) more xs fits.1))

strip-is_code : (pool : List SlotData) (c : CodeData) → IsCode pool c → IsCode pool (strip_code pool c)
strip-is_code pool c is = record {
  max_stack = is.max_stack;
  max_locals = is.max_locals;
  code = is.code;
  rows = is.rows;
  handlers = is.handlers;
  attributes = fewer (IsOpaque pool) (λ (a : OpaqueData). stays true pool a.name) c.attributes is.attributes;
}

strip-is_body : (pool : List SlotData) (coded : Bool) (b : BodyData) → IsBody pool coded b → IsBody pool coded (strip_body pool b)
strip-is_body pool false (Opaque bytes) is = is
strip-is_body pool true (Opaque bytes) is = is
strip-is_body pool false (Coded code) is = is
strip-is_body pool true (Coded code) is = strip-is_code pool code is

body-shorter : (pool : List SlotData) (b : BodyData) → length (held_text (strip_body pool b)) ≤ length (held_text b)
body-shorter pool (Opaque bytes) = omega arith
body-shorter pool (Coded code) = code-shorter pool code

strip-is_attribute : (pool : List SlotData) (a : AttributeData) → IsAttribute pool true a → IsAttribute pool true (strip_attribute pool a)
strip-is_attribute pool a is =
    let shorter = body-shorter pool a.body in
    let fits = is.bytes in
    record {
      name = is.name;
      body = strip-is_body pool (is_code_name (utf8_at pool a.name)) a.body is.body;
      bytes =
          omega (arith, shorter, fits);
    }

strip-is_method : (pool : List SlotData) (m : MemberData) → IsMember pool true m → IsMember pool true (strip_method pool m)
strip-is_method pool m is = record {
  access = is.access;
  name = is.name;
  descriptor = is.descriptor;
  attributes = changed (IsAttribute pool true) (IsAttribute pool true) (strip_attribute pool) (strip-is_attribute pool) m.attributes
      is.attributes;
}

pub strip-class : (c : ClassData) → IsClass c → IsClass (strip c)
strip-class c is = record {
  minor = is.minor;
  major = is.major;
  slots = is.slots;
  pool = is.pool;
  access = is.access;
  this_class = is.this_class;
  super_class = is.super_class;
  interfaces = is.interfaces;
  fields = is.fields;
  methods = changed (IsMember c.pool true) (IsMember c.pool true) (strip_method c.pool) (strip-is_method c.pool) c.methods is.methods;
  attributes = fewer (IsAttribute c.pool false) (λ (a : AttributeData). stays false c.pool a.name) c.attributes is.attributes;
}
