-- A Code isn't longer without its debug information.
use Rattle.std.proofs.Common.{◌≡◌, ℕ, ◌+◌, ◌-◌, ◌≤◌, Bool, true, false, List, [], ◌∷◌, ◌++◌}
use Rattle.std.proofs.Common.{length, filter, take, drop, Ok, refl, sym, ap, ◌∙◌, arith, length-append}
use Rattle.std.proofs.lemmas.List.{append-nil}
use Rattle.std.specs.List.{flat_map}
use Rattle.jm_class.specs.declared.class.ClassFault.{ClassFault}
use Rattle.jm_class.specs.Classes.{SlotData, OpaqueData, CodeData, u4, sized_text, opaque_text, code_text}
use Rattle.jm_class.specs.ClassLayout.{code_fields}
use Rattle.jm_class.specs.Layouts.{reading}
use Rattle.jm_class.specs.Readings.{Left, part, inner_part, value}
use Rattle.jm_class.proofs.FieldLaws.{code_fields-lawful}
use Rattle.jm_class.proofs.ReadingLaws.{IsBytes, passed, same_value, part-back}
use Rattle.jm_class.proofs.TextLaws.{read-back}
use Rattle.jm_strip.specs.Strip.{stays, strip_code}
use Rattle.jm_strip.proofs.Kept.{patched}

pub flat-filter : {A : Type 0} (words : A → List ℕ) (test : A → Bool) (xs : List A) → length (flat_map words (filter test xs))
    ≤ length (flat_map words xs)
flat-filter words test [] = omega arith
flat-filter words test (x ∷ xs) = go (test x) refl (flat-filter words test xs)
  where
    go : (b : Bool) → test x ≡ b → length (flat_map words (filter test xs)) ≤ length (flat_map words xs)
        → length (flat_map words (filter test (x ∷ xs))) ≤ length (flat_map words (x ∷ xs))
    go true e more =
        let kept = length-append (words x) (flat_map words (filter test xs)) in
        let all = length-append (words x) (flat_map words xs) in
        rw e (omega (arith, kept, all, more))
    go false e more =
        let all = length-append (words x) (flat_map words xs) in
        rw e (omega (arith, all, more))

pub code-length : (c : CodeData) → length (code_text c) ≡ 12 + length c.code + length c.handlers
    + length (flat_map opaque_text c.attributes)
code-length c = simp length-append (omega arith)

pub code-shorter : (pool : List SlotData) (c : CodeData) → length (code_text (strip_code pool c)) ≤ length (code_text c)
code-shorter pool c =
    let old = code-length c in
    let new = code-length (strip_code pool c) in
    let fewer = flat-filter opaque_text (λ (a : OpaqueData). stays true pool a.name) c.attributes in
    omega (arith, old, new, fewer)

-- that many bytes as a part of their own
pub inner-length : {F : Type 0} (short : ℕ → F) (n : ℕ) (left inner next : Left) → inner_part short n left ≡ Ok (inner, next)
    → length inner.bytes ≡ n
inner-length {F} short n left inner next e =
    let cut = passed (part short n left) (λ bytes. value (record { place = left.place; bytes = bytes })) inner next e in
    let same : cut.first ≡ inner.bytes = ap (λ (l : Left). l.bytes) (same_value {F = F}
    (record { place = left.place; bytes = cut.first }) inner cut.middle next cut.rest) in
    ap length (sym same) ∙ (part-back short n left cut.middle cut.first cut.is).0

-- what was put for a Code that takes its part whole fits in four bytes
pub code-fits : (short : ℕ → ClassFault) (pool : List SlotData) (inner end : Left) (code : CodeData) (size : ℕ)
    → IsBytes inner.bytes → reading short (code_fields pool) inner ≡ Ok (code, end) → length inner.bytes ≡ size
    → length (code_text (strip_code pool code)) ≤ size
code-fits short pool inner end code size bytes e sized =
    let took = read-back short (code_fields pool) code_text _ (code_fields-lawful pool) inner end code bytes e in
    let whole = ap length took.1 in
    let parts = length-append (code_text code) end.bytes in
    let fewer = code-shorter pool code in
    omega (arith, whole, parts, fewer, sized)

-- A length that is put once what it counts was put

module _ (old opened body put : List ℕ) (before after : ℕ) (gap : opened ≡ old ++ u4 0) (grown : opened ++ body ≡ put)
    (at_old : before ≡ length old) (at_put : after ≡ length put) where
  pub length_behind : after - before - 4 ≡ length body
  length_behind =
      let parts = length-append opened body in
      let front : length opened ≡ length old + 4 = ap length gap ∙ length-append old (u4 0) in
      let whole = ap length grown in
      omega (arith, parts, front, whole, at_old, at_put)

  pub length_put : (new : List ℕ) → new ≡ take before put ++ (u4 (after - before - 4) ++ drop (before + 4) put)
      → old ++ sized_text body ≡ new
  length_put new e =
      let all : put ≡ (old ++ u4 0) ++ body = sym grown ∙ ap (λ t. t ++ body) gap in
      let end = append-nil body in
      rw end (sym (spelled old put new body before (after - before - 4) (length body) at_old all length_behind e))
    where
      spelled : (old put new body : List ℕ) (at n m : ℕ) → at ≡ length old → put ≡ (old ++ u4 0) ++ body → n ≡ m → new ≡ take at put
          ++ (u4 n ++ drop (at + 4) put) → new ≡ old ++ (u4 m ++ body)
      spelled old put new body at n m there all size e = e ∙ rw (there, all, size) (patched old (u4 0) body (u4 m))
