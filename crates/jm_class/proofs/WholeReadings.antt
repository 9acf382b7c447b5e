-- A part that a reading takes whole, and what is left after a reading.
use Rattle.std.proofs.Common.{◌≡◌, ◌≢◌, ℕ, List, length, Result, Ok, Err, IsErrAnd, refl, sym, ap, subst, ◌∙◌}
use Rattle.std.proofs.lemmas.Bool.{eq-eqb, ne_eqb}
use Rattle.std.specs.Int.{w32}
use Rattle.jm_bytes.specs.declared.faults.Or.{Or}
use Rattle.jm_bytes.specs.declared.faults.Or.TheVariants.{Fault, Memory}
use Rattle.jm_class.specs.declared.class.Class.{Class}
use Rattle.jm_class.specs.declared.class.ClassFault.{ClassFault}
use Rattle.jm_class.specs.declared.class.ClassFault.TheVariants.{Short, CodeLength, Rest}
use Rattle.jm_class.specs.declared.class.Slot.{Slot}
use Rattle.jm_class.specs.Classes.{SlotData, CodeData}
use Rattle.jm_class.specs.ClassLayout.{code_fields, code_field, class_fields}
use Rattle.jm_class.specs.Layouts.{Layout, reading, value_of}
use Rattle.jm_class.specs.Readings.{Left, Outcome, Reading, continued, inner_part, number, ended}
use Rattle.jm_class.specs.Views.{Gives, ReadsClass, pool_of, plain}

pub ended-all : {F A : Type 0} (rest : ℕ → F) (reading : Reading F A) (left next : Left) (a : A) (n : ℕ) → reading left
    ≡ Ok (a, next) → n ≡ length next.bytes → n ≡ 0 → ended rest reading left ≡ Ok (a, next)
ended-all rest reading left next a n e size none = rw (e, eq-eqb (length next.bytes) 0 (sym size ∙ none)) refl

pub ended-rest : {F A : Type 0} (rest : ℕ → F) (reading : Reading F A) (left next : Left) (a : A) (n : ℕ) → reading left
    ≡ Ok (a, next) → n ≡ length next.bytes → n ≢ 0 → ended rest reading left ≡ Err (rest next.place)
ended-rest rest reading left next a n e size some = rw (e, ne_eqb (length next.bytes) 0 (λ none. some (size ∙ none))) refl

pub ended-stop : {F A : Type 0} (rest : ℕ → F) (reading : Reading F A) (left : Left) (fault : F) → reading left ≡ Err fault
    → ended rest reading left ≡ Err fault
ended-stop rest reading left fault e = rw e refl

-- The class

-- the error of the fields of a class is that of the whole
pub class-stop : (bytes : List ℕ) (start left : Left) (error : Or ClassFault) (result : Result Class (Or ClassFault))
    → start ≡ record { place = 0; bytes = bytes } → IsErrAnd result (λ is. is ≡ error)
    → Gives plain (reading Short class_fields start) (Err error) left → ReadsClass bytes result
class-stop bytes start left error (Ok class) begins is gives = absurd is
class-stop bytes start left (Fault fault) (Err Memory) begins is gives = tt
class-stop bytes start left (Fault fault) (Err (Fault other)) begins is gives =
    let same : fault ≡ other = cc in
    ap (λ from. value_of (ended Rest (reading Short class_fields) from)) (sym begins)
    ∙ ap value_of (ended-stop Rest (reading Short class_fields) start other (gives ∙ ap (λ f. Err f) same))
class-stop bytes start left Memory (Err Memory) begins is gives = tt
class-stop bytes start left Memory (Err (Fault other)) begins is gives = cc

-- what is read by a pool is read by the same one
pub by_pool : {A : Type 0} (layout : List SlotData → Layout ClassFault A) (slots pool : List Slot) (left : Left) (outcome : Outcome ClassFault A)
    → slots ≡ pool → reading Short (layout (pool_of slots)) left ≡ outcome → reading Short (layout (pool_of pool)) left ≡ outcome
by_pool layout slots pool left outcome same is = subst (λ slots. reading Short (layout (pool_of slots)) left ≡ outcome) same is

-- A Code

module _ (pool : List SlotData) (left sized inner next : Left) (size : ℕ) (length_read : number Short w32 left ≡ Ok (size, sized))
    (body_read : inner_part Short size sized ≡ Ok (inner, next)) where
  whole_code : reading Short (code_field pool) left
      ≡ continued (ended (λ at. CodeLength left.place) (reading (λ at. CodeLength left.place) (code_fields pool)) inner) (λ a end. Ok (a, next))
  whole_code = rw (length_read, body_read) refl

  pub code-stop : (fault : ClassFault) → reading (λ at. CodeLength left.place) (code_fields pool) inner ≡ Err fault → reading Short (code_field pool) left ≡ Err fault
  code-stop fault e = whole_code ∙ rw e refl

  pub code-rest : (code : CodeData) (end : Left) (n : ℕ) → reading (λ at. CodeLength left.place) (code_fields pool) inner ≡ Ok (code, end)
      → n ≡ length end.bytes → n ≢ 0 → reading Short (code_field pool) left ≡ Err (CodeLength left.place)
  code-rest code end n e size some =
      let rest = ended-rest (λ at. CodeLength left.place) (reading (λ at. CodeLength left.place) (code_fields pool)) inner end code n e size some in
      whole_code ∙ rw rest refl

  pub code-all : (code : CodeData) (end : Left) (n : ℕ) → reading (λ at. CodeLength left.place) (code_fields pool) inner ≡ Ok (code, end)
      → n ≡ length end.bytes → n ≡ 0 → reading Short (code_field pool) left ≡ Ok (code, next)
  code-all code end n e size none =
      let all = ended-all (λ at. CodeLength left.place) (reading (λ at. CodeLength left.place) (code_fields pool)) inner end code n e size none in
      whole_code ∙ rw all refl
