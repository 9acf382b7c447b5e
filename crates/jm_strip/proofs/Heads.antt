-- What was read before a place is what stands there.
use Rattle.std.proofs.Common.{◌≡◌, ℕ, false, ◌-◌, ◌≤◌, List, [], ◌∷◌, ◌++◌, length, take, Ok, refl, sym, ap}
use Rattle.std.proofs.Common.{◌∙◌, subst, arith, append_assoc, length-append}
use Rattle.std.proofs.lemmas.Bool.{eqb-true}
use Rattle.std.proofs.lemmas.List.{append-nil, take_at}
use Rattle.jm_class.specs.declared.class.ClassFault.{ClassFault}
use Rattle.jm_class.specs.declared.class.ClassFault.TheVariants.{Short}
use Rattle.jm_class.specs.Classes.{SlotData, MemberData, joined, u2, u4, magic, pool_text, counted_text, member_text}
use Rattle.jm_class.specs.ClassLayout.{magic_field, major_field, pool_field, member_field}
use Rattle.jm_class.specs.Layouts.{Layout, U2, Number, listed, reading}
use Rattle.jm_class.specs.Readings.{Left}
use Rattle.jm_class.proofs.ReadingLaws.{IsBytes, bytes_behind}
use Rattle.jm_class.proofs.TextLaws.{Lawful, read-back, number-lawful, listed-lawful}
use Rattle.jm_class.proofs.ClassLaws.{magic-lawful, major-lawful}
use Rattle.jm_class.proofs.FieldLaws.{member-lawful}
use Rattle.jm_class.proofs.PoolLaws.{pool-lawful}
use Rattle.jm_classout.proofs.ClassTexts.{put_all, put_all-joined}

-- some bytes are a front and what is left
pub record Ahead (bytes front : List ℕ) (left : Left) : Type 0 where
  pub is : bytes ≡ front ++ left.bytes
  pub all : IsBytes left.bytes

pub ahead-next : {A : Type 0} (layout : Layout ClassFault A) (text : A → List ℕ) (Fits : A → Type 0) → Lawful layout text Fits
    → (bytes front : List ℕ) (left next : Left) (a : A) → Ahead bytes front left → reading Short layout left ≡ Ok (a, next)
    → Ahead bytes (front ++ text a) next
ahead-next layout text Fits law bytes front left next a ahead e =
    let took = read-back Short layout text Fits law left next a ahead.all e in
    record {
      is = ahead.is ∙ ap (λ t. front ++ t) took.1 ∙ sym (append_assoc front (text a) next.bytes);
      all = bytes_behind (text a) next.bytes (subst IsBytes took.1 ahead.all);
    }

module _ (bytes front : List ℕ) (left : Left) (ahead : Ahead bytes front left) (n : ℕ) (size : n ≡ length left.bytes) where
  pub ahead-within : n ≤ length bytes
  ahead-within =
      let whole = ap length ahead.is in
      let parts = length-append front left.bytes in
      omega (arith, whole, parts, size)

  pub ahead-front : take (length bytes - n) bytes ≡ front
  ahead-front =
      let whole = ap length ahead.is in
      let parts = length-append front left.bytes in
      let number : length front ≡ length bytes - n = omega (arith, whole, parts, size) in
      ap (take (length bytes - n)) ahead.is ∙ take_at front left.bytes (length bytes - n) number

-- two parts more after the first ones
pub whole : (parts : List (List ℕ)) (one other text more all : List ℕ) → text ≡ put_all [] parts → text ++ one ≡ more
    → more ++ other ≡ all → joined (parts ++ one ∷ other ∷ []) ≡ all
whole parts one other text more all front second third =
    sym (put_all-joined [] (parts ++ one ∷ other ∷ [])) ∙ behind [] parts ∙ ap (λ t. (t ++ one) ++ other) (sym front)
    ∙ ap (λ t. t ++ other) second ∙ third
  where
    behind : (text : List ℕ) (parts : List (List ℕ)) → put_all text (parts ++ one ∷ other ∷ []) ≡ (put_all text parts ++ one) ++ other
    behind text [] = refl
    behind text (part ∷ parts) = behind (text ++ part) parts

-- a part, and one after it
pub two_put : (old one other text all : List ℕ) → text ≡ old ++ one → text ++ other ≡ all → old ++ (one ++ (other ++ [])) ≡ all
two_put old one other text all first second =
    let end = append-nil other in
    rw end (sym (append_assoc old one other) ∙ ap (λ t. t ++ other) (sym first) ∙ second)

-- The parts of a class before its methods

abbrev pub front_parts : ℕ → ℕ → ℕ → List SlotData → ℕ → ℕ → ℕ → List ℕ → List MemberData → List (List ℕ)
front_parts found minor major pool access this_class super_class interfaces fields =
    u4 found ∷ u2 minor ∷ u2 major ∷ pool_text pool ∷ u2 access ∷ u2 this_class ∷ u2 super_class
    ∷ counted_text u2 interfaces ∷ counted_text member_text fields ∷ []

module _ {bytes : List ℕ} {a b c d e f g h i j : Left} {found minor major access this_class super_class : ℕ} {pool : List SlotData}
    {interfaces : List ℕ} {fields : List MemberData} (all : IsBytes bytes) (begun : a ≡ record { place = 0; bytes = bytes })
    (r1 : reading Short magic_field a ≡ Ok (found, b)) (r2 : reading Short (Number U2) b ≡ Ok (minor, c)) (r3 : reading Short major_field c ≡ Ok (major, d))
    (r4 : reading Short pool_field d ≡ Ok (pool, e)) (r5 : reading Short (Number U2) e ≡ Ok (access, f)) (r6 : reading Short (Number U2) f ≡ Ok (this_class, g))
    (r7 : reading Short (Number U2) g ≡ Ok (super_class, h)) (r8 : reading Short (listed (Number U2)) h ≡ Ok (interfaces, i))
    (r9 : reading Short (listed (member_field pool false)) i ≡ Ok (fields, j)) where
  begins : Ahead bytes [] a
  begins = rw begun (record { is = refl; all = all })

  pub class-magic : found ≡ magic
  class-magic = eqb-true found magic (read-back Short magic_field u4 _ magic-lawful a b found begins.all r1).0.1

  pub class-front : Ahead bytes (put_all [] (front_parts found minor major pool access this_class super_class interfaces fields)) j
  class-front =
      let number = number-lawful U2 in
      let h1 = ahead-next magic_field u4 _ magic-lawful bytes [] a b found begins r1 in
      let h2 = ahead-next (Number U2) u2 _ number bytes _ b c minor h1 r2 in
      let h3 = ahead-next major_field u2 _ major-lawful bytes _ c d major h2 r3 in
      let h4 = ahead-next pool_field pool_text _ pool-lawful bytes _ d e pool h3 r4 in
      let h5 = ahead-next (Number U2) u2 _ number bytes _ e f access h4 r5 in
      let h6 = ahead-next (Number U2) u2 _ number bytes _ f g this_class h5 r6 in
      let h7 = ahead-next (Number U2) u2 _ number bytes _ g h super_class h6 r7 in
      let h8 = ahead-next (listed (Number U2)) (counted_text u2) _ (listed-lawful _ _ _ number) bytes _ h i
      interfaces h7 r8 in
      ahead-next (listed (member_field pool false)) (counted_text member_text) _ (listed-lawful _ _ _
      (member-lawful pool false)) bytes _ i j fields h8 r9
