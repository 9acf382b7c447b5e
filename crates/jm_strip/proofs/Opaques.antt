-- An attribute outside of a method is one of a Code: a name and its bytes as they are.
use Rattle.std.proofs.Common.{◌≡◌, ℕ, zero, suc, Bool, false, List, ◌∷◌, ◌++◌, map, filter, Result, Ok, Err, refl, sym, ap, ◌∙◌, subst}
use Rattle.std.specs.Int.{w16}
use Rattle.jm_bytes.specs.declared.faults.Or.{Or}
use Rattle.jm_class.specs.declared.class.ClassFault.{ClassFault}
use Rattle.jm_class.specs.declared.class.ClassFault.TheVariants.{Short}
use Rattle.jm_class.specs.Classes.{SlotData, OpaqueData, AttributeData, Opaque, opaque_text, attribute_text, counted_text}
use Rattle.jm_class.specs.ClassLayout.{name_field, opaque_field, attribute_field}
use Rattle.jm_class.specs.Layouts.{listed, reading}
use Rattle.jm_class.specs.Readings.{Left, Outcome, Reading, value, continued, and_then, number, sized, counted, list_of}
use Rattle.jm_class.specs.Views.{Gives}
use Rattle.jm_bytes.proofs.SameOrder.{filter_mapped}
use Rattle.std.proofs.lemmas.List.{length-map}
use Rattle.jm_strip.specs.Walks.{shown}
use Rattle.std.proofs.lemmas.List.Folds.{flat_map-map}

abbrev pub held : OpaqueData → AttributeData
held a = record { name = a.name; body = Opaque a.bytes }

pub opaque-attribute : (pool : List SlotData) (left : Left) → reading Short (attribute_field pool false) left ≡ shown held (reading Short (opaque_field pool) left)
opaque-attribute pool left = named (reading Short (name_field pool) left)
  where
    bytes_of : (name : ℕ) (outcome : Outcome ClassFault (List ℕ)) → continued (continued outcome (λ bytes. value (Opaque bytes)))
        (λ body. value (record { name = name; body = body }))
        ≡ shown held (continued outcome (λ bytes. value (record { name = name; bytes = bytes })))
    bytes_of name (Ok r) = refl
    bytes_of name (Err fault) = refl

    named : (outcome : Outcome ClassFault ℕ)
        → continued outcome (λ name. and_then (and_then (sized Short) (λ bytes. value (Opaque bytes)))
        (λ body. value (record { name = name; body = body })))
        ≡ shown held (continued outcome (λ name. and_then (sized Short) (λ bytes. value (record { name = name; bytes = bytes }))))
    named (Ok r) = bytes_of r.0 (sized Short r.1)
    named (Err fault) = refl

-- the same reading of each one, in other words
pub counted-shown : {F A B : Type 0} (f : A → B) (reading : Reading F A) (other : Reading F B)
    → ((left : Left) → other left ≡ shown f (reading left)) → (n : ℕ) (left : Left) → counted n other left
    ≡ shown (map f) (counted n reading left)
counted-shown f reading other same zero left = refl
counted-shown {F} {A} {B} f reading other same (suc n) left =
    let one = same left in
    rw one (first (counted-shown f reading other same n) (reading left))
  where
    rest : (x : A) (outcome : Outcome F (List A)) → continued (shown (map f) outcome) (λ xs. value (f x ∷ xs))
        ≡ shown (map f) (continued outcome (λ xs. value (x ∷ xs)))
    rest x (Ok r) = refl
    rest x (Err fault) = refl

    first : ((left : Left) → counted n other left ≡ shown (map f) (counted n reading left)) → (outcome : Outcome F A)
        → continued (shown f outcome) (λ x. and_then (counted n other) (λ xs. value (x ∷ xs)))
        ≡ shown (map f) (continued outcome (λ x. and_then (counted n reading) (λ xs. value (x ∷ xs))))
    first all (Ok r) = let more = all r.1 in rw more (rest r.0 (counted n reading r.1))
    first all (Err fault) = refl

pub list-shown : {F A B : Type 0} (short : ℕ → F) (f : A → B) (reading : Reading F A) (other : Reading F B)
    → ((left : Left) → other left ≡ shown f (reading left)) → (left : Left) → list_of short other left
    ≡ shown (map f) (list_of short reading left)
list-shown {F} {A} {B} short f reading other same left = go (number short w16 left)
  where
    go : (outcome : Outcome F ℕ) → continued outcome (λ n. counted n other) ≡ shown (map f) (continued outcome (λ n. counted n reading))
    go (Ok r) = counted-shown f reading other same r.0 r.1
    go (Err fault) = refl

pub shown-twice : {F A B C : Type 0} (f : A → B) (g : B → C) (outcome : Outcome F A) → shown g (shown f outcome)
    ≡ shown (λ a. g (f a)) outcome
shown-twice f g (Ok r) = refl
shown-twice f g (Err fault) = refl

pub shown-same : {F A B : Type 0} (f g : A → B) → ((a : A) → f a ≡ g a) → (outcome : Outcome F A) → shown f outcome ≡ shown g outcome
shown-same f g same (Ok r) = let one = same r.0 in rw one refl
shown-same f g same (Err fault) = refl

-- the attributes of the class that stay are those of the same names
kept-text : (test : ℕ → Bool) (xs : List OpaqueData) → counted_text attribute_text (filter (λ (a : AttributeData). test a.name)
    (map held xs)) ≡ counted_text opaque_text (filter (λ (a : OpaqueData). test a.name) xs)
kept-text test xs =
    let kept = filter_mapped (λ (a : AttributeData). test a.name) held xs in
    rw kept (texts (filter (λ (a : OpaqueData). test a.name) xs))
  where
    texts : (ys : List OpaqueData) → counted_text attribute_text (map held ys) ≡ counted_text opaque_text ys
    texts ys =
        let size = length-map ys held in
        let words = flat_map-map attribute_text held ys in
        rw (size, words) refl

pub class-attributes : (pool : List SlotData) (test : ℕ → Bool) (old : List ℕ) (left : Left)
    → shown (λ xs. old ++ counted_text attribute_text (filter (λ (a : AttributeData). test a.name) xs))
    (reading Short (listed (attribute_field pool false)) left)
    ≡ shown (λ xs. old ++ counted_text opaque_text (filter (λ (a : OpaqueData). test a.name) xs))
    (reading Short (listed (opaque_field pool)) left)
class-attributes pool test old left =
    let same = list-shown Short held (reading Short (opaque_field pool)) (reading Short (attribute_field pool false)) (opaque-attribute pool) left in
    rw same
    (shown-twice (map held) (λ xs. old ++ counted_text attribute_text (filter (λ (a : AttributeData). test a.name) xs))
    (reading Short (listed (opaque_field pool)) left)
    ∙ shown-same (λ xs. old ++ counted_text attribute_text (filter (λ (a : AttributeData). test a.name) (map held xs))) (λ xs. old
    ++ counted_text opaque_text (filter (λ (a : OpaqueData). test a.name) xs)) (λ xs. ap (λ t. old ++ t) (kept-text test xs))
    (reading Short (listed (opaque_field pool)) left))

-- what was put for the same value, shown in other words
pub gives_same : {T B : Type 0} (data_of : T → B) (one other : Outcome ClassFault B) (result : Result T (Or ClassFault)) (left : Left)
    → one ≡ other → Gives data_of other result left → Gives data_of one result left
gives_same data_of one other result left same gives = subst (λ o. Gives data_of o result left) (sym same) gives
