-- The definitions, evaluated on small classes, on one frame or instruction of each form, and on what
-- is none.
use Rattle.std.proofs.Common.{◌≡◌, ℕ, Bool, true, false, List, [], ◌∷◌, ◌++◌, length, map, take, drop, Option}
use Rattle.std.proofs.Common.{Some, None, Result, Ok, Err, refl}
use Rattle.std.specs.Prelude.{replicate, codes, option_map, option_and_then}
use Rattle.jm_class.specs.declared.class.ClassFault.{ClassFault}
use Rattle.jm_class.specs.Classes.{SlotData, Constant, Hole, Opaque, AttributeData, ClassData, u2}
use Rattle.jm_class.specs.ClassLayout.{class_of}
use Rattle.jm_class.specs.Readings.{ended}
use Rattle.jm_class.proofs.Vectors as vectors
use Rattle.jm_poolmap.specs.declared.site.Site.{Site}
use Rattle.jm_poolmap.specs.Attributes.{body, class_rows, method_rows, code_rows, named}
use Rattle.jm_poolmap.specs.ComputedLive.{flags_of}
use Rattle.jm_poolmap.specs.Forms.{Form, Never, unfit, form_if, reads}
use Rattle.jm_poolmap.specs.Frames.{frame}
use Rattle.jm_poolmap.specs.Instructions.{instructions}
use Rattle.jm_poolmap.specs.Sites.{met, found_in, sites_of}

abbrev read : Result ClassData ClassFault → Option ClassData
read (Ok c) = Some c
read (Err fault) = None

-- the places and the widths of sites
abbrev places : Option (List Site) → Option (List (ℕ × Bool))
places sites = option_map (map (λ s. (s.place, s.wide))) sites

abbrev wide : List ℕ → Option (List (ℕ × Bool))
wide list = Some (map (λ place. (place, true)) list)

-- Whole classes

-- the generated class without its debug information
abbrev pub generated : List ℕ
generated = take 146 vectors.generated ++ 16 ∷ take 14 (drop 147 vectors.generated) ++ replicate 4 0

generated-length : length generated ≡ 165
generated-length = refl

generated-sites : places (option_and_then sites_of (read (class_of generated))) ≡ wide (123 ∷ 125 ∷ 135 ∷ 137 ∷ 141 ∷ 156 ∷ [])
generated-sites = refl

-- constants 8 to 10 are names that nothing has any more; 11 is a Long with its hole
generated-live : option_map (λ c. option_map (λ found. flags_of c.pool (map (λ f. f.number) found)) (found_in c))
    (read (class_of generated)) ≡ Some (Some (replicate 7 true ++ false ∷ false ∷ false ∷ true ∷ true ∷ []))
generated-live = refl

-- the smallest class names no class, which isn't allowed
smallest-none : sites_of vectors.smallest_class ≡ None
smallest-none = refl

-- a class whose name is a Utf8 without a byte
abbrev named_class : List SlotData → ClassData
named_class more = record vectors.smallest_class { pool = Constant 1 [] ∷ more; this_class = 1 }

named-sites : places (sites_of (named_class [])) ≡ wide (15 ∷ 17 ∷ [])
named-sites = refl

other-number : sites_of (record (named_class []) { this_class = 2 }) ≡ None
other-number = refl

hole-named : sites_of (record (named_class (Constant 5 (replicate 8 0) ∷ Hole ∷ [])) { super_class = 3 }) ≡ None
hole-named = refl

-- constants that aren't live, and name 0, a hole, or one of no lower rank
dead-zero : sites_of (named_class (Constant 7 (u2 0) ∷ [])) ≡ None
dead-zero = refl

dead-hole : sites_of (named_class (Constant 5 (replicate 8 0) ∷ Hole ∷ Constant 7 (u2 3) ∷ [])) ≡ None
dead-hole = refl

dead-class : sites_of (named_class (Constant 7 (u2 1) ∷ Constant 7 (u2 2) ∷ [])) ≡ None
dead-class = refl

-- a Class may name an Integer, and the first field of a Dynamic names nothing
class-of-integer : places (sites_of (named_class (Constant 3 (replicate 4 0) ∷ Constant 7 (u2 2) ∷ Constant 12 (u2 1 ++ u2 1)
    ∷ Constant 17 (u2 65535 ++ u2 4) ∷ []))) ≡ wide (33 ∷ 35 ∷ [])
class-of-integer = refl

-- an attribute in its place, in another one, and one that isn't listed
abbrev with_attribute : List ℕ → AttributeData
with_attribute bytes = record { name = 2; body = Opaque bytes }

abbrev in_class : List ℕ → ClassData
in_class name = record (named_class (Constant 1 name ∷ [])) { attributes = with_attribute (u2 1) ∷ [] }

abbrev in_field : List ℕ → ClassData
in_field name = record (named_class (Constant 1 name ∷ [])) {
  fields = record { access = 0; name = 1; descriptor = 1; attributes = with_attribute (u2 1) ∷ [] } ∷ [];
}

source-file : places (sites_of (in_class (codes "SourceFile"))) ≡ wide (28 ∷ 30 ∷ 40 ∷ 46 ∷ [])
source-file = refl

source-file-of-field : sites_of (in_field (codes "SourceFile")) ≡ None
source-file-of-field = refl

not-listed : sites_of (in_class (codes "Module")) ≡ None
not-listed = refl

-- Bodies

-- the places, the widths, the marks and the numbers that some bytes have
abbrev told : Form → List ℕ → Option (List (ℕ × Bool × Bool × ℕ))
told form bytes = option_map (map (λ f. (f.place, f.wide, f.optional, f.number)))
    (met (ended unfit (reads (λ n. None) form []) (record { place = 0; bytes = bytes })))

inner-classes : told (form_if (body Never) (named class_rows (codes "InnerClasses"))) (u2 1 ++ u2 7 ++ u2 0 ++ u2 8 ++ u2 9)
    ≡ Some ((2, true, false, 7) ∷ (4, true, true, 0) ∷ (6, true, true, 8) ∷ [])
inner-classes = refl

bootstrap-methods : told (form_if (body Never) (named class_rows (codes "BootstrapMethods"))) (u2 2 ++ u2 7 ++ u2 1 ++ u2 8
    ++ u2 9 ++ u2 0) ≡ Some ((2, true, false, 7) ∷ (6, true, false, 8) ∷ (8, true, false, 9) ∷ [])
bootstrap-methods = refl

parameters : told (form_if (body Never) (named method_rows (codes "MethodParameters"))) (1 ∷ u2 7 ++ u2 0)
    ≡ Some ((1, true, true, 7) ∷ [])
parameters = refl

variables : told (form_if (body Never) (named code_rows (codes "LocalVariableTable"))) (u2 1 ++ replicate 4 0 ++ u2 7 ++ u2 8
    ++ u2 0) ≡ Some ((6, true, false, 7) ∷ (8, true, false, 8) ∷ [])
variables = refl

-- a byte too much, a row too few, and a count of rows that can't be there
body-rest : told (form_if (body Never) (named class_rows (codes "SourceFile"))) (u2 7 ++ 0 ∷ []) ≡ None
body-rest = refl

body-short : told (form_if (body Never) (named class_rows (codes "NestMembers"))) (u2 2 ++ u2 7) ≡ None
body-short = refl

body-many : told (form_if (body Never) (named class_rows (codes "NestMembers"))) (u2 65535) ≡ None
body-many = refl

-- Frames: of each form one, the last one with two lists of types
frames : told (form_if (body Never) (named code_rows (codes "StackMapTable")))
    (u2 7 ++ 63 ∷ 64 ∷ 7 ∷ u2 5 ++ 247 ∷ u2 0 ++ 8 ∷ u2 9 ++ 251 ∷ u2 0 ++ 253 ∷ u2 0 ++ 1 ∷ 7 ∷ u2 6 ++ 254 ∷ u2 0 ++ 0 ∷ 1 ∷ 2
    ∷ 255 ∷ u2 0 ++ u2 1 ++ 7 ∷ u2 7 ++ u2 2 ++ 3 ∷ 7 ∷ u2 8)
    ≡ Some ((5, true, false, 5) ∷ (21, true, false, 6) ∷ (35, true, false, 7) ∷ (41, true, false, 8) ∷ [])
frames = refl

frame-none : told frame (128 ∷ []) ≡ None
frame-none = refl

type-none : told frame (64 ∷ 9 ∷ []) ≡ None
type-none = refl

-- Instructions

simple-code : told instructions (18 ∷ 5 ∷ 20 ∷ u2 6 ++ 185 ∷ u2 7 ++ 1 ∷ 0 ∷ 197 ∷ u2 8 ++ 2 ∷ 16 ∷ 9 ∷ 196 ∷ 132 ∷ u2 1 ++ u2 2
    ++ 196 ∷ 21 ∷ u2 1 ++ 200 ∷ replicate 4 0 ++ 177 ∷ []) ≡ Some ((1, false, false, 5) ∷ (3, true, false, 6) ∷ (6, true, false, 7)
    ∷ (11, true, false, 8) ∷ [])
simple-code = refl

-- two bytes of filling, from 0 to 1, and a number after it
table-switch : told instructions (0 ∷ 170 ∷ 9 ∷ 9 ∷ replicate 4 0 ++ replicate 4 0 ++ 0 ∷ 0 ∷ 0 ∷ 1 ∷ replicate 8 0 ++ 18 ∷ 5 ∷ [])
    ≡ Some ((25, false, false, 5) ∷ [])
table-switch = refl

-- from -1 to 0; from 0 to -1; from the least number to the highest one
table-signed : told instructions (170 ∷ replicate 7 0 ++ replicate 4 255 ++ replicate 4 0 ++ replicate 8 0) ≡ Some []
table-signed = refl

table-none : told instructions (170 ∷ replicate 7 0 ++ replicate 4 0 ++ replicate 4 255 ++ replicate 8 0) ≡ None
table-none = refl

table-many : told instructions (170 ∷ replicate 7 0 ++ 128 ∷ 0 ∷ 0 ∷ 0 ∷ 127 ∷ 255 ∷ 255 ∷ 255 ∷ replicate 8 0) ≡ None
table-many = refl

lookup-switch : told instructions (171 ∷ replicate 7 0 ++ 0 ∷ 0 ∷ 0 ∷ 1 ∷ replicate 8 0 ++ 178 ∷ u2 5) ≡ Some ((21, true, false, 5) ∷ [])
lookup-switch = refl

lookup-none : told instructions (171 ∷ replicate 7 0 ++ 255 ∷ 255 ∷ 255 ∷ 255 ∷ replicate 8 0) ≡ None
lookup-none = refl

code-none : told instructions (202 ∷ []) ≡ None
code-none = refl

code-cut : told instructions (0 ∷ 178 ∷ 0 ∷ []) ≡ None
code-cut = refl

code-empty : told instructions [] ≡ Some []
code-empty = refl
