-- The definitions, evaluated on the small classes of the format's cases.
use Rattle.std.proofs.Common.{◌≡◌, ℕ, ◌-◌, List, [], ◌∷◌, ◌++◌, Option, Some, None, Result, Ok, Err, refl, map, take, drop, length}
use Rattle.std.specs.Prelude.{replicate}
use Rattle.jm_bytes.specs.Checks.{first_fault}
use Rattle.jm_class.specs.declared.class.ClassFault.{ClassFault}
use Rattle.jm_class.specs.declared.class.ClassFault.TheVariants.{Magic, Version, Short, Tag, Index, CodeLength, Rest}
use Rattle.jm_class.specs.Classes.{Constant, Hole, ClassData, class_text}
use Rattle.jm_class.specs.ClassLayout.{class_of, class_fault, class_fields}
use Rattle.jm_class.specs.Layouts.{FieldSeen, Stands, Ends, text_fields}
use Rattle.jm_class.proofs.FaultLaws.{field_fault}

abbrev zeros : ℕ → List ℕ
zeros n = replicate n 0

abbrev value_text : Result ClassData ClassFault → Option (List ℕ)
value_text (Ok c) = Some (class_text c)
value_text (Err fault) = None

-- magic, minor 0, major 52
abbrev begin : List ℕ
begin = 202 ∷ 254 ∷ 186 ∷ 190 ∷ 0 ∷ 0 ∷ 0 ∷ 52 ∷ []

-- the class of no constant, member or attribute, of 24 bytes
abbrev smallest : List ℕ
smallest = begin ++ 0 ∷ 1 ∷ zeros 14

abbrev pub smallest_class : ClassData
smallest_class = record {
  minor = 0;
  major = 52;
  pool = [];
  access = 0;
  this_class = 0;
  super_class = 0;
  interfaces = [];
  fields = [];
  methods = [];
  attributes = [];
}

smallest-reads : class_of smallest ≡ Ok smallest_class
smallest-reads = refl

smallest-text : class_text smallest_class ≡ smallest
smallest-text = refl

smallest-more : class_fault (smallest ++ 7 ∷ []) ≡ Some (Rest 24)
smallest-more = refl

smallest-cut : class_fault (take 23 smallest) ≡ Some (Short 22)
smallest-cut = refl

smallest-older : class_fault (202 ∷ 254 ∷ 186 ∷ 190 ∷ 0 ∷ 0 ∷ 0 ∷ 44 ∷ 0 ∷ 1 ∷ zeros 14) ≡ Some (Version 44)
smallest-older = refl

smallest-magic : class_fault (0 ∷ 254 ∷ 186 ∷ 190 ∷ 0 ∷ 0 ∷ 0 ∷ 52 ∷ 0 ∷ 1 ∷ zeros 14) ≡ Some Magic
smallest-magic = refl

-- a Long takes two numbers
abbrev long : ℕ → ℕ → List ℕ
long count tag = begin ++ 0 ∷ count ∷ tag ∷ zeros 22

long-reads : class_of (long 3 5) ≡ Ok (record smallest_class { pool = Constant 5 (zeros 8) ∷ Hole ∷ [] })
long-reads = refl

long-text : class_text (record smallest_class { pool = Constant 5 (zeros 8) ∷ Hole ∷ [] }) ≡ long 3 5
long-text = refl

long-alone : class_fault (long 2 5) ≡ Some (Index 10)
long-alone = refl

long-tag : class_fault (long 3 2) ≡ Some (Tag 10)
long-tag = refl

-- hostile classes
many-constants : class_fault (begin ++ 255 ∷ 255 ∷ []) ≡ Some (Short 10)
many-constants = refl

no-count : class_fault (begin ++ 0 ∷ 0 ∷ []) ≡ Some (Index 8)
no-count = refl

many-fields : class_fault (begin ++ 0 ∷ 1 ∷ zeros 8 ++ 255 ∷ 255 ∷ zeros 4) ≡ Some (Short 24)
many-fields = refl

no-name : class_fault (begin ++ 0 ∷ 1 ∷ zeros 13 ++ 1 ∷ 0 ∷ 1 ∷ 255 ∷ 255 ∷ 255 ∷ 255 ∷ []) ≡ Some (Index 24)
no-name = refl

long-attribute : class_fault (begin ++ 0 ∷ 2 ∷ 1 ∷ 0 ∷ 1 ∷ 97 ∷ zeros 12 ++ 0 ∷ 1 ∷ 0 ∷ 1 ∷ 255 ∷ 255 ∷ 255 ∷ 255 ∷ []) ≡ Some (Short 34)
long-attribute = refl

-- A class of one method with a Code, which has a line number table, and with a source file

abbrev pub generated : List ℕ
generated =
    202 ∷ 254 ∷ 186 ∷ 190 ∷ 0 ∷ 0 ∷ 0 ∷ 61 ∷ 0 ∷ 13 ∷ 1 ∷ 0 ∷ 13 ∷ 109 ∷ 48 ∷ 48 ∷ 48 ∷ 47 ∷
    112 ∷ 48 ∷ 47 ∷ 67 ∷ 48 ∷ 48 ∷ 48 ∷ 48 ∷ 7 ∷ 0 ∷ 1 ∷ 1 ∷ 0 ∷ 16 ∷ 106 ∷ 97 ∷ 118 ∷ 97 ∷
    47 ∷ 108 ∷ 97 ∷ 110 ∷ 103 ∷ 47 ∷ 79 ∷ 98 ∷ 106 ∷ 101 ∷ 99 ∷ 116 ∷ 7 ∷ 0 ∷ 3 ∷ 1 ∷ 0 ∷ 1 ∷
    118 ∷ 1 ∷ 0 ∷ 3 ∷ 40 ∷ 41 ∷ 74 ∷ 1 ∷ 0 ∷ 4 ∷ 67 ∷ 111 ∷ 100 ∷ 101 ∷ 1 ∷ 0 ∷ 15 ∷ 76 ∷ 105 ∷
    110 ∷ 101 ∷ 78 ∷ 117 ∷ 109 ∷ 98 ∷ 101 ∷ 114 ∷ 84 ∷ 97 ∷ 98 ∷ 108 ∷ 101 ∷ 1 ∷ 0 ∷ 10 ∷ 83 ∷
    111 ∷ 117 ∷ 114 ∷ 99 ∷ 101 ∷ 70 ∷ 105 ∷ 108 ∷ 101 ∷ 1 ∷ 0 ∷ 10 ∷ 67 ∷ 48 ∷ 48 ∷ 48 ∷ 48 ∷
    46 ∷ 106 ∷ 97 ∷ 118 ∷ 97 ∷ 5 ∷ 20 ∷ 5 ∷ 123 ∷ 126 ∷ 247 ∷ 103 ∷ 129 ∷ 79 ∷ 0 ∷ 33 ∷ 0 ∷ 2 ∷
    0 ∷ 4 ∷ 0 ∷ 0 ∷ 0 ∷ 0 ∷ 0 ∷ 1 ∷ 0 ∷ 9 ∷ 0 ∷ 5 ∷ 0 ∷ 6 ∷ 0 ∷ 1 ∷ 0 ∷ 7 ∷ 0 ∷ 0 ∷ 0 ∷ 28 ∷
    0 ∷ 2 ∷ 0 ∷ 0 ∷ 0 ∷ 0 ∷ 0 ∷ 4 ∷ 20 ∷ 0 ∷ 11 ∷ 173 ∷ 0 ∷ 0 ∷ 0 ∷ 1 ∷ 0 ∷ 8 ∷ 0 ∷ 0 ∷ 0 ∷ 6 ∷
    0 ∷ 1 ∷ 0 ∷ 0 ∷ 0 ∷ 1 ∷ 0 ∷ 1 ∷ 0 ∷ 9 ∷ 0 ∷ 0 ∷ 0 ∷ 2 ∷ 0 ∷ 10 ∷ []

generated-length : length generated ≡ 185
generated-length = refl

generated-reads : class_fault generated ≡ None
generated-reads = refl

generated-written : value_text (class_of generated) ≡ Some generated
generated-written = refl

-- the length of the Code is four bytes of 255
generated-hostile : class_fault (take 143 generated ++ 255 ∷ 255 ∷ 255 ∷ 255 ∷ drop 147 generated) ≡ Some (Short 147)
generated-hostile = refl

-- the Code is one byte shorter, or longer, than its parts
generated-shorter : class_fault (take 146 generated ++ 27 ∷ drop 147 generated) ≡ Some (CodeLength 143)
generated-shorter = refl

generated-longer : class_fault (take 146 generated ++ 29 ∷ drop 147 generated) ≡ Some (CodeLength 143)
generated-longer = refl

-- The rule, evaluated: the fields from left to right, and the fault of the first that has one

abbrev seen : List ℕ → List (FieldSeen ClassFault)
seen bytes = text_fields Short Rest class_fields bytes

-- where a field begins, and how many bytes it has; where an end is, and how many bytes are left
abbrev pub place_of : {F : Type 0} → FieldSeen F → ℕ × ℕ
place_of (Stands place size part_end missing refused) = (place, size)
place_of (Ends place part_end rest) = (place, part_end - place)

abbrev places : List ℕ → List (ℕ × ℕ)
places bytes = map place_of (seen bytes)

abbrev rule_fault : List ℕ → Option ClassFault
rule_fault bytes = first_fault (map field_fault (seen bytes))

-- magic, minor, major, count of the pool, flags, class, class above, four counts; the end
smallest-fields : places smallest ≡ (0, 4) ∷ (4, 2) ∷ (6, 2) ∷ (8, 2) ∷ (10, 2) ∷ (12, 2) ∷ (14, 2) ∷ (16, 2) ∷ (18, 2) ∷ (20, 2) ∷
    (22, 2) ∷ (24, 0) ∷ []
smallest-fields = refl

-- the last count doesn't fit, and nothing is told of what stands after it
cut-fields : places (take 23 smallest) ≡ (0, 4) ∷ (4, 2) ∷ (6, 2) ∷ (8, 2) ∷ (10, 2) ∷ (12, 2) ∷ (14, 2) ∷ (16, 2) ∷ (18, 2) ∷ (20, 2) ∷
    (22, 2) ∷ []
cut-fields = refl

cut-rule : rule_fault (take 23 smallest) ≡ Some (Short 22)
cut-rule = refl

-- a Utf8 of 5 bytes of which 4 are there is short at its length
text-rule : rule_fault (begin ++ 0 ∷ 2 ∷ 1 ∷ 0 ∷ 5 ∷ zeros 4) ≡ Some (Short 11)
text-rule = refl

generated-rule : rule_fault generated ≡ None
generated-rule = refl

hostile-rule : rule_fault (take 143 generated ++ 255 ∷ 255 ∷ 255 ∷ 255 ∷ drop 147 generated) ≡ Some (Short 147)
hostile-rule = refl

shorter-rule : rule_fault (take 146 generated ++ 27 ∷ drop 147 generated) ≡ Some (CodeLength 143)
shorter-rule = refl
