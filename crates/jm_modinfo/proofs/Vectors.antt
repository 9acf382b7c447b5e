-- The definitions, evaluated on the small classes of the format's cases.
use Rattle.std.proofs.Common.{◌≡◌, ℕ, List, [], ◌∷◌, ◌++◌, Option, Some, None, Result, Ok, Err, refl, map, take, drop, length}
use Rattle.std.specs.Prelude.{codes, replicate}
use Rattle.std.specs.Fmt.{digits}
use Rattle.std.specs.List.{flat_map}
use Rattle.jm_bytes.specs.Checks.{first_fault}
use Rattle.jm_class.specs.Classes.{SlotData, Constant, Opaque, ClassData, u2}
use Rattle.jm_class.specs.ClassLayout.{class_of}
use Rattle.jm_class.specs.Layouts.{FieldSeen, text_fields}
use Rattle.jm_class.proofs.FaultLaws.{field_fault}
use Rattle.jm_class.proofs.Vectors.{place_of}
use Rattle.jm_class.specs.declared.class.ClassFault.{ClassFault}
use Rattle.jm_class.specs.declared.class.ClassFault.TheVariants as class
use Rattle.jm_modinfo.specs.ComputedInfo.{info_of}
use Rattle.jm_modinfo.specs.declared.descriptor.Need.{Need}
use Rattle.jm_modinfo.specs.declared.faults.DescriptorFault.TheVariants as fault
use Rattle.jm_modinfo.specs.declared.faults.InfoFault.{InfoFault}
use Rattle.jm_modinfo.specs.declared.faults.InfoFault.TheVariants.{NotModule, OldVersion, NoModule, TwoModule, Index, Short, Rest, Name}
use Rattle.jm_modinfo.specs.declared.faults.InfoFault.TheVariants.{Main}
use Rattle.jm_modinfo.specs.Faults.{info_fault}
use Rattle.jm_modinfo.specs.ModuleLayout.{module_layout}
use Rattle.jm_modinfo.specs.FaultText.{descriptor_fault_text}
use Rattle.jm_modinfo.specs.Written.{utf8, info_pool, info_class, info_text, plain_descriptor}

-- a module a that requires nothing
abbrev alone : List ℕ
alone =
    202 ∷ 254 ∷ 186 ∷ 190 ∷ 0 ∷ 0 ∷ 0 ∷ 53 ∷ 0 ∷ 6 ∷ 1 ∷ 0 ∷ 11 ∷ 109 ∷ 111 ∷ 100 ∷ 117 ∷ 108 ∷
    101 ∷ 45 ∷ 105 ∷ 110 ∷ 102 ∷ 111 ∷ 7 ∷ 0 ∷ 1 ∷ 1 ∷ 0 ∷ 6 ∷ 77 ∷ 111 ∷ 100 ∷ 117 ∷ 108 ∷
    101 ∷ 1 ∷ 0 ∷ 1 ∷ 97 ∷ 19 ∷ 0 ∷ 4 ∷ 128 ∷ 0 ∷ 0 ∷ 2 ∷ 0 ∷ 0 ∷ 0 ∷ 0 ∷ 0 ∷ 0 ∷ 0 ∷ 0 ∷ 0 ∷
    1 ∷ 0 ∷ 3 ∷ 0 ∷ 0 ∷ 0 ∷ 16 ∷ 0 ∷ 5 ∷ 0 ∷ 0 ∷ 0 ∷ 0 ∷ 0 ∷ 0 ∷ 0 ∷ 0 ∷ 0 ∷ 0 ∷ 0 ∷ 0 ∷ 0 ∷ 0 ∷ []

-- a module a that requires b and java.base
abbrev two_needs : List Need
two_needs =
    record { name = codes "b"; flags = 0; version = None }
    ∷ record { name = codes "java.base"; flags = 0x8000; version = None } ∷ []

alone_text : info_text (codes "a") [] ≡ alone
alone_text = refl

two_needs_size : length (info_text (codes "a") two_needs) ≡ 113
two_needs_size = refl

alone_info : info_of (info_class (codes "a") []) ≡ Ok (plain_descriptor (codes "a") [])
alone_info = refl

two_needs_info : info_of (info_class (codes "a") two_needs) ≡ Ok (plain_descriptor (codes "a") two_needs)
two_needs_info = refl

-- The faults

abbrev fault_of_class : Result ClassData ClassFault → Option InfoFault
fault_of_class (Ok c) = info_fault c
fault_of_class (Err fault) = None

abbrev fault_in : List ℕ → Option InfoFault
fault_in bytes = fault_of_class (class_of bytes)

-- bytes in place of n bytes from a place on
abbrev spliced : ℕ → ℕ → List ℕ → List ℕ → List ℕ
spliced at n new bytes = take at bytes ++ new ++ drop n (drop at bytes)

no_fault : fault_in alone ≡ None
no_fault = refl

-- the 24 bytes of a class without anything
smallest : fault_in (take 7 alone ++ 52 ∷ 0 ∷ 1 ∷ replicate 14 0) ≡ Some NotModule
smallest = refl

old : fault_in (spliced 7 1 (52 ∷ []) alone) ≡ Some (OldVersion 52)
old = refl

other_name : fault_in (spliced 30 1 (78 ∷ []) alone) ≡ Some NoModule
other_name = refl

two : fault_in (spliced 55 2 (0 ∷ 2 ∷ []) alone ++ 0 ∷ 3 ∷ 0 ∷ 0 ∷ 0 ∷ 0 ∷ []) ≡ Some TwoModule
two = refl

other_kind : fault_in (spliced 64 1 (4 ∷ []) alone) ≡ Some (Index 0)
other_kind = refl

no_version : fault_in (spliced 68 1 (5 ∷ []) alone) ≡ Some (Index 4)
no_version = refl

one_more : fault_in (spliced 78 1 (1 ∷ []) alone) ≡ Some (Short 16)
one_more = refl

left_over : fault_in (spliced 62 1 (18 ∷ []) alone ++ 0 ∷ 0 ∷ []) ≡ Some (Rest 16)
left_over = refl

comma : fault_in (spliced 39 1 (44 ∷ []) alone) ≡ Some (Name 0)
comma = refl

-- the main class that constant 2 names, and one that constant 3 doesn't
abbrev main_attribute : ℕ → List ℕ
main_attribute index = 0 ∷ 1 ∷ 0 ∷ 0 ∷ 0 ∷ 2 ∷ 0 ∷ index ∷ []

abbrev with_main : ℕ → List ℕ
with_main index =
    take 11 alone ++ 0 ∷ 15 ∷ codes "ModuleMainClass" ++ take 31 (drop 24 alone) ++ 0 ∷ 2 ∷ drop 57 alone
    ++ main_attribute index

a_main_class : fault_in (with_main 2) ≡ None
a_main_class = refl

no_main_class : fault_in (with_main 3) ≡ Some Main
no_main_class = refl

-- A descriptor with all of its parts

-- constants 6 to 15 of the class of a module a
abbrev all_pool : List SlotData
all_pool =
    info_pool (codes "a") []
    ++ utf8 (codes "p") ∷ Constant 20 (u2 6) ∷ utf8 (codes "S") ∷ Constant 7 (u2 8)
    ∷ utf8 (codes "b") ∷ Constant 19 (u2 10) ∷ utf8 (codes "1") ∷ utf8 (codes "ModuleMainClass")
    ∷ utf8 (codes "x,y") ∷ Constant 19 (u2 14) ∷ []

-- a body whose export has this target, and some bytes after it; a main class of this number
abbrev all_class : ℕ → List ℕ → ℕ → ClassData
all_class target rest main =
    record (info_class (codes "a") []) {
      pool = all_pool;
      attributes =
          record { name = 13; body = Opaque (u2 main) }
          ∷ record {
            name = 3;
            body = Opaque (
                flat_map u2 (
                5 ∷ 32 ∷ 12 ∷ 1 ∷ 11 ∷ 64 ∷ 12 ∷ 1 ∷ 7 ∷ 0 ∷ 1 ∷ target ∷ 1 ∷ 7 ∷ 4096 ∷ 0
                ∷ 1 ∷ 9 ∷ 1 ∷ 9 ∷ 2 ∷ 9 ∷ 9 ∷ [])
                ++ rest);
          }
          ∷ [];
    }

all_info : info_of (all_class 11 [] 9) ≡ Ok (record {
  name = codes "a";
  version = Some (codes "1");
  flags = 32;
  needs = record { name = codes "b"; flags = 64; version = Some (codes "1") } ∷ [];
  exports = record { «package» = codes "p"; flags = 0; to = codes "b" ∷ [] } ∷ [];
  opens = record { «package» = codes "p"; flags = 4096; to = [] } ∷ [];
  uses = codes "S" ∷ [];
  provides = record { service = codes "S"; classes = codes "S" ∷ codes "S" ∷ [] } ∷ [];
  main = Some (codes "S");
})
all_info = refl

target_name : info_fault (all_class 15 [] 9) ≡ Some (Name 22)
target_name = refl

-- a Utf8 whose text isn't legal either
target_kind : info_fault (all_class 14 [] 9) ≡ Some (Index 22)
target_kind = refl

rest_before_main : info_fault (all_class 11 (0 ∷ []) 8) ≡ Some (Rest 46)
rest_before_main = refl

main_kind : info_fault (all_class 11 [] 8) ≡ Some Main
main_kind = refl

-- In print

printed : descriptor_fault_text (fault.Class (class.Short 22)) ≡ codes "Class Short 22"
unfolding digits
printed = refl

info_printed : descriptor_fault_text (fault.Info NotModule) ≡ codes "Info NotModule"
info_printed = refl

-- The rule of a body, evaluated: its fields from left to right, and the fault of the first that has one

abbrev seen : List ℕ → List (FieldSeen InfoFault)
seen words = text_fields Short Rest (module_layout all_pool) (flat_map u2 words)

abbrev rule_fault : List ℕ → Option InfoFault
rule_fault words = first_fault (map field_fault (seen words))

abbrev places : List ℕ → List (ℕ × ℕ)
places words = map place_of (seen words)

-- name, flags, version, one module that is required, four counts; the end
body_places : places (5 ∷ 0 ∷ 0 ∷ 1 ∷ 11 ∷ 64 ∷ 12 ∷ 0 ∷ 0 ∷ 0 ∷ 0 ∷ [])
    ≡ (0, 2) ∷ (2, 2) ∷ (4, 2) ∷ (6, 2) ∷ (8, 2) ∷ (10, 2) ∷ (12, 2) ∷ (14, 2) ∷ (16, 2) ∷ (18, 2) ∷ (20, 2) ∷ (22, 0) ∷ []
body_places = refl

good_rule : rule_fault (5 ∷ 0 ∷ 0 ∷ 0 ∷ 0 ∷ 0 ∷ 0 ∷ 0 ∷ []) ≡ None
good_rule = refl

short_rule : rule_fault (5 ∷ 0 ∷ 0 ∷ 0 ∷ 0 ∷ 0 ∷ 0 ∷ 1 ∷ []) ≡ Some (Short 16)
short_rule = refl

-- a class where a module has to stand, and a module whose name has a comma
kind_rule : rule_fault (5 ∷ 0 ∷ 0 ∷ 1 ∷ 9 ∷ []) ≡ Some (Index 8)
kind_rule = refl

name_rule : rule_fault (5 ∷ 0 ∷ 0 ∷ 1 ∷ 15 ∷ []) ≡ Some (Name 8)
name_rule = refl

rest_rule : rule_fault (5 ∷ 0 ∷ 0 ∷ 0 ∷ 0 ∷ 0 ∷ 0 ∷ 0 ∷ 0 ∷ []) ≡ Some (Rest 16)
rest_rule = refl
