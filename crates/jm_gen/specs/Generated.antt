-- The files of large inputs: modules of classes, made from a number (this project's rule; the
-- classes are those of JVMS 4).
use Rattle.std.specs.Prelude.{ℕ, ◌+◌, ◌-◌, ◌*◌, ◌/◌, ◌%◌, ◌^◌, ◌==◌, List, [], ◌∷◌, ◌++◌, map}
use Rattle.std.specs.Prelude.{None, codes, if◌then◌else◌}
use Rattle.std.specs.Int.{w64, to_be_bytes}
use Rattle.std.specs.List.{flat_map, range_with_len}
use Rattle.jm_class.specs.Classes.{AttributeData, ClassData, CodeData, MemberData, OpaqueData}
use Rattle.jm_class.specs.Classes.{Coded, Constant, Hole, Opaque, SlotData, class_text, joined, u2}
use Rattle.jm_modinfo.specs.declared.descriptor.Need.{Need}
use Rattle.jm_modinfo.specs.Written.{info_text, utf8}
use Rattle.jm_outside.specs.Made.{Writes}
use Rattle.jm_gen.specs.Draws.{drawn}

-- Names

-- the last digit of a number, as a byte
abbrev pub digit : ℕ → ℕ
digit n = 48 + n % 10

-- `m` and the number in three digits
abbrev pub module_name : ℕ → List ℕ
module_name k = 109 ∷ digit (k / 100) ∷ digit (k / 10) ∷ digit k ∷ []

-- the names of that many modules, from the first on
abbrev pub module_names : ℕ → List (List ℕ)
module_names modules = map module_name (range_with_len 0 modules)

-- `C` and the number in four digits
abbrev pub class_name : ℕ → List ℕ
class_name c = 67 ∷ digit (c / 1000) ∷ digit (c / 100) ∷ digit (c / 10) ∷ digit c ∷ []

-- the name of a class after its package: its module's name, one of eight, and its own
abbrev pub class_path : ℕ → ℕ → List ℕ
class_path k c =
    joined (module_name k ∷ codes "/p" ∷ ((48 + c % 8) ∷ []) ∷ codes "/" ∷ class_name c ∷ [])

-- The descriptor of a module

-- a module as what another one requires, without flags and version
abbrev pub need_of : ℕ → Need
need_of k = record { name = module_name k; flags = 0; version = None }

-- what module k requires: the module before, and one of those before that, by a draw
abbrev pub needs : ℕ → ℕ → List Need
needs k d =
    if k == 0 then []
    else if k == 1 then need_of 0 ∷ []
    else need_of (k - 1) ∷ need_of (d / 2 ^ 33 % (k - 1)) ∷ []

-- The class of a number

-- the constants of a class, by its path, the name of its source and its number; the eleventh is the
-- number
abbrev pub pool_with : List ℕ → List ℕ → List ℕ → List SlotData
pool_with path source value =
    utf8 path ∷ Constant 7 (u2 1) ∷ utf8 (codes "java/lang/Object") ∷ Constant 7 (u2 3)
    ∷ utf8 (codes "v") ∷ utf8 (codes "()J") ∷ utf8 (codes "Code")
    ∷ utf8 (codes "LineNumberTable") ∷ utf8 (codes "SourceFile") ∷ utf8 source
    ∷ Constant 5 value ∷ Hole ∷ []

-- the instructions of the method: ldc2_w of constant 11, and lreturn
abbrev pub instructions : List ℕ
instructions = 0x14 ∷ 0x00 ∷ 0x0B ∷ 0xAD ∷ []

-- the attribute by which the first instruction is of line 1
abbrev pub line_numbers : OpaqueData
line_numbers = record { name = 8; bytes = 0 ∷ 1 ∷ 0 ∷ 0 ∷ 0 ∷ 1 ∷ [] }

-- the Code of the method
abbrev pub code : CodeData
code = record {
  max_stack = 2;
  max_locals = 0;
  code = instructions;
  handlers = [];
  attributes = line_numbers ∷ [];
}

-- the method `public static long v()`, which gives the class's number
abbrev pub method : MemberData
method = record {
  access = 0x0009;
  name = 5;
  descriptor = 6;
  attributes = record { name = 7; body = Coded code } ∷ [];
}

-- the attribute with the source's name
abbrev pub source_file : AttributeData
source_file = record { name = 9; body = Opaque (0 ∷ 10 ∷ []) }

-- the class of a path, a source and the 8 bytes of a number
abbrev pub class_with : List ℕ → List ℕ → List ℕ → ClassData
class_with path source value = record {
  minor = 0;
  major = 61;
  pool = pool_with path source value;
  access = 0x0021;
  this_class = 2;
  super_class = 4;
  interfaces = [];
  fields = [];
  methods = method ∷ [];
  attributes = source_file ∷ [];
}

-- the name of a class's source: its own and `.java`
abbrev pub source_name : ℕ → List ℕ
source_name c = class_name c ++ codes ".java"

-- class c of module k, with the number v
abbrev pub class_data : ℕ → ℕ → ℕ → ClassData
class_data k c v = class_with (class_path k c) (source_name c) (to_be_bytes w64 v)

-- The files, each a path and its bytes

-- the path of a file of a module, by what stands after the module's folder
abbrev pub path_in : List ℕ → ℕ → List ℕ → List ℕ
path_in dir k rest = joined (dir ∷ codes "/" ∷ module_name k ∷ codes "/" ∷ rest ∷ [])

-- the file of a module's descriptor
abbrev pub info_file : List ℕ → ℕ → ℕ → List ℕ × List ℕ
info_file dir k d =
    (path_in dir k (codes "module-info.class"), info_text (module_name k) (needs k d))

-- the file of a class
abbrev pub class_file : List ℕ → ℕ → ℕ → ℕ → List ℕ × List ℕ
class_file dir k c v =
    (path_in dir k (class_path k c ++ codes ".class"), class_text (class_data k c v))

-- the files of a module, by the number of draws before it: its descriptor, and its classes
abbrev pub module_files : List ℕ → ℕ → ℕ → ℕ → ℕ → Writes
module_files dir classes seed k before =
    info_file dir k (drawn seed (before + 1))
    ∷ map (λ c. class_file dir k c (drawn seed (before + 2 + c))) (range_with_len 0 classes)

-- the files of all modules: for each one its descriptor by one draw, and then its classes, each by
-- one more
abbrev pub generated : List ℕ → ℕ → ℕ → ℕ → Writes
generated dir modules classes seed =
    flat_map (λ k. module_files dir classes seed k (k * (classes + 1))) (range_with_len 0 modules)
