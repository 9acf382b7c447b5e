-- The classes of `java.base` with which a JVM knows the modules of its image beforehand, and
-- resources without them (`SystemModules` and `SystemModulesMap` of `jdk.internal.module` in
-- OpenJDK, which jlink's plug-in `system-modules` makes; JVMS 4.1 to 4.7.3 for the class that is
-- put; what is dropped and put is this project's rule).
use Rattle.std.specs.Prelude.{ℕ, nat_eq, Bool, false, not, ◌&&◌, List, [], ◌∷◌, ◌++◌, filter, map}
use Rattle.std.specs.Prelude.{option_map, unwrap_or, codes, if◌then◌else◌}
use Rattle.std.specs.List.{ends_with, list_any}
use Rattle.std.specs.Str.{bytes_eq}
use Rattle.jm_class.specs.Classes.{AttributeData, ClassData, Coded, Constant, MemberData, SlotData}
use Rattle.jm_class.specs.Classes.{class_text, u1, u2}
use Rattle.jm_names.specs.Names.{is_slash}
use Rattle.jm_outside.specs.Files.{after_front}

-- Names

-- the end of the name of a class in a folder itself: no slash, and `.class` at the end
abbrev pub is_class_here : List ℕ → Bool
is_class_here rest = ends_with nat_eq rest (codes ".class") && not (list_any is_slash rest)

-- the name is that of a class that names all modules of an image,
-- `/java.base/jdk/internal/module/SystemModules$X.class`, where X has no slash and may be empty
abbrev pub is_system_modules : List ℕ → Bool
is_system_modules name =
    unwrap_or
    (option_map is_class_here
    (after_front (codes "/java.base/jdk/internal/module/SystemModules$") name))
    false

-- the name of the map, the class that tells a JVM which of these classes to take
abbrev pub map_name : List ℕ
map_name = codes "/java.base/jdk/internal/module/SystemModulesMap.class"

-- The plain map: the class that tells of none

-- a constant that is a text (JVMS 4.4.7)
abbrev pub utf8 : List ℕ → SlotData
utf8 text = Constant 1 text

-- the constants, from number 1 on; 7 is the tag of a Class, 12 of a NameAndType, 10 of a Methodref
abbrev pub plain_pool : List SlotData
plain_pool =
    utf8 (codes "jdk/internal/module/SystemModulesMap")
    ∷ Constant 7 (u2 1)
    ∷ utf8 (codes "java/lang/Object")
    ∷ Constant 7 (u2 3)
    ∷ utf8 (codes "<init>")
    ∷ utf8 (codes "()V")
    ∷ Constant 12 (u2 5 ++ u2 6)
    ∷ Constant 10 (u2 4 ++ u2 7)
    ∷ utf8 (codes "Code")
    ∷ utf8 (codes "allSystemModules")
    ∷ utf8 (codes "()Ljdk/internal/module/SystemModules;")
    ∷ utf8 (codes "defaultSystemModules")
    ∷ utf8 (codes "moduleNames")
    ∷ utf8 (codes "()[Ljava/lang/String;")
    ∷ utf8 (codes "java/lang/String")
    ∷ Constant 7 (u2 15)
    ∷ utf8 (codes "classNames")
    ∷ []

-- a Code of these instructions with a stack of 1, by its name's number
abbrev pub plain_code : ℕ → List ℕ → AttributeData
plain_code locals code = record {
  name = 9;
  body = Coded (record {
    max_stack = 1;
    max_locals = locals;
    code = code;
    handlers = [];
    attributes = [];
  });
}

-- a method: its flags, the numbers of its name and descriptor, its locals and its instructions
abbrev pub plain_method : ℕ → ℕ → ℕ → ℕ → List ℕ → MemberData
plain_method access name descriptor locals code = record {
  access = access;
  name = name;
  descriptor = descriptor;
  attributes = plain_code locals code ∷ [];
}

-- aload_0, invokespecial of the constructor of Object, return
abbrev pub calls_object : List ℕ
calls_object = u1 42 ++ u1 183 ++ u2 8 ++ u1 177

-- aconst_null, areturn
abbrev pub gives_null : List ℕ
gives_null = u1 1 ++ u1 176

-- iconst_0, anewarray of String, areturn
abbrev pub gives_no_names : List ℕ
gives_no_names = u1 3 ++ u1 189 ++ u2 16 ++ u1 176

-- the plain map: a final class of Java SE 8 with a constructor and four static methods (flag 8),
-- two of which answer null, `allSystemModules` and `defaultSystemModules`, and two an array without
-- names, `moduleNames` and `classNames`
abbrev pub plain_map : ClassData
plain_map = record {
  minor = 0;
  major = 52;
  pool = plain_pool;
  access = 48;
  this_class = 2;
  super_class = 4;
  interfaces = [];
  fields = [];
  methods =
      plain_method 0 5 6 1 calls_object
      ∷ plain_method 8 10 11 0 gives_null
      ∷ plain_method 8 12 11 0 gives_null
      ∷ plain_method 8 13 14 0 gives_no_names
      ∷ plain_method 8 17 14 0 gives_no_names
      ∷ [];
  attributes = [];
}

-- its bytes
unfoldable pub plain_map_text : List ℕ
plain_map_text = class_text plain_map

-- Resources

-- a pair, the map with the bytes of the plain one
abbrev pub with_plain_map : List ℕ × List ℕ → List ℕ × List ℕ
with_plain_map pair = if bytes_eq pair.0 map_name then (pair.0, plain_map_text) else pair

-- the pairs without the classes that name all modules of an image, and with the plain map in the
-- place of the map
abbrev pub without_system_modules : List (List ℕ × List ℕ) → List (List ℕ × List ℕ)
without_system_modules pairs =
    map with_plain_map (filter (λ pair. not (is_system_modules pair.0)) pairs)
