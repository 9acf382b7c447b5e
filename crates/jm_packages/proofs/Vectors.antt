-- Names of packages, and classes with lists of packages, evaluated.
use Rattle.std.proofs.Common.{◌≡◌, ℕ, true, List, [], ◌∷◌, ◌++◌, None, Some, not, codes, refl}
use Rattle.std.specs.List.{list_all}
use Rattle.jm_class.specs.Classes.{SlotData, Constant, Opaque, AttributeData, ClassData}
use Rattle.jm_modinfo.specs.declared.descriptor.Descriptor.{Descriptor}
use Rattle.jm_modinfo.specs.declared.descriptor.Opened.{Opened}
use Rattle.jm_packages.specs.PackageNames.{is_package_name}
use Rattle.jm_packages.specs.Packages.{listed, named_in, packaged}

-- 128 and 255 are bytes of letters
packages : list_all is_package_name (codes "a" ∷ codes "a.b1.C" ∷ codes "_a" ∷ codes "a.$" ∷ codes "ints" ∷ codes "Int" ∷ (128
    ∷ []) ∷ (97 ∷ 46 ∷ 255 ∷ []) ∷ []) ≡ true
packages = refl

-- the last but one has a part without a byte, the last one no byte
others : list_all (λ name. not (is_package_name name)) (codes "_" ∷ codes "a._" ∷ codes "1a" ∷ codes "a.1" ∷ codes "int"
    ∷ codes "abstract" ∷ codes "a.null" ∷ codes "META-INF" ∷ codes "da-ta" ∷ codes "a/b" ∷ (127 ∷ []) ∷ codes ".a" ∷ codes "a."
    ∷ codes "a..b" ∷ [] ∷ []) ≡ true
others = refl

abbrev opened : List ℕ → Opened
opened package_name = record { «package» = package_name; flags = 0; to = [] }

abbrev told : Descriptor
told = record {
  name = codes "m";
  version = None;
  flags = 0;
  needs = [];
  exports = opened (codes "p/q") ∷ opened [] ∷ [];
  opens = opened (codes "da-ta") ∷ opened (codes "p.q") ∷ [];
  uses = codes "u/S" ∷ [];
  provides = record { service = codes "t/S"; classes = codes "s/A" ∷ codes "B" ∷ codes "/C" ∷ [] } ∷ [];
  main = Some (codes "r/s/M");
}

-- what it names needn't be the name of a package; a class without one, or with an empty one, names none
named_in_told : named_in told ≡ codes "p.q" ∷ codes "da-ta" ∷ codes "p.q" ∷ codes "s" ∷ codes "r.s" ∷ []
named_in_told = refl

abbrev class : ℕ → List SlotData → List AttributeData → ClassData
class access pool attributes = record {
  minor = 0;
  major = 61;
  pool = pool;
  access = access;
  this_class = 0;
  super_class = 0;
  interfaces = [];
  fields = [];
  methods = [];
  attributes = attributes;
}

abbrev source : List SlotData
source = Constant 1 (codes "SourceFile") ∷ []

abbrev file : AttributeData
file = record { name = 1; body = Opaque (0 ∷ 1 ∷ []) }

-- the constants 2 to 6 are the attribute's name, and each package with its constant
named : packaged (codes "a" ∷ codes "a/b" ∷ []) (class 32768 source (file ∷ []))
    ≡ class 32768 (source ++ Constant 1 (codes "ModulePackages") ∷ Constant 1 (codes "a") ∷ Constant 20 (0 ∷ 3 ∷ [])
    ∷ Constant 1 (codes "a/b") ∷ Constant 20 (0 ∷ 5 ∷ []) ∷ []) (file ∷ record {
      name = 2;
      body =
          Opaque (0 ∷ 2 ∷ 0 ∷ 4 ∷ 0 ∷ 6 ∷ []);
    } ∷ [])
named = refl

-- no package
empty : packaged [] (class 32768 [] []) ≡ class 32768 (Constant 1 (codes "ModulePackages") ∷ []) (record {
  name = 1;
  body =
      Opaque (0 ∷ 0 ∷ []);
} ∷ [])
empty = refl

-- a class that is no module's stays
other : packaged (codes "a" ∷ []) (class 33 source (file ∷ [])) ≡ class 33 source (file ∷ [])
other = refl

-- one with a list stays
again : packaged (codes "a" ∷ []) (class 32768 (Constant 1 (codes "ModulePackages") ∷ []) (file ∷ []))
    ≡ class 32768 (Constant 1 (codes "ModulePackages") ∷ []) (file ∷ [])
again = refl

-- so does one of major 52
old : packaged (codes "a" ∷ []) (record (class 32768 source (file ∷ [])) { major = 52 }) ≡ record (class 32768 source (file ∷ [])) {
  major = 52;
}
old = refl

-- a descriptor of a module `m` that opens `o/p`, with the main class `q/M`
abbrev describing : ClassData
describing = class 32768
    (Constant 1 (codes "Module") ∷ Constant 1 (codes "m") ∷ Constant 19 (0 ∷ 2 ∷ []) ∷ Constant 1 (codes "o/p")
    ∷ Constant 20 (0 ∷ 4 ∷ []) ∷ Constant 1 (codes "ModuleMainClass") ∷ Constant 1 (codes "q/M") ∷ Constant 7 (0 ∷ 7 ∷ []) ∷ [])
    (record {
      name = 1;
      body = Opaque (0 ∷ 3 ∷ 0 ∷ 0 ∷ 0 ∷ 0 ∷ 0 ∷ 0 ∷ 0 ∷ 0 ∷ 0 ∷ 1 ∷ 0 ∷ 5 ∷ 0 ∷ 0 ∷ 0 ∷ 0 ∷ 0 ∷ 0 ∷ 0 ∷ 0 ∷ []);
    } ∷ record { name = 6; body = Opaque (0 ∷ 8 ∷ []) } ∷ [])

all_listed : listed (codes "r" ∷ codes "o.p" ∷ codes "a.b" ∷ []) describing
    ≡ codes "a/b" ∷ codes "o/p" ∷ codes "q" ∷ codes "r" ∷ []
all_listed = refl

-- a class without a descriptor names none
folders_listed : listed (codes "r" ∷ codes "a.b" ∷ []) (class 32768 [] []) ≡ codes "a/b" ∷ codes "r" ∷ []
folders_listed = refl
