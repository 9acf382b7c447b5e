-- Plug-ins, evaluated on small pools.
use Rattle.std.proofs.Common.{◌≡◌, ℕ, List, [], ◌∷◌, ◌++◌, length, Ok, Err, refl}
use Rattle.std.specs.Prelude.{codes}
use Rattle.jm_class.specs.ClassLayout.{class_of}
use Rattle.jm_class.specs.declared.class.ClassFault.TheVariants.{Short}
use Rattle.jm_pattern.specs.declared.signs.Sign.{Sign}
use Rattle.jm_pattern.specs.declared.signs.Sign.TheVariants.{AnyRun, Byte}
use Rattle.jm_words.specs.declared.tasks.Plugin.TheVariants as plugin
use Rattle.jm_plugins.specs.ComputedPlugins.{apply, bad_class}
use Rattle.jm_plugins.specs.SystemModules.{plain_map, plain_map_text}

-- `**/B.class` and `/a/**`; 47 is `/`, 66 is `B` and 97 is `a`
abbrev named_b : List Sign
named_b = AnyRun ∷ Byte 47 ∷ Byte 66 ∷ Byte 46 ∷ Byte 99 ∷ Byte 108 ∷ Byte 97 ∷ Byte 115 ∷ Byte 115 ∷ []

abbrev below_a : List Sign
below_a = Byte 47 ∷ Byte 97 ∷ Byte 47 ∷ AnyRun ∷ []

-- a class with a source file, the same class without it, and this one without the attribute's name
abbrev front : List ℕ
front = 202 ∷ 254 ∷ 186 ∷ 190 ∷ 0 ∷ 0 ∷ 0 ∷ 52 ∷ 0 ∷ 3 ∷ 1 ∷ 0 ∷ 10 ∷ codes "SourceFile" ++ (1 ∷ 0 ∷ 1 ∷ 97 ∷ 0 ∷ 0 ∷ 0 ∷ 2 ∷ 0 ∷ 0
    ∷ 0 ∷ 0 ∷ 0 ∷ 0 ∷ 0 ∷ 0 ∷ [])

abbrev with_file : List ℕ
with_file = front ++ (0 ∷ 1 ∷ 0 ∷ 1 ∷ 0 ∷ 0 ∷ 0 ∷ 2 ∷ 0 ∷ 2 ∷ [])

abbrev without_file : List ℕ
without_file = front ++ (0 ∷ 0 ∷ [])

abbrev without_name : List ℕ
without_name = 202 ∷ 254 ∷ 186 ∷ 190 ∷ 0 ∷ 0 ∷ 0 ∷ 52 ∷ 0 ∷ 2 ∷ 1 ∷ 0 ∷ 1 ∷ 97 ∷ 0 ∷ 0 ∷ 0 ∷ 1 ∷ 0 ∷ 0 ∷ 0 ∷ 0 ∷ 0 ∷ 0 ∷ 0 ∷ 0 ∷ 0 ∷ 0 ∷ []

abbrev pool : List ℕ → List (List ℕ × List ℕ)
pool bytes = (codes "/a/B.class", bytes) ∷ (codes "/a/x", with_file) ∷ (codes "/b/B.class", bytes) ∷ (codes "/b/y", []) ∷ []

-- nothing to do
none : apply 21 [] (pool []) ≡ Ok (pool [])
none = refl

order_in_pool : apply 21 (plugin.Order (named_b ∷ below_a ∷ []) ∷ []) (pool [])
    ≡ Ok ((codes "/a/B.class", []) ∷ (codes "/b/B.class", []) ∷ (codes "/a/x", with_file) ∷ (codes "/b/y", []) ∷ [])
order_in_pool = refl

-- the first pattern that matches decides
order_turned : apply 21 (plugin.Order (below_a ∷ named_b ∷ []) ∷ []) (pool []) ≡ Ok (pool [])
order_turned = refl

-- names that the pool hasn't give nothing, a name counts where it stands first, and others come last, as they stood
kept_in_pool : apply 21 (plugin.KeepOrder (codes "/b/y" ∷ codes "/c" ∷ codes "/a/x" ∷ codes "/b/y" ∷ []) ∷ []) (pool [])
    ≡ Ok ((codes "/b/y", []) ∷ (codes "/a/x", with_file) ∷ (codes "/a/B.class", []) ∷ (codes "/b/B.class", []) ∷ [])
kept_in_pool = refl

none_kept : apply 21 (plugin.KeepOrder [] ∷ []) (pool []) ≡ Ok (pool [])
none_kept = refl

excluded_in_pool : apply 21 (plugin.Exclude (named_b ∷ below_a ∷ []) ∷ []) (pool []) ≡ Ok ((codes "/b/y", []) ∷ [])
excluded_in_pool = refl

-- a name that isn't that of a class keeps its bytes
stripped_in_pool : apply 21 (plugin.Strip ∷ []) (pool with_file) ≡ Ok (pool without_file)
stripped_in_pool = refl

compacted_in_pool : apply 21 (plugin.Compact ∷ []) (pool without_file) ≡ Ok ((codes "/a/B.class", without_name)
    ∷ (codes "/a/x", with_file) ∷ (codes "/b/B.class", without_name) ∷ (codes "/b/y", []) ∷ [])
compacted_in_pool = refl

-- what is named stays
all_named : apply 21 (plugin.Compact ∷ []) (pool with_file) ≡ Ok (pool with_file)
all_named = refl

-- one plug-in after another
in_turn : apply 21 (plugin.Exclude (below_a ∷ []) ∷ plugin.Strip ∷ []) (pool with_file) ≡ Ok ((codes "/b/B.class", without_file)
    ∷ (codes "/b/y", []) ∷ [])
in_turn = refl

strip_then_compact : apply 21 (plugin.Exclude (below_a ∷ []) ∷ plugin.Strip ∷ plugin.Compact ∷ []) (pool with_file)
    ≡ Ok ((codes "/b/B.class", without_name) ∷ (codes "/b/y", []) ∷ [])
strip_then_compact = refl

compact_then_strip : apply 21 (plugin.Exclude (below_a ∷ []) ∷ plugin.Compact ∷ plugin.Strip ∷ []) (pool with_file)
    ≡ Ok ((codes "/b/B.class", without_file) ∷ (codes "/b/y", []) ∷ [])
compact_then_strip = refl

unstripped_class : apply 21 (plugin.Order (named_b ∷ []) ∷ plugin.Strip ∷ []) (pool (codes "no"))
    ≡ Err (bad_class (codes "/a/B.class") (Short 0))
unstripped_class = refl

uncompacted_class : apply 21 (plugin.Order (named_b ∷ []) ∷ plugin.Compact ∷ []) (pool (codes "no"))
    ≡ Err (bad_class (codes "/a/B.class") (Short 0))
uncompacted_class = refl

-- a module's class of a major version with no constant, and the same with two packages; the attribute's name is constant 1
abbrev descriptor : ℕ → List ℕ
descriptor major = 202 ∷ 254 ∷ 186 ∷ 190 ∷ 0 ∷ 0 ∷ 0 ∷ major ∷ 0 ∷ 1 ∷ 128 ∷ 0 ∷ 0 ∷ 0 ∷ 0 ∷ 0 ∷ 0 ∷ 0 ∷ 0 ∷ 0 ∷ 0 ∷ 0 ∷ 0 ∷ 0 ∷ []

abbrev listing : List ℕ
listing =
    202 ∷ 254 ∷ 186 ∷ 190 ∷ 0 ∷ 0 ∷ 0 ∷ 53 ∷ 0 ∷ 6 ∷ 1 ∷ 0 ∷ 14 ∷ codes "ModulePackages"
    ++ (1 ∷ 0 ∷ 3 ∷ codes "p/q" ++ (20 ∷ 0 ∷ 2 ∷ 1 ∷ 0 ∷ 1 ∷ codes "s" ++ (20 ∷ 0 ∷ 4 ∷ 128 ∷ 0 ∷ 0 ∷ 0 ∷ 0 ∷ 0 ∷ 0 ∷ 0 ∷ 0 ∷ 0 ∷ 0
    ∷ 0 ∷ 0 ∷ 1 ∷ 0 ∷ 1 ∷ 0 ∷ 0 ∷ 0 ∷ 6 ∷ 0 ∷ 2 ∷ 0 ∷ 3 ∷ 0 ∷ 5 ∷ [])))

-- folders of the module's own files, where they are packages
abbrev files_of_a : List (List ℕ × List ℕ)
files_of_a =
    (codes "/a/p.q/C.class", []) ∷ (codes "/a/p/q/D.class", []) ∷ (codes "/a/s/x", []) ∷ (codes "/a/META-INF/s/x", [])
    ∷ (codes "/a/int/x", []) ∷ (codes "/a/x", []) ∷ (codes "xa/t/x", []) ∷ []

listed_in_pool : apply 21 (plugin.Packages ∷ []) ((codes "/b/r/C.class", []) ∷ (codes "/a/module-info.class", descriptor 53)
    ∷ files_of_a) ≡ Ok ((codes "/b/r/C.class", []) ∷ (codes "/a/module-info.class", listing) ∷ files_of_a)
listed_in_pool = refl

-- a class of major 52 stays
old_in_pool : apply 21 (plugin.Packages ∷ []) ((codes "/a/module-info.class", descriptor 52) ∷ files_of_a)
    ≡ Ok ((codes "/a/module-info.class", descriptor 52) ∷ files_of_a)
old_in_pool = refl

unlisted_descriptor : apply 21 (plugin.Packages ∷ []) ((codes "/a/x.class", []) ∷ (codes "/b/module-info.class", codes "no") ∷ [])
    ≡ Err (bad_class (codes "/b/module-info.class") (Short 0))
unlisted_descriptor = refl

-- classes that name all modules go, but for those of another folder, module or end; the map gives way to the plain one
dropped_in_pool : apply 21 (plugin.DropSystemModules ∷ []) ((codes "/java.base/jdk/internal/module/SystemModules$all.class", codes "1")
    ∷ (codes "/java.base/jdk/internal/module/SystemModulesMap.class", codes "2") ∷ (
      codes "/java.base/jdk/internal/module/SystemModules$.class",
      codes "3",
    ) ∷ (codes "/java.base/jdk/internal/module/SystemModules$a/b.class", codes "4") ∷ (
      codes "/a/jdk/internal/module/SystemModules$b.class",
      codes "5",
    ) ∷ (codes "/java.base/jdk/internal/module/SystemModules.class", codes "6") ∷ [])
    ≡ Ok ((codes "/java.base/jdk/internal/module/SystemModulesMap.class", plain_map_text)
    ∷ (codes "/java.base/jdk/internal/module/SystemModules$a/b.class", codes "4") ∷ (
      codes "/a/jdk/internal/module/SystemModules$b.class",
      codes "5",
    ) ∷ (codes "/java.base/jdk/internal/module/SystemModules.class", codes "6") ∷ [])
dropped_in_pool = refl

plain_map_long : length plain_map_text ≡ 424
unfolding plain_map_text
plain_map_long = refl

-- without a fault
plain_map_reads : class_of plain_map_text ≡ Ok plain_map
unfolding plain_map_text
plain_map_reads = refl
