-- The body of the Module attribute (JVMS 4.7.25), field by field, with the faults of its fields (this
-- project's rule). Places are in bytes from the front of the body.
use Rattle.std.specs.Prelude.{ℕ, List, Option, Some, None, is_some, if◌then◌else◌}
use Rattle.jm_class.specs.Classes.{SlotData}
use Rattle.jm_class.specs.Layouts.{Layout, U2, Value, Number, Field, Then, listed}
use Rattle.jm_modinfo.specs.Constants.{named_at, version_at, is_allowed}
use Rattle.jm_modinfo.specs.declared.constants.Kind.{Kind}
use Rattle.jm_modinfo.specs.declared.constants.Kind.TheVariants.{Class, Module, Package}
use Rattle.jm_modinfo.specs.declared.descriptor.Descriptor.{Descriptor}
use Rattle.jm_modinfo.specs.declared.descriptor.Need.{Need}
use Rattle.jm_modinfo.specs.declared.descriptor.Opened.{Opened}
use Rattle.jm_modinfo.specs.declared.descriptor.Provides.{Provides}
use Rattle.jm_modinfo.specs.declared.faults.InfoFault.{InfoFault}
use Rattle.jm_modinfo.specs.declared.faults.InfoFault.TheVariants.{Index, Name}

-- the text of a constant of a kind, if it is allowed; the name of a module is to be legal
abbrev pub allowed : Kind → Option (List ℕ) → Option (List ℕ)
allowed kind (Some text) = if is_allowed kind text then Some text else None
allowed kind None = None

-- the fault of an index at a place: `Name` where a text is found that isn't allowed, or `Index`
abbrev pub refused : List SlotData → Kind → ℕ → ℕ → InfoFault
refused pool kind at n = if is_some (named_at pool kind n) then Name at else Index at

-- the index of a constant of a kind
abbrev pub named : List SlotData → Kind → Layout InfoFault (List ℕ)
named pool kind = Field U2 (λ n. allowed kind (named_at pool kind n)) (refused pool kind)

-- a version, if there is one
abbrev pub version : List SlotData → Layout InfoFault (Option (List ℕ))
version pool = Field U2 (version_at pool) (λ at n. Index at)

-- a count, and that many constants of a kind
abbrev pub names : List SlotData → Kind → Layout InfoFault (List (List ℕ))
names pool kind = listed (named pool kind)

-- a module that is required: its name, its flags, its version
abbrev pub need : List SlotData → Layout InfoFault Need
need pool =
    Then (named pool Module) (λ name.
    Then (Number U2) (λ flags.
    Then (version pool) (λ version.
    Value (record { name = name; flags = flags; version = version }))))

-- a package that is exported or opened: its name, its flags, the modules that get it
abbrev pub opened : List SlotData → Layout InfoFault Opened
opened pool =
    Then (named pool Package) (λ name.
    Then (Number U2) (λ flags.
    Then (names pool Module) (λ to.
    Value (record { «package» = name; flags = flags; to = to }))))

-- a service that is provided: its name, and the classes that provide it
abbrev pub provides : List SlotData → Layout InfoFault Provides
provides pool =
    Then (named pool Class) (λ service.
    Then (names pool Class) (λ classes.
    Value (record { service = service; classes = classes })))

-- the body of the Module attribute; the main class stands elsewhere
abbrev pub module_layout : List SlotData → Layout InfoFault Descriptor
module_layout pool =
    Then (named pool Module) (λ name.
    Then (Number U2) (λ flags.
    Then (version pool) (λ version.
    Then (listed (need pool)) (λ needs.
    Then (listed (opened pool)) (λ exports.
    Then (listed (opened pool)) (λ opens.
    Then (names pool Class) (λ uses.
    Then (listed (provides pool)) (λ provides.
    Value (record {
      name = name;
      version = version;
      flags = flags;
      needs = needs;
      exports = exports;
      opens = opens;
      uses = uses;
      provides = provides;
      main = None;
    })))))))))
