-- The flags of a module's class, and of what a module requires (JVMS 4.1, 4.7.25).
use Rattle.std.specs.Prelude.{ℕ, ◌==◌, Bool, not, bit_and}

-- ACC_MODULE: the class is a module's
abbrev pub is_module : ℕ → Bool
is_module access = not (bit_and access 0x8000 == 0)

-- ACC_STATIC_PHASE: needed at compile time, and only where it is there at run time
abbrev pub is_static : ℕ → Bool
is_static flags = not (bit_and flags 0x0040 == 0)
