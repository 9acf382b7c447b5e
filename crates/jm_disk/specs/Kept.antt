-- What the shelf of the system knows to be on the disk (this project's rule).
use Rattle.std.specs.Prelude.{Bool, true, false}
use Rattle.jm_disk.specs.declared.flushing.LastNamed.{LastNamed}
use Rattle.jm_disk.specs.declared.flushing.LastNamed.TheVariants as named

-- the file that took its name last is on the disk, or none took one
abbrev pub is_kept : LastNamed → Bool
is_kept named.Nothing = true
is_kept (named.Unflushed path) = false
is_kept (named.Kept on_disk) = true
