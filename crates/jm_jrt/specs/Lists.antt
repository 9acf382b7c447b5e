-- The line of a child that is handed out, in a folder by its path in UTF-8.
use Rattle.std.specs.Prelude.{ℕ, List}
use Rattle.jm_jrt.specs.declared.child_list.Child.{Child}
use Rattle.jm_jrt.specs.declared.child_list.Child.TheVariants as child
use Rattle.jm_jrt.specs.Reply.{entry_line, owner_line}

-- the line of a child of the folder at a path
abbrev pub child_line : List ℕ → Child → List ℕ
child_line path (child.Entry name) = entry_line name
child_line path (child.Owner empty «module») =
    owner_line path (record { empty = empty; «module» = «module».now })
