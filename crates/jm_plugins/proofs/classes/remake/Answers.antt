use Rattle.std.proofs.Common.{sym, subst, rules}
use Rattle.jm_class.proofs.ReadingLaws.{bytes_all}
use Rattle.jm_class.proofs.ReleaseLaws.{class_for-reads}
use Rattle.jm_plugins.specs.Steps.{text_of, RemadeAs}
use Rattle.jm_plugins.proofs.ClassLaws.{compacts_as, strips_as}
use Rattle.jm_plugins.proofs.classes.remake.Goals as goal

pub returns-in-Strip-clause-made : goal.returns-in-Strip-clause-made
returns-in-Strip-clause-made c =
    let name = c.args.name.now in
    let bytes = c.args.bytes.now in
    subst (λ way. RemadeAs c.args.release (text_of way name) bytes c.strip_for.result) (sym c.in-Strip.is)
    (strips_as c.args.release bytes c.strip_for.result c.strip_for.ensures)

pub returns-in-Compact-clause-made : goal.returns-in-Compact-clause-made
returns-in-Compact-clause-made c =
    let name = c.args.name.now in
    let bytes = c.args.bytes.now in
    subst (λ way. RemadeAs c.args.release (text_of way name) bytes c.compact_for.result) (sym c.in-Compact.is)
    (compacts_as c.args.release bytes c.compact_for.result c.compact_for.ensures.computed)

pub returns-in-Packages-clause-made : goal.returns-in-Packages-clause-made
returns-in-Packages-clause-made c = search (rules)

pub returns-in-Strip-clause-read : goal.returns-in-Strip-clause-read
returns-in-Strip-clause-read c = λ class is. class_for-reads c.args.release c.args.bytes.now class (bytes_all c.args.bytes.now
    (λ i. (c.type_inv.bytes i).fits)) is

pub returns-in-Compact-clause-read : goal.returns-in-Compact-clause-read
returns-in-Compact-clause-read c = λ class is. class_for-reads c.args.release c.args.bytes.now class (bytes_all c.args.bytes.now
    (λ i. (c.type_inv.bytes i).fits)) is

pub returns-in-Packages-clause-read : goal.returns-in-Packages-clause-read
returns-in-Packages-clause-read c = λ class is. class_for-reads c.args.release c.args.bytes.now class (bytes_all c.args.bytes.now
    (λ i. (c.type_inv.bytes i).fits)) is
