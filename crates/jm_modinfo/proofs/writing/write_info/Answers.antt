use Rattle.std.proofs.Common.{◌≡◌, IfOk, sym, subst}
use Rattle.jm_class.specs.Classes.{ClassData, IsClass, class_text}
use Rattle.jm_modinfo.proofs.WrittenLaws.{info_class-fits, info_class-info, written_ok, info_ok}
use Rattle.jm_modinfo.proofs.writing.write_info.Goals as goal

pub write-requires : goal.write-requires
write-requires c =
    subst IsClass (sym c.in_ok-class.ensures) (info_class-fits c.args.name.now c.args.needs.now c.requires.name c.requires.needs
    c.requires.count)

pub returns-clause-text : goal.returns-clause-text
returns-clause-text c =
    subst (λ (d : ClassData). IfOk c.write.result (λ text. text ≡ class_text d)) c.in_ok-class.ensures c.write.ensures.text

pub returns-clause-reads : goal.returns-clause-reads
returns-clause-reads c =
    written_ok c.args.name.now c.args.needs.now c.write.result (info_class-fits c.args.name.now c.args.needs.now c.requires.name
    c.requires.needs c.requires.count)
    (subst (λ (d : ClassData). IfOk c.write.result (λ text. text ≡ class_text d)) c.in_ok-class.ensures c.write.ensures.text)

pub returns-clause-info : goal.returns-clause-info
returns-clause-info c =
    info_ok c.write.result (info_class-info c.args.name.now c.args.needs.now c.requires.name c.requires.needs
    c.in_ok-body.ensures.flags c.requires.count)
