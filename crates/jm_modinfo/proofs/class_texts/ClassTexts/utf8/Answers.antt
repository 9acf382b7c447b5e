use Rattle.jm_class.specs.Views.{pool_of}
use Rattle.jm_modinfo.proofs.KeptLaws.{kept_within, kept_text, kept_more}
use Rattle.jm_modinfo.proofs.class_texts.ClassTexts.utf8.Goals as goal

pub index-requires : goal.index-requires
index-requires c =
    let within = kept_within (pool_of c.self.inside.class.now.pool) c.self.inside.kept.items c.args.index c.in-Some.bytes.now
    c.self.invariant c.in-Some.ensures in
    rw c.from-place.ensures (rw (← c.self.inside.kept.ok.0) at within)

pub returns-in-Some-index-clause-text : goal.returns-in-Some-index-clause-text
returns-in-Some-index-clause-text c =
    rw (c.in_ok-share.ensures, ← c.self.view_is)
    (kept_text (pool_of c.self.inside.class.now.pool) c.self.inside.kept.items c.args.index c.in-Some.bytes.now c.self.invariant
    c.in-Some.ensures c.index.result.now c.in-Some-index.text (rw c.from-place.ensures at c.index.ensures) c.in-Some-index.is)

pub index_mut-requires : goal.index_mut-requires
index_mut-requires c =
    let within = kept_within (pool_of c.self.inside.class.now.pool) c.self.inside.kept.items c.args.index c.in-Some.bytes.now
    c.self.invariant c.in-Some.ensures in
    rw c.from-place.ensures (rw (← c.self.inside.kept.ok.0) at within)

pub invariant_of-self : goal.invariant_of-self
invariant_of-self c =
    rw (c.in_ok-share-2.ensures, c.in_ok-text.ensures, c.from-place.ensures)
    (kept_more (pool_of c.self.inside.class.now.pool) c.self.inside.kept.items c.args.index c.in-Some.bytes.now c.self.invariant
    c.in-Some.ensures)
