use Rattle.std.proofs.Common.{◌∙◌, ◌∷◌, [], ap, sym, rules}
use Rattle.std.proofs.lemmas.List.Elements.{All-head, All-tail}
use Rattle.jm_modpath.specs.Finding as finding
use Rattle.jm_modpath.specs.Finding.{HasTexts}
use Rattle.jm_modpath.proofs.PathLaws.{nothing_left, with_both, with_none}
use Rattle.jm_modpath.proofs.path.with_unhidden.Goals as goal

pub loop-module-init : goal.loop-module-init
loop-module-init c = search (rules)

pub add_unhidden-requires : goal.add_unhidden-requires
add_unhidden-requires c =
    All-head HasTexts c.in-Some.module c.next.new.self.rest.items (rw c.in-Some.ensures.steps.0 at c.loop-module.invariant.texts)

pub loop-module-preserved : goal.loop-module-preserved
loop-module-preserved c = record {
  can = tt;
  ends = tt;
  texts = All-tail HasTexts c.in-Some.module c.next.new.self.rest.items (rw c.in-Some.ensures.steps.0 at c.loop-module.invariant.texts);
  so_far = rw c.in_ok-all.ensures (with_both c.loop-module.all (c.in-Some.module ∷ []) c.next.new.self.rest.items
      ∙ ap (finding.with_unhidden c.loop-module.all) (sym c.in-Some.ensures.steps.0) ∙ c.loop-module.invariant.so_far);
}

pub returns : goal.returns
returns c = search (rules, nothing_left, with_none)
