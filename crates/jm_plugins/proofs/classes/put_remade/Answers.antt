use Rattle.std.proofs.Common.{◌<◌, All, length, ap, subst, ◌∙◌, rules}
use Rattle.jm_plugins.specs.Steps.{put_remade}
use Rattle.jm_plugins.proofs.ClassLaws.{first_within, put_more, put_refused, put_none, within_more}
use Rattle.jm_plugins.proofs.classes.put_remade.Goals as goal

pub loop-place-init : goal.loop-place-init
loop-place-init c = search (rules)

pub replace-requires : goal.replace-requires
replace-requires c =
    first_within c.in-Some.field-0 c.next.new.self.rest.items c.loop-place.place-iterator.rest.items c.loop-place.pool
    c.in-Some.ensures.steps.0 c.loop-place.invariant.1

pub loop-place-preserved : goal.loop-place-preserved
loop-place-preserved c =
    let pool = c.loop-place.pool in
    let shape = c.in-Some.ensures.steps.0 in
    let later = c.next.new.self.rest.items in
    let so_far = c.loop-place.invariant.0 ∙ ap (λ l. put_remade l pool) shape in
    let within = subst (All (λ one. one.place < length pool)) shape c.loop-place.invariant.1 in (
      put_more c.in-Some.field-0 later pool c.replace.new.self c.in-Ok.text _ c.in-Ok.is c.replace.ensures so_far,
      within_more c.in-Some.field-0 later pool c.replace.new.self c.in-Ok.text c.replace.ensures within,
    )

pub refusal-requires : goal.refusal-requires
refusal-requires c =
    first_within c.in-Some.field-0 c.next.new.self.rest.items c.loop-place.place-iterator.rest.items c.loop-place.pool
    c.in-Some.ensures.steps.0 c.loop-place.invariant.1

pub returns-in-Err : goal.returns-in-Err
returns-in-Err c = search (rules, put_refused)

pub returns : goal.returns
returns c = search (rules, put_none)
