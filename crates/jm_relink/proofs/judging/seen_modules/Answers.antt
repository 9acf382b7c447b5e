use Rattle.std.proofs.Common.{◌≡◌, ◌∷◌, ◌++◌, [], Err, ap, map, of_calls, rules, sym, ◌∙◌}
use Rattle.std.proofs.lemmas.List.{map_push}
use Rattle.jm_modinfo.specs.Descriptions.{info_for}
use Rattle.jm_relink.specs.declared.entries.ModuleEntries.{ModuleEntries}
use Rattle.jm_relink.specs.declared.judging.SeenModule.{SeenModule}
use Rattle.jm_relink.specs.Groups.{group_in}
use Rattle.jm_relink.specs.Judging.{groups_due, mapped, seen_due, seen_in}
use Rattle.jm_relink.proofs.FoundLaws.{as_many, info_at, module_refused, module_seen}
use Rattle.jm_relink.proofs.GatherLaws.{refused_as}
use Rattle.jm_relink.proofs.ListLaws.{taken_more}
use Rattle.jm_relink.proofs.judging.seen_modules.Goals as goal

pub returns-in_err-seen-clause-seen : goal.returns-in_err-seen-clause-seen
returns-in_err-seen-clause-seen c b has read =
    let before = c.loop-module in
    let release = c.args.release in
    let module' = c.in-Some.module in
    let rest = c.next.new.self.rest.items in
    let info = c.as_slice.result.now in
    let step = c.in-Some.ensures.steps.0 in
    let whole = ap (λ ms. before.yielded ++ ms) (sym step) ∙ before.invariant.all in
    let place = c.len.ensures ∙ as_many (λ (s : SeenModule). s.files) (λ (m : ModuleEntries). m.files) before.done before.yielded
    before.invariant.files in
    let is = c.as_slice.ensures ∙ info_at b c.args.modules before.yielded module' rest c.args.infos.now c.index-infos-len.result
    c.len.result read whole place c.index-infos-len.is in
    let same : c.from_residual.result ≡ Err c.in_err-seen.field-0.0 = search (rules, of_calls) in
    rw same (refused_as (λ r. seen_due (group_in b module') (info_for release info) ≡ mapped (seen_in b) r)
    (λ r. groups_due release [] (map (group_in b) c.args.modules) ≡ mapped (map (seen_in b)) r) c.in_err-seen.field-0.0
    (λ fault due. sym (before.invariant.so_far b has read)
    ∙ ap (λ ms. groups_due release (map (seen_in b) before.done) (map (group_in b) ms)) step
    ∙ module_refused release b c.args.modules before.yielded module' rest info whole has is before.done fault due)
    (c.in_err-seen.ensures.seen b))

pub loop-module-preserved : goal.loop-module-preserved
loop-module-preserved c =
    let before = c.loop-module in
    let release = c.args.release in
    let module' = c.in-Some.module in
    let rest = c.next.new.self.rest.items in
    let info = c.as_slice.result.now in
    let step = c.in-Some.ensures.steps.0 in
    let seen = c.in_ok-seen in
    let whole = ap (λ ms. before.yielded ++ ms) (sym step) ∙ before.invariant.all in
    let place = c.len.ensures ∙ as_many (λ (s : SeenModule). s.files) (λ (m : ModuleEntries). m.files) before.done before.yielded
    before.invariant.files in
    record {
      can = tt;
      ends = tt;
      all = taken_more before.yielded before.module-iterator.rest.items rest c.args.modules module' before.invariant.all step;
      files = ap (map (λ (s : SeenModule). s.files)) c.in_ok-push.ensures.ok
          ∙ map_push (λ (s : SeenModule). s.files) before.done seen.field-0
          ∙ ap (λ fs. fs ++ seen.field-0.files ∷ []) before.invariant.files
          ∙ ap (λ fs. map (λ (m : ModuleEntries). m.files) before.yielded ++ fs ∷ []) seen.ensures.files
          ∙ sym (map_push (λ (m : ModuleEntries). m.files) before.yielded module');
      so_far = λ b has read.
          let is = c.as_slice.ensures ∙ info_at b c.args.modules before.yielded module' rest c.args.infos.now
          c.index-infos-len.result
          c.len.result read whole place c.index-infos-len.is in
          module_seen release b c.args.modules before.yielded module' rest info whole has is before.done c.push.new.self
          seen.field-0
          (seen.ensures.seen b) c.in_ok-push.ensures.ok
          ∙ sym (ap (λ ms. groups_due release (map (seen_in b) before.done) (map (group_in b) ms)) step)
          ∙ before.invariant.so_far b has read;
    }
