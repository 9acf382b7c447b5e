use Rattle.std.proofs.Common.{◌≡◌, [], Err, Ok, map, of_calls, rules, ◌∙◌}
use Rattle.jm_relink.specs.Groups.{group_in}
use Rattle.jm_relink.specs.Judging.{groups_due, mapped, seen_in}
use Rattle.jm_relink.specs.Modules.{FindsModules}
use Rattle.jm_relink.proofs.AskedLaws.{found_are}
use Rattle.jm_relink.proofs.FoundLaws.{modules_found, modules_refused, modules_within}
use Rattle.jm_relink.proofs.GatherLaws.{refused_as}
use Rattle.jm_relink.proofs.modules.modules_with.Goals as goal

pub returns-in_err-seen-clause-modules : goal.returns-in_err-seen-clause-modules
returns-in_err-seen-clause-modules c b are read =
    let release = c.args.release in
    let same : c.from_residual.result ≡ Err c.in_err-seen.field-0.0 = search (rules, of_calls) in
    rw same (record {
      modules = refused_as (λ r. groups_due release [] (map (group_in b) c.args.entries) ≡ mapped (map (seen_in b)) r)
          (FindsModules release b) c.in_err-seen.field-0.0 (λ fault due. modules_refused release b c.args.entries fault are due)
          (c.in_err-seen.ensures.seen b are.infos (c.as_slice.ensures ∙ read));
      are = tt;
    })

pub returns-clause-modules : goal.returns-clause-modules
returns-clause-modules c b are read =
    let release = c.args.release in
    let found = c.in_ok-parted.field-0 in
    let parted = c.in_ok-parted.ensures in
    let modules = modules_found release b c.args.entries c.args.infos c.in_ok-seen.seen found are read
    (c.in_ok-seen.ensures.seen b are.infos (c.as_slice.ensures ∙ read)) c.in_ok-seen.ensures.files parted.candidates parted.infos
    parted.files in
    record { modules = modules; are = found_are release b (Ok found) modules }

pub returns-clause-within : goal.returns-clause-within
returns-clause-within c size all =
    modules_within size c.args.entries c.in_ok-parted.field-0 (c.in_ok-parted.ensures.files ∙ c.in_ok-seen.ensures.files) all
