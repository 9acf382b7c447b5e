use Rattle.std.proofs.Common.{rules, ◌≡◌, ◌+◌, ◌⊎◌, ◌∙◌}
use Rattle.jm_bytes.specs.declared.faults.Or.TheVariants as due
use Rattle.jm_writer.specs.declared.draft.PlanFault.TheVariants as refusal
use Rattle.jm_form.specs.Layout.{names_of}
use Rattle.jm_nodes.specs.Refusals.{IsRefused}
use Rattle.jm_nodes.specs.declared.trees.NodesFault.TheVariants as unmade
use Rattle.jm_writer.specs.Laid.{CanLay}
use Rattle.jm_writer.proofs.LaidOut.{laid_out}
use Rattle.jm_writer.proofs.PlanLaws.{nodes_few, plan_crowded}
use Rattle.jm_writer.proofs.planning.plan.Goals as goal

pub returns-in-Ok-clause-laid : goal.returns-in-Ok-clause-laid
returns-in-Ok-clause-laid c = λ image apart is within.
    let can : CanLay c.args.pool.now = record {
      differ = c.len-resources.ensures.differ;
      plain =
          record { sound = c.requires.sound; resources = c.requires.resources; apart = apart };
    } in
    laid_out c.args.order c.args.pool.now image can is within

pub returns-in-Err-Memory-clause-laid : goal.returns-in-Err-Memory-clause-laid
returns-in-Err-Memory-clause-laid c = λ image apart is within.
    let can : CanLay c.args.pool.now = record {
      differ = c.len-resources.ensures.differ;
      plain =
          record { sound = c.requires.sound; resources = c.requires.resources; apart = apart };
    } in
    laid_out c.args.order c.args.pool.now image can is within

pub returns-in-Err-Fault-TooMany-clause-laid : goal.returns-in-Err-Fault-TooMany-clause-laid
returns-in-Err-Fault-TooMany-clause-laid c = λ image apart is within.
    let can : CanLay c.args.pool.now = record {
      differ = c.len-resources.ensures.differ;
      plain =
          record { sound = c.requires.sound; resources = c.requires.resources; apart = apart };
    } in
    laid_out c.args.order c.args.pool.now image can is within

pub plan_with-requires-clause-few : goal.plan_with-requires-clause-few
plan_with-requires-clause-few c =
    let nodes = c.as_slice.ensures ∙ c.in-Ok.ensures.nodes in
    nodes_few c.args.pool.now c.as_slice.result.now c.len-resources.result c.saturating_sub.result c.requires.sound nodes
    c.in-Ok.ensures.within c.len-resources.ensures.len c.saturating_sub.ensures

pub returns-in-Err-Fault-TooMany-clause-plans : goal.returns-in-Err-Fault-TooMany-clause-plans
returns-in-Err-Fault-TooMany-clause-plans c =
    let why = c.too_many.result in
    let count = c.len-resources.result in
    let number = c.in-Err-Fault-TooMany.count in
    let told : (why ≡ due.Memory) ⊎ (why ≡ due.Fault (refusal.TooMany (count + number))) = search rules in
    let refused : IsRefused (names_of c.args.pool.now) c.saturating_sub.result (unmade.TooMany number) = search rules in
    plan_crowded c.args.order c.args.pool.now count c.saturating_sub.result number why told c.len-resources.ensures.len
    c.saturating_sub.ensures refused
