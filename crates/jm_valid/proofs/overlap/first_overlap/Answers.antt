use Rattle.std.proofs.Common.{◌<◌, ◌∙◌, sym, ap, option_map}
use Rattle.std.proofs.lemmas.List.Sorted.{All-permutation}
use Rattle.jm_form.specs.declared.ranges.Range.{Range}
use Rattle.jm_form.specs.declared.damage.Damage.TheVariants as damage
use Rattle.jm_valid.proofs.LeastRanges.{least_meet, none_meets}
use Rattle.jm_valid.proofs.Sorting.{sorted_follow}
use Rattle.jm_valid.proofs.overlap.first_overlap.Goals as goal

pub least_meeting-requires-clause-order : goal.least_meeting-requires-clause-order
least_meeting-requires-clause-order c = sorted_follow c.args.ranges.now c.sort_unstable.new.self c.requires.rising
    c.sort_unstable.ensures.permutation c.sort_unstable.ensures.sorted

pub least_meeting-requires-clause-some : goal.least_meeting-requires-clause-some
least_meeting-requires-clause-some c = All-permutation (λ (r : Range). r.start < r.end) c.args.ranges.now c.sort_unstable.new.self
    c.sort_unstable.ensures.permutation c.requires.some

pub returns-in_err-first : goal.returns-in_err-first
returns-in_err-first c =
    c.from_residual.ensures
    ∙ sym (ap (option_map (λ o. damage.Overlap o.0 o.1)) (none_meets c.args.ranges.now c.sort_unstable.new.self
    c.sort_unstable.ensures.permutation c.in_err-first.ensures))

pub returns : goal.returns
returns c =
    sym (ap (option_map (λ o. damage.Overlap o.0 o.1)) (least_meet c.args.ranges.now c.sort_unstable.new.self c.in_ok-first.first
    c.in_ok-second.second c.requires.rising c.sort_unstable.ensures.permutation c.in_ok-first.ensures c.in_ok-second.ensures))
