use Rattle.std.proofs.Common.{ap₂, sym, ◌∙◌}
use Rattle.std.specs.Cmp.Lexicographic.{slice_cmp}
use Rattle.std.specs.Ordering.{nat_cmp}
use Rattle.jm_filed.proofs.FrontLaws.{by_fronts}
use Rattle.jm_filed.proofs.taken_name.TakenName.order.Goals as goal

pub returns-in_default : goal.returns-in_default
returns-in_default c =
    by_fronts c.self.inside.view c.other.inside.view c.self.inside.front c.other.inside.front c.order_of_fronts.result
    c.self.invariant.numbers c.other.invariant.numbers c.if-self-eq0.false c.if-other-eq0.false
    (sym c.order_of_fronts.ensures) c.in_default.not-Equal c.self.invariant.bytes c.other.invariant.bytes
    ∙ ap₂ (slice_cmp nat_cmp) c.self.view_is c.other.view_is
