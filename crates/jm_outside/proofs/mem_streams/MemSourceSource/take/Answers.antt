use Rattle.std.proofs.Common.{◌≤◌, length, drop, sym, ap, subst, ◌∙◌}
use Rattle.jm_outside.specs.Views.{rest_of}
use Rattle.jm_outside.proofs.Moved.{given_within, moved_on}
use Rattle.jm_outside.proofs.mem_streams.MemSourceSource.take.Goals as goal

pub returns-clause-moved : goal.returns-clause-moved
returns-clause-moved c =
    let n = c.next_count-count.result in
    let source = c.next_count-count.new.self in
    let same = c.next_count-count.ensures.rest in
    let fits : n ≤ length (rest_of c.args.self.now) = rw c.next_count-count.ensures.count (given_within _ _ _) in
    let is = c.split_at.ensures.back ∙ ap (drop source.at) c.as_slice.ensures in
    sym same ∙ moved_on n source.at source.bytes c.split_at.result.1.now c.args.into.now c.copy_front.new.into is
    (subst (λ t. n ≤ length t) (sym (is ∙ same)) fits) c.copy_front.ensures
