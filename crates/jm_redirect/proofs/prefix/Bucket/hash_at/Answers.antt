use Rattle.std.proofs.Common.{◌%◌, ◌^◌, ap, ◌∙◌}
use Rattle.jm_redirect.proofs.PrefixLaws.{hashed_at}
use Rattle.jm_redirect.proofs.prefix.Bucket.hash_at.Goals as goal

pub returns : goal.returns
returns c = λ seed is.
    let bucket = c.args.self.now in
    c.hash_of_state.ensures ∙ ap (λ s. s % 2 ^ 31) c.state_after.ensures
    ∙ hashed_at bucket.prefix.now bucket.names.now c.args.at seed c.args.state _ bucket.shared c.requires c.split_at.ensures.back is
