use Rattle.std.proofs.Common.{ℕ, List, subst, sym}
use Rattle.jm_form.specs.Head.{IsFileOf}
use Rattle.jm_form.specs.Validity.{ValidAs}
use Rattle.jm_form.proofs.LocalityLaws.{whole_file}
use Rattle.jm_valid.proofs.image.Image.header.Goals as goal

pub returns : goal.returns
returns c =
    let index = c.self.inside.index in
    let file = subst (λ (n : ℕ). IsFileOf index.bytes n index.bytes) (sym c.self.invariant) (whole_file index.bytes) in
    subst (λ (b : List ℕ). ValidAs b c.header.result) c.self.view_is (c.header.ensures.valid index.bytes file)
