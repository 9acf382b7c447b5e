use Rattle.std.proofs.Common.{◌≡◌, ◌∷◌, ◌++◌, [], refl, rules}
use Rattle.std.proofs.lemmas.Fn.{says_at}
use Rattle.std.specs.Fn.{FnReturnsAt}
use Rattle.jm_halves.proofs.Zipped.{zip_step}
use Rattle.jm_halves.proofs.map.map_slice.Goals as goal

pub loop-item-preserved : goal.loop-item-preserved
loop-item-preserved g c =
    let item = c.item-item in
    let answers = c.loop-item.answers.items in
    let called : FnReturnsAt g.F.Fn c.args.f.now item.result c.f.result = says_at g.F.Fn c.f.ensures refl in
    let pushed : c.push.new.self.items ≡ answers ++ c.f.result ∷ [] = search rules in
    rw pushed
    (zip_step (FnReturnsAt g.F.Fn c.args.f.now) c.args.items.now answers c.loop-item.item-index item.result c.f.result
    c.loop-item-test.true item.is c.loop-item.invariant called)
