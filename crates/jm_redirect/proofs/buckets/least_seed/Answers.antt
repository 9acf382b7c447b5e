use Rattle.std.proofs.Common.{◌≡◌, ◌++◌, cond, map, refl, sym, subst, ap, ◌∙◌, arith}
use Rattle.std.specs.List.{find}
use Rattle.jm_form.specs.Greedy.{fits}
use Rattle.jm_redirect.specs.Marks.{Marks, slots_sent}
use Rattle.jm_redirect.proofs.SeedLaws.{seeds_all, seed_fits, seed_fails, seeds_gone}
use Rattle.jm_redirect.proofs.buckets.least_seed.Goals as goal

pub loop-seed-init : goal.loop-seed-init
loop-seed-init c = record {
  room = refl;
  marks = λ before marks. marks;
  left = λ before marks. ap (find (fits c.args.slots before (map (λ name. name.now) c.args.bucket.now.names.now))) seeds_all;
}

pub returns-then-mark-clause-seed : goal.returns-then-mark-clause-seed
returns-then-mark-clause-seed c = λ before marks.
    let i = c.loop-seed.invariant in
    let p = fits c.args.slots before (map (λ name. name.now) c.args.bucket.now.names.now) in
    let fit = sym (c.mark.ensures.fits before (i.marks before marks)) ∙ c.if-mark.true in
    sym (i.left before marks ∙ seed_fits p c.loop-seed.seed c.loop-seed-test.true fit)

pub loop-seed-preserved : goal.loop-seed-preserved
loop-seed-preserved c =
    let i = c.loop-seed.invariant in
    record {
      room = c.mark.ensures.room ∙ i.room;
      marks = λ before marks.
          let sent = slots_sent c.args.slots c.loop-seed.seed (map (λ name. name.now) c.args.bucket.now.names.now) in
          subst (λ b. Marks c.mark.new.taken (cond b (sent ++ before) before)) c.if-mark.false (c.mark.ensures.marks before
          (i.marks before marks));
      left = λ before marks.
          let p = fits c.args.slots before (map (λ name. name.now) c.args.bucket.now.names.now) in
          let fails = sym (c.mark.ensures.fits before (i.marks before marks)) ∙ c.if-mark.false in
          i.left before marks ∙ seed_fails p c.loop-seed.seed c.loop-seed-test.true fails;
    }

pub returns-clause-seed : goal.returns-clause-seed
returns-clause-seed c = λ before marks.
    let end : c.loop-seed.seed ≡ 1001 = omega arith in
    sym (c.loop-seed.invariant.left before marks ∙ seeds_gone (fits c.args.slots before (map (λ name. name.now) c.args.bucket.now.names.now))
    c.loop-seed.seed end)
