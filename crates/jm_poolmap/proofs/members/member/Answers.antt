use Rattle.std.proofs.Common.{arith}
use Rattle.jm_class.specs.Classes.{utf8_at}
use Rattle.jm_class.specs.Views.{pool_of}
use Rattle.jm_poolmap.proofs.members.member.Goals as goal

pub returns-in_err-site : goal.returns-in_err-site
returns-in_err-site c =
    let texts = utf8_at (pool_of c.args.class.now.pool) in
    grind (arith, c.in_err-site.ensures texts)

pub returns-in_err-site-2 : goal.returns-in_err-site-2
returns-in_err-site-2 c =
    let texts = utf8_at (pool_of c.args.class.now.pool) in
    grind (arith, c.in_ok-site.ensures texts, c.in_err-site-2.ensures texts)

pub returns : goal.returns
returns c =
    let texts = utf8_at (pool_of c.args.class.now.pool) in
    grind (arith, c.in_ok-site.ensures texts, c.in_ok-site-2.ensures texts)
