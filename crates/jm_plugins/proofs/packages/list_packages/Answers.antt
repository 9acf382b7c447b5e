use Rattle.std.proofs.Common.{subst, sym}
use Rattle.jm_form.specs.Trees.{module_of}
use Rattle.jm_packages.specs.Packages.{packages_text}
use Rattle.jm_pool.specs.Pairs.{names_of}
use Rattle.jm_plugins.specs.Packaging.{is_descriptor, listing_text, packages_by}
use Rattle.jm_plugins.proofs.ClassLaws.{Comes, same_texts}
use Rattle.jm_plugins.proofs.PackagingLaws.{keys_serve, pairs_read, pairs_stay}
use Rattle.jm_plugins.proofs.packages.list_packages.Goals as goal

pub returns-clause-computed : goal.returns-clause-computed
returns-clause-computed g c =
    let pool = c.args.pool in
    subst (Comes c.remake_classes.result)
    (same_texts c.args.release is_descriptor (λ name class. packages_text (packages_by c.in_ok-keys.keys (module_of name) class) class)
    (listing_text (names_of pool)) pool (rw c.in_ok-keys.ensures (keys_serve c.args.release pool)))
    c.remake_classes.ensures.computed

pub returns-then-branch-clause-computed : goal.returns-then-branch-clause-computed
returns-then-branch-clause-computed g c =
    sym (pairs_stay c.args.release (names_of c.args.pool) c.args.pool (c.in_ok-all_stay.ensures c.if-branch.true))

pub returns-then-branch-clause-read : goal.returns-then-branch-clause-read
returns-then-branch-clause-read g c = pairs_read c.args.release c.args.pool (c.in_ok-all_stay.ensures c.if-branch.true)
