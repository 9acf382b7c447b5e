use Rattle.std.proofs.Common.{rules}
use Rattle.jm_form.proofs.RisingLaws.{items_push}
use Rattle.jm_relink.proofs.PackageLaws.{package_put, rising_again}
use Rattle.jm_relink.proofs.packages.put_package.Goals as goal
use Rattle.jm_relink.proofs.packages.put_package.Goals.{then-not-is_last+in_ok-push, else-not-is_last}

pub returns : goal.returns
returns c = search (rules, items_push, package_put, rising_again, then-not-is_last+in_ok-push, else-not-is_last)
