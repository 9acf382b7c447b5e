use Rattle.std.proofs.Common.{rules}
use Rattle.jm_bytes.proofs.ResultLaws.{passed_on}
use Rattle.jm_jrt.proofs.OwnerLaws.{no_owners, no_package, owners_here}
use Rattle.jm_jrt.proofs.StandingLaws.{index_file}
use Rattle.jm_jrt.proofs.TellsLaws.{full_told}
use Rattle.jm_jrt.proofs.TreeLaws.{owner_shown}
use Rattle.jm_jrt.proofs.trees.owner.Goals as goal

pub returns-then-not-is_package-clause-owner : goal.returns-then-not-is_package-clause-owner
returns-then-not-is_package-clause-owner g c = search (rules, no_package)

pub returns-then-not-is_package-clause-trees : goal.returns-then-not-is_package-clause-trees
returns-then-not-is_package-clause-trees g c = search (rules, owner_shown, returns-then-not-is_package-clause-owner)

pub returns-in_default-clause-owner : goal.returns-in_default-clause-owner
returns-in_default-clause-owner g c = search (rules, no_owners)

pub returns-in_default-clause-trees : goal.returns-in_default-clause-trees
returns-in_default-clause-trees g c = search (rules, owner_shown, returns-in_default-clause-owner)

pub returns-in_err-check-clause-owner : goal.returns-in_err-check-clause-owner
returns-in_err-check-clause-owner g c = search (rules, passed_on, owners_here, index_file)

pub returns-in_err-check-clause-trees : goal.returns-in_err-check-clause-trees
returns-in_err-check-clause-trees g c = search (rules, owner_shown, returns-in_err-check-clause-owner)

pub returns-clause-owner : goal.returns-clause-owner
returns-clause-owner g c = search (rules, owners_here, index_file)

pub returns-clause-trees : goal.returns-clause-trees
returns-clause-trees g c = search (rules, owner_shown, returns-clause-owner)

pub returns-then-not-is_package-clause-told : goal.returns-then-not-is_package-clause-told
returns-then-not-is_package-clause-told g c = search (rules, full_told, returns-then-not-is_package-clause-owner)

pub returns-in_default-clause-told : goal.returns-in_default-clause-told
returns-in_default-clause-told g c = search (rules, full_told, returns-in_default-clause-owner)

pub returns-in_err-check-clause-told : goal.returns-in_err-check-clause-told
returns-in_err-check-clause-told g c = search (rules, full_told, returns-in_err-check-clause-owner)

pub returns-clause-told : goal.returns-clause-told
returns-clause-told g c = search (rules, full_told, returns-clause-owner)
