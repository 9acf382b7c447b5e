use Rattle.std.proofs.Common.{◌≡◌, ◌+◌, ◌<◌, List, ℕ, rules}
use Rattle.jm_form.specs.declared.trees.Holds.{Holds}
use Rattle.jm_form.specs.declared.trees.Holds.TheVariants.{Children, Owners}
use Rattle.jm_jrt.specs.declared.child_list.Child.TheVariants as child
use Rattle.jm_jrt.specs.declared.owners.Owned.{Owned}
use Rattle.jm_jrt.specs.Told.{name_told, names_left, owner_told, owners_left, pair_count, word_count, word_of}
use Rattle.jm_jrt.specs.Views.{IsFirst, owner_as}
use Rattle.jm_jrt.proofs.PairLaws.{items_more}
use Rattle.jm_jrt.proofs.child_list.ChildList.step.Goals as goal

first_name : (b content : List ℕ) (next : ℕ) (name : List ℕ) (all : Holds) → Children (names_left b content next) ≡ all
    → next < word_count content → name ≡ name_told b (word_of b content next)
    → IsFirst all (child.Entry name) (Children (names_left b content (next + 1)))
first_name b content next name all is below same = search (rules, items_more)

first_owner : (b content : List ℕ) (next : ℕ) (owner : Owned) (all : Holds) → Owners (owners_left b content next) ≡ all
    → next < pair_count content → owner_as owner ≡ owner_told b content next
    → IsFirst all (child.Owner owner.empty owner.module) (Owners (owners_left b content (next + 1)))
first_owner b content next owner all is below same = search (rules, items_more)

pub returns-in_ok-name-in-Words-clause-child : goal.returns-in_ok-name-in-Words-clause-child
returns-in_ok-name-in-Words-clause-child g c = search (rules, first_name)

pub returns-in_ok-empty-in-Pairs-clause-child : goal.returns-in_ok-empty-in-Pairs-clause-child
returns-in_ok-empty-in-Pairs-clause-child g c = search (rules, first_owner)
