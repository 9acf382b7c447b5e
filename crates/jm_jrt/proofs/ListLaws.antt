-- What is said of an item of the trees, by what it holds.
use Rattle.std.proofs.Common.{◌≡◌, refl, codes}
use Rattle.jm_form.specs.declared.trees.Holds.{Holds}
use Rattle.jm_form.specs.declared.trees.Holds.TheVariants.{Children, Owners}
use Rattle.jm_form.specs.TreeView.{item_of}
use Rattle.jm_jrt.specs.Reply.{item_reply, numbered}
use Rattle.jm_jrt.specs.Views.{count_of}

pub item_reply_of : (holds : Holds) → item_reply (item_of holds) ≡ numbered (codes "folder ") (count_of holds)
item_reply_of (Children names) = refl
item_reply_of (Owners owners) = refl
