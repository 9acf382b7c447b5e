-- The nodes that are made of the tables.
use Rattle.std.proofs.Common.{◌≡◌, ℕ, List, reverse, ap, ◌∙◌}
use Rattle.jm_form.specs.Rising.{rising}
use Rattle.jm_form.specs.declared.trees.TreeNode.{TreeNode}
use Rattle.jm_nodes.specs.Filings.{Filing}
use Rattle.jm_nodes.specs.FrontTrees.{called_all, folders_among, rising_nodes}

pub made_of : (falls nodes : List TreeNode) (table seen_table owned seen_owned : List Filing) (fronts packages : List (List ℕ))
    → falls ≡ reverse nodes → nodes ≡ rising_nodes seen_table fronts seen_owned packages → seen_table ≡ table → seen_owned ≡ owned
    → packages ≡ rising (called_all (folders_among fronts))
    → falls ≡ reverse (rising_nodes table fronts owned (rising (called_all (folders_among fronts))))
made_of falls nodes table seen_table owned seen_owned fronts packages last made same_table same_owned named =
    last ∙ ap reverse (made ∙ (λ i. rising_nodes (same_table i) fronts (same_owned i) (named i)))
