use Rattle.std.proofs.Common.{◌∙◌, ap, map, List, ℕ}
use Rattle.std.proofs.lemmas.Map.Text.{is_eq-slice_cmp}
use Rattle.std.specs.Cmp.Lexicographic.{nat_list_cmp_total}
use Rattle.std.specs.List.{list_any}
use Rattle.jm_nodes.proofs.OrderLaws.{searched}
use Rattle.jm_nodes.proofs.rising.is_among.Goals as goal

pub returns : goal.returns
returns c =
    c.is_ok.ensures.value
    ∙ searched nat_list_cmp_total (λ text. text.now) c.args.texts.now c.args.text.now c.binary_search.result
    c.binary_search.ensures.bound c.binary_search.ensures.position c.requires
    ∙ ap (λ test. list_any test (map (λ text. text.now) c.args.texts.now)) (λ i (other : List ℕ). is_eq-slice_cmp other c.args.text.now i)
