use Rattle.std.proofs.Common.{◌≡◌, ℕ, List, Bool, Some, not, length, slice_get, ap, ◌∙◌, rules, of_calls}
use Rattle.std.proofs.lemmas.List.{length-map}
use Rattle.std.specs.List.{range_with_len}
use Rattle.jm_pool.specs.Pairs.{flagged_items}
use Rattle.jm_plugins.specs.Steps.{is_dropped}
use Rattle.jm_plugins.proofs.Beside.{below_count, each_told, flagged_filter, mapped_beside}
use Rattle.jm_plugins.proofs.exclusion.drop_named.Goals as goal

pub map-requires-clause-callable : goal.map-requires-clause-callable
map-requires-clause-callable g c κs within x there lives ptr same room unit fits =
    below_count _ _ x.now (c.as_slice.ensures ∙ c.in_ok-places.ensures ∙ ap (range_with_len 0) c.len.ensures.len) there

pub retain_flags-requires : goal.retain_flags-requires
retain_flags-requires g c =
    let pairs = c.args.pool in
    let stays = λ (pair : List ℕ × List ℕ). not (is_dropped c.args.way pair.0) in
    let places = c.as_slice.ensures ∙ c.in_ok-places.ensures ∙ ap (range_with_len 0) c.len.ensures.len in
    let each = each_told _ _ (λ place (b : Bool). (pair : List ℕ × List ℕ) → slice_get pairs place ≡ Some pair → b ≡ stays pair)
    c.as_slice.result.now _ c.in_ok-keep.keep places (λ x b says. search (rules, of_calls)) c.in_ok-keep.ensures in
    ap length (c.as_slice-2.ensures ∙ mapped_beside stays pairs c.in_ok-keep.keep each) ∙ length-map pairs stays

pub returns : goal.returns
returns g c =
    let pairs = c.args.pool in
    let stays = λ (pair : List ℕ × List ℕ). not (is_dropped c.args.way pair.0) in
    let places = c.as_slice.ensures ∙ c.in_ok-places.ensures ∙ ap (range_with_len 0) c.len.ensures.len in
    let each = each_told _ _ (λ place (b : Bool). (pair : List ℕ × List ℕ) → slice_get pairs place ≡ Some pair → b ≡ stays pair)
    c.as_slice.result.now _ c.in_ok-keep.keep places (λ x b says. search (rules, of_calls)) c.in_ok-keep.ensures in
    c.retain_flags.ensures ∙ ap (λ flags. flagged_items flags pairs) (c.as_slice-2.ensures
    ∙ mapped_beside stays pairs c.in_ok-keep.keep each) ∙ flagged_filter stays pairs
