use Rattle.std.proofs.Common.{◌<◌, All, length, rules, of_calls, subst, sym, ◌∙◌}
use Rattle.std.proofs.lemmas.List.Elements.{All-contains}
use Rattle.jm_plugins.specs.ComputedPlugins.{remade_pairs}
use Rattle.jm_plugins.specs.Steps.{class_places, put_remade, taken_by, text_of, IsRemade, TakenRead}
use Rattle.jm_plugins.proofs.Beside.{each_told}
use Rattle.jm_plugins.proofs.ClassLaws.{answered, classes_within, remade_within, put_all, taken_read, unless_then}
use Rattle.jm_plugins.proofs.classes.remake_classes.Goals as goal

pub map-requires-clause-callable : goal.map-requires-clause-callable
map-requires-clause-callable g c κs few =
    let pool = c.args.pool in
    let below = subst (All (λ place. place < length pool)) (sym (c.as_slice.ensures ∙ c.in_ok-places.ensures))
    (classes_within (taken_by c.args.way) pool) in
    λ x there lifetimes ref_ptr same unit fits more lifetime later. All-contains (λ place. place < length pool) c.as_slice.result.now
    x.now below there

pub put_remade-requires : goal.put_remade-requires
put_remade-requires g c =
    let pool = c.args.pool in
    let own = IsRemade c.args.release (text_of c.args.way) pool in
    let each = each_told _ _ own c.as_slice.result.now _ c.in_ok-remade.remade (c.as_slice.ensures ∙ c.in_ok-places.ensures)
    (λ x b says. search (rules, of_calls)) c.in_ok-remade.ensures in
    remade_within c.args.release (text_of c.args.way) (length pool) pool (class_places (taken_by c.args.way) 0 pool) c.in_ok-remade.remade
    each (classes_within (taken_by c.args.way) pool)

pub returns : goal.returns
returns g c =
    let pool = c.args.pool in
    let release = c.args.release in
    let remade = c.in_ok-remade.remade in
    let takes = taken_by c.args.way in
    let text = text_of c.args.way in
    let each = each_told _ _ (IsRemade release text pool) c.as_slice.result.now _ remade (c.as_slice.ensures ∙ c.in_ok-places.ensures)
    (λ x b says. search (rules, of_calls)) c.in_ok-remade.ensures in
    record {
      computed = unless_then c.put_remade.result (put_remade remade pool) (remade_pairs release takes text pool) c.put_remade.ensures
          (put_all release takes text pool remade each);
      read = answered (TakenRead release takes pool) c.put_remade.result (taken_read release takes text pool remade each);
    }
