use Rattle.std.proofs.Common.{rules, ◌≡◌, ◌∷◌, ◌++◌, [], ℕ, List, get_or, map, unwrap_or, ap, ◌∙◌}
use Rattle.jm_bytes.proofs.SameOrder.{mapped_twice}
use Rattle.jm_names.specs.Hash.{hash, default_seed}
use Rattle.jm_form.specs.declared.table.Redirect.TheVariants.{Nowhere}
use Rattle.jm_form.specs.Table.{slot_of}
use Rattle.jm_redirect.specs.Built.{redirect_at}
use Rattle.jm_writer.proofs.LedLaws.{slot_next}
use Rattle.jm_writer.proofs.tail.slots_in.Goals as goal

pub loop-place-preserved : goal.loop-place-preserved
loop-place-preserved c =
    let names = c.args.names.now in
    let table = c.args.table.now in
    let place = c.loop-place.place in
    let given = c.as_slice-given.result.now in
    let slots = c.loop-place.slots in
    let d = c.index-names-place.result in
    let are =
    c.as_slice-given.ensures ∙ c.in_ok-found.ensures
    ∙ ap (λ l. map (redirect_at l) c.as_slice.result.now) c.as_slice-2.ensures
    ∙ ap (map (redirect_at table.redirects)) (c.as_slice.ensures ∙ c.in_ok-hashes.ensures)
    ∙ mapped_twice (redirect_at table.redirects) (hash default_seed) names in
    let named = c.as_slice-in-loop-place.ensures ∙ c.index-names-place.is in
    let value : c.unwrap_or.result ≡ unwrap_or c.slot_of-slot.result 0 = search rules in
    c.in_ok-push.ensures.ok
    ∙ ap (λ (n : ℕ). slots ++ n ∷ []) (value ∙ ap (λ o. unwrap_or o 0) (c.slot_of-slot.ensures
    ∙ ap (λ (n : List ℕ). slot_of table.length n (get_or given place Nowhere)) named))
    ∙ slot_next table names given slots place d Nowhere c.loop-place-test.true are c.loop-place.invariant
