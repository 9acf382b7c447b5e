use Rattle.std.proofs.Common.{◌<◌, ◌++◌, length, get_or, ap, ◌∙◌, arith}
use Rattle.std.proofs.lemmas.List.{get_or-map, length-map}
use Rattle.std.specs.Option.{option_to_list}
use Rattle.jm_names.specs.Hash.{hash, default_seed}
use Rattle.jm_form.specs.declared.table.Redirect.TheVariants.{Nowhere}
use Rattle.jm_form.specs.Table.{slot_of}
use Rattle.jm_redirect.specs.Built.{redirect_at}
use Rattle.jm_redirect.proofs.TableLaws.{slots_more}
use Rattle.jm_redirect.proofs.building.slots_of.Goals as goal

pub loop-place-preserved : goal.loop-place-preserved
loop-place-preserved c =
    let names = c.args.names.now in
    let redirects = c.args.redirects.now in
    let place = c.loop-place.place in
    let slots = length redirects in
    let d = c.index-names-place.result in
    let named = c.as_slice.ensures ∙ c.index-names-place.is in
    let hashed = ap (λ l. get_or l place 0) c.requires.hashes ∙ get_or-map (hash default_seed) names place d 0 c.loop-place-test.true in
    let hashes = c.args.hashes.now in
    let long = ap length c.requires.hashes ∙ length-map names (hash default_seed) in
    let within : place < length hashes = omega (arith, long, c.loop-place-test.true) in
    let kept = ap (λ l. get_or l place Nowhere) (c.as_slice-given.ensures ∙ c.in_ok-found.ensures)
    ∙ get_or-map (redirect_at redirects) hashes place 0 Nowhere within in
    let slot = c.slot_of-slot.ensures ∙ ap (λ r. slot_of slots c.as_slice.result.now r) kept
    ∙ ap (λ n. slot_of slots n (redirect_at redirects (get_or hashes place 0))) named
    ∙ ap (λ h. slot_of slots (get_or names place d) (redirect_at redirects h)) hashed in
    c.in_ok-push_some.ensures ∙ ap (λ o. c.loop-place.slots ++ option_to_list o) slot ∙ slots_more redirects names place d
    c.loop-place.slots c.loop-place-test.true c.loop-place.invariant
