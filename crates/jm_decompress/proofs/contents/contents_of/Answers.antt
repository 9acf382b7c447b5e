use Rattle.std.proofs.Common.{List, map, of_calls, refl, rules}
use Rattle.jm_bytes.proofs.Pairs.{pairs_map}
use Rattle.jm_plugins.proofs.Beside.{each_told}
use Rattle.jm_decompress.specs.declared.held.HeldResource.{HeldResource}
use Rattle.jm_decompress.specs.declared.resources.StoredResource.{StoredResource}
use Rattle.jm_decompress.proofs.ContentLaws.{HeldGives, contents_given, gives_each, new_at_each}
use Rattle.jm_decompress.proofs.ResourceLaws.{Apart}
use Rattle.jm_decompress.proofs.contents.contents_of.Goals as goal

pub put_contents-requires : goal.put_contents-requires
put_contents-requires g c =
    let hs : List HeldResource = c.args.held.now in
    let rs : List StoredResource = map (λ h. h.resource) hs in
    let some = c.requires.some in
    let each = each_told _ _ (HeldGives c.args.order c.args.strings.now) hs hs c.in_ok-had.had refl
    (λ x r says. search (rules, of_calls)) c.in_ok-had.ensures in
    new_at_each some.0 rs c.in_ok-had.had (gives_each some.0 c.args.order c.args.strings.now some.1 hs c.in_ok-had.had some.2 each)
    (pairs_map Apart (λ (h : HeldResource). h.resource) hs c.requires.differ)

pub returns : goal.returns
returns g c =
    let hs : List HeldResource = c.args.held.now in
    let rs : List StoredResource = map (λ h. h.resource) hs in
    let each = each_told _ _ (HeldGives c.args.order c.args.strings.now) hs hs c.in_ok-had.had refl
    (λ x r says. search (rules, of_calls)) c.in_ok-had.ensures in
    λ b texts held. contents_given b rs c.in_ok-had.had c.put_contents.result
    (gives_each b c.args.order c.args.strings.now texts hs c.in_ok-had.had held each) c.put_contents.ensures
