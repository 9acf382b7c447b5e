use Rattle.std.proofs.Common.{Err, ap, refl}
use Rattle.jm_bytes.proofs.ResultLaws.{passed_on}
use Rattle.jm_outside.specs.Shelves.{ShelfSeen, shelf_at}
use Rattle.jm_plugins.specs.Plugins.{Applies}
use Rattle.jm_link.specs.declared.linking.LinkStop.{LinkStop}
use Rattle.jm_link.specs.Linked.{Request, plugging_refusal}
use Rattle.jm_link.specs.Links.{PoolComesTo}
use Rattle.jm_link.proofs.FiledLinkLaws.{stopped}
use Rattle.jm_link.proofs.LinkingLaws.{ended, fit_left, image_written, links_as, links_sooner, refused, unplugged}
use Rattle.jm_reader.specs.Look.{head}
use Rattle.jm_decompress.specs.Decompressed.{AreContents, DecompressComes}
use Rattle.jm_decompress.specs.Steps.{IsRefusedBy, told_as}
use Rattle.jm_decompress.proofs.DecompressLaws.{asked, contents_fit, judged_comes, packed_comes, pool_comes, texts_of}
use Rattle.jm_decompress.proofs.HeldLaws.{held_apart}
use Rattle.jm_decompress.proofs.ResourceLaws.{resources_differ}
use Rattle.jm_decompress.proofs.decompressing.decompress.Goals as goal

pub returns-in_err-held-clause-does : goal.returns-in_err-held-clause-does
returns-in_err-held-clause-does g c =
    let held = c.in_err-held.ensures in
    let b = held.holds.bytes in
    rw (passed_on c.from_residual.result _ c.from_residual.ensures.1)
    (record {
      bytes = b;
      filed = held.holds.filed;
      does = stopped (DecompressComes b) ⊥ (IsRefusedBy b) c.args.output.now c.in_err-held.field-0.0 (shelf_at g.S.Shelf c.args.shelf.now)
          (shelf_at g.S.Shelf c.held_image.new.shelf) held.files held.holds.gives (judged_comes b)
          (λ is. held.faults.rose (ap (λ (s : LinkStop). Err s) is));
      takes = held.holds.takes;
    })

pub contents_of-requires-clause-differ : goal.contents_of-requires-clause-differ
contents_of-requires-clause-differ g c κs few =
    let holds = c.in_ok-held.ensures.holds in
    rw c.as_slice.ensures
    (held_apart c.in_ok-held.held.resources (resources_differ holds.bytes (told_as c.in_ok-held.held).resources
    holds.gives.told.named))

pub contents_of-requires-clause-some : goal.contents_of-requires-clause-some
contents_of-requires-clause-some g c κs few =
    let holds = c.in_ok-held.ensures.holds in
    let b = holds.bytes in (
      b,
      texts_of b c.header-order.result _ (c.header-order.ensures.sound b holds.filed.0)
          (c.strings_of-strings.ensures.strings b holds.filed.0),
      rw c.as_slice.ensures holds.gives.bytes,
    )

pub returns-in_err-contents-clause-does : goal.returns-in_err-contents-clause-does
returns-in_err-contents-clause-does g c =
    let old : ShelfSeen = shelf_at g.S.Shelf c.args.shelf.now in
    let new : ShelfSeen = shelf_at g.S.Shelf c.held_image.new.shelf in
    let held = c.in_ok-held.ensures in
    let b = held.holds.bytes in
    let texts = texts_of b c.header-order.result _ (c.header-order.ensures.sound b held.holds.filed.0)
    (c.strings_of-strings.ensures.strings b held.holds.filed.0) in
    let told = told_as c.in_ok-held.held in
    let given = c.in_err-contents.field-0.0 in
    rw (passed_on c.from_residual-in_err-contents.result _ c.from_residual-in_err-contents.ensures.1)
    (record {
      bytes = b;
      filed = held.holds.filed;
      does = ended (DecompressComes b) ⊥ c.args.output.now old new held.files (λ r. AreContents b told.resources (Err r)) given
          ((rw c.as_slice.ensures at c.in_err-contents.ensures) b texts held.holds.gives.bytes)
          (packed_comes b told held.holds.gives.told);
      takes = held.holds.takes;
    })

pub returns-in_err-left-clause-does : goal.returns-in_err-left-clause-does
returns-in_err-left-clause-does g c =
    let old : ShelfSeen = shelf_at g.S.Shelf c.args.shelf.now in
    let new : ShelfSeen = shelf_at g.S.Shelf c.held_image.new.shelf in
    let held = c.in_ok-held.ensures in
    let b = held.holds.bytes in
    let texts = texts_of b c.header-order.result _ (c.header-order.ensures.sound b held.holds.filed.0)
    (c.strings_of-strings.ensures.strings b held.holds.filed.0) in
    let told = told_as c.in_ok-held.held in
    let contents = c.in_ok-contents.contents in
    let had = (rw c.as_slice.ensures at c.in_ok-contents.ensures) b texts held.holds.gives.bytes in
    let request : Request = asked (head b).order told.order in
    rw (passed_on c.from_residual-in_err-left.result _ c.from_residual-in_err-left.ensures.1)
    (record {
      bytes = b;
      filed = held.holds.filed;
      does = refused (DecompressComes b) ⊥ c.args.output.now old new held.files plugging_refusal
          (Applies request.release request.plugins contents) c.in_err-left.field-0.0 c.in_err-left.ensures
          (λ fault applies. pool_comes b told held.holds.gives.told contents had (Err (plugging_refusal fault))
          (unplugged request 0 contents fault applies));
      takes = held.holds.takes;
    })

pub write_image-requires-clause-fit : goal.write_image-requires-clause-fit
write_image-requires-clause-fit g c =
    let held = c.in_ok-held.ensures in
    let b = held.holds.bytes in
    let texts = texts_of b c.header-order.result _ (c.header-order.ensures.sound b held.holds.filed.0)
    (c.strings_of-strings.ensures.strings b held.holds.filed.0) in
    let told = told_as c.in_ok-held.held in
    let contents = c.in_ok-contents.contents in
    let had = (rw c.as_slice.ensures at c.in_ok-contents.ensures) b texts held.holds.gives.bytes in
    let request : Request = asked (head b).order told.order in
    fit_left request.release request.plugins contents c.in_ok-left.left c.in_ok-left.ensures
    (contents_fit b told held.holds.gives.told contents had)

pub returns-clause-does : goal.returns-clause-does
returns-clause-does g c =
    let path = c.args.output.now in
    let old : ShelfSeen = shelf_at g.S.Shelf c.args.shelf.now in
    let now : ShelfSeen = shelf_at g.S.Shelf c.held_image.new.shelf in
    let new : ShelfSeen = shelf_at g.S.Shelf c.write_image.new.shelf in
    let held = c.in_ok-held.ensures in
    let b = held.holds.bytes in
    let texts = texts_of b c.header-order.result _ (c.header-order.ensures.sound b held.holds.filed.0)
    (c.strings_of-strings.ensures.strings b held.holds.filed.0) in
    let told = told_as c.in_ok-held.held in
    let contents = c.in_ok-contents.contents in
    let had = (rw c.as_slice.ensures at c.in_ok-contents.ensures) b texts held.holds.gives.bytes in
    let request : Request = asked (head b).order told.order in
    let left = c.in_ok-left.left in
    let fit = fit_left request.release request.plugins contents left c.in_ok-left.ensures
    (contents_fit b told held.holds.gives.told contents had) in
    record {
      bytes = b;
      filed = held.holds.filed;
      does = links_sooner (DecompressComes b) ⊥ path old now new held.files (held.faults.kept refl) c.write_image.result
          (links_as (PoolComesTo request 0 contents) (DecompressComes b) ⊥ ⊥ path c.write_image.result now new
          (pool_comes b told held.holds.gives.told contents had) (λ never. never)
          (image_written request 0 contents left c.in_ok-left.ensures fit path c.write_image.result now new
          (rw texts.order at c.write_image.ensures.writes)));
      takes = rw c.write_image.ensures.handed held.holds.takes;
    }
