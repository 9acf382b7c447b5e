use Rattle.std.proofs.Common.{◌∙◌, ◌++◌, ◌∷◌, [], ap, append_assoc, arith, refl, subst, sym}
use Rattle.std.proofs.lemmas.List.Sums.{sum_by_push}
use Rattle.std.proofs.lemmas.Slice.Zip.{all_zipped_more}
use Rattle.jm_form.specs.Rows.{as_stored}
use Rattle.jm_decompress.specs.declared.resources.StoredResource.{StoredResource}
use Rattle.jm_decompress.specs.Steps.{IsHeldRead, IsStoredRead}
use Rattle.jm_decompress.proofs.held.held_resources.Goals as goal

pub loop-resource-preserved : goal.loop-resource-preserved
loop-resource-preserved g c =
    let before = c.loop-resource.invariant in
    let read = c.in_ok-stored.ensures in
    let told = g.S.Shelf.files c.args.shelf.now in
    let index = c.args.image.index.now in
    let path = c.args.image.path.now in
    let done = c.loop-resource.yielded in
    let r : StoredResource = c.in-Some.resource in
    let rest = c.next.new.self.rest.items in
    let more = sum_by_push (λ (r : StoredResource). (as_stored r.row).size) done r in
    record {
      can = tt;
      ends = tt;
      all = append_assoc done (r ∷ []) rest ∙ ap (λ rs. done ++ rs) (sym c.in-Some.ensures.steps.0) ∙ before.all;
      files = read.files ∙ before.files;
      count = read.faults.kept refl ∙ before.count;
      put = rw c.in_ok-push.ensures.ok (all_zipped_more (IsHeldRead index told path) done c.loop-resource.held r
          (record { resource = r; stored = c.in_ok-stored.stored }) before.put
          (refl, subst (λ t. IsStoredRead index t path r.row c.in_ok-stored.stored) before.files read.read));
      handed = omega (arith, before.handed, read.handed, more);
    }
