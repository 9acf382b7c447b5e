use Rattle.std.proofs.Common.{◌++◌, [], subst, append_assoc}
use Rattle.jm_form.specs.Layout.{contents_text}
use Rattle.jm_outside.specs.Holds.{Holds, HoldsPart}
use Rattle.jm_writer.proofs.DraftLaws.{draft_image}
use Rattle.jm_bytes.proofs.ResultLaws.{on_err, on_ok_map, on_err_map}
use Rattle.jm_outside.proofs.HoldsLaws.{holds_more, part_added, part_made, part_of_more}
use Rattle.jm_writer.proofs.writing.write.Goals as goal

pub returns-in_err-create-clause-err : goal.returns-in_err-create-clause-err
returns-in_err-create-clause-err g c =
    let d = c.args.draft.now in
    let pool = c.args.pool.now in
    let image = d.index ++ (contents_text pool ++ d.tail) in
    on_err _ c.from_residual.result (
      image,
      draft_image d.order pool d c.requires.draft,
      part_made (g.S.Shelf.files c.args.shelf.now)
          (g.S.Shelf.files c.create.new.self) c.args.path.now image c.in_err-create.ensures.err,
    )

pub returns-in_err-append-clause-err : goal.returns-in_err-append-clause-err
returns-in_err-append-clause-err g c =
    let d = c.args.draft.now in
    let pool = c.args.pool.now in
    let path = c.args.path.now in
    let old = g.S.Shelf.files c.args.shelf.now in
    let new = g.S.Shelf.files c.append.new.self in
    let part : HoldsPart old path c.as_slice.result.now new = part_added old (g.S.Shelf.files c.create.new.self) new path []
    c.as_slice.result.now c.in_ok-create.ensures.ok c.in_err-append.ensures.err in
    on_err _ c.from_residual-in_err-append.result (
      d.index ++ (contents_text pool ++ d.tail),
      draft_image d.order pool d c.requires.draft,
      part_of_more old new path d.index
          (contents_text pool ++ d.tail) (subst (λ l. HoldsPart old path l new) c.as_slice.ensures part),
    )

pub returns-in_err-append_resources-clause-err : goal.returns-in_err-append_resources-clause-err
returns-in_err-append_resources-clause-err g c =
    let d = c.args.draft.now in
    let pool = c.args.pool.now in
    let path = c.args.path.now in
    let old = g.S.Shelf.files c.args.shelf.now in
    let new = g.S.Shelf.files c.append_resources.new.shelf in
    let index : Holds old path d.index (g.S.Shelf.files c.append.new.self) =
    subst (λ l. Holds old path l (g.S.Shelf.files c.append.new.self)) c.as_slice.ensures
    (holds_more old (g.S.Shelf.files c.create.new.self) (g.S.Shelf.files c.append.new.self) path [] c.as_slice.result.now
    c.in_ok-create.ensures.ok c.in_ok-append.ensures.ok) in
    let part = c.in_err-append_resources.ensures.err old d.index index in
    on_err _ c.from_residual-in_err-append_resources.result (
      d.index ++ (contents_text pool ++ d.tail),
      draft_image d.order pool d c.requires.draft,
      subst (λ l. HoldsPart old path l new) (append_assoc d.index (contents_text pool) d.tail) (part_of_more old new path (d.index
          ++ contents_text pool) d.tail part),
    )

pub returns-clause-ok : goal.returns-clause-ok
returns-clause-ok g c =
    let d = c.args.draft.now in
    let pool = c.args.pool.now in
    let path = c.args.path.now in
    let old = g.S.Shelf.files c.args.shelf.now in
    let new = g.S.Shelf.files c.append-2.new.self in
    let index : Holds old path d.index (g.S.Shelf.files c.append.new.self) =
    subst (λ l. Holds old path l (g.S.Shelf.files c.append.new.self)) c.as_slice.ensures
    (holds_more old (g.S.Shelf.files c.create.new.self) (g.S.Shelf.files c.append.new.self) path [] c.as_slice.result.now
    c.in_ok-create.ensures.ok c.in_ok-append.ensures.ok) in
    let contents = c.in_ok-append_resources.ensures.ok old d.index index in
    on_ok_map _ _ c.append-2.result
    (λ is. (
      d.index ++ (contents_text pool ++ d.tail),
      draft_image d.order pool d c.requires.draft,
      subst (λ l. Holds old path l new) (append_assoc d.index (contents_text pool) d.tail)
          (subst (λ l. Holds old path ((d.index ++ contents_text pool) ++ l) new) c.as_slice-2.ensures
          (holds_more old (g.S.Shelf.files c.append_resources.new.shelf) new path (d.index ++ contents_text pool)
          c.as_slice-2.result.now contents is)),
    ))
    c.append-2.ensures.ok

pub returns-clause-err : goal.returns-clause-err
returns-clause-err g c =
    let d = c.args.draft.now in
    let pool = c.args.pool.now in
    let path = c.args.path.now in
    let old = g.S.Shelf.files c.args.shelf.now in
    let new = g.S.Shelf.files c.append-2.new.self in
    let index : Holds old path d.index (g.S.Shelf.files c.append.new.self) =
    subst (λ l. Holds old path l (g.S.Shelf.files c.append.new.self)) c.as_slice.ensures
    (holds_more old (g.S.Shelf.files c.create.new.self) (g.S.Shelf.files c.append.new.self) path [] c.as_slice.result.now
    c.in_ok-create.ensures.ok c.in_ok-append.ensures.ok) in
    let contents = c.in_ok-append_resources.ensures.ok old d.index index in
    on_err_map _ _ c.append-2.result
    (λ told. (
      d.index ++ (contents_text pool ++ d.tail),
      draft_image d.order pool d c.requires.draft,
      subst (λ l. HoldsPart old path l new) (append_assoc d.index (contents_text pool) d.tail)
          (subst (λ l. HoldsPart old path ((d.index ++ contents_text pool) ++ l) new) c.as_slice-2.ensures
          (part_added old (g.S.Shelf.files c.append_resources.new.shelf) new path (d.index ++ contents_text pool)
          c.as_slice-2.result.now contents told)),
    ))
    c.append-2.ensures.err
