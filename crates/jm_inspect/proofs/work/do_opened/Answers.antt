use Rattle.std.proofs.Common.{◌∙◌, false, refl, sym}
use Rattle.jm_texts.specs.InfoText.{info_text}
use Rattle.jm_outside.specs.Shelves.{shelf_at}
use Rattle.jm_words.specs.declared.tasks.ImageWork.TheVariants as work
use Rattle.jm_inspect.specs.ListText.{list_text}
use Rattle.jm_inspect.specs.VerifyText.{verify_text}
use Rattle.jm_inspect.proofs.ContentLaws.{index_put}
use Rattle.jm_inspect.proofs.work.do_opened.Goals as goal

pub returns-in-Info-clause-comes : goal.returns-in-Info-clause-comes
returns-in-Info-clause-comes g c =
    rw c.in-Info.is (index_put work.Info info_text _ (shelf_at g.S.Shelf c.args.shelf.now) c.args.image.now.front _ _ _ c.requires.there
    (λ b t. refl) c.put_info.ensures)

pub returns-in-Verify-false-clause-comes : goal.returns-in-Verify-false-clause-comes
returns-in-Verify-false-clause-comes g c =
    rw (c.in-Verify-false.is, sym c.in-Verify-false.nodes-is ∙ c.in-Verify-false.nodes-test) (index_put (work.Verify false) verify_text _
    (shelf_at g.S.Shelf c.args.shelf.now) c.args.image.now.front _ _ _ c.requires.there (λ b t. refl) c.put_verified.ensures)

pub returns-in-Verify-true-clause-comes : goal.returns-in-Verify-true-clause-comes
returns-in-Verify-true-clause-comes g c = rw (c.in-Verify-true.is, sym c.in-Verify-true.nodes-is ∙ c.in-Verify-true.nodes-test) c.put_judged.ensures.comes

pub returns-in-List-default-false-clause-comes : goal.returns-in-List-default-false-clause-comes
returns-in-List-default-false-clause-comes g c =
    let include = c.in-List-default-false.include in
    rw (c.in-List-default-false.is, sym c.in-List-default-false.digests-is ∙ c.in-List-default-false.digests-test) (index_put (work.List include false) (λ b. list_text b include) _
    (shelf_at g.S.Shelf c.args.shelf.now) c.args.image.now.front _ _ _ c.requires.there (λ b t. refl) c.put_list.ensures)

pub returns-in-List-default-true-clause-comes : goal.returns-in-List-default-true-clause-comes
returns-in-List-default-true-clause-comes g c =
    rw (c.in-List-default-true.is, sym c.in-List-default-true.digests-is ∙ c.in-List-default-true.digests-test) c.put_digest_list.ensures.comes

pub returns-in-Cat-clause-comes : goal.returns-in-Cat-clause-comes
returns-in-Cat-clause-comes g c = rw (c.in-Cat.is, sym c.as_slice.ensures) c.cat_file.ensures.comes

pub returns-in-Ls-clause-comes : goal.returns-in-Ls-clause-comes
returns-in-Ls-clause-comes g c = rw (c.in-Ls.is, sym c.as_slice-in-Ls.ensures) c.ls_file.ensures.comes

pub returns-in-Extract-clause-comes : goal.returns-in-Extract-clause-comes
returns-in-Extract-clause-comes g c = rw (c.in-Extract.is, sym c.as_slice-in-Extract.ensures) c.extract_file.ensures.comes
