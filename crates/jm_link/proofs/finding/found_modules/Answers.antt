use Rattle.jm_bytes.proofs.ResultLaws.{passed_on}
use Rattle.jm_link.specs.Links.{request_of}
use Rattle.jm_link.proofs.ModuleLaws.{path_stopped, path_visible, set_found}
use Rattle.jm_link.proofs.finding.found_modules.Goals as goal

pub returns-in_err-path-clause-finds : goal.returns-in_err-path-clause-finds
returns-in_err-path-clause-finds g c bytes has =
    rw (passed_on c.from_residual.result _ c.from_residual.ensures.1)
    (path_stopped (request_of c.args.task.now) c.args.task.now.directories bytes c.args.image has _ c.in_err-path.field-0.0
    (rw c.as_slice-directories.ensures at c.in_err-path.ensures.modules))

pub returns-clause-finds : goal.returns-clause-finds
returns-clause-finds g c bytes has =
    set_found (request_of c.args.task.now) c.args.task.now.directories bytes c.args.image has c.requires.image.long _
    c.in_ok-path.path _ (rw c.as_slice-directories.ensures at c.in_ok-path.ensures.modules) c.in_ok-set.ensures.set
    (rw (c.named_of-named.ensures, c.as_slice-directories.ensures, c.as_slice.ensures, c.candidates.ensures, c.as_slice-2.ensures)
    at c.in_ok-roots.ensures)

pub returns-clause-from : goal.returns-clause-from
returns-clause-from g c = record {
  path = c.in_ok-path.path;
  texts = c.in_ok-path.ensures.are.texts;
  below = rw c.as_slice-directories.ensures at c.in_ok-path.ensures.below;
  shown = path_visible c.args.task.now.release c.args.task.now.directories c.in_ok-path.path _
      (rw c.as_slice-directories.ensures at c.in_ok-path.ensures.modules);
  from = c.in_ok-set.ensures.from;
}
