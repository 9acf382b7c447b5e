-- A run that relinks an image gives it back.
use Rattle.std.proofs.Common.{◌≡◌, inl, inr, ℕ, List, [], ◌∷◌, Contains, Option, Some, Result, Ok, Err, sym, ap, subst, ◌∙◌}
use Rattle.jm_outside.specs.Made.{MadeAll}
use Rattle.jm_form.specs.Damages.{first_damage}
use Rattle.jm_form.specs.Validity.{Valid}
use Rattle.jm_form.proofs.Validity.{valid_sound}
use Rattle.jm_texts.specs.declared.refusal.Refusal.{Refusal}
use Rattle.jm_link.specs.Linked.{LinkedImage, Request}
use Rattle.jm_link.specs.Links.{ComesTo, request_of}
use Rattle.jm_bytes.proofs.Members.{contains_none}
use Rattle.jm_link.proofs.GivenBack.{never_refused, same_bytes}
use Rattle.jm_link.proofs.MadeFrom.{linked_laid}
use Rattle.jm_outside.specs.Files.{Files, file as read}
use Rattle.jm_outside.specs.Outcome.{Shows}
use Rattle.jm_words.specs.declared.errors.WordsFault.{WordsFault}
use Rattle.jm_words.specs.declared.tasks.Command.{Command}
use Rattle.jm_words.specs.declared.tasks.LinkTask.{LinkTask}
use Rattle.jm_words.specs.declared.tasks.Task.{Task}
use Rattle.jm_words.specs.declared.tasks.Task.TheVariants as task
use Rattle.jm_inspect.specs.declared.status.Status.{Status}
use Rattle.jm_inspect.specs.declared.status.Status.TheVariants as status
use Rattle.jm_commands.specs.LinkText.{link_text}
use Rattle.jm_inspect.specs.Outcome.{Early, Outcome}
use Rattle.jm_commands.specs.Outcome.{link_outcome}
use Rattle.jm_commands.specs.RelinkedRun.{IsRelinked, RelinksFile, RelinksRun, RelinksTask}
use Rattle.jm_commands.specs.KeptOrder.{ordered_by}
use Rattle.jm_commands.specs.Run.{EndsWith, IsFailed, LinkComesBy, LinkComesOf, LinkComesTo, LinkComesWith, RunComesTo, RunDoes, TaskComesTo}
use Rattle.jm_commands.specs.Run.{WordsComeTo}
use Rattle.jm_inspect.specs.Works.{FoundComesTo, HasFile, ImageComes, OpenedComesTo}
use Rattle.jm_inspect.specs.Sinks.{Seen}
use Rattle.jm_inspect.specs.World.{World}
use Rattle.jm_commands.proofs.KeptOrderLaws.{plain_request}

failed_free : (output b : List ℕ) (is : Status) (old new : Option Files) → IsFailed is → IsRelinked output b is old new
failed_free output b is old new (inl same) = subst (λ s. IsRelinked output b s old new) (sym same) tt
failed_free output b is old new (inr same) = subst (λ s. IsRelinked output b s old new) (sym same) tt

module _ (link : LinkTask) (b : List ℕ) where
  -- an outcome that makes these bytes ends so
  ends_so : (early : Early) (due : Outcome) (is : Status) (old new : World) (err new_err : Seen (List ℕ)) → due.status ≡ status.Done → due.writes
      ≡ (link.output, b) ∷ [] → EndsWith early due is old new err new_err → IsRelinked link.output b is old.shelf.told new.shelf.told
  ends_so early due status.Done old new err new_err done writes ends = subst (λ ws. MadeAll ws old.shelf.told new.shelf.told) writes ends.1.files.made
  ends_so early due status.Outside old new err new_err done writes ends = tt
  ends_so early due status.Memory old new err new_err done writes ends = tt
  ends_so early due status.Words old new err new_err done writes ends =
      let never : ◌≡◌ {A = Status} status.Words status.Done = ends.0 ∙ done in cc
  ends_so early due status.Refused old new err new_err done writes ends =
      let never : ◌≡◌ {A = Status} status.Refused status.Done = ends.0 ∙ done in cc
  ends_so early due status.Damaged old new err new_err done writes ends =
      let never : ◌≡◌ {A = Status} status.Damaged status.Done = ends.0 ∙ done in cc
  ends_so early due status.NotThere old new err new_err done writes ends =
      let never : ◌≡◌ {A = Status} status.NotThere status.Done = ends.0 ∙ done in cc
  ends_so early due status.Session old new err new_err done writes ends =
      let never : ◌≡◌ {A = Status} status.Session status.Done = ends.0 ∙ done in cc

  module _ (told : Option Files) (file : RelinksFile link told b) (due : Outcome) where
    abbrev Makes : Type 0
    Makes = (due.status ≡ status.Done) × (due.writes ≡ (link.output, b) ∷ [])

    -- what is due makes these bytes
    by_result : (result : Result LinkedImage Refusal) → ComesTo told (Some b) [] (request_of link) result
        → due ≡ link_outcome link_text link.output result → Makes
    by_result (Ok image) comes is =
        let same = same_bytes b (request_of link) file.relinks image comes.0 in
        (ap (λ (d : Outcome). d.status) is, ap (λ (d : Outcome). d.writes) is ∙ ap (λ x. (link.output, x) ∷ []) same)
    by_result (Err refusal) comes is = absurd (never_refused b (request_of link) file.relinks refusal comes.0)

    valid : Valid b
    valid =
        let was = file.relinks.was in
        subst Valid (sym was.made) (linked_laid file.relinks.source file.relinks.first was.image was.stands was.linked).valid

    -- the link is of the image alone, and no plug-in changes what is asked
    by_alone : LinkComesOf link_text told (Some b) (ordered_by b link) due → Makes
    by_alone (inl (result, comes, shows, is)) =
        let alone = subst (λ (ds : List (List ℕ)). ComesTo told (Some b) ds (request_of (ordered_by b link)) result) file.alone comes in
        by_result result
        (subst (λ (asked : Request). ComesTo told (Some b) [] asked result) (plain_request b link file.relinks.plugins) alone) is
    by_alone (inr (listed, never, below, is)) =
        absurd (contains_none below.0 (subst (λ (ds : List (List ℕ)). Contains ds below.0) file.alone below.1))

    opened : OpenedComesTo (LinkComesWith link_text told link b) (first_damage b) due → Makes
    opened comes = by_alone (subst (λ d. OpenedComesTo (LinkComesWith link_text told link b) d due) (valid_sound b valid) comes)

    found_is : (found : Option (List ℕ)) → HasFile told file.path found → found ≡ Some b
    found_is found has = subst (λ o. Shows o (λ files. found ≡ files_at files)) file.tells has ∙ file.found
      where
        files_at : Files → Option (List ℕ)
        files_at files = read files file.path

    by_image : ImageComes told file.path (LinkComesWith link_text told link) due → Makes
    by_image (found, has, comes) =
        opened (subst (λ o. FoundComesTo (λ bytes. OpenedComesTo (LinkComesWith link_text told link bytes) (first_damage bytes))
        file.path o due) (found_is found has) comes)

    by_link : LinkComesTo link_text told link due → Makes
    by_link comes = by_image (subst (λ o. LinkComesBy link_text told link o due) file.image comes)

module _ (early : Early) (due : Outcome) (is : Status) (old new : World) (err new_err : Seen (List ℕ))
    (does : RunDoes early due is old new err new_err) where
  by_task : (task : Task) → TaskComesTo old.shelf.told old.input.told task due → RelinksTask task is old.shelf.told new.shelf.told
  by_task (task.Link link) comes = λ b file.
      let makes = by_link link b old.shelf.told file due comes in
      ends_so link b early due is old new err new_err makes.0 makes.1 does.ends
  by_task _ comes = tt

  by_words : (asked : Result Command WordsFault) → WordsComeTo old.shelf.told old.input.told asked due
      → RelinksRun asked is old.shelf.told new.shelf.told
  by_words (Ok given) comes = by_task given.task comes
  by_words (Err fault) comes = tt

pub run_relinks : (asked : Result Command WordsFault) (early : Early) (is : Status) (old new : World) (err new_err : Seen (List ℕ))
    → RunComesTo (WordsComeTo old.shelf.told old.input.told asked) early is old new err new_err → RelinksRun asked is old.shelf.told
    new.shelf.told
run_relinks asked early is old new err new_err (inl stops) = go asked
  where
    by_task : (given : Task) → RelinksTask given is old.shelf.told new.shelf.told
    by_task (task.Link link) = λ b file. failed_free link.output b is old.shelf.told new.shelf.told stops.failed
    by_task _ = tt

    go : (given : Result Command WordsFault) → RelinksRun given is old.shelf.told new.shelf.told
    go (Ok command) = by_task command.task
    go (Err fault) = tt
run_relinks asked early is old new err new_err (inr (due, comes, does)) = by_words early due is old new err new_err does asked comes
