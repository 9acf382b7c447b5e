-- What a run did to the source: nothing, but by a session.
use Rattle.std.proofs.Common.{◌≡◌, ◌≢◌, ℕ, zero, suc, List, [], ◌++◌, take, Option, Some, None, option_map, Result}
use Rattle.std.proofs.Common.{Ok, Err, inl, inr, refl, sym, ap, ◌∙◌, subst, append-nil}
use Rattle.jm_bytes.proofs.Choice.{same_some}
use Rattle.jm_outside.specs.Made.{written}
use Rattle.jm_form.specs.declared.damage.Damage.{Damage}
use Rattle.jm_form.specs.Damages.{first_damage, stored_damage}
use Rattle.jm_jrt.specs.Lines.{replies}
use Rattle.jm_jrt.specs.Sessions.{answered_in}
use Rattle.jm_texts.specs.declared.refusal.Refusal.{Refusal}
use Rattle.jm_link.specs.declared.linking.Summary.{Summary}
use Rattle.jm_link.specs.Linked.{LinkedImage}
use Rattle.jm_outside.specs.Files.{Files}
use Rattle.jm_outside.specs.Outcome.{PutsFront, Told}
use Rattle.jm_words.specs.declared.errors.WordsFault.{WordsFault}
use Rattle.jm_words.specs.declared.tasks.Command.{Command}
use Rattle.jm_words.specs.declared.tasks.ImageWork.{ImageWork}
use Rattle.jm_words.specs.declared.tasks.ImageWork.TheVariants as work
use Rattle.jm_words.specs.declared.tasks.LinkTask.{LinkTask}
use Rattle.jm_words.specs.declared.tasks.Task.{Task}
use Rattle.jm_words.specs.declared.tasks.Task.TheVariants as task
use Rattle.jm_inspect.specs.declared.complaint.Complaint.{Complaint}
use Rattle.jm_inspect.specs.declared.status.Status.{Status}
use Rattle.jm_inspect.specs.declared.status.Status.TheVariants as status
use Rattle.jm_commands.specs.Gen.{gen_link, made_first}
use Rattle.jm_commands.specs.LinkText.{decompress_text, gen_text, link_text}
use Rattle.jm_inspect.specs.Outcome.{Early, Outcome, image_outcome, session_outcome, session_with}
use Rattle.jm_commands.specs.Outcome.{link_outcome}
use Rattle.jm_commands.specs.KeptOrder.{ordered_by}
use Rattle.jm_commands.specs.Run.{DecompressComesTo, EndsWith, LinkComesBy, LinkComesOf, LinkComesTo, LinkComesWith, RunComesTo, RunDoes}
use Rattle.jm_commands.specs.Run.{TaskComesTo, WordsComeTo}
use Rattle.jm_inspect.specs.Works.{HasFile, OpenedComesTo, TextComesTo}
use Rattle.jm_commands.specs.Served.{ServesRun, served, served_in}
use Rattle.jm_inspect.specs.SessionHeld.{EndsAs, NotBegun, SourceRead}
use Rattle.jm_inspect.specs.Sinks.{Gets, GetsFront, Seen}
use Rattle.jm_inspect.specs.World.{World}
use Rattle.jm_inspect.proofs.OutcomeLaws.{describe_session, work_session}
use Rattle.jm_inspect.proofs.StepLaws.{not_begun}

-- A session is due of `serve` alone

-- what serves no image is no `serve`
served_none : (image : List ℕ) (does : ImageWork) → served (task.Image image does) ≡ None → does ≢ work.Serve
served_none image does none is = let never : Some image ≡ None = sym (ap (λ d. served (task.Image image d)) is) ∙ none in cc

link_session : (text : Summary → List ℕ) (output : List ℕ) (result : Result LinkedImage Refusal)
    → (link_outcome text output result).session ≡ None
link_session text output (Ok image) = refl
link_session text output (Err refusal) = refl

-- an image is opened, and what comes of it without a damage has no session
opened_session : (Sound : Outcome → Type 0) (due : Outcome) → (Sound due → due.session ≡ None) → (damage : Option Damage)
    → OpenedComesTo Sound damage due → due.session ≡ None
opened_session Sound due alone None comes = alone comes
opened_session Sound due alone (Some damage) is = ap (λ o. o.session) is

-- what a link comes to
of_link_session : (text : Summary → List ℕ) (told : Option Files) (image : Option (List ℕ)) (link : LinkTask) (due : Outcome)
    → LinkComesOf text told image link due → due.session ≡ None
of_link_session text told image link due (inl (result, comes, shows, is)) =
    ap (λ o. o.session) is ∙ link_session text link.output result
of_link_session text told image link due (inr (listed, never, below, is)) = ap (λ o. o.session) is

linked_session : (text : Summary → List ℕ) (told : Option Files) (link : LinkTask) (due : Outcome) → LinkComesTo text told link due
    → due.session ≡ None
linked_session text told link due comes = by link.image comes
  where
    by : (path : Option (List ℕ)) → LinkComesBy text told link path due → due.session ≡ None
    by None comes = of_link_session text told None link due comes
    by (Some path) (None, has, is) = ap (λ o. o.session) is
    by (Some path) (Some b, has, comes) =
        opened_session (LinkComesWith text told link b) due (of_link_session text told (Some b) (ordered_by b link) due) (first_damage b)
        comes

due_session : (told : Option Files) (rest : Option (List ℕ)) (given : Task) (due : Outcome) → served given ≡ None
    → TaskComesTo told rest given due → due.session ≡ None
due_session told rest task.Help due none is = ap (λ o. o.session) is
due_session told rest task.Version due none is = ap (λ o. o.session) is
due_session told rest (task.Describe file release) due none (None, has, is) = ap (λ o. o.session) is
due_session told rest (task.Describe file release) due none (Some b, has, is) = ap (λ o. o.session) is ∙ describe_session release file b
due_session told rest (task.Image image does) due none (None, has, is) = ap (λ o. o.session) is
due_session told rest (task.Image image does) due none (Some b, has, comes) =
    opened_session (TextComesTo rest (image_outcome does b)) due (λ (text, told_text, is). ap (λ o. o.session) is
    ∙ work_session does b text (served_none image does none)) (first_damage b) comes
due_session told rest (task.Link link) due none comes = linked_session link_text told link due comes
due_session told rest (task.Decompress decompress) due none (None, has, is) = ap (λ o. o.session) is
due_session told rest (task.Decompress decompress) due none (Some b, has, comes) =
    opened_session (DecompressComesTo decompress b) due (λ (result, comes, shows, is). ap (λ o. o.session) is
    ∙ link_session decompress_text decompress.output result) (stored_damage b) comes
due_session told rest (task.Gen gen) due none (linked, comes, is) =
    ap (λ o. o.session) is ∙ linked_session gen_text (option_map (λ files. written files (made_first gen)) told) (gen_link gen) linked comes

-- Nothing was put

unput : (old new : Option (List ℕ)) → new ≡ option_map (λ put. put ++ []) old → Told old new (λ before after. after ≡ before)
unput None new is = tt
unput (Some old) None is = cc
unput (Some old) (Some new) is = same_some new (old ++ []) is ∙ append-nil old

none_in_front : (n : ℕ) → ◌≡◌ {A = List ℕ} (take n []) []
none_in_front zero = refl
none_in_front (suc n) = refl

unput_front : (old new : Option (List ℕ)) → Told old new (λ before after. PutsFront before after [])
    → Told old new (λ before after. after ≡ before)
unput_front None new told = tt
unput_front (Some old) None told = told
unput_front (Some old) (Some new) (n, within, is) = is ∙ ap (λ (t : List ℕ). old ++ t) (none_in_front n) ∙ append-nil old

module _ (early : Early) (due : Outcome) (old new : World) (err new_err : Seen (List ℕ)) (nothing : due.output ≡ []) where
  gets_none : Gets due.output old.out new.out → Told old.out.told new.out.told (λ before after. after ≡ before)
  gets_none gets = unput old.out.told new.out.told (subst (λ (t : List ℕ). Gets t old.out new.out) nothing gets)

  front_none : GetsFront due.output old.out new.out → Told old.out.told new.out.told (λ before after. after ≡ before)
  front_none gets = unput_front old.out.told new.out.told (subst (λ (t : List ℕ). GetsFront t old.out new.out) nothing gets)

  ends_unput : (is : Status) → EndsWith early due is old new err new_err → Told old.out.told new.out.told (λ before after. after ≡ before)
  ends_unput status.Outside ends = front_none ends.0.output
  ends_unput status.Memory ends = front_none ends.output
  ends_unput status.Done ends = gets_none ends.1.output
  ends_unput status.Words ends = gets_none ends.1.output
  ends_unput status.Refused ends = gets_none ends.1.output
  ends_unput status.Damaged ends = gets_none ends.1.output
  ends_unput status.NotThere ends = gets_none ends.1.output
  ends_unput status.Session ends = gets_none ends.1.output

-- The run

serve_of : (given : Task) (image : List ℕ) → served given ≡ Some image → given ≡ task.Image image work.Serve
serve_of (task.Image path work.Serve) image is = ap (λ (p : List ℕ). task.Image p work.Serve) (same_some path image is)
serve_of _ image is = cc

session_is : (b output : List ℕ) (fault : Option Complaint) → (session_with b output fault).session ≡ Some b
session_is b output None = refl
session_is b output (Some given) = refl

module _ (early : Early) (due : Outcome) (is : Status) (old new : World) (err new_err : Seen (List ℕ))
    (does : RunDoes early due is old new err new_err) where
  unread : due.session ≡ None → new.input.told ≡ old.input.told
  unread none = subst (λ (o : Option (List ℕ)). SourceRead o (EndsAs is err new_err) old new) none does.source

  unbegun : due.session ≡ None → due.output ≡ [] → NotBegun old new
  unbegun none nothing = record { source = unread none; output = ends_unput early due old new err new_err nothing is does.ends }

  by_damage : (image b : List ℕ) → HasFile old.shelf.told image (Some b) → (damage : Option Damage) → first_damage b ≡ damage
      → OpenedComesTo (TextComesTo old.input.told (session_outcome b)) damage due → ServesRun (Some image) is old new err new_err
  by_damage image b has (Some damage) found same = inl (unbegun (ap (λ o. o.session) same) (ap (λ o. o.output) same))
  by_damage image b has None sound (text, told_text, same) =
      inr (
        b,
        has,
        sound,
        subst (λ (o : Option (List ℕ)). SourceRead o (EndsAs is err new_err) old new) (ap (λ o. o.session) same
            ∙ session_is b (replies b (answered_in text)) _) does.source,
      )

  by_image : (image : List ℕ) → TaskComesTo old.shelf.told old.input.told (task.Image image work.Serve) due
      → ServesRun (Some image) is old new err new_err
  by_image image (None, has, same) = inl (unbegun (ap (λ o. o.session) same) (ap (λ o. o.output) same))
  by_image image (Some b, has, comes) = by_damage image b has (first_damage b) refl comes

  by_task : (given : Task) (session : Option (List ℕ)) → served given ≡ session → TaskComesTo old.shelf.told old.input.told given
      due → ServesRun session is old new err new_err
  by_task given None none comes = unread (due_session old.shelf.told old.input.told given due none comes)
  by_task given (Some image) serves comes =
      by_image image (subst (λ (t : Task). TaskComesTo old.shelf.told old.input.told t due) (serve_of given image serves) comes)

  by_words : (asked : Result Command WordsFault) → WordsComeTo old.shelf.told old.input.told asked due
      → ServesRun (served_in asked) is old new err new_err
  by_words (Ok given) comes = by_task given.task (served given.task) refl comes
  by_words (Err fault) comes = unread (ap (λ o. o.session) comes)

pub run_serves : (asked : Result Command WordsFault) (early : Early) (is : Status) (old new : World) (err new_err : Seen (List ℕ))
    → RunComesTo (WordsComeTo old.shelf.told old.input.told asked) early is old new err new_err → ServesRun (served_in asked) is old
    new err new_err
run_serves asked early is old new err new_err (inl stops) = go (served_in asked)
  where
    go : (session : Option (List ℕ)) → ServesRun session is old new err new_err
    go None = stops.source
    go (Some image) = inl (not_begun old new stops.source stops.output)
run_serves asked early is old new err new_err (inr (due, comes, does)) = by_words early due is old new err new_err does asked comes
