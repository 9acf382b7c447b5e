-- What `gen` does, from what its calls answered.
use Rattle.std.proofs.Common.{◌≡◌, ◌⊎◌, inl, inr, IsTrue, ℕ, List, [], ◌++◌, ◌∷◌, Option, None, Result, Ok, Err, refl, subst, append-nil}
use Rattle.jm_outside.specs.Files.{Files}
use Rattle.jm_outside.specs.Shelves.{ShelfSeen}
use Rattle.jm_outside.specs.Made.{MadeAll, MadePart, Writes}
use Rattle.jm_outside.proofs.MadeLaws.{made_append, part_append}
use Rattle.jm_link.specs.declared.linking.LinkStop.{LinkStop}
use Rattle.jm_link.specs.declared.linking.LinkStop.TheVariants as link_stop
use Rattle.jm_link.specs.declared.linking.Summary.{Summary}
use Rattle.jm_link.specs.FiledLinked.{FiledLinks}
use Rattle.jm_link.specs.Links.{request_of}
use Rattle.jm_link.specs.Steps.{AfterStep, LacksBy}
use Rattle.jm_modpath.specs.Listed.{IsBelow}
use Rattle.jm_words.specs.declared.tasks.GenTask.{GenTask}
use Rattle.jm_inspect.specs.declared.stop.Stop.{Stop}
use Rattle.jm_inspect.specs.declared.stop.Stop.TheVariants as stop
use Rattle.jm_commands.specs.Gen.{gen_link, image_path, made_first, modules_path}
use Rattle.jm_commands.specs.LinkText.{gen_text}
use Rattle.jm_inspect.specs.Outcome.{Outcome, done, reading}
use Rattle.jm_commands.specs.Outcome.{behind, making}
use Rattle.jm_inspect.specs.Steps.{Answers, FilesFirst, FilesMade, PutDoes, StandAll, StandSafe, StepComesTo}
use Rattle.jm_commands.specs.Run.{GenComesTo, LinkComesTo}
use Rattle.jm_commands.specs.Stops.{stop_of_link}
use Rattle.jm_inspect.specs.World.{World}
use Rattle.jm_commands.proofs.LinkLaws.{alone_put, alone_stopped}
use Rattle.jm_inspect.proofs.StepLaws.{files_sooner, none_sooner, source_behind, work_sooner}

-- the answer is that of what is due with files made before
answers_behind : (made : Writes) (due : Outcome) (answer : Result (Unit {0}) Stop) → Answers due answer → Answers (behind made due) answer
answers_behind made due (Ok _) is = is
answers_behind made due (Err (stop.Complaint given)) is = is
answers_behind made due (Err stop.Outside) is = tt
answers_behind made due (Err stop.Memory) is = tt

-- files that were made after others
all_behind : (made writes : Writes) (shelf now new : ShelfSeen) → MadeAll made shelf.told now.told → IsTrue new.whole
    → StandAll writes now new → StandAll (made ++ writes) shelf new
all_behind made writes shelf now new first whole more = record {
  made = made_append made writes shelf.told now.told new.told first more.made;
  whole = λ some. whole;
}

-- and whose making was ended
safe_behind : (made writes : Writes) (shelf now new : ShelfSeen) → MadeAll made shelf.told now.told → IsTrue new.whole
    → IsTrue new.durable → StandSafe writes now new → StandSafe (made ++ writes) shelf new
safe_behind made writes shelf now new first whole durable more = record {
  stand = all_behind made writes shelf now new first whole more.stand;
  durable = λ some. durable;
}

-- a step that stopped: what was made stands, unless it failed
abbrev pub Stopped : Result (Unit {0}) Stop → ShelfSeen → Type 0
Stopped (Ok _) new = ⊥
Stopped (Err (stop.Complaint given)) new = IsTrue new.whole
Stopped (Err stop.Outside) new = Unit {0}
Stopped (Err stop.Memory) new = Unit {0}

-- what was made stands and making it was ended, or the step stopped and nothing was put
abbrev pub EndsFiles : Result (Unit {0}) Stop → World → World → Type 0
EndsFiles answer now new =
    (IsTrue new.shelf.whole × IsTrue new.shelf.durable) ⊎ (Stopped answer new.shelf × (new.out.told ≡ now.out.told))

files_behind : (made writes : Writes) (answer : Result (Unit {0}) Stop) (shelf : ShelfSeen) (now new : World)
    → MadeAll made shelf.told now.shelf.told → EndsFiles answer now new → FilesMade answer writes now.shelf new.shelf
    → FilesMade answer (made ++ writes) shelf new.shelf
files_behind made writes (Ok _) shelf now new first (inl (whole, durable)) more =
    safe_behind made writes shelf now.shelf new.shelf first whole durable more
files_behind made writes (Ok _) shelf now new first (inr (stopped, unput)) more = absurd stopped
files_behind made writes (Err (stop.Complaint given)) shelf now new first (inl (whole, durable)) more =
    all_behind made writes shelf now.shelf new.shelf first whole more
files_behind made writes (Err (stop.Complaint given)) shelf now new first (inr (whole, unput)) more =
    all_behind made writes shelf now.shelf new.shelf first whole more
files_behind made writes (Err stop.Outside) shelf now new first ends more = part_append made writes shelf.told now.shelf.told
    new.shelf.told first more
files_behind made writes (Err stop.Memory) shelf now new first ends more = part_append made writes shelf.told now.shelf.told
    new.shelf.told first more

-- the output is put after all of them
first_behind_made : (made writes : Writes) (answer : Result (Unit {0}) Stop) (shelf : ShelfSeen) (now new : World)
    → MadeAll made shelf.told now.shelf.told → EndsFiles answer now new → FilesFirst writes now new
    → StandSafe (made ++ writes) shelf new.shelf ⊎ (new.out.told ≡ now.out.told)
first_behind_made made writes answer shelf now new first (inl (whole, durable)) (inl more) =
    inl (safe_behind made writes shelf now.shelf new.shelf first whole durable more)
first_behind_made made writes answer shelf now new first (inl safe) (inr unput) = inr unput
first_behind_made made writes answer shelf now new first (inr (stopped, unput)) files = inr unput

module _ (made : Writes) (shelf : ShelfSeen) (now new : World) (first : MadeAll made shelf.told now.shelf.told)
    (kept : now.shelf.faults ≡ shelf.faults) where
  abbrev old : World
  old = record { shelf = shelf; input = now.input; out = now.out }

  -- a step after the making of files
  pub step_after : (Due : Outcome → Type 0) (answer : Result (Unit {0}) Stop) → EndsFiles answer now new
      → StepComesTo Due reading answer now new → StepComesTo (λ due. (last : Outcome) × Due last × (due ≡ behind made last))
      (making made) answer old new
  step_after Due answer ends (inl fails) = inl (record {
    failed = fails.failed;
    files = subst (λ (writes : Writes). MadePart writes shelf.told new.shelf.told) (append-nil made) (part_append made [] shelf.told
        now.shelf.told new.shelf.told first fails.files);
    source = fails.source;
    output = fails.output;
    outside = λ failed. files_sooner shelf now new kept reading (making made) refl (fails.outside failed);
  })
  step_after Due answer ends (inr (due, is, step)) = inr (
    behind made due,
    (due, is, refl),
    record {
      answers = answers_behind made due answer step.answers;
      output = step.output;
      files = files_behind made due.writes answer shelf now new first ends step.files;
      files_first = first_behind_made made due.writes answer shelf now new first ends step.files_first;
      source = source_behind shelf now new due.session _ step.source;
      outside = λ failed. work_sooner shelf now new kept reading (making made) refl due.session due.status (step.outside failed);
      none_rose = λ ok. none_sooner shelf now new kept (step.none_rose ok);
    },
  )

-- after a link that stopped
stopped_files : (given : LinkStop) (now new : World) → AfterStep {A = Summary} (IsTrue new.shelf.whole) (Err given) → new.out.told
    ≡ now.out.told → EndsFiles (Err (stop_of_link given)) now new
stopped_files (link_stop.Refused refusal) now new whole unput = inr (whole, unput)
stopped_files (link_stop.NotThere listed) now new whole unput = inr (whole, unput)
stopped_files link_stop.Outside now new whole unput = inr (tt, unput)
stopped_files link_stop.Memory now new whole unput = inr (tt, unput)

-- the link of a `gen`, by what it answered
abbrev pub GenLinks : GenTask → Result Summary LinkStop → (old new : ShelfSeen) → (handed last : ℕ) → Type 0
GenLinks gen answer old new handed last =
    FiledLinks None (modules_path gen ∷ []) (request_of (gen_link gen)) (image_path gen) answer old new handed last

-- by the folder that its modules were made in
pub links_as : (gen : GenTask) (mods : List ℕ) (answer : Result Summary LinkStop) (old new : ShelfSeen) (handed last : ℕ)
    → mods ≡ modules_path gen
    → FiledLinks None (mods ∷ []) (request_of (gen_link gen)) (image_path gen) answer old new handed last
    → GenLinks gen answer old new handed last
links_as gen mods answer old new handed last one links =
    subst (λ (path : List ℕ). FiledLinks None (path ∷ []) (request_of (gen_link gen)) (image_path gen) answer old new handed last) one
    links

-- what it lacks, by this folder
pub lacks_as : (gen : GenTask) (mods : List ℕ) (given : LinkStop) → mods ≡ modules_path gen → LacksBy (IsBelow (mods ∷ [])) given
    → LacksBy (IsBelow (modules_path gen ∷ [])) given
lacks_as gen mods given one = subst (λ (path : List ℕ). LacksBy (IsBelow (path ∷ [])) given) one

module _ (gen : GenTask) (shelf : ShelfSeen) (now new : World) (handed last : ℕ) where
  abbrev before : World
  before = record { shelf = shelf; input = now.input; out = now.out }

  abbrev Does : Result (Unit {0}) Stop → Type 0
  Does answer = StepComesTo (GenComesTo shelf.told gen) (making (made_first gen)) answer before new

  -- the link of all that was made
  linked_after : (answer : Result (Unit {0}) Stop) → MadeAll (made_first gen) shelf.told now.shelf.told → now.shelf.faults
      ≡ shelf.faults → EndsFiles answer now new → StepComesTo (LinkComesTo gen_text now.shelf.told (gen_link gen)) reading answer
      now new → Does answer
  linked_after answer made kept ends step =
      subst (λ (told : Option Files). StepComesTo (λ due. (last : Outcome) × LinkComesTo gen_text told (gen_link gen) last
      × (due ≡ behind (made_first gen) last)) (making (made_first gen)) answer before new) made
      (step_after (made_first gen) shelf now new made kept (LinkComesTo gen_text now.shelf.told (gen_link gen)) answer ends step)

  -- all was made and linked, and then the text was put
  pub gen_put : (summary : Summary) (answer : Result (Unit {0}) Stop) → MadeAll (made_first gen) shelf.told now.shelf.told
      → now.shelf.faults ≡ shelf.faults → new.input ≡ now.input → GenLinks gen (Ok summary) now.shelf new.shelf handed last → PutDoes (done (gen_text summary)) answer now.out new.out → Does answer
  gen_put summary answer made kept input links put =
      linked_after answer made kept (inl (links.links.3.whole, links.links.3.durable)) (alone_put gen_text (gen_link gen) now
      new input refl handed last summary answer links put)

  -- all was made, and the link stopped
  pub gen_stopped : (given : LinkStop) → MadeAll (made_first gen) shelf.told now.shelf.told → now.shelf.faults ≡ shelf.faults
      → new.input ≡ now.input → GenLinks gen (Err given) now.shelf new.shelf handed last → LacksBy (IsBelow (modules_path gen ∷ [])) given → AfterStep {A = Summary} (IsTrue new.shelf.whole) (Err given)
      → new.out.told ≡ now.out.told → Does (Err (stop_of_link given))
  gen_stopped given made kept input links lacks whole unput =
      linked_after (Err (stop_of_link given)) made kept (stopped_files given now new whole unput) (alone_stopped gen_text (gen_link gen)
      now new input refl handed last given links lacks unput)
