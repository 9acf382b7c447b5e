-- Words come to one outcome, where the files and the rest of the input are told.
use Rattle.std.proofs.Common.{◌≡◌, inl, inr, ℕ, List, [], ◌∷◌, Option, Some, None, Result, Ok, Err, sym, ap, subst, ◌∙◌}
use Rattle.jm_decompress.proofs.OnceLaws.{decompresses_once}
use Rattle.jm_form.specs.Damages.{first_damage, stored_damage}
use Rattle.jm_form.specs.declared.damage.Damage.{Damage}
use Rattle.jm_link.specs.declared.linking.Summary.{Summary}
use Rattle.jm_link.specs.Linked.{LinkedImage, LinksFrom, Request}
use Rattle.jm_link.specs.Links.{ComesTo, path_files, request_of}
use Rattle.jm_link.proofs.OnceLaws.{links_once}
use Rattle.jm_outside.specs.Files.{Files}
use Rattle.jm_outside.specs.Made.{written}
use Rattle.jm_words.specs.declared.errors.WordsFault.{WordsFault}
use Rattle.jm_words.specs.declared.tasks.Command.{Command}
use Rattle.jm_words.specs.declared.tasks.DecompressTask.{DecompressTask}
use Rattle.jm_words.specs.declared.tasks.GenTask.{GenTask}
use Rattle.jm_words.specs.declared.tasks.LinkTask.{LinkTask}
use Rattle.jm_words.specs.declared.tasks.Task.{Task}
use Rattle.jm_words.specs.declared.tasks.Task.TheVariants as task
use Rattle.jm_commands.specs.Gen.{gen_link, made_first}
use Rattle.jm_commands.specs.KeptOrder.{ordered_by}
use Rattle.jm_texts.specs.declared.refusal.Refusal.{Refusal}
use Rattle.jm_outside.specs.Outcome.{Shows}
use Rattle.jm_commands.specs.LinkText.{decompress_text, gen_text, link_text}
use Rattle.jm_inspect.specs.Outcome.{Outcome, describe_outcome, faulty, image_outcome}
use Rattle.jm_commands.specs.Outcome.{behind, link_outcome}
use Rattle.jm_commands.specs.Run.{AskTheSame, DecompressComesTo, GenComesTo, LinkComesBy, LinkComesOf, LinkComesWith}
use Rattle.jm_commands.specs.Run.{TaskComesTo, WordsComeTo}
use Rattle.jm_inspect.specs.Works.{FileComesTo, FoundComesTo, JudgedComes, OpenedComesTo, TextComesTo}

-- what a link of told files comes to
comes_to_once : (files : Files) (image : Option (List ℕ)) (directories : List (List ℕ)) (asked : Request)
    (a b : Result LinkedImage Refusal) → ComesTo (Some files) image directories asked a → ComesTo (Some files) image directories asked b
    → a ≡ b
comes_to_once files image directories asked a b comes comes' = go directories (comes.0) (comes'.0)
  where
    links : List (List ℕ) → Option Files → Result LinkedImage Refusal → Type 0
    links ds shown result = Shows shown (λ told. LinksFrom (record { image = image; files = told; directories = ds }) asked result)

    go : (ds : List (List ℕ)) → links ds (path_files ds (Some files)) a → links ds (path_files ds (Some files)) b → a ≡ b
    go [] = links_once (record { image = image; files = []; directories = [] }) asked a b
    go (d ∷ ds) = links_once (record { image = image; files = files; directories = d ∷ ds }) asked a b

-- what comes of a file or of a text

module _ (one other : Outcome) where
  found_once : (Bytes : List ℕ → Outcome → Type 0) (path : List ℕ) (found : Option (List ℕ))
      → ((b : List ℕ) → Bytes b one → Bytes b other → one ≡ other) → FoundComesTo Bytes path found one
      → FoundComesTo Bytes path found other → one ≡ other
  found_once Bytes path None each is same = is ∙ sym same
  found_once Bytes path (Some b) each is same = each b is same

  file_once : (files : Files) (path : List ℕ) (Bytes : List ℕ → Outcome → Type 0)
      → ((b : List ℕ) → Bytes b one → Bytes b other → one ≡ other) → FileComesTo (Some files) path Bytes one
      → FileComesTo (Some files) path Bytes other → one ≡ other
  file_once files path Bytes each (found, has, is) (found', has', is') =
      found_once Bytes path found' each (subst (λ o. FoundComesTo Bytes path o one) (has ∙ sym has') is) is'

  opened_once : (Sound : Outcome → Type 0) (damage : Option Damage) → (Sound one → Sound other → one ≡ other)
      → OpenedComesTo Sound damage one → OpenedComesTo Sound damage other → one ≡ other
  opened_once Sound None sound is same = sound is same
  opened_once Sound (Some damage) sound is same = is ∙ sym same

  judged_once : (damage_of : List ℕ → Option Damage) (files : Files) (path : List ℕ) (Sound : List ℕ → Outcome → Type 0)
      → ((b : List ℕ) → Sound b one → Sound b other → one ≡ other)
      → JudgedComes damage_of (Some files) path Sound one → JudgedComes damage_of (Some files) path Sound other → one ≡ other
  judged_once damage_of files path Sound sound is same =
      file_once files path (λ b. OpenedComesTo (Sound b) (damage_of b))
      (λ b opened opened'. opened_once (Sound b) (damage_of b) (sound b) opened opened') is same

  text_once : (text : List ℕ) (of_text : List ℕ → Outcome) → TextComesTo (Some text) of_text one → TextComesTo (Some text) of_text other
      → one ≡ other
  text_once text of_text (given, is, due) (given', is', due') = due ∙ ap of_text (is ∙ sym is') ∙ sym due'

  -- what comes of a link

  module _ (text : Summary → List ℕ) (files : Files) where
    of_once : (image : Option (List ℕ)) (link : LinkTask) → LinkComesOf text (Some files) image link one
        → LinkComesOf text (Some files) image link other → one ≡ other
    of_once image link (inl (result, comes, shows, is)) (inl (same, comes', shows', is')) =
        is ∙ ap (link_outcome text link.output) (comes_to_once files image link.directories (request_of link) result same comes comes')
        ∙ sym is'
    of_once image link (inr (listed, never, below, is)) later = absurd never
    of_once image link first (inr (listed, never, below, is)) = absurd never

    by_once : (link : LinkTask) (path : Option (List ℕ)) → LinkComesBy text (Some files) link path one
        → LinkComesBy text (Some files) link path other → one ≡ other
    by_once link None is same = of_once None link is same
    by_once link (Some path) is same =
        judged_once first_damage files path (LinkComesWith text (Some files) link) (λ b. of_once (Some b) (ordered_by b link)) is same

-- what comes of a `decompress`
decompress_once : (decompress : DecompressTask) (b : List ℕ) (one other : Outcome) → DecompressComesTo decompress b one
    → DecompressComesTo decompress b other → one ≡ other
decompress_once decompress b one other (result, comes, shows, is) (same, comes', shows', is') =
    is ∙ ap (link_outcome decompress_text decompress.output) (decompresses_once b result same comes.0 comes'.0) ∙ sym is'

gen_once : (files : Files) (gen : GenTask) (one other : Outcome) → GenComesTo (Some files) gen one → GenComesTo (Some files) gen other
    → one ≡ other
gen_once files gen one other (linked, comes, is) (linked', comes', is') =
    is ∙ ap (behind (made_first gen)) (by_once linked linked' gen_text (written files (made_first gen)) (gen_link gen)
    (gen_link gen).image comes comes') ∙ sym is'

task_once : (files : Files) (text : List ℕ) (given : Task) (one other : Outcome) → TaskComesTo (Some files) (Some text) given one
    → TaskComesTo (Some files) (Some text) given other → one ≡ other
task_once files text (task.Link link) one other is same = by_once one other link_text files link link.image is same
task_once files text (task.Image image work) one other is same =
    judged_once one other first_damage files image (λ b. TextComesTo (Some text) (image_outcome work b))
    (λ b due due'. text_once one other text (image_outcome work b) due due') is same
task_once files text (task.Decompress decompress) one other is same =
    judged_once one other stored_damage files decompress.image (DecompressComesTo decompress)
    (λ b due due'. decompress_once decompress b one other due due') is same
task_once files text (task.Gen gen) one other is same = gen_once files gen one other is same
task_once files text (task.Describe file release) one other is same =
    file_once one other files file (λ b due. due ≡ describe_outcome release file b) (λ b due due'. due ∙ sym due') is same
task_once files text task.Help one other is same = is ∙ sym same
task_once files text task.Version one other is same = is ∙ sym same

-- what is asked for, but for the number of jobs, the files and the rest of the input decide the outcome
pub comes_once : (files : Files) (text : List ℕ) (asked same : Result Command WordsFault) (one other : Outcome) → AskTheSame asked same
    → WordsComeTo (Some files) (Some text) asked one → WordsComeTo (Some files) (Some text) same other → one ≡ other
comes_once files text (Ok command) (Ok second) one other same comes comes' =
    task_once files text second.task one other (subst (λ (t : Task). TaskComesTo (Some files) (Some text) t one) same comes) comes'
comes_once files text (Err fault) (Err second) one other same comes comes' = comes ∙ ap faulty same ∙ sym comes'
comes_once files text (Ok command) (Err fault) one other same comes comes' = absurd same
comes_once files text (Err fault) (Ok command) one other same comes comes' = absurd same
