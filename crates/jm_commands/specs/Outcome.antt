-- What comes of an image that is made as plain data, by the image or by its refusal; and what all
-- words do with files before it is known what they come to (this project's rule).
use Rattle.std.specs.Prelude.{ℕ, List, [], ◌∷◌, ◌++◌, true, Result, Ok, Err}
use Rattle.jm_outside.specs.Made.{Writes}
use Rattle.jm_words.specs.declared.errors.WordsFault.{WordsFault}
use Rattle.jm_words.specs.declared.tasks.Command.{Command}
use Rattle.jm_words.specs.declared.tasks.Task.{Task}
use Rattle.jm_words.specs.declared.tasks.Task.TheVariants as task
use Rattle.jm_link.specs.declared.linking.Summary.{Summary}
use Rattle.jm_texts.specs.declared.refusal.Refusal.{Refusal}
use Rattle.jm_link.specs.Linked.{LinkedImage}
use Rattle.jm_link.specs.Links.{summary_of}
use Rattle.jm_inspect.specs.Outcome.{Early, Outcome, made_and_put, reading, refusing, without_files}
use Rattle.jm_commands.specs.Gen.{made_first}

-- `link` and `decompress`: the image stands at the path, and the output says what it has

-- the outcome of an image that was made, by the text on it and by the path that it stands at
abbrev pub linked : (Summary → List ℕ) → List ℕ → LinkedImage → Outcome
linked text output image =
    made_and_put ((output, image.bytes) ∷ []) (text (summary_of image))

-- what comes of an image that is to be made, by that text and that path, and by the image or its
-- refusal
abbrev pub link_outcome : (Summary → List ℕ) → List ℕ → Result LinkedImage Refusal → Outcome
link_outcome text output (Ok image) = linked text output image
link_outcome text output (Err refusal) = refusing refusal

-- `gen`: files are made, and then they are linked

-- an outcome, with files made before
abbrev pub behind : Writes → Outcome → Outcome
behind made due = record {
  status = due.status;
  output = due.output;
  line = due.line;
  writes = made ++ due.writes;
  session = due.session;
}

-- What is done with files before it is known what is due

-- files are read, and these are made
abbrev pub making : Writes → Early
making made = record { writes = made; reads = true }

-- what a task does with files before it is known what it comes to
abbrev pub early_of : Task → Early
early_of (task.Link link) = reading
early_of (task.Image image work) = reading
early_of (task.Decompress decompress) = reading
early_of (task.Gen gen) = making (made_first gen)
early_of (task.Describe file release) = reading
early_of task.Help = without_files
early_of task.Version = without_files

-- what is done of all words with files before it is known what they come to
abbrev pub early_in : Result Command WordsFault → Early
early_in (Ok command) = early_of command.task
early_in (Err fault) = without_files
