-- What is known of a task that words make (this project's rule).
use Rattle.std.specs.Prelude.{ℕ, ◌≤◌, All, IfSome, IsUtf8}
use Rattle.jm_words.specs.declared.tasks.DecompressTask.{DecompressTask}
use Rattle.jm_words.specs.declared.tasks.GenTask.{GenTask}
use Rattle.jm_words.specs.declared.tasks.ImageWork.{ImageWork}
use Rattle.jm_words.specs.declared.tasks.ImageWork.TheVariants as work
use Rattle.jm_words.specs.declared.tasks.LinkTask.{LinkTask}
use Rattle.jm_words.specs.declared.tasks.Task.{Task}
use Rattle.jm_words.specs.declared.tasks.Task.TheVariants as task

-- the paths of the files and folders that a `link` names are UTF-8
abbrev pub LinkIsText : LinkTask → Type 0
LinkIsText link = All IsUtf8 link.directories × IfSome link.image IsUtf8 × IsUtf8 link.output

-- the paths of the files that a `decompress` names are UTF-8
abbrev pub DecompressIsText : DecompressTask → Type 0
DecompressIsText decompress = IsUtf8 decompress.image × IsUtf8 decompress.output

-- the path of the folder that files are made in is UTF-8
abbrev pub FolderIsText : ImageWork → Type 0
FolderIsText (work.Extract dir include) = IsUtf8 dir
FolderIsText _ = Unit {0}

-- the paths of the files and folders that a task names are UTF-8
abbrev pub FilePathsAreText : Task → Type 0
FilePathsAreText (task.Link link) = LinkIsText link
FilePathsAreText (task.Image image work) = IsUtf8 image × FolderIsText work
FilePathsAreText (task.Decompress decompress) = DecompressIsText decompress
FilePathsAreText (task.Gen gen) = IsUtf8 gen.dir
FilePathsAreText (task.Describe file release) = IsUtf8 file
FilePathsAreText task.Help = Unit {0}
FilePathsAreText task.Version = Unit {0}

-- a release up to which classes are read
abbrev pub IsRelease : ℕ → Type 0
IsRelease release = (21 ≤ release) × (release ≤ 25)

-- the numbers of a `gen` are within its limits
abbrev pub GenFits : GenTask → Type 0
GenFits gen = ((1 ≤ gen.modules) × (gen.modules ≤ 256)) × ((1 ≤ gen.classes) × (gen.classes ≤ 1024))

-- the numbers of a task are within their limits
abbrev pub NumbersFit : Task → Type 0
NumbersFit (task.Link link) = IsRelease link.release
NumbersFit (task.Gen gen) = GenFits gen
NumbersFit (task.Describe file release) = IsRelease release
NumbersFit _ = Unit {0}
