-- The commands, their arguments in order and their options, a row each (this project's rule).
use Rattle.std.specs.Prelude.{ℕ, ◌-◌, ◌^◌, Bool, true, false, List, [], ◌∷◌, codes}
use denote.Enum.Bare.{sameb}
use Rattle.jm_words.specs.contracts.tables.Field.{the_type}
use Rattle.jm_words.specs.contracts.tables.Part.{the_type as parts}
use Rattle.jm_words.specs.declared.tables.Field.{Field}
use Rattle.jm_words.specs.declared.tables.Field.TheVariants as field
use Rattle.jm_words.specs.declared.tables.Form.{Form}
use Rattle.jm_words.specs.declared.tables.Form.TheVariants as form
use Rattle.jm_words.specs.declared.tables.Part.{Part}
use Rattle.jm_words.specs.declared.tables.Part.TheVariants as part
use Rattle.jm_words.specs.declared.tables.Verb.{Verb}
use Rattle.jm_words.specs.declared.tables.Verb.TheVariants as verb

-- an argument or an option: its name, the form of its text, the field that it gives, and where the
-- help has which line of it
pub record Row : Type 0 where
  pub name : List ℕ
  pub form : Form
  pub field : Field
  pub part : Part
  pub line : List ℕ

-- a row without a line of its own in the help
abbrev pub row : List ℕ → Form → Field → Row
row name form field =
    record { name = name; form = form; field = field; part = part.None; line = [] }

-- a row with a line among the options
abbrev pub option_row : List ℕ → Form → Field → List ℕ → Row
option_row name form field line =
    record { name = name; form = form; field = field; part = part.Options; line = line }

-- a row with a line among the plug-ins
abbrev pub plugin_row : List ℕ → Form → Field → List ℕ → Row
plugin_row name form field line =
    record { name = name; form = form; field = field; part = part.Plugins; line = line }

-- the image that a command reads
abbrev pub image : Row
image = row (codes "IMAGE") form.Path field.File

-- how many pieces work at the same time
abbrev pub jobs : Row
jobs = option_row (codes "--jobs") form.Number field.Jobs
    (codes "uses up to N threads, from 1 to 64; the output is the same")

-- the file that gets an image
abbrev pub output : Row
output = row (codes "--output") form.Path field.Output

-- up to which release classes are read
abbrev pub release : Row
release = option_row (codes "--release") form.Number field.Release
    (codes "accepts class files up to Java N, from 21 to 25; 21 without it")

-- the patterns of what is taken
abbrev pub include : Row
include = option_row (codes "--include") form.Patterns field.Include
    (codes "takes only the resources whose name matches a pattern of the list")

-- that digests are printed
abbrev pub digests : Row
digests = option_row (codes "--sha256") form.Flag field.Digests
    (codes "prints the SHA-256 of the content of each resource before its size")

-- that the nodes' contents are judged
abbrev pub nodes : Row
nodes = option_row (codes "--nodes") form.Flag field.Nodes
    (codes "also checks the contents of the nodes of the two trees")

-- the name of a command
abbrev pub verb_name : Verb → List ℕ
verb_name verb.Link = codes "link"
verb_name verb.Cat = codes "cat"
verb_name verb.List = codes "list"
verb_name verb.Ls = codes "ls"
verb_name verb.Info = codes "info"
verb_name verb.Extract = codes "extract"
verb_name verb.Verify = codes "verify"
verb_name verb.Decompress = codes "decompress"
verb_name verb.Serve = codes "serve"
verb_name verb.Gen = codes "gen"
verb_name verb.Describe = codes "describe"
verb_name verb.Help = codes "--help"
verb_name verb.Version = codes "--version"

-- all commands
abbrev pub verbs : List Verb
verbs =
    verb.Link ∷ verb.Cat ∷ verb.List ∷ verb.Ls ∷ verb.Info ∷ verb.Extract ∷ verb.Verify
    ∷ verb.Decompress ∷ verb.Serve ∷ verb.Gen ∷ verb.Describe ∷ verb.Help ∷ verb.Version ∷ []

-- the arguments of a command, in order
abbrev pub arguments : Verb → List Row
arguments verb.Cat = image ∷ row (codes "NAME") form.Name field.Name ∷ []
arguments verb.List = image ∷ []
arguments verb.Ls = image ∷ row (codes "PATH") form.InnerPath field.Name ∷ []
arguments verb.Info = image ∷ []
arguments verb.Extract = image ∷ []
arguments verb.Verify = image ∷ []
arguments verb.Decompress = image ∷ []
arguments verb.Serve = image ∷ []
arguments verb.Gen = row (codes "DIR") form.Folder field.Folder ∷ []
arguments verb.Describe = row (codes "FILE") form.Path field.File ∷ []
arguments _ = []

-- the options of a command
abbrev pub options : Verb → List Row
options verb.Link =
    jobs
    ∷ option_row (codes "--module-path") form.Folders field.Directories
    (codes "the directories to find modules in, with colons between them")
    ∷ option_row (codes "--from-image") form.Path field.FromImage
    (codes "the image to find modules in, before the directories of --module-path")
    ∷ option_row (codes "--add-modules") form.Names field.Roots
    (codes "the modules to link; ALL-MODULE-PATH is all of DIRS, or else of the image")
    ∷ output
    ∷ option_row (codes "--endian") form.Order field.Order
    (codes "the byte order of the image: little, or big")
    ∷ option_row (codes "--bind-services") form.Flag field.Bind
    (codes "also links the modules that provide services which linked modules use")
    ∷ release
    ∷ plugin_row (codes "--exclude-resources") form.Patterns field.Exclude
    (codes "leaves out the resources whose name matches a pattern")
    ∷ plugin_row (codes "--order-resources") form.Patterns field.Rank
    (codes "places the resources in the order of the patterns that match their names")
    ∷ plugin_row (codes "--keep-order") form.Flag field.KeepOrder
    (codes "places the resources in the order of the image of --from-image")
    ∷ plugin_row (codes "--strip-java-debug-attributes") form.Flag field.Strip
    (codes "removes debug attributes")
    ∷ plugin_row (codes "--compact-pool") form.Flag field.Compact
    (codes "removes unreferenced constants")
    ∷ plugin_row (codes "--module-packages") form.Flag field.Packages
    (codes "lists the packages of each module in its descriptor")
    ∷ plugin_row (codes "--drop-system-modules") form.Flag field.DropSystemModules
    (codes "removes the classes of java.base that name all modules of another image")
    ∷ []
options verb.List = jobs ∷ include ∷ digests ∷ []
options verb.Extract =
    jobs ∷ row (codes "--dir") form.Folder field.Folder ∷ include ∷ []
options verb.Gen =
    jobs
    ∷ row (codes "--modules") form.Number field.Modules
    ∷ row (codes "--classes") form.Number field.Classes
    ∷ row (codes "--seed") form.Number field.Seed
    ∷ []
options verb.Describe = jobs ∷ release ∷ []
options verb.Verify = jobs ∷ nodes ∷ []
options verb.Decompress = jobs ∷ output ∷ []
options _ = jobs ∷ []

-- the limits of the numbers of a field
abbrev pub limits : Field → ℕ × ℕ
limits field.Jobs = (1, 64)
limits field.Release = (21, 25)
limits field.Modules = (1, 256)
limits field.Classes = (1, 1024)
limits _ = (0, 2 ^ 64 - 1)

-- two parts are one
abbrev pub same_part : Part → Part → Bool
same_part = sameb parts

-- two fields are one
abbrev pub same_field : Field → Field → Bool
same_field = sameb the_type

-- a form is that of an option without a value
abbrev pub is_flag : Form → Bool
is_flag form.Flag = true
is_flag _ = false
