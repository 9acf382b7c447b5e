-- The constant texts of `--help` and `--version` (this project's rule).
use Rattle.std.specs.Prelude.{ℕ, List, ◌++◌, codes}
use Rattle.jm_words.specs.Help as words

-- the statuses in the help
abbrev pub statuses_text : List ℕ
statuses_text =
    codes "statuses:\n"
    ++ codes "  0 success\n"
    ++ codes "  2 the command line is wrong\n"
    ++ codes "  3 the command refuses its input\n"
    ++ codes "  4 the image is damaged\n"
    ++ codes "  5 the image, the file or the name doesn't exist\n"
    ++ codes "  6 a file or a stream failed\n"
    ++ codes "  7 out of memory\n"
    ++ codes "  8 a session exceeded its limits\n"

-- the text of `--help`: the commands, the options and the plug-ins, and after them the statuses
abbrev pub help_text : List ℕ
help_text = words.help_text ++ statuses_text

-- the text of `--version`
abbrev pub version_text : List ℕ
version_text = codes "jm_tool 1.0.0\n"
