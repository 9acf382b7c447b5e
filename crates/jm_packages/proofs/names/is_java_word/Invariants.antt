use Rattle.std.proofs.Common.{◌≡◌, length}
use Rattle.std.specs.List.{list_any, slice_split}
use Rattle.std.specs.Str.{bytes_eq}
use Rattle.jm_packages.specs.PackageNames.{is_space, java_words}
use Rattle.jm_packages.proofs.names.is_java_word.Given as goal

-- the text is one of the words that are left exactly where it is one of all
abbrev pub invariant-loop-word : goal.invariant-loop-word
invariant-loop-word l =
    list_any (λ word. bytes_eq l.text word) (slice_split is_space l.rest)
    ≡ list_any (λ word. bytes_eq l.text word) java_words

abbrev pub decreases-loop-word : goal.decreases-loop-word
decreases-loop-word l = length l.rest
