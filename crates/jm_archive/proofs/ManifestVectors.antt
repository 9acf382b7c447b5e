-- What small manifests say. Of these, OpenJDK's `JarFile.isMultiRelease` answers the same.
use Rattle.std.proofs.Common.{◌≡◌, true, false, codes, refl}
use Rattle.jm_archive.specs.Manifest.{says_multi_release}

plain : says_multi_release (codes "Manifest-Version: 1.0\r\nMulti-Release: true\r\n\r\n") ≡ true
plain = refl

in_any_case : says_multi_release (codes "mULTI-rELEASE: TrUe\r") ≡ true
in_any_case = refl

one_space : says_multi_release (codes "Multi-Release:  true\n") ≡ false
one_space = refl

not_ended : says_multi_release (codes "Multi-Release: true") ≡ false
not_ended = refl

the_last : says_multi_release (codes "Multi-Release: false\nMulti-Release: true\nX: y\n") ≡ true
the_last = refl

not_the_first : says_multi_release (codes "Multi-Release: true\nMulti-Release: false\n") ≡ false
not_the_first = refl

main_section_only : says_multi_release (codes "X: y\n\rMulti-Release: true\n") ≡ false
main_section_only = refl

behind_it : says_multi_release (codes "Multi-Release: true\r\n\nMulti-Release: false\n") ≡ true
behind_it = refl

continued_by_more : says_multi_release (codes "Multi-Release: true\n \n s\n") ≡ false
continued_by_more = refl

continued_by_nothing : says_multi_release (codes "Multi-Release: true\r\n \r\n \r\nX: y\r\n") ≡ true
continued_by_nothing = refl

within_a_line : says_multi_release (codes "X: Multi-Release: true\n") ≡ false
within_a_line = refl
