-- Worked cases of words, computed from the definitions.
use Rattle.std.proofs.Common.{◌≡◌, false, true, [], ◌∷◌, Ok, None, Some, refl}
use Rattle.std.specs.Prelude.{codes}
use Rattle.jm_bytes.specs.declared.words.Order.TheVariants.{Little}
use Rattle.jm_words.specs.declared.tasks.Plugin.TheVariants as plugin
use Rattle.jm_words.specs.declared.tasks.ImageWork.TheVariants as work
use Rattle.jm_words.specs.declared.tasks.Task.TheVariants as task
use Rattle.jm_words.specs.declared.errors.WordsKind.TheVariants as kind
use Rattle.jm_words.specs.declared.tables.Field.TheVariants as field
use Rattle.jm_words.specs.declared.tables.Form.TheVariants as form
use Rattle.jm_words.specs.declared.tables.Verb.TheVariants as verb
use Rattle.jm_words.specs.Roles.{AsArgument, Unknown, ValueFor, Waits, fault_at}
use Rattle.jm_words.specs.Rule.{command_in, fault_of, left_at, role_at}
use Rattle.jm_words.specs.Tables.{jobs, row}

no_word : command_in [] ≡ fault_at 0 kind.NoCommand
no_word = refl

no_command : command_in (codes "zap" ∷ []) ≡ fault_at 1 kind.UnknownCommand
no_command = refl

no_name : command_in (codes "cat" ∷ codes "img" ∷ []) ≡ fault_at 2 kind.Missing
no_name = refl

three_arguments : command_in (codes "cat" ∷ codes "a" ∷ codes "b" ∷ codes "c" ∷ []) ≡ fault_at 4 kind.TooManyArguments
three_arguments = refl

no_jobs : command_in (codes "cat" ∷ codes "a" ∷ codes "b" ∷ codes "--jobs" ∷ codes "0" ∷ []) ≡ fault_at 5 kind.BadValue
no_jobs = refl

output_twice : command_in (codes "link" ∷ codes "--output" ∷ codes "a" ∷ codes "--output" ∷ codes "b" ∷ []) ≡ fault_at 4 kind.Repeated
output_twice = refl

no_value : command_in (codes "cat" ∷ codes "--jobs" ∷ []) ≡ fault_at 2 kind.NoValue
no_value = refl

no_option : command_in (codes "cat" ∷ codes "--zap" ∷ []) ≡ fault_at 2 kind.UnknownOption
no_option = refl

help_with_argument : command_in (codes "--help" ∷ codes "x" ∷ []) ≡ fault_at 2 kind.TooManyArguments
help_with_argument = refl

module_path_twice : command_in (codes "link" ∷ codes "--module-path=m" ∷ codes "--from-image=i" ∷ codes "--module-path=n" ∷ [])
    ≡ fault_at 4 kind.Repeated
module_path_twice = refl

image_twice : command_in (codes "link" ∷ codes "--from-image=i" ∷ codes "--module-path=m" ∷ codes "--from-image" ∷ []) ≡ fault_at 4 kind.Repeated
image_twice = refl

value_before_option : command_in (codes "cat" ∷ codes "--jobs" ∷ codes "--zap" ∷ []) ≡ fault_at 3 kind.BadValue
value_before_option = refl

cat_with_jobs : command_in (codes "cat" ∷ codes "--jobs=2" ∷ codes "img" ∷ codes "/m/a" ∷ [])
    ≡ Ok (record { jobs = 2; task = task.Image (codes "img") (work.Cat (codes "/m/a")) })
cat_with_jobs = refl

link_from_folders : command_in (codes "link" ∷ codes "--module-path=x/:y" ∷ codes "--output" ∷ codes "o"
    ∷ codes "--compact-pool" ∷ codes "--add-modules=a,b" ∷ [])
    ≡ Ok (record {
      jobs = 1;
      task = task.Link (record {
        directories = codes "x" ∷ codes "y" ∷ [];
        image = None;
        roots = codes "a" ∷ codes "b" ∷ [];
        output = codes "o";
        plugins = plugin.Compact ∷ [];
        order = Little;
        bind = false;
        release = 21;
      });
    })
link_from_folders = refl

link_from_both : command_in (codes "link" ∷ codes "--module-path=x/:y" ∷ codes "--from-image" ∷ codes "i" ∷ codes "--output" ∷ codes "o"
    ∷ codes "--keep-order" ∷ codes "--add-modules=a" ∷ [])
    ≡ Ok (record {
      jobs = 1;
      task = task.Link (record {
        directories = codes "x" ∷ codes "y" ∷ [];
        image = Some (codes "i");
        roots = codes "a" ∷ [];
        output = codes "o";
        plugins = plugin.KeepOrder [] ∷ [];
        order = Little;
        bind = false;
        release = 21;
      });
    })
link_from_both = refl

in_other_order : command_in (codes "link" ∷ codes "--add-modules=a" ∷ codes "--keep-order" ∷ codes "--output" ∷ codes "o"
    ∷ codes "--from-image=i" ∷ codes "--module-path" ∷ codes "x:y/" ∷ [])
    ≡ command_in (codes "link" ∷ codes "--module-path=x/:y" ∷ codes "--from-image" ∷ codes "i" ∷ codes "--output" ∷ codes "o"
    ∷ codes "--keep-order" ∷ codes "--add-modules=a" ∷ [])
in_other_order = refl

link_with_packages : command_in (codes "link" ∷ codes "--from-image=i" ∷ codes "--module-packages" ∷ codes "--output" ∷ codes "o"
    ∷ codes "--release=24" ∷ codes "--module-packages" ∷ codes "--add-modules=a" ∷ [])
    ≡ Ok (record {
      jobs = 1;
      task = task.Link (record {
        directories = [];
        image = Some (codes "i");
        roots = codes "a" ∷ [];
        output = codes "o";
        plugins = plugin.Packages ∷ plugin.Packages ∷ [];
        order = Little;
        bind = false;
        release = 24;
      });
    })
link_with_packages = refl

link_of_all_modules : command_in (codes "link" ∷ codes "--from-image=i" ∷ codes "--drop-system-modules" ∷ codes "--output" ∷ codes "o"
    ∷ codes "--drop-system-modules" ∷ codes "--add-modules=ALL-MODULE-PATH,a" ∷ [])
    ≡ Ok (record {
      jobs = 1;
      task = task.Link (record {
        directories = [];
        image = Some (codes "i");
        roots = codes "ALL-MODULE-PATH" ∷ codes "a" ∷ [];
        output = codes "o";
        plugins = plugin.DropSystemModules ∷ plugin.DropSystemModules ∷ [];
        order = Little;
        bind = false;
        release = 21;
      });
    })
link_of_all_modules = refl

order_kept : command_in (codes "link" ∷ codes "--keep-order" ∷ codes "--from-image=i" ∷ codes "--output" ∷ codes "o"
    ∷ codes "--keep-order" ∷ codes "--add-modules=a" ∷ [])
    ≡ Ok (record {
      jobs = 1;
      task = task.Link (record {
        directories = [];
        image = Some (codes "i");
        roots = codes "a" ∷ [];
        output = codes "o";
        plugins = plugin.KeepOrder [] ∷ plugin.KeepOrder [] ∷ [];
        order = Little;
        bind = false;
        release = 21;
      });
    })
order_kept = refl

order_of_no_image : command_in (codes "link" ∷ codes "--module-path=m" ∷ codes "--output" ∷ codes "--keep-order" ∷ codes "--keep-order"
    ∷ codes "--keep-order" ∷ []) ≡ fault_at 5 kind.BadValue
order_of_no_image = refl

order_after_other_faults : command_in (codes "link" ∷ codes "--keep-order" ∷ codes "--zap" ∷ []) ≡ fault_at 3 kind.UnknownOption
order_after_other_faults = refl

order_before_missing : command_in (codes "link" ∷ codes "--keep-order" ∷ []) ≡ fault_at 2 kind.BadValue
order_before_missing = refl

digests_of_some : command_in (codes "list" ∷ codes "--sha256" ∷ codes "img" ∷ [])
    ≡ Ok (record { jobs = 1; task = task.Image (codes "img") (work.List None true) })
digests_of_some = refl

nodes_twice : command_in (codes "verify" ∷ codes "--nodes" ∷ codes "img" ∷ codes "--nodes" ∷ []) ≡ fault_at 4 kind.Repeated
nodes_twice = refl

image_decompressed : command_in (codes "decompress" ∷ codes "--output=o" ∷ codes "img" ∷ codes "--jobs" ∷ codes "4" ∷ [])
    ≡ Ok (record {
      jobs = 4;
      task = task.Decompress (record { image = codes "img"; output = codes "o" });
    })
image_decompressed = refl

decompressed_nowhere : command_in (codes "decompress" ∷ codes "img" ∷ []) ≡ fault_at 2 kind.Missing
decompressed_nowhere = refl

option_again_without_value : command_in (codes "cat" ∷ codes "--jobs=2" ∷ codes "--jobs" ∷ []) ≡ fault_at 3 kind.Repeated
option_again_without_value = refl

flag_with_value : command_in (codes "link" ∷ codes "--bind-services=1" ∷ []) ≡ fault_at 2 kind.BadValue
flag_with_value = refl

number_with_zero : command_in (codes "gen" ∷ codes "--modules=01" ∷ codes "d" ∷ []) ≡ fault_at 2 kind.BadValue
number_with_zero = refl

value_like_option : command_in (codes "extract" ∷ codes "img" ∷ codes "--dir" ∷ codes "--dir/" ∷ [])
    ≡ Ok (record { jobs = 1; task = task.Image (codes "img") (work.Extract (codes "--dir") None) })
value_like_option = refl

no_source : command_in (codes "link" ∷ codes "--add-modules=a" ∷ codes "--output=o" ∷ []) ≡ fault_at 3 kind.Missing
no_source = refl

describe_up_to_25 : command_in (codes "describe" ∷ codes "--release" ∷ codes "25" ∷ codes "c" ∷ [])
    ≡ Ok (record { jobs = 1; task = task.Describe (codes "c") 25 })
describe_up_to_25 = refl

release_below : command_in (codes "describe" ∷ codes "c" ∷ codes "--release=20" ∷ []) ≡ fault_at 3 kind.BadValue
release_below = refl

-- The rule of one word

waiting_option : role_at verb.Cat (codes "--jobs" ∷ codes "--zap" ∷ []) 0 ≡ Waits jobs
waiting_option = refl

value_of_option : role_at verb.Cat (codes "--jobs" ∷ codes "--zap" ∷ []) 1 ≡ ValueFor jobs (codes "--zap")
value_of_option = refl

option_behind_value : role_at verb.Cat (codes "--jobs" ∷ codes "--jobs" ∷ codes "--zap" ∷ []) 2 ≡ Unknown
option_behind_value = refl

second_argument : role_at verb.Cat (codes "img" ∷ codes "--jobs=2" ∷ codes "-" ∷ []) 2 ≡ AsArgument (codes "-")
second_argument = refl

left_for_second : left_at verb.Cat (codes "img" ∷ codes "--jobs=2" ∷ codes "-" ∷ []) 2 ≡ row (codes "NAME") form.Name field.Name ∷ []
left_for_second = refl

again_before_bad : fault_of verb.Cat (codes "--jobs=2" ∷ codes "--jobs=0" ∷ []) 1 ≡ Some (record { at = 3; kind = kind.Repeated })
again_before_bad = refl

bad_value : fault_of verb.Cat (codes "--jobs=0" ∷ codes "--zap" ∷ []) 0 ≡ Some (record { at = 2; kind = kind.BadValue })
bad_value = refl

value_at_end : fault_of verb.Cat (codes "img" ∷ codes "--jobs" ∷ []) 1 ≡ Some (record { at = 3; kind = kind.NoValue })
value_at_end = refl

sound_word : fault_of verb.Cat (codes "img" ∷ codes "--jobs" ∷ codes "1" ∷ []) 1 ≡ None
sound_word = refl
