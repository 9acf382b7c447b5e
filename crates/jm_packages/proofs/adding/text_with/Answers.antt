use Rattle.std.proofs.Common.{sym, subst}
use Rattle.jm_class.specs.Classes.{IsClass}
use Rattle.jm_class.specs.Views.{plain}
use Rattle.jm_packages.proofs.PackagedLaws.{with-class}
use Rattle.jm_packages.proofs.adding.text_with.Goals as goal

pub write-requires : goal.write-requires
write-requires c =
    subst IsClass (sym c.in_ok-made.ensures) (with-class c.args.packages.now (plain c.args.class) c.requires.room c.requires.fits)
