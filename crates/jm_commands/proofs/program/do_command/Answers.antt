use Rattle.std.proofs.Common.{◌≡◌, refl}
use Rattle.jm_commands.specs.HelpText.{help_text, version_text}
use Rattle.jm_inspect.specs.Outcome.{done, without_files}
use Rattle.jm_inspect.specs.World.{source_at}
use Rattle.jm_inspect.proofs.StepLaws.{put_comes}
use Rattle.jm_commands.proofs.program.do_command.Goals as goal

pub returns-in-Link-clause-comes : goal.returns-in-Link-clause-comes
returns-in-Link-clause-comes g c = rw c.in-Link.is (c.link_command.ensures.comes (source_at g.I.Source c.args.input.now))

pub returns-in-Link-clause-takes : goal.returns-in-Link-clause-takes
returns-in-Link-clause-takes g c = rw c.in-Link.is c.link_command.ensures.takes

pub returns-in-Image-clause-comes : goal.returns-in-Image-clause-comes
returns-in-Image-clause-comes g c = rw c.in-Image.is c.do_work.ensures.comes

pub returns-in-Image-clause-takes : goal.returns-in-Image-clause-takes
returns-in-Image-clause-takes g c = rw c.in-Image.is c.do_work.ensures.takes

pub returns-in-Decompress-clause-comes : goal.returns-in-Decompress-clause-comes
returns-in-Decompress-clause-comes g c =
    rw c.in-Decompress.is (c.decompress_command.ensures.comes (source_at g.I.Source c.args.input.now))

pub returns-in-Gen-clause-comes : goal.returns-in-Gen-clause-comes
returns-in-Gen-clause-comes g c = rw c.in-Gen.is (c.gen_command.ensures.comes (source_at g.I.Source c.args.input.now))

pub returns-in-Gen-clause-takes : goal.returns-in-Gen-clause-takes
returns-in-Gen-clause-takes g c = rw c.in-Gen.is c.gen_command.ensures.takes

pub returns-in-Describe-clause-comes : goal.returns-in-Describe-clause-comes
returns-in-Describe-clause-comes g c = rw c.in-Describe.is (c.describe_command.ensures.comes _)

pub returns-in-Help-clause-comes : goal.returns-in-Help-clause-comes
returns-in-Help-clause-comes g c = rw c.in-Help.is (put_comes (λ due. due ≡ done help_text) without_files (done help_text) _ _ _
    refl c.help_command.ensures refl refl refl (λ ok. (refl, refl)))

pub returns-in-Version-clause-comes : goal.returns-in-Version-clause-comes
returns-in-Version-clause-comes g c = rw c.in-Version.is (put_comes (λ due. due ≡ done version_text) without_files
    (done version_text) _ _ _ refl c.version_command.ensures refl refl refl (λ ok. (refl, refl)))

pub returns-in-Help-clause-takes : goal.returns-in-Help-clause-takes
returns-in-Help-clause-takes g c = rw c.in-Help.is refl

pub returns-in-Version-clause-takes : goal.returns-in-Version-clause-takes
returns-in-Version-clause-takes g c = rw c.in-Version.is refl
