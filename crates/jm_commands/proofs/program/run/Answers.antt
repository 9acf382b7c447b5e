use Rattle.std.proofs.Common.{Global, map, string_bytes}
use Rattle.jm_words.specs.Rule.{command_in}
use Rattle.jm_commands.specs.Outcome.{early_in}
use Rattle.jm_commands.specs.Run.{WordsComeTo}
use Rattle.jm_commands.proofs.TakenLaws.{words_take, words_take_nothing}
use Rattle.jm_commands.proofs.RelinkedRun.{run_relinks}
use Rattle.jm_commands.proofs.RunLaws.{comes_ended}
use Rattle.jm_commands.proofs.ServedLaws.{run_serves}
use Rattle.jm_commands.proofs.WordsLaws.{words_read, words_unread}
use Rattle.jm_commands.proofs.program.run.Goals as goal

pub returns-in-Ok-clause-comes : goal.returns-in-Ok-clause-comes
returns-in-Ok-clause-comes g c =
    let words = map (string_bytes {Z = Global}) c.args.words.now in
    let asked = command_in words in
    comes_ended (WordsComeTo (g.S.Shelf.files c.args.shelf.now) (g.I.Source.rest c.args.input.now) asked) (early_in asked) _ _ _ _ _ _
    (words_read asked c.in-Ok.command _ _ _ c.in-Ok.ensures.command c.do_command.ensures.comes) c.end.ensures

pub returns-in-Ok-clause-session : goal.returns-in-Ok-clause-session
returns-in-Ok-clause-session g c =
    run_serves (command_in (map (string_bytes {Z = Global}) c.args.words.now)) _ _ _ _ _ _ (returns-in-Ok-clause-comes g c)

pub returns-in-Ok-clause-relinks : goal.returns-in-Ok-clause-relinks
returns-in-Ok-clause-relinks g c =
    run_relinks (command_in (map (string_bytes {Z = Global}) c.args.words.now)) _ _ _ _ _ _ (returns-in-Ok-clause-comes g c)

pub returns-in-Err-clause-comes : goal.returns-in-Err-clause-comes
returns-in-Err-clause-comes g c =
    let words = map (string_bytes {Z = Global}) c.args.words.now in
    let asked = command_in words in
    let ends = rw c.from.ensures at c.end-in-Err.ensures in
    comes_ended (WordsComeTo (g.S.Shelf.files c.args.shelf.now) (g.I.Source.rest c.args.input.now) asked) (early_in asked) _ _ _ _ _ _
    (words_unread asked c.in-Err.error _ c.in-Err.ensures.command) ends

pub returns-in-Err-clause-session : goal.returns-in-Err-clause-session
returns-in-Err-clause-session g c =
    run_serves (command_in (map (string_bytes {Z = Global}) c.args.words.now)) _ _ _ _ _ _ (returns-in-Err-clause-comes g c)

pub returns-in-Err-clause-relinks : goal.returns-in-Err-clause-relinks
returns-in-Err-clause-relinks g c =
    run_relinks (command_in (map (string_bytes {Z = Global}) c.args.words.now)) _ _ _ _ _ _ (returns-in-Err-clause-comes g c)

pub returns-in-Ok-clause-takes : goal.returns-in-Ok-clause-takes
returns-in-Ok-clause-takes g c =
    let words = map (string_bytes {Z = Global}) c.args.words.now in
    words_take (g.S.Shelf.files c.args.shelf.now) (command_in words) c.in-Ok.command _ _ c.in-Ok.ensures.command
    c.do_command.ensures.takes

pub returns-in-Err-clause-takes : goal.returns-in-Err-clause-takes
returns-in-Err-clause-takes g c =
    let words = map (string_bytes {Z = Global}) c.args.words.now in
    words_take_nothing (g.S.Shelf.files c.args.shelf.now) (command_in words) (g.S.Shelf.handed c.args.shelf.now)
