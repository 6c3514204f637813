use Rattle.std.proofs.Common.{◌≡◌, ◌∙◌, sym, true, is_some}
use Rattle.clap.specs.Words.{subcommand_rows_of}
use Rattle.script_run.specs.Commands.{command_of, texts_of}
use Rattle.script_run.proofs.Clap.{met, taken}
use Rattle.script_run.proofs.command.read_command.Goals as goal

pub unreachable-requires : goal.unreachable-requires
unreachable-requires c =
    let some : is_some (command_of (texts_of c.args.words.now)) ≡ true = sym c.is_command.ensures ∙ c.if-not-is_command.false in
    c.in_default.not-OutOfMemory (c.kind.ensures ∙ c.in-Err.ensures.err (taken (texts_of c.args.words.now) some))

pub returns-in-Ok-clause-command : goal.returns-in-Ok-clause-command
returns-in-Ok-clause-command c =
    let some : is_some (command_of (texts_of c.args.words.now)) ≡ true = sym c.is_command.ensures ∙ c.if-not-is_command.false in
    met (texts_of c.args.words.now) (subcommand_rows_of c.in-Ok.matches) c.met_command.result some c.in-Ok.ensures.ok c.met_command.ensures.play c.met_command.ensures.make
