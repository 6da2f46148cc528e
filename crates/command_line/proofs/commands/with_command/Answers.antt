use Rattle.std.proofs.Common.{◌≡◌, IfOk, subst}
use Rattle.std.proofs.lemmas.Result.{IfOk-weaker}
use Rattle.clap.specs.Words.{app_of}
use Rattle.command_line.proofs.Made.{made_subcommand}
use Rattle.command_line.proofs.commands.with_command.Goals as goal

pub returns : goal.returns
returns c = λ app plain is.
    IfOk-weaker c.subcommand.result _ _
    (λ made adds. made_subcommand _ _ _ app plain (subst (λ r. IfOk r (λ made'. app_of made' ≡ app)) c.in_ok-command.was is) adds)
    c.subcommand.ensures
