use Rattle.std.proofs.Common.{ap, refl, ◌∙◌}
use Rattle.std.proofs.lemmas.Result.{IfOk-weaker}
use Rattle.clap.specs.Words.{App}
use Rattle.command_line.specs.CommandLine.{app_for, getting, informing, listing, local_commands, putting, with_command}
use Rattle.command_line.proofs.commands.command_line.Goals as goal

pub returns : goal.returns
returns c =
    IfOk-weaker c.with_command-4.result _ _
    (λ made is.
    is
    ∙ ap (λ (a : App). with_command a informing)
    (c.in_ok-program-4.ensures (app_for listing) refl c.list.ensures
    ∙ ap (λ (a : App). with_command a listing)
    (c.in_ok-program-3.ensures (app_for getting) refl c.get.ensures
    ∙ ap (λ (a : App). with_command a getting)
    (c.in_ok-program-2.ensures (app_for putting) refl c.put.ensures
    ∙ ap (λ (a : App). with_command a putting) (c.in_ok-program.ensures ∙ ap local_commands c.program.ensures)))))
    (c.with_command-4.ensures (app_for informing) refl c.info.ensures)
