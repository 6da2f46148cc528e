use Rattle.std.proofs.Common.{ap, refl, ◌∙◌}
use Rattle.std.proofs.lemmas.Result.{IfOk-weaker}
use Rattle.clap.specs.Words.{App}
use Rattle.command_line.specs.CommandLine.{app_for, auditing, replaying, scripting, serving, showing, with_command}
use Rattle.command_line.proofs.commands.with_local.Goals as goal

pub returns : goal.returns
returns c =
    IfOk-weaker c.with_command-5.result _ _
    (λ made is.
    is
    ∙ ap (λ (a : App). with_command a showing)
    (c.in_ok-program-5.ensures (app_for scripting) refl c.script.ensures
    ∙ ap (λ (a : App). with_command a scripting)
    (c.in_ok-program-4.ensures (app_for serving) refl c.serve.ensures
    ∙ ap (λ (a : App). with_command a serving)
    (c.in_ok-program-3.ensures (app_for replaying) refl c.replay.ensures
    ∙ ap (λ (a : App). with_command a replaying)
    (c.in_ok-program-2.ensures (app_for auditing) refl c.audit.ensures
    ∙ ap (λ (a : App). with_command a auditing) c.in_ok-program.ensures)))))
    (c.with_command-5.ensures (app_for showing) refl c.records.ensures)
