use Rattle.std.proofs.Common.{◌≡◌, ap, codes, refl, ◌∙◌}
use Rattle.std.proofs.lemmas.Result.{IfOk-weaker}
use Rattle.clap.specs.Simple.{app_of_fields}
use Rattle.clap.specs.Words.{app_of, new_app}
use Rattle.command_line.proofs.Made.{made_subcommand}
use Rattle.command_line.proofs.commands.with_acceptor.Goals as goal

pub returns : goal.returns
returns c =
    let start : app_of c.after_help-acceptor.result ≡ new_app (codes "acceptor") = ap app_of_fields c.after_help-acceptor.ensures ∙ ap app_of_fields c.about.ensures ∙ c.new.ensures.app in
    IfOk-weaker c.subcommand.result _ _ (λ made adds. made_subcommand _ _ _ _ refl start adds) c.subcommand.ensures
