use Rattle.std.proofs.Common.{◌≡◌, ap, codes, refl, ◌∙◌}
use Rattle.std.proofs.lemmas.Result.{IfOk-weaker}
use Rattle.clap.specs.Simple.{app_of_fields}
use Rattle.clap.specs.Words.{app_of, new_app}
use Rattle.command_line.proofs.Made.{made_more}
use Rattle.command_line.proofs.commands.script.Goals as goal

pub returns : goal.returns
returns c =
    let start : app_of c.after_help.result ≡ new_app (codes "script") = ap app_of_fields c.after_help.ensures ∙ ap app_of_fields c.about.ensures ∙ c.new.ensures.app in
    IfOk-weaker c.arg.result _ _ (λ made adds. made_more _ _ _ _ _ start adds c.operand.ensures.rule c.operand.ensures.local) c.arg.ensures
