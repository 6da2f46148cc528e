use Rattle.std.proofs.Common.{◌≡◌, ap, codes, refl, ◌∙◌}
use Rattle.std.proofs.lemmas.Result.{IfOk-weaker}
use Rattle.clap.specs.Simple.{app_of_fields}
use Rattle.clap.specs.Words.{app_of, new_app}
use Rattle.command_line.proofs.Made.{made_more}
use Rattle.command_line.proofs.commands.serve.Goals as goal

pub returns : goal.returns
returns c =
    let start : app_of c.after_help.result ≡ new_app (codes "serve") = ap app_of_fields c.after_help.ensures ∙ ap app_of_fields c.about.ensures ∙ c.new.ensures.app in
    let made_1 = made_more _ _ _ _ _ start c.in_ok-arg.ensures c.option.ensures.rule c.option.ensures.local in
    let made_2 = made_more _ _ _ _ _ made_1 c.in_ok-arg-2.ensures c.option-2.ensures.rule c.option-2.ensures.local in
    let made_3 = made_more _ _ _ _ _ made_2 c.in_ok-arg-3.ensures c.option-3.ensures.rule c.option-3.ensures.local in
    let made_4 = made_more _ _ _ _ _ made_3 c.in_ok-arg-4.ensures c.option-4.ensures.rule c.option-4.ensures.local in
    IfOk-weaker c.arg-5.result _ _ (λ made adds. made_more _ _ _ _ _ made_4 adds c.flag.ensures.rule c.flag.ensures.local) c.arg-5.ensures
