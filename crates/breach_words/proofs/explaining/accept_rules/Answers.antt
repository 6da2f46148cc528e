use Rattle.std.proofs.Common.{◌≡◌, ◌∙◌, ◌++◌, string_bytes}
use Rattle.std.proofs.lemmas.Result.{IfOk-weaker}
use Rattle.breach_words.specs.Explanation.{told, told_against, proposes_a_second_value, proposes_without_a_majority, proposes_over_a_report}
use Rattle.breach_words.proofs.explaining.accept_rules.Goals as goal

pub returns : goal.returns
returns c =
    let sent = c.args.sent.now in
    let same : string_bytes c.in_ok-only.only ++ (string_bytes c.in_ok-promised.promised ++ string_bytes c.in_ok-reported.reported)
    ≡ told_against sent c.args.second_value proposes_a_second_value
    ++ (told c.args.not_promised proposes_without_a_majority ++ told_against sent c.args.not_reported proposes_over_a_report) =
    let only = c.in_ok-only.ensures in let promised = c.in_ok-promised.ensures in let reported = c.in_ok-reported.ensures in cc in
    IfOk-weaker c.format.result (λ text. string_bytes text ≡ string_bytes c.in_ok-only.only ++ (string_bytes c.in_ok-promised.promised ++ string_bytes c.in_ok-reported.reported)) _ (λ text told. told ∙ same) c.format.ensures.ok
