use Rattle.std.proofs.Common.{◌≡◌, ◌∙◌, ◌++◌, length, codes, string_bytes}
use Rattle.std.proofs.lemmas.Result.{IfOk-weaker}
use Rattle.std.specs.Fmt.{decimal}
use Rattle.breach_words.specs.Words.{ends_text}
use Rattle.breach_words.proofs.lines.ends_line.Goals as goal

pub returns : goal.returns
returns c =
    let bytes = c.args.upload.now in
    let same : string_bytes c.in_ok-front.front ++ (codes ".." ++ (string_bytes c.in_ok-end.end ++ (codes " (" ++ (decimal (length bytes) ++ codes " bytes)")))) ≡ ends_text bytes =
    let front = c.in_ok-front.ensures in let end = c.in_ok-end.ensures in cc in
    IfOk-weaker c.format.result (λ line. string_bytes line ≡ string_bytes c.in_ok-front.front ++ (codes ".." ++ (string_bytes c.in_ok-end.end ++ (codes " (" ++ (decimal (length bytes) ++ codes " bytes)")))))
    _ (λ line told. told ∙ same) c.format.ensures.ok
