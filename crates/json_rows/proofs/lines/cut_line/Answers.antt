use Rattle.std.proofs.Common.{◌∷◌, ◌+◌, List, ℕ, sym, ap, ◌∙◌, take, arith}
use Rattle.std.proofs.lemmas.List.{take_rest}
use Rattle.json_rows.specs.Lines.{lines_of}
use Rattle.json_rows.proofs.Cut.{cut_at_feed, no_feed}
use Rattle.json_rows.proofs.lines.cut_line.Goals as goal

pub returns-in-Some-clause-lines : goal.returns-in-Some-clause-lines
returns-in-Some-clause-lines c =
    let text = c.args.text.now in
    let end = c.in-Some.end in
    let first = c.in-Some.ensures in
    cut_at_feed text end first.0.high (λ j less is. first.0.before j (omega arith) less is) first.1
    ∙ ap (λ (rest : List ℕ). take end text ∷ lines_of rest) (sym (take_rest text (end + 1)))

pub returns-in-None-clause-lines : goal.returns-in-None-clause-lines
returns-in-None-clause-lines c = no_feed c.args.text.now c.requires (λ j less is. c.in-None.ensures j (omega arith) less is)
