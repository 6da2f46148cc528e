use Rattle.std.proofs.Common.{sym, ◌∙◌, []}
use Rattle.uploads.specs.Parts.{body_text}
use Rattle.uploads.proofs.CallerLemmas.{batch_first, empty_body, there_body}
use Rattle.uploads.proofs.parts.split_batch.Goals as goal

pub split_part-requires : goal.split_part-requires
split_part-requires c =
    let parts = c.requires.0 in
    (1, parts.0, body_text parts.1, batch_first parts c.requires.1 c.args.batch.now c.requires.2)

pub returns-then-is_empty : goal.returns-then-is_empty
returns-then-is_empty c = λ parts is same.
    let first = c.split_part.ensures 1 parts.0 (body_text parts.1) (batch_first parts is c.args.batch.now same) in
    (first.0, empty_body c.split_part.result.1.now parts.1 first.1 (sym c.is_empty.ensures ∙ c.if-is_empty.true))

pub split_part-requires-2 : goal.split_part-requires-2
split_part-requires-2 c =
    let parts = c.requires.0 in
    let first = c.split_part.ensures 1 parts.0 (body_text parts.1) (batch_first parts c.requires.1 c.args.batch.now c.requires.2) in
    (2, parts.1, [], there_body c.split_part.result.1.now parts c.requires.1 first.1 (sym c.is_empty.ensures ∙ c.if-is_empty.false))

pub returns : goal.returns
returns c = λ parts is same.
    let first = c.split_part.ensures 1 parts.0 (body_text parts.1) (batch_first parts is c.args.batch.now same) in
    let second = c.split_part-2.ensures 2 parts.1 [] (there_body c.split_part.result.1.now parts is first.1 (sym c.is_empty.ensures ∙ c.if-is_empty.false)) in
    (first.0, second.0)
