use Rattle.std.proofs.Common.{sym, ◌∙◌, arith}
use Rattle.uploads.proofs.Fronts.{part_taken, part_only, no_part, no_front, empty_front, has_some, has_none, if_none}
use Rattle.uploads.proofs.finding.take_part.Goals as goal

pub returns-in_err-content-clause-none : goal.returns-in_err-content-clause-none
returns-in_err-content-clause-none c =
    if_none c.from_residual.result (λ content rest some stands. no_front c.args.bytes.now c.args.number c.in_err-content.ensures content rest stands)

pub returns-then-is_empty-clause-none : goal.returns-then-is_empty-clause-none
returns-then-is_empty-clause-none c =
    empty_front c.args.bytes.now c.in_ok-content.content.now c.args.number (has_none c.in_ok-content.content.now (sym c.is_empty.ensures ∙ c.if-is_empty.true))
    c.in_ok-content.ensures

pub returns-in_err-rest-clause-none : goal.returns-in_err-rest-clause-none
returns-in_err-rest-clause-none c =
    let some = has_some c.in_ok-content.content.now (sym c.is_empty.ensures ∙ c.if-is_empty.false) in
    if_none c.from_residual-in_err-rest.result
    (λ content rest is stands. no_part c.args.number c.in_ok-content.content.now c.args.bytes.now some c.in_err-rest.ensures c.in_ok-content.ensures content rest stands)

pub returns-clause-some : goal.returns-clause-some
returns-clause-some c =
    let some = has_some c.in_ok-content.content.now (sym c.is_empty.ensures ∙ c.if-is_empty.false) in
    (part_taken c.args.number c.in_ok-content.content.now c.args.bytes.now c.in_ok-rest.rest.now c.requires.number some c.requires.short c.in_ok-rest.ensures, some)

pub returns-clause-only : goal.returns-clause-only
returns-clause-only c =
    let some = has_some c.in_ok-content.content.now (sym c.is_empty.ensures ∙ c.if-is_empty.false) in
    part_only c.args.number c.in_ok-content.content.now c.args.bytes.now c.in_ok-rest.rest.now some c.in_ok-rest.ensures c.in_ok-content.ensures
