use Rattle.std.proofs.Common.{◌≡◌, refl, ◌+◌, pos, [], length, get_or, subst, arith}
use Rattle.batch_types.specs.Rules.{IsInside}
use Rattle.batch_types.specs.Canonical.{body_with, ranges_from}
use Rattle.batch_types.proofs.Placing.{placed, aligned, inside, whole_body}
use Rattle.batch_types.proofs.laws.written_buffers_stand_where_they_are_said.Goals as goal

pub returns-clause-at : goal.returns-clause-at
returns-clause-at c = λ buffers k within. placed [] buffers k (pos 0, pos 0) within

pub returns-clause-inside : goal.returns-clause-inside
returns-clause-inside c = λ buffers k within.
    let all : 0 + length (body_with buffers) ≡ length (body_with buffers) = omega arith in
    subst (λ n. IsInside n (get_or (ranges_from 0 buffers) k (pos 0, pos 0))) all (inside 0 buffers k (pos 0, pos 0) within)

pub returns-clause-aligned : goal.returns-clause-aligned
returns-clause-aligned c = λ buffers k within. aligned 0 buffers k (pos 0, pos 0) refl within

pub returns-clause-whole : goal.returns-clause-whole
returns-clause-whole c = whole_body
