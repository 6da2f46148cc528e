use Rattle.std.proofs.Common.{ℕ, sym, subst, ◌∙◌, arith}
use Rattle.cluster_folder.specs.Gates.{LeadsTo}
use Rattle.cluster_folder.proofs.Steps.{closed_here, passed}
use Rattle.cluster_folder.proofs.gates.gate_behind.Goals as goal

pub returns-then-byte-ne-OPEN-clause-goes_on : goal.returns-then-byte-ne-OPEN-clause-goes_on
returns-then-byte-ne-OPEN-clause-goes_on c = λ file len e gate l.
    closed_here file c.args.gate gate c.args.head e c.if-byte-ne-OPEN.true l

pub returns-in-Some-clause-goes_on : goal.returns-in-Some-clause-goes_on
returns-in-Some-clause-goes_on c = λ file len e gate l.
    let next = passed file c.args.gate gate c.from-length.result c.args.head e c.if-byte-ne-OPEN.false
    (c.from-length.ensures ∙ c.from_le_bytes.ensures) l in
    let P : ℕ → Type 0 = λ n. LeadsTo file n gate in
    subst P (sym c.in-Some.ensures.1) next.leads

pub returns-in_default-clause-goes_on : goal.returns-in_default-clause-goes_on
returns-in_default-clause-goes_on c = λ file len e gate l.
    let next = passed file c.args.gate gate c.from-length.result c.args.head e c.if-byte-ne-OPEN.false
    (c.from-length.ensures ∙ c.from_le_bytes.ensures) l in
    let within = next.within in
    let is = c.in-Some.ensures.1 in
    let beyond = c.if-next-size.false in
    absurd (omega (arith, len, within, is, beyond))

pub returns-in_default-2-clause-goes_on : goal.returns-in_default-2-clause-goes_on
returns-in_default-2-clause-goes_on c = λ file len e gate l.
    let next = passed file c.args.gate gate c.from-length.result c.args.head e c.if-byte-ne-OPEN.false
    (c.from-length.ensures ∙ c.from_le_bytes.ensures) l in
    let within = next.within in
    let fits = c.ranges.size.fits in
    absurd (c.in_default.ensures (omega (arith, len, within, fits)))
