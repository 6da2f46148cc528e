use Rattle.std.proofs.Common.{Some, sym, ap, ◌∙◌, arith}
use Rattle.table_types.specs.Tables.{effective}
use Rattle.table_versions.proofs.Answered.{version_there, version_long, version_frames}
use Rattle.table_versions.proofs.answering.answer_by.Goals as goal

pub with_frames-requires : goal.with_frames-requires
with_frames-requires c =
    let r = c.requires.ledger in
    let long = version_long r.0 c.args.tables.now.entries c.args.frames.now.entries r.1 r.2 c.args.name.now c.args.version c.in-Some.table.now (sym c.in-Some.ensures.value) in (
      effective c.args.name.now r.1,
      r.2.frames_are c.args.name.now c.in-Some.table.now (sym c.in-Some.ensures.value),
      omega (arith, long, c.if-version-table.false),
    )

pub of-requires : goal.of-requires
of-requires c =
    let r = c.requires.ledger in
    let long = version_long r.0 c.args.tables.now.entries c.args.frames.now.entries r.1 r.2 c.args.name.now c.args.version c.in-Some.table.now (sym c.in-Some.ensures.value) in
    version_frames r.0 c.args.tables.now.entries c.args.frames.now.entries r.1 r.2 c.args.name.now c.args.version c.in-Some.table.now c.in_ok-shared-in-Some.shared.items (sym c.in-Some.ensures.value) r.3
    (c.in_ok-shared-in-Some.ensures (effective c.args.name.now r.1) (r.2.frames_are c.args.name.now c.in-Some.table.now (sym c.in-Some.ensures.value)) (omega (arith, long, c.if-version-table.false)))

pub returns-in_ok-shared-in-Some-clause-answer : goal.returns-in_ok-shared-in-Some-clause-answer
returns-in_ok-shared-in-Some-clause-answer c = λ firsts uploads ledger.
    let long = version_long firsts c.args.tables.now.entries c.args.frames.now.entries uploads ledger c.args.name.now c.args.version c.in-Some.table.now (sym c.in-Some.ensures.value) in
    ap Some c.of.ensures
    ∙ sym (version_there firsts c.args.tables.now.entries c.args.frames.now.entries uploads ledger c.args.name.now c.args.version c.in-Some.table.now c.in_ok-shared-in-Some.shared.items
    (sym c.in-Some.ensures.value) c.if-version-table.false
    (c.in_ok-shared-in-Some.ensures (effective c.args.name.now uploads) (ledger.frames_are c.args.name.now c.in-Some.table.now (sym c.in-Some.ensures.value))
    (omega (arith, long, c.if-version-table.false))))
