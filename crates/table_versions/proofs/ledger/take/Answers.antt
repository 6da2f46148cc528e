use Rattle.std.proofs.Common.{refl, sym, subst, ◌∙◌}
use Rattle.table_versions.specs.Ledger.{table_in}
use Rattle.table_versions.specs.Steps.{HasRoomToGrow}
use Rattle.table_versions.proofs.Taken.{room_here, taken_repeat, taken_new}
use Rattle.table_versions.proofs.ledger.take.Goals as goal

pub place-outcome-requires-clause-numbers : goal.place-outcome-requires-clause-numbers
place-outcome-requires-clause-numbers c =
    let l = c.requires.ledger in
    let p = c.requires.prepared in
    subst (λ n. HasRoomToGrow (table_in c.args.tables.now.entries n) c.args.prepared.part) (sym p.1.table)
    (room_here c.args.firsts.now.entries c.args.tables.now.entries c.args.frames.now.entries l.0 l.1 p.0 c.args.prepared.part p.1.part p.1.valid l.2
    (table_in c.args.tables.now.entries p.0.table) refl)

pub returns-then-has_come-clause-takes : goal.returns-then-has_come-clause-takes
returns-then-has_come-clause-takes c = λ uploads upload ledger ready.
    taken_repeat c.tables_grow.ensures.outcomes
    c.args.firsts.now.entries c.args.firsts.now.entries c.args.tables.now.entries c.args.tables.now.entries c.args.frames.now.entries c.args.frames.now.entries uploads
    c.args.prepared upload ledger ready (sym c.has_come.ensures ∙ c.if-has_come.true)

pub returns-clause-takes : goal.returns-clause-takes
returns-clause-takes c = λ uploads upload ledger ready.
    taken_new c.tables_grow.ensures.outcomes
    c.args.firsts.now.entries c.put_first.new.firsts.entries c.args.tables.now.entries c.place-outcome.new.tables.entries c.args.frames.now.entries
    c.place-outcome.new.frames.entries uploads
    c.args.prepared upload ledger ready (sym c.has_come.ensures ∙ c.if-has_come.false)
    (record { text = c.args.prepared.text; outcome = c.place-outcome.result }) refl c.put_first.ensures.puts c.place-outcome.ensures.places
