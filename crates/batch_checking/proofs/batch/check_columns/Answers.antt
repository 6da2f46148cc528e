use Rattle.std.proofs.Common.{sym, subst, ℕ, List}
use Rattle.header_types.specs.declared.schema.Field.{Field}
use Rattle.header_types.specs.HeaderViews.{head_of}
use Rattle.batch_types.specs.Laid.{LaidColumns}
use Rattle.batch_types.specs.LaysOut.{AreSound, HaveFault, body_of}
use Rattle.batch_checking.specs.Columns.{forest_seen, columns_at, places_in, MayCheck}
use Rattle.batch_checking.proofs.Whole.{top, may_check, at_top}
use Rattle.batch_checking.proofs.batch.check_columns.Goals as goal

pub check_fields-requires : goal.check_fields-requires
check_fields-requires c =
    subst (λ (l : List Field). MayCheck (forest_seen l) c.args.head.now top c.rows_of-rows.result c.none-around.result) (sym c.deref.ensures.value)
    (may_check c.args.schema.now.fields.items c.args.head.now c.rows_of-rows.result c.none-around.result c.requires.kept.1.0 c.requires.kept.1.1.0
    c.requires.kept.1.1.1.0 c.requires.profile.well_formed c.requires.profile.not_deep c.none-around.ensures.rows c.none-around.ensures.depth
    c.none-around.ensures.room)

pub returns-in-Ok-clause-sound : goal.returns-in-Ok-clause-sound
returns-in-Ok-clause-sound c =
    at_top AreSound c.spoken_of-body.result.now (body_of (head_of c.args.head.now) c.args.body.now) c.args.schema.now.fields.items c.args.head.now
    c.rows_of-rows.result c.none-around.result c.spoken_of-body.ensures c.rows_of-rows.ensures c.none-around.ensures.rows c.none-around.ensures.depth
    (subst (λ (l : List Field). AreSound c.spoken_of-body.result.now (columns_at (forest_seen l) c.args.head.now top) c.rows_of-rows.result
    (places_in c.none-around.result)) c.deref.ensures.value c.in-Ok.ensures.sound)

pub returns-in-Err-clause-fault : goal.returns-in-Err-clause-fault
returns-in-Err-clause-fault c =
    at_top (λ (b : List ℕ) (cs : LaidColumns) (n : ℕ) (ps : List ℕ). HaveFault b cs n ps c.in-Err.fault) c.spoken_of-body.result.now
    (body_of (head_of c.args.head.now) c.args.body.now) c.args.schema.now.fields.items c.args.head.now
    c.rows_of-rows.result c.none-around.result c.spoken_of-body.ensures c.rows_of-rows.ensures c.none-around.ensures.rows c.none-around.ensures.depth
    (subst (λ (l : List Field). HaveFault c.spoken_of-body.result.now (columns_at (forest_seen l) c.args.head.now top) c.rows_of-rows.result
    (places_in c.none-around.result) c.in-Err.fault) c.deref.ensures.value c.in-Err.ensures.fault)
