use Rattle.record_batches.proofs.Adding.{on_ok}
use Rattle.record_batches.proofs.Rooms.{written}
use Rattle.record_batches.proofs.Whole.{body_appended}
use Rattle.record_batches.proofs.body.append_body.Goals as goal

pub returns-clause-appended : goal.returns-clause-appended
returns-clause-appended c =
    on_ok c.append_columns.result c.append_columns.ensures.appended (λ put schema of_schema.
    body_appended schema c.args.batch.now c.deref.result.now of_schema c.deref.ensures.value c.args.text.now.items c.append_columns.new.text.items put)

pub returns-clause-room : goal.returns-clause-room
returns-clause-room c =
    on_ok c.append_columns.result c.append_columns.ensures.sound (λ sound schema of_schema.
    written schema c.args.batch.now c.deref.result.now of_schema c.deref.ensures.value sound)
