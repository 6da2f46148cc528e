use Rattle.table_types.proofs.Shapes.{is_counted, unknown_where, conflict_where}
use Rattle.table_types.proofs.laws.no_upload_is_lost.Goals as goal

pub returns-clause-counted : goal.returns-clause-counted
returns-clause-counted c = is_counted

pub returns-clause-unknown : goal.returns-clause-unknown
returns-clause-unknown c = unknown_where

pub returns-clause-conflict : goal.returns-clause-conflict
returns-clause-conflict c = conflict_where
