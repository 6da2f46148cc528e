use Rattle.std.proofs.Common.{Option, refl, subst}
use Rattle.table_types.specs.Tables.{effective}
use Rattle.table_versions.specs.declared.info.TableInfo.{TableInfo}
use Rattle.table_versions.specs.Info.{IsLatest}
use Rattle.histories.specs.EventResult as results
use Rattle.stored_nodes.proofs.Answering.{the_latest, no_latest, no_memory_for_latest}
use Rattle.stored_nodes.proofs.queries.latest_asked.Goals as goal

pub returns-in-Ok-Some : goal.returns-in-Ok-Some
returns-in-Ok-Some c = λ views uploads has of.
    the_latest uploads c.args.table.now c.in-Ok-Some.info (results.Info c.in-Ok-Some.info.version)
    (subst (λ (found : Option TableInfo). IsLatest found c.args.table.now (effective c.args.table.now uploads)) c.in-Ok-Some.field-0-is (c.in-Ok-Some.ensures.latest views uploads has of)) refl

pub returns-in-Ok-None : goal.returns-in-Ok-None
returns-in-Ok-None c = λ views uploads has of.
    no_latest uploads c.args.table.now results.NoTable
    (subst (λ (found : Option TableInfo). IsLatest found c.args.table.now (effective c.args.table.now uploads)) c.in-Ok-None.field-0-is (c.in-Ok-None.ensures.latest views uploads has of)) refl

pub returns-in-Err : goal.returns-in-Err
returns-in-Err c = λ views uploads has of.
    no_memory_for_latest uploads c.args.table.now (results.Refused results.OutOfMemory) (c.in-Err.ensures.memory views uploads has of) refl
