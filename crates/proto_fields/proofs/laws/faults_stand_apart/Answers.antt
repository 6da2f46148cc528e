use Rattle.proto_fields.proofs.FaultsApart.{no_field_at_fault, no_fields_at_fault}
use Rattle.proto_fields.proofs.laws.faults_stand_apart.Goals as goal

pub returns-clause-field : goal.returns-clause-field
returns-clause-field c = no_field_at_fault

pub returns-clause-fields : goal.returns-clause-fields
returns-clause-fields c = no_fields_at_fault
