use Rattle.folder_report.proofs.OneReport.{one_count, one_list_of_slots, one_list_of_tables}
use Rattle.folder_report.proofs.laws.records_have_one_report.Goals as goal

pub returns-clause-decided : goal.returns-clause-decided
returns-clause-decided c = one_count

pub returns-clause-slots : goal.returns-clause-slots
returns-clause-slots c = one_list_of_slots

pub returns-clause-tables : goal.returns-clause-tables
returns-clause-tables c = λ members all one other first second.
    one_list_of_tables members all one other first second c.values_hold_one_list_of_uploads.ensures.one
