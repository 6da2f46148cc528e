use Rattle.std.proofs.Common.{rules}
use Rattle.header_reading.proofs.message.header_at.Goals as goal

pub returns-in_err-number-clause-version : goal.returns-in_err-number-clause-version
returns-in_err-number-clause-version c = search rules steps 300000

pub returns-in_err-number-clause-header_type : goal.returns-in_err-number-clause-header_type
returns-in_err-number-clause-header_type c = search rules steps 300000

pub returns-in_err-number-clause-table : goal.returns-in_err-number-clause-table
returns-in_err-number-clause-table c = search rules steps 300000

pub returns-in_err-number-clause-fault : goal.returns-in_err-number-clause-fault
returns-in_err-number-clause-fault c = search rules steps 300000

pub returns-in_err-header_type-clause-version : goal.returns-in_err-header_type-clause-version
returns-in_err-header_type-clause-version c = search rules steps 300000

pub returns-in_err-header_type-clause-header_type : goal.returns-in_err-header_type-clause-header_type
returns-in_err-header_type-clause-header_type c = search rules steps 300000

pub returns-in_err-header_type-clause-table : goal.returns-in_err-header_type-clause-table
returns-in_err-header_type-clause-table c = search rules steps 300000

pub returns-in_err-header_type-clause-fault : goal.returns-in_err-header_type-clause-fault
returns-in_err-header_type-clause-fault c = search rules steps 2000000

pub returns-in_err-table-clause-version : goal.returns-in_err-table-clause-version
returns-in_err-table-clause-version c = search rules steps 300000

pub returns-in_err-table-clause-header_type : goal.returns-in_err-table-clause-header_type
returns-in_err-table-clause-header_type c = search rules steps 300000

pub returns-in_err-table-clause-table : goal.returns-in_err-table-clause-table
returns-in_err-table-clause-table c = search rules steps 300000

pub returns-in_err-table-clause-fault : goal.returns-in_err-table-clause-fault
returns-in_err-table-clause-fault c = search rules steps 2000000

pub returns-in-Some-clause-version : goal.returns-in-Some-clause-version
returns-in-Some-clause-version c = search rules steps 300000

pub returns-in-Some-clause-header_type : goal.returns-in-Some-clause-header_type
returns-in-Some-clause-header_type c = search rules steps 300000

pub returns-in-Some-clause-table : goal.returns-in-Some-clause-table
returns-in-Some-clause-table c = search rules steps 300000

pub returns-in-Some-clause-fault : goal.returns-in-Some-clause-fault
returns-in-Some-clause-fault c = search rules steps 300000

pub returns-in-None-clause-version : goal.returns-in-None-clause-version
returns-in-None-clause-version c = search rules steps 300000

pub returns-in-None-clause-header_type : goal.returns-in-None-clause-header_type
returns-in-None-clause-header_type c = search rules steps 300000

pub returns-in-None-clause-table : goal.returns-in-None-clause-table
returns-in-None-clause-table c = search rules steps 300000

pub returns-in-None-clause-fault : goal.returns-in-None-clause-fault
returns-in-None-clause-fault c = search rules steps 2000000
