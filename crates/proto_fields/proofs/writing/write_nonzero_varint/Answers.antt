use Rattle.std.proofs.Common.{rules}
use Rattle.proto_fields.proofs.writing.write_nonzero_varint.Goals as goal

pub returns-then-value-eq0-clause-ok : goal.returns-then-value-eq0-clause-ok
returns-then-value-eq0-clause-ok c = search rules steps 300000

pub returns-then-value-eq0-clause-err : goal.returns-then-value-eq0-clause-err
returns-then-value-eq0-clause-err c = search rules steps 300000

pub returns-clause-ok : goal.returns-clause-ok
returns-clause-ok c = search rules steps 300000

pub returns-clause-err : goal.returns-clause-err
returns-clause-err c = search rules steps 300000
