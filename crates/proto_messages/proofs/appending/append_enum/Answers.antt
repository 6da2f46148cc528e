use Rattle.std.proofs.Common.{rules}
use Rattle.proto_messages.proofs.appending.append_enum.Goals as goal

pub returns-clause-ok : goal.returns-clause-ok
returns-clause-ok c = search rules steps 300000

pub returns-clause-err : goal.returns-clause-err
returns-clause-err c = search rules steps 300000

pub returns-clause-fits : goal.returns-clause-fits
returns-clause-fits c = search rules steps 300000
