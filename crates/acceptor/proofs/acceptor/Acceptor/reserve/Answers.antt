use Rattle.std.proofs.Common.{rules}
use Rattle.acceptor.proofs.acceptor.Acceptor.reserve.Goals as goal

pub returns-in_err-reserve-clause-ready : goal.returns-in_err-reserve-clause-ready
returns-in_err-reserve-clause-ready c = search rules steps 300000

pub returns-in_err-reserve-clause-same : goal.returns-in_err-reserve-clause-same
returns-in_err-reserve-clause-same c = search rules steps 300000

pub returns-in_err-reserve-clause-room : goal.returns-in_err-reserve-clause-room
returns-in_err-reserve-clause-room c = search rules steps 300000

pub returns-in_err-reserve-clause-memory : goal.returns-in_err-reserve-clause-memory
returns-in_err-reserve-clause-memory c = search rules steps 300000

pub returns-clause-ready : goal.returns-clause-ready
returns-clause-ready c = search rules steps 300000

pub returns-clause-same : goal.returns-clause-same
returns-clause-same c = search rules steps 300000

pub returns-clause-room : goal.returns-clause-room
returns-clause-room c = search rules steps 300000

pub returns-clause-memory : goal.returns-clause-memory
returns-clause-memory c = search rules steps 300000
