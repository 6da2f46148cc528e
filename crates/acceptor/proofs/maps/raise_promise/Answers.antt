use Rattle.std.proofs.Common.{rules}
use Rattle.acceptor.proofs.maps.raise_promise.Goals as goal

pub returns-then-is_below-clause-raises : goal.returns-then-is_below-clause-raises
returns-then-is_below-clause-raises c = search rules steps 300000

pub returns-then-is_below-clause-room : goal.returns-then-is_below-clause-room
returns-then-is_below-clause-room c = search rules steps 300000

pub returns-clause-raises : goal.returns-clause-raises
returns-clause-raises c = search rules steps 300000

pub returns-clause-room : goal.returns-clause-room
returns-clause-room c = search rules steps 300000
