use Rattle.client_connections.proofs.Named.{local_alone}
use Rattle.client_connections.proofs.address.written.Goals as goal

pub returns-in-Err : goal.returns-in-Err
returns-in-Err c = local_alone c.args.text.now c.local.result c.in-Err.ensures.value c.local.ensures
