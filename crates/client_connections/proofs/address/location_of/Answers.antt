use Rattle.client_connections.proofs.Named.{located}
use Rattle.client_connections.proofs.address.location_of.Goals as goal

pub returns-in-Some : goal.returns-in-Some
returns-in-Some c =
    located c.args.text.now c.in-Some.address.now c.in-Some.ensures.cases.0 c.address_of.result c.in-Some.ensures.cases.1.1 c.in-Some.ensures.cases.2 c.address_of.ensures

pub returns-in-None : goal.returns-in-None
returns-in-None c = λ named e. absurd (c.in-None.ensures.cases named e)
