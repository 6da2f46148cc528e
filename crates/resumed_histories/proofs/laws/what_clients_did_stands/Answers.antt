use Rattle.resumed_histories.proofs.Outlasting.{stands_there}
use Rattle.resumed_histories.proofs.laws.what_clients_did_stands.Goals as goal

pub returns : goal.returns
returns c = stands_there
