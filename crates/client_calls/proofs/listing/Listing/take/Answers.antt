use Rattle.client_calls.proofs.Listed.{stays_spoiled}
use Rattle.client_calls.proofs.listing.Listing.take.Goals as goal

pub returns-in-Spoiled-clause-listed : goal.returns-in-Spoiled-clause-listed
returns-in-Spoiled-clause-listed c = λ messages none. stays_spoiled c.args.self messages c.args.message.now c.in-Spoiled.is none
