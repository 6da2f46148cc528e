use Rattle.std.proofs.Common.{refl}
use Rattle.histories.specs.Event.{Put, Get, Info, Outcome}
use Rattle.cut_histories.proofs.Settled.{clients_same}
use Rattle.cut_histories.proofs.laws.clients_do_the_same.Goals as goal

pub returns-clause-put : goal.returns-clause-put
returns-clause-put c = λ config sent steps seats found other node text given.
    clients_same config sent steps seats found other (record { event = Put node text; result = given }) refl

pub returns-clause-get : goal.returns-clause-get
returns-clause-get c = λ config sent steps seats found other node version table given.
    clients_same config sent steps seats found other (record { event = Get node table version; result = given }) refl

pub returns-clause-info : goal.returns-clause-info
returns-clause-info c = λ config sent steps seats found other node table given.
    clients_same config sent steps seats found other (record { event = Info node table; result = given }) refl

pub returns-clause-outcome : goal.returns-clause-outcome
returns-clause-outcome c = λ config sent steps seats found other node text given.
    clients_same config sent steps seats found other (record { event = Outcome node text; result = given }) refl
