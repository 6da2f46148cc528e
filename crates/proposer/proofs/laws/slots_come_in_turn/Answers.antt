use Rattle.proposer.proofs.Turns.{turn_first, turn_next, turn_last, turn_one, turn_majority, turn_stays}
use Rattle.proposer.proofs.laws.slots_come_in_turn.Goals as goal

pub returns-clause-first : goal.returns-clause-first
returns-clause-first c = turn_first

pub returns-clause-next : goal.returns-clause-next
returns-clause-next c = λ members calls candidate slot may lt. turn_next members calls slot may candidate lt

pub returns-clause-last : goal.returns-clause-last
returns-clause-last c = turn_last

pub returns-clause-one : goal.returns-clause-one
returns-clause-one c = λ members calls slot other may also. turn_one members calls slot may other also

pub returns-clause-majority : goal.returns-clause-majority
returns-clause-majority c = turn_majority

pub returns-clause-stays : goal.returns-clause-stays
returns-clause-stays c = λ members calls promise slot may. turn_stays members calls slot may promise
