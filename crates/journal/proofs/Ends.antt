-- The messages that are held, with more behind them.
use Rattle.std.proofs.Common.{◌∷◌, ◌++◌, [], List, subst}
use Rattle.std.proofs.lemmas.List.{append_assoc}
use Rattle.node_parts.specs.ballots.specs.declared.message.Message.{Message}
use Rattle.journal.specs.declared.last_messages.LastMessages.{LastMessages}
use Rattle.journal.specs.Recalled.{IsEndOf}

pub end_of_more : (sent done : List Message) (one : Message) (last : LastMessages) → IsEndOf ((sent ++ done) ++ one ∷ []) last → IsEndOf (sent ++ (done ++ one ∷ [])) last
end_of_more sent done one last is = subst (λ (xs : List Message). IsEndOf xs last) (append_assoc sent done (one ∷ [])) is
