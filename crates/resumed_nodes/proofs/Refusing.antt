-- Why a node does not hear messages that it may be told.
use Rattle.std.proofs.Common.{◌≡◌, Err, List, refl, sym, subst}
use Rattle.std.specs.List.{All}
use Rattle.std.proofs.lemmas.List.Elements.{All-contains}
use Rattle.ballots.specs.declared.record.Record.{Record}
use Rattle.ballots.specs.declared.message.Message.{Message}
use Rattle.agreement_rules.specs.Views.{AgreementConfig}
use Rattle.agreement_rules.specs.Due.{IsMessageOf}
use Rattle.stored_nodes.specs.State.{StoredNodeState}
use Rattle.resumed_nodes.specs.Hearing.{HearAllAnswers}
use Rattle.resumed_nodes.specs.Starting.{MayBeTold}
use Rattle.resumed_nodes.specs.declared.fault.HearFault.{HearFault}
use Rattle.resumed_nodes.specs.declared.fault.HearFault.TheVariants as fault

pub only_memory : {S : Type 0} (config : AgreementConfig) (old new : StoredNodeState S) (records : List Record) (told : List Message) (why : HearFault) → old.config ≡ config → All (MayBeTold config) told
    → HearAllAnswers {T = Unit {0}} old new records told (Err why) → why ≡ fault.OutOfMemory
only_memory config old new records told fault.NoValue is may (m, has, untold) = absurd (untold (All-contains (MayBeTold config) told m may has).0)
only_memory config old new records told fault.OutOfRange is may (m, has, outside) =
    absurd (outside (subst (λ (c : AgreementConfig). IsMessageOf c m) (sym is) (All-contains (MayBeTold config) told m may has).1))
only_memory config old new records told fault.OutOfMemory is may answers = refl
only_memory config old new records told fault.Down is may answers = absurd answers
only_memory config old new records told (fault.Store failed) is may answers = absurd answers
