-- A node that is opened with what its store has.
use Rattle.std.proofs.Common.{◌≡◌, sym, subst, ◌∙◌, ℕ, ◌<◌, false, Bool, None, Some, List}
use Rattle.std.specs.List.{AllByRecursion}
use Rattle.ballots.specs.declared.record.Record.{Record}
use Rattle.agreement_rules.specs.Views.{AgreementConfig, started_with}
use Rattle.histories.specs.Following.{with_due}
use Rattle.node_core.specs.State.{NodeState, NodeHas, IsRecordOf, Starts}
use Rattle.stored_nodes.specs.State.{StoredNodeState}
use Rattle.stored_nodes.specs.Parts.{IsRecovered}
use Rattle.stored_nodes.proofs.Leaving.{none_doubted}

-- it starts with the records that were recalled
pub reopened : {S : Type 0} (old new : StoredNodeState S) (node : NodeState) (records : List Record) (recovered : Bool) → Starts old.config old.me records node
    → records ≡ with_due recovered old.records old.doubted → (old.doubted ≡ None → recovered ≡ false) → new.node ≡ Some node → new.records ≡ records → new.doubted ≡ None
    → new.me ≡ old.me → new.config ≡ old.config → IsRecovered old new recovered
reopened old new node records recovered starts are none there kept certain me config = record {
  stands = record {
    node = node;
    up = there;
    me_is = starts.me_is ∙ sym me;
    config_is = starts.config_is ∙ sym config;
    has = subst (λ (rs : List Record). NodeHas node (started_with rs)) are starts.has;
    kept = kept ∙ are;
    certain = certain;
  };
  none_in_doubt = none;
  placed = record {
    member = subst (λ (m : ℕ). m < new.config.members) (sym me) (subst (λ (c : AgreementConfig). old.me < c.members) (sym config) starts.can.member);
    records_are = subst (λ (c : AgreementConfig). AllByRecursion (IsRecordOf c) new.records) (sym config)
        (subst (λ (rs : List Record). AllByRecursion (IsRecordOf old.config) rs) (sym kept) starts.can.records_are);
    doubted_is = none_doubted new.config new.doubted certain;
  };
  me_is = me;
  config_is = config;
}
