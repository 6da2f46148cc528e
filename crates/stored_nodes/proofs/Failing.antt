-- For what cause an event of a node with its store fails.
use Rattle.std.proofs.Common.{◌≡◌, ◌≢◌, ◌⊎◌, inl, inr, ℕ, Option, Some, List, [], slice_get, refl, sym, subst, ◌∙◌}
use Rattle.ballots.specs.declared.message.Message.{Message}
use Rattle.ballots.specs.declared.record.Record.{Record}
use Rattle.stable_records.specs.declared.fault.StoreFault.{StoreFault}
use Rattle.agreement_rules.specs.Views.{AgreementConfig, Views}
use Rattle.agreement_rules.specs.Due.{Plan, Plans}
use Rattle.histories.specs.Due.{Input, IsDue, InputKeeps}
use Rattle.histories.specs.Due as input
use Rattle.histories.specs.Event.{Event, node_of}
use Rattle.histories.specs.Event as event
use Rattle.histories.specs.Following.{UpOrDown, IsUp, IsDown}
use Rattle.stored_nodes.specs.declared.fault.StoredNodeFault.{StoredNodeFault}
use Rattle.stored_nodes.specs.declared.fault.StoredNodeFault.TheVariants.{OutOfMemory, Store, Lost}
use Rattle.stored_nodes.specs.State.{StoredNodeState, Stands, IsHanded, UpSends, StoredNodeSends, IsRestart, UpBreaks, StoredNodeBreaks, IsBroken, StoredNodeFails}

-- messages are due to what the event hands over
abbrev pub HasMessages : AgreementConfig → List Message → UpOrDown → Event → Type 0
HasMessages config sent seat e =
    (views : Views) × (asked : Input) × (plan : Plan) × (seat ≡ IsUp views) × IsHanded sent e asked × IsDue config (node_of e) views asked (Plans plan) × (plan.sends ≢ [])

up_has_messages : (config : AgreementConfig) (sent : List Message) (views : Views) (e : Event) → UpSends config sent views e → HasMessages config sent (IsUp views) e
up_has_messages config sent views (event.Put node text) sends = absurd sends
up_has_messages config sent views (event.Tick node left) (plan, is, some) = (views, input.Tick left, plan, refl, refl, is, some)
up_has_messages config sent views (event.Deliver node number) (m, there, (plan, is, some)) = (views, input.Deliver m, plan, refl, (m, there, refl), is, some)
up_has_messages config sent views (event.TickCut node left) sends = absurd sends
up_has_messages config sent views (event.DeliverCut node number) sends = absurd sends
up_has_messages config sent views (event.Restart node) sends = absurd sends
up_has_messages config sent views (event.Get node table version) sends = absurd sends
up_has_messages config sent views (event.Info node table) sends = absurd sends
up_has_messages config sent views (event.Outcome node text) sends = absurd sends

has_messages : (config : AgreementConfig) (sent : List Message) (seat : UpOrDown) (e : Event) → StoredNodeSends config sent seat e → HasMessages config sent seat e
has_messages config sent (IsUp views) e sends = up_has_messages config sent views e sends
has_messages config sent (IsDown records due) e sends = absurd sends

-- the store failed to keep the record that is due, and the node is left in doubt of it; or it failed at a restart
abbrev pub HasRecord : AgreementConfig → List Message → UpOrDown → Event → (UpOrDown → Type 0) → Type 0
HasRecord config sent seat e Left =
    ((views : Views) × (asked : Input) × (last : Record) × (seat ≡ IsUp views) × IsHanded sent e asked × InputKeeps config (node_of e) views asked (Some last)
    × Left (IsDown views.records (Some last)))
    ⊎ ((node : ℕ) × (e ≡ event.Restart node) × Left seat)

module _ (config : AgreementConfig) (sent : List Message) (Left : UpOrDown → Type 0) (left : UpOrDown) (stands : Left left) where
  up_has_record : (views : Views) (e : Event) → UpBreaks config sent views e left → HasRecord config sent (IsUp views) e Left
  up_has_record views (event.Put node text) breaks = absurd breaks
  up_has_record views (event.Tick node passed) (last, keeps, is) = inl (views, input.Tick passed, last, refl, refl, keeps, subst Left is stands)
  up_has_record views (event.Deliver node number) (m, there, (last, keeps, is)) =
      inl (views, input.Deliver m, last, refl, (m, there, refl), keeps, subst Left is stands)
  up_has_record views (event.TickCut node passed) breaks = absurd breaks
  up_has_record views (event.DeliverCut node number) breaks = absurd breaks
  up_has_record views (event.Restart node) is = inr (node, refl, subst Left is stands)
  up_has_record views (event.Get node table version) breaks = absurd breaks
  up_has_record views (event.Info node table) breaks = absurd breaks
  up_has_record views (event.Outcome node text) breaks = absurd breaks

  has_record : (seat : UpOrDown) (e : Event) → StoredNodeBreaks config sent seat e left → HasRecord config sent seat e Left
  has_record (IsUp views) e breaks = up_has_record views e breaks
  has_record (IsDown records due) e ((node, restarts), is) = inr (node, restarts, subst Left is stands)

no_restart : (node other : ℕ) (text : List ℕ) → event.Put node text ≡ event.Restart other → ⊥
no_restart node other text is = cc

module _ {S : Type 0} (old new : StoredNodeState S) (seat : UpOrDown) (before after : List Message) where
  pub fails_for_memory : (e : Event) → StoredNodeFails old new seat before after e OutOfMemory → HasMessages old.config before seat e
  fails_for_memory e (same, sends) = has_messages old.config before seat e sends

  pub fails_by_its_store : (e : Event) (why : StoreFault) → StoredNodeFails old new seat before after e (Store why) → HasRecord old.config before seat e (Stands new)
  fails_by_its_store e why broken = has_record old.config before (Stands new) broken.left broken.stands seat e broken.breaks

  pub fails_as_lost : (e : Event) → StoredNodeFails old new seat before after e Lost → (node : ℕ) × (e ≡ event.Restart node) × Stands new seat
  fails_as_lost e ((node, is), same) = (node, is, same.stands)

  put_has_a_record : (node : ℕ) (text : List ℕ) → HasRecord old.config before seat (event.Put node text) (Stands new) → ⊥
  put_has_a_record node text (inl (views, asked, last, up, is, keeps, left)) =
      let kept : InputKeeps old.config node views (input.Put text) (Some last) = subst (λ (i : Input). InputKeeps old.config node views i (Some last)) is keeps in cc
  put_has_a_record node text (inr (other, is, left)) = no_restart node other text is

  pub no_put_fails : (node : ℕ) (text : List ℕ) (why : StoredNodeFault) → StoredNodeFails old new seat before after (event.Put node text) why → ⊥
  no_put_fails node text OutOfMemory (same, sends) = nothing_is_sent seat sends
    where
      nothing_is_sent : (s : UpOrDown) → StoredNodeSends old.config before s (event.Put node text) → ⊥
      nothing_is_sent (IsUp views) sends = sends
      nothing_is_sent (IsDown records due) sends = sends
  no_put_fails node text (Store why) broken = put_has_a_record node text (fails_by_its_store (event.Put node text) why broken)
  no_put_fails node text Lost ((other, is), same) = no_restart node other text is
