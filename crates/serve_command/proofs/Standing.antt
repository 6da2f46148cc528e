-- Nodes that have started again, and where their journal begins.
use Rattle.std.proofs.Common.{◌≡◌, ◌<◌, arith, List, [], ◌∷◌, ◌++◌, length, slice_index_or, refl, sym, ap, subst, ◌∙◌}
use Rattle.std.proofs.lemmas.List.{length-map, length_push, get_or-map, get_or_append_left, get_or_push}
use Rattle.flight_service.specs.parts.ballots.specs.declared.record.Record.{Record}
use Rattle.flight_service.specs.parts.ballots.specs.declared.message.Message.{Message}
use Rattle.flight_service.specs.parts.agreement_rules.specs.Views.{AgreementConfig as Agreed}
use Rattle.flight_service.specs.parts.histories.specs.Following.{UpOrDown, IsUp, at_first}
use Rattle.stored_nodes.specs.State.{StoredNodeState}
use Rattle.flight_service.specs.parts.traces.specs.declared.config.Config.{Config}
use Rattle.flight_service.specs.parts.traces.specs.Told.{config_of}
use Rattle.flight_service.specs.journal.specs.Journaled.{seats_in}
use Rattle.flight_service.specs.seats.specs.State.{StandsSo}
use Rattle.resumed_nodes.specs.Heard.{heard, starts_of}
use Rattle.resumed_nodes.specs.Starting.{AreStarted, records_at_nodes}
use Rattle.serve_command.specs.Restarting.{IsAtStart, AreAtStart}

-- ---- none of them

pub none_started : {S : Type 0} (config : Agreed) (told : List Message) → AreStarted {S = S} config told []
none_started config told number d within = absurd (omega (arith, within))

-- ---- where they stand

module _ {S : Type 0} (config : Config) (start : List UpOrDown) where
  pub at_start : (nodes : List (StoredNodeState S)) (told : List Message) → start ≡ starts_of (records_at_nodes nodes) told → AreStarted (config_of config) told nodes → AreAtStart config start nodes
  at_start nodes told named started number d within =
      let node = slice_index_or nodes number d in
      let is = started number d within in
      let among : number < length (records_at_nodes nodes) = omega (arith, within, length-map nodes (λ (n : StoredNodeState S). n.records)) in
      let records : slice_index_or (records_at_nodes nodes) number d.records ≡ node.records = get_or-map (λ (n : StoredNodeState S). n.records) nodes number d d.records within in
      let seat : seats_in (starts_of (records_at_nodes nodes) told) number ≡ IsUp (heard node.records told) =
      get_or-map (λ (rs : List Record). IsUp (heard rs told)) (records_at_nodes nodes) number d.records (at_first number) among
      ∙ ap (λ (rs : List Record). IsUp (heard rs told)) records in
      let stands : seats_in start node.me ≡ IsUp (heard node.records told) =
      ap (λ (l : List UpOrDown). seats_in l node.me) named ∙ ap (seats_in (starts_of (records_at_nodes nodes) told)) is.me_is ∙ seat in
      record {
        config_is = is.config_is;
        placed = is.placed;
        stands = subst (StandsSo node) (sym stands) is.stands;
      }

  -- the last of them, and the others
  pub last_at_start : (nodes : List (StoredNodeState S)) (last : StoredNodeState S) → AreAtStart config start (nodes ++ last ∷ []) → IsAtStart config start last
  last_at_start nodes last all =
      subst (IsAtStart config start) (get_or_push nodes last last (length nodes) refl) (all (length nodes) last (omega (arith, length_push nodes last)))

  pub others_at_start : (nodes : List (StoredNodeState S)) (last : StoredNodeState S) → AreAtStart config start (nodes ++ last ∷ []) → AreAtStart config start nodes
  others_at_start nodes last all number d within =
      subst (IsAtStart config start) (get_or_append_left nodes (last ∷ []) d number within) (all number d (omega (arith, within, length_push nodes last)))
