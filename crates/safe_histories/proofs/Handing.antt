-- Whatever a node has, and whatever was sent, is of uploads that were put before.
use Rattle.std.proofs.Common.{◌≡◌, ℕ, ◌+◌, ◌-◌, ◌<◌, ◌≤◌, inl, inr, Bool, true, false, List, [], ◌∷◌, ◌++◌, length, take, drop, Option, Some, None, slice_get, refl, sym, ap, ap₂, subst, ◌∙◌, arith}
use Rattle.std.proofs.lemmas.Bool.{cases_lt, cases_eq}
use Rattle.ballots.specs.declared.message.Message.{Message}
use Rattle.ballots.specs.declared.record.Record.{Record}
use Rattle.table_types.specs.Uploads.{Upload}
use Rattle.histories.specs.Event.{Event, node_of}
use Rattle.histories.specs.Event as event
use Rattle.histories.specs.EventResult.{EventResult, Reason, count_of}
use Rattle.histories.specs.EventResult as results
use Rattle.histories.specs.History.{Step}
use Rattle.agreement_rules.specs.Views.{AgreementConfig, Views, started_with}
use Rattle.agreement_rules.specs.Due.{Plan, Refuses, Plans}
use Rattle.histories.specs.Due.{Input}
use Rattle.histories.specs.Due as input
use Rattle.histories.specs.Following.{UpOrDown, IsUp, IsDown, with_due, recovered_in, down, reason_of, PutGives, SendsGives, InputGives, CutGives, Delivers, GetGives, InfoGives, GetGivesIfAble, InfoGivesIfAble, OutcomeGives, QueryGives, RestartGives, UpGives, RefusesAsDown, DownGives, NodeGives, StepFollows, at_first}
use Rattle.safe_histories.specs.Safe.{IsStep}
use Rattle.safe_histories.proofs.Lists.{in_from_at, dropped_at, taken_at, at_front, at_end}
use Rattle.safe_histories.proofs.Heard.{LearnerLaws}
use Rattle.safe_histories.proofs.Restarts.{step_of}
use Rattle.safe_histories.proofs.Putting.{Each, each_none, each_more, MessageFrom, RecordFrom, DueFrom, ViewsFrom, SeatFrom, PlanFrom, started_from, message_more, seat_more}
use Rattle.safe_histories.proofs.Planning.{ProposerLaws, EachAsked, InputFrom, due_from, kept_from}

module _ (U : List ℕ → Type 0) (proposer : ProposerLaws) (learner : LearnerLaws) (each : EachAsked) (config : AgreementConfig) (sent : List Message) (next : ℕ)
    (were_sent : (i : ℕ) (m : Message) → i < next → slice_get sent i ≡ Some m → MessageFrom U m) where
  -- what the event leaves, and what it sends
  abbrev Leaves : EventResult → UpOrDown → Type 0
  Leaves given seat = SeatFrom U seat
      × ((i : ℕ) (m : Message) → next ≤ i → i < next + count_of given → slice_get sent i ≡ Some m → MessageFrom U m)

  with_it : (given was : EventResult) (seat other : UpOrDown) → given ≡ was → seat ≡ other → Leaves was other → Leaves given seat
  with_it given was seat other same also leaves = subst (λ (g : EventResult). Leaves g seat) (sym same) (subst (Leaves was) (sym also) leaves)

  nothing_sent : (given : EventResult) (seat : UpOrDown) → count_of given ≡ 0 → SeatFrom U seat → Leaves given seat
  nothing_sent given seat none from = (from, λ i m ge lt at. absurd (omega (arith, ge, lt, none)))

  these_sent : (plan : Plan) → PlanFrom U plan → take (length plan.sends) (drop next sent) ≡ plan.sends → (i : ℕ) (m : Message) → next ≤ i
      → i < next + length plan.sends → slice_get sent i ≡ Some m → MessageFrom U m
  these_sent plan from goes i m ge lt at =
      let count = length plan.sends in
      let back : i ≡ next + (i - next) = omega (arith, ge) in
      let there = dropped_at next (i - next) sent m (subst (λ (k : ℕ). slice_get sent k ≡ Some m) back at) in
      let taken = taken_at count (i - next) (drop next sent) m (omega (arith, ge, lt)) there in
      from.sends m (in_from_at plan.sends (i - next) m (subst (λ l. slice_get l (i - next) ≡ Some m) goes taken))

  -- ---- a node that is up

  module _ (views : Views) (from : ViewsFrom U views) (node : ℕ) where
    refused_leaves : (given : EventResult) (seat : UpOrDown) (reason : Reason) → given ≡ results.Refused reason → seat ≡ IsUp views → Leaves given seat
    refused_leaves given seat reason gives stays =
        with_it given (results.Refused reason) seat (IsUp views) gives stays (nothing_sent (results.Refused reason) (IsUp views) refl from)

    put_leaves : (text : List ℕ) (given : EventResult) (seat : UpOrDown) → (given ≡ results.Done → U text)
        → InputGives config node views (input.Put text) (PutGives views) given seat → Leaves given seat
    put_leaves text given seat put (inl (Refuses refusal, is, (gives, stays))) = refused_leaves given seat (reason_of refusal) gives stays
    put_leaves text given seat put (inl (Plans plan, is, (gives, stays))) =
        let plan_from = due_from U proposer learner each config node views (input.Put text) plan from (put gives) is in
        with_it given results.Done seat (IsUp plan.after) gives stays (nothing_sent results.Done (IsUp plan.after) refl plan_from.after)
    put_leaves text given seat put (inr (allowed, (gives, stays))) = refused_leaves given seat results.OutOfMemory gives stays

    input_leaves : (i : Input) (given : EventResult) (seat : UpOrDown) → InputFrom U proposer learner each i
        → InputGives config node views i (SendsGives sent next views) given seat → Leaves given seat
    input_leaves i given seat comes (inl (Refuses refusal, is, (gives, stays))) = refused_leaves given seat (reason_of refusal) gives stays
    input_leaves i given seat comes (inl (Plans plan, is, (gives, goes, stays))) =
        let plan_from = due_from U proposer learner each config node views i plan from comes is in
        with_it given (results.Sent next (length plan.sends)) seat (IsUp plan.after) gives stays (plan_from.after, these_sent plan plan_from goes)
    input_leaves i given seat comes (inr (allowed, (gives, stays))) = refused_leaves given seat results.OutOfMemory gives stays

    deliver_leaves : (number : ℕ) (given : EventResult) (seat : UpOrDown)
        → Delivers sent next number (λ m. InputGives config node views (input.Deliver m) (SendsGives sent next views)) views given seat → Leaves given seat
    deliver_leaves number given seat (inl (m, before, there, gives)) = input_leaves (input.Deliver m) given seat (were_sent number m before there) gives
    deliver_leaves number given seat (inr (past, gives, stays)) = refused_leaves given seat results.NotSent gives stays

    cut_leaves : (i : Input) (given : EventResult) (seat : UpOrDown) → InputFrom U proposer learner each i → CutGives config node views i given seat → Leaves given seat
    cut_leaves i given seat comes (gives, (kept, keeps, stays)) =
        with_it given results.Done seat (IsDown views.records kept) gives stays
        (nothing_sent results.Done (IsDown views.records kept) refl (from.records, kept_from U proposer learner each config node views i kept from comes keeps))

    deliver_cut_leaves : (number : ℕ) (given : EventResult) (seat : UpOrDown) → Delivers sent next number (λ m. CutGives config node views (input.Deliver m)) views given seat
        → Leaves given seat
    deliver_cut_leaves number given seat (inl (m, before, there, cut)) = cut_leaves (input.Deliver m) given seat (were_sent number m before there) cut
    deliver_cut_leaves number given seat (inr (past, gives, stays)) = refused_leaves given seat results.NotSent gives stays

    asked_leaves : (given : EventResult) (seat : UpOrDown) (Gives : List Upload → EventResult → Type 0) → ((uploads : List Upload) → Gives uploads given → count_of given ≡ 0)
        → QueryGives config views Gives given seat → Leaves given seat
    asked_leaves given seat Gives none (uploads, has, gives, stays) =
        subst (Leaves given) (sym stays) (nothing_sent given (IsUp views) (none uploads gives) from)

  get_sends : (uploads : List Upload) (table : List ℕ) (version : ℕ) (given : EventResult) → GetGives uploads table version given → count_of given ≡ 0
  get_sends uploads table version given (inl (recovered, is, gives)) = ap count_of gives
  get_sends uploads table version given (inr (none, gives)) = ap count_of gives

  info_sends : (uploads : List Upload) (table : List ℕ) (given : EventResult) → InfoGives uploads table given → count_of given ≡ 0
  info_sends uploads table given (inl (some, gives)) = ap count_of gives
  info_sends uploads table given (inr (none, gives)) = ap count_of gives

  able_to_get_sends : (uploads : List Upload) (table : List ℕ) (version : ℕ) (given : EventResult) → GetGivesIfAble uploads table version given → count_of given ≡ 0
  able_to_get_sends uploads table version given (inl gives) = get_sends uploads table version given gives
  able_to_get_sends uploads table version given (inr (some, gives)) = ap count_of gives

  able_to_tell_sends : (uploads : List Upload) (table : List ℕ) (given : EventResult) → InfoGivesIfAble uploads table given → count_of given ≡ 0
  able_to_tell_sends uploads table given (inl gives) = info_sends uploads table given gives
  able_to_tell_sends uploads table given (inr (some, gives)) = ap count_of gives

  outcome_sends : (uploads : List Upload) (text : List ℕ) (given : EventResult) → OutcomeGives uploads text given → count_of given ≡ 0
  outcome_sends uploads text given (upload, is, gives) = ap count_of gives

  -- ---- restarts

  due_recovered : (recovered : Bool) (records : List Record) (due : Option Record) → Each (RecordFrom U) records → DueFrom U due → Each (RecordFrom U) (with_due recovered records due)
  due_recovered recovered records None from is = from
  due_recovered true records (Some due) from is = each_more (RecordFrom U) records due from is
  due_recovered false records (Some due) from is = from

  records_recovered : (recovered : Bool) (old : UpOrDown) → SeatFrom U old → Each (RecordFrom U) (recovered_in recovered old)
  records_recovered recovered (IsUp views) from = from.records
  records_recovered recovered (IsDown records due) from = due_recovered recovered records due from.0 from.1

  down_from : (old : UpOrDown) → SeatFrom U old → SeatFrom U (down old)
  down_from (IsUp views) from = (from.records, tt)
  down_from (IsDown records due) from = from

  restart_leaves : (recovered : Bool) (old : UpOrDown) (given : EventResult) (seat : UpOrDown) → SeatFrom U old → RestartGives recovered old given seat → Leaves given seat
  restart_leaves recovered old given seat from (inl (gives, stays)) =
      let up = IsUp (started_with (recovered_in recovered old)) in
      with_it given results.Done seat up gives stays (nothing_sent results.Done up refl (started_from U (recovered_in recovered old) (records_recovered recovered old from)))
  restart_leaves recovered old given seat from (inr (gives, stays)) =
      let out = results.Refused results.OutOfMemory in
      with_it given out seat (down old) gives stays (nothing_sent out (down old) refl (down_from old from))

  -- ---- all events

  up_leaves : (recovered : Bool) (views : Views) (e : Event) (given : EventResult) (seat : UpOrDown) → ViewsFrom U views
      → ((node : ℕ) (text : List ℕ) → e ≡ event.Put node text → given ≡ results.Done → U text) → UpGives config sent next recovered views e given seat → Leaves given seat
  up_leaves recovered views (event.Put node text) given seat from put gives = put_leaves views from node text given seat (put node text refl) gives
  up_leaves recovered views (event.Tick node left) given seat from put gives = input_leaves views from node (input.Tick left) given seat tt gives
  up_leaves recovered views (event.Deliver node number) given seat from put gives = deliver_leaves views from node number given seat gives
  up_leaves recovered views (event.TickCut node left) given seat from put gives = cut_leaves views from node (input.Tick left) given seat tt gives
  up_leaves recovered views (event.DeliverCut node number) given seat from put gives = deliver_cut_leaves views from node number given seat gives
  up_leaves recovered views (event.Restart node) given seat from put gives = restart_leaves recovered (IsUp views) given seat from gives
  up_leaves recovered views (event.Get node table version) given seat from put gives =
      asked_leaves views from node given seat (λ uploads. GetGivesIfAble uploads table version) (λ uploads got. able_to_get_sends uploads table version given got) gives
  up_leaves recovered views (event.Info node table) given seat from put gives =
      asked_leaves views from node given seat (λ uploads. InfoGivesIfAble uploads table) (λ uploads got. able_to_tell_sends uploads table given got) gives
  up_leaves recovered views (event.Outcome node text) given seat from put gives =
      asked_leaves views from node given seat (λ uploads. OutcomeGives uploads text) (λ uploads got. outcome_sends uploads text given got) gives

  refused_down : (old : UpOrDown) (given : EventResult) (seat : UpOrDown) → SeatFrom U old → RefusesAsDown old given seat → Leaves given seat
  refused_down old given seat from (gives, stays) =
      with_it given (results.Refused results.Down) seat old gives stays (nothing_sent (results.Refused results.Down) old refl from)

  down_leaves : (recovered : Bool) (records : List Record) (due : Option Record) (e : Event) (given : EventResult) (seat : UpOrDown) → SeatFrom U (IsDown records due)
      → DownGives recovered (IsDown records due) e given seat → Leaves given seat
  down_leaves recovered records due (event.Put node text) given seat from gives = refused_down (IsDown records due) given seat from gives
  down_leaves recovered records due (event.Tick node left) given seat from gives = refused_down (IsDown records due) given seat from gives
  down_leaves recovered records due (event.Deliver node number) given seat from gives = refused_down (IsDown records due) given seat from gives
  down_leaves recovered records due (event.TickCut node left) given seat from gives = refused_down (IsDown records due) given seat from gives
  down_leaves recovered records due (event.DeliverCut node number) given seat from gives = refused_down (IsDown records due) given seat from gives
  down_leaves recovered records due (event.Restart node) given seat from gives = restart_leaves recovered (IsDown records due) given seat from gives
  down_leaves recovered records due (event.Get node table version) given seat from gives = refused_down (IsDown records due) given seat from gives
  down_leaves recovered records due (event.Info node table) given seat from gives = refused_down (IsDown records due) given seat from gives
  down_leaves recovered records due (event.Outcome node text) given seat from gives = refused_down (IsDown records due) given seat from gives

  seat_leaves : (recovered : Bool) (old : UpOrDown) (e : Event) (given : EventResult) (seat : UpOrDown) → SeatFrom U old
      → ((node : ℕ) (text : List ℕ) → e ≡ event.Put node text → given ≡ results.Done → U text) → NodeGives config sent next recovered old e given seat → Leaves given seat
  seat_leaves recovered (IsUp views) e given seat from put gives = up_leaves recovered views e given seat from put gives
  seat_leaves recovered (IsDown records due) e given seat from put gives = down_leaves recovered records due e given seat from gives

  all_leave : (recovered : Bool) (old new : ℕ → UpOrDown) (step : Step) → ((node : ℕ) → SeatFrom U (old node))
      → ((node : ℕ) (text : List ℕ) → step.event ≡ event.Put node text → step.result ≡ results.Done → U text) → StepFollows config sent next old step recovered new
      → ((node : ℕ) → SeatFrom U (new node)) × ((i : ℕ) (m : Message) → i < next + count_of step.result → slice_get sent i ≡ Some m → MessageFrom U m)
  all_leave recovered old new step from put (inl (member, gives, others)) =
      let here = node_of step.event in
      let leaves = seat_leaves recovered (old here) step.event step.result (new here) (from here) put gives in (
        λ node. elim (cases_eq node here) as (λ _. SeatFrom U (new node)) [
          | inl same ↦ subst (λ (n : ℕ). SeatFrom U (new n)) (sym same) leaves.0
          | inr apart ↦ subst (SeatFrom U) (sym (others node apart)) (from node)
        ],
        λ i m lt at. elim (cases_lt i next) as (λ _. MessageFrom U m) [
          | inl before ↦ were_sent i m before at
          | inr past ↦ leaves.1 i m past lt at
        ],
      )
  all_leave recovered old new step from put (inr (past, gives, same)) =
      let none : count_of step.result ≡ 0 = ap count_of gives in (
        λ node. subst (SeatFrom U) (sym (same node)) (from node),
        λ i m lt at. were_sent i m (omega (arith, lt, none)) at,
      )

-- ---- texts that were put

-- the text was handed to some node that took it
abbrev pub WasPut : List Step → List ℕ → Type 0
WasPut done text = (earlier : ℕ) × (node : ℕ) × IsStep done earlier (event.Put node text) results.Done

put_earlier : (done : List Step) (step : Step) (text : List ℕ) → WasPut done text → WasPut (done ++ step ∷ []) text
put_earlier done step text (earlier, node, at) = (earlier, node, at_front done (step ∷ []) earlier (step_of (event.Put node text) results.Done) at)

put_now : (done : List Step) (step : Step) (node : ℕ) (text : List ℕ) → step.event ≡ event.Put node text → step.result ≡ results.Done → WasPut (done ++ step ∷ []) text
put_now done step node text put took = (length done, node, at_end done [] step ∙ ap Some (ap₂ step_of put took))

module _ (proposer : ProposerLaws) (learner : LearnerLaws) (each : EachAsked) (config : AgreementConfig) (sent : List Message) where
  -- all that nodes have and all that was sent was put
  abbrev pub AllPut : List Step → (ℕ → UpOrDown) → ℕ → Type 0
  AllPut done seats next =
      ((node : ℕ) → SeatFrom (WasPut done) (seats node))
      × ((i : ℕ) (m : Message) → i < next → slice_get sent i ≡ Some m → MessageFrom (WasPut done) m)

  pub step_put : (done : List Step) (old new : ℕ → UpOrDown) (next : ℕ) (step : Step) (recovered : Bool) → AllPut done old next
      → StepFollows config sent next old step recovered new → AllPut (done ++ step ∷ []) new (next + count_of step.result)
  step_put done old new next step recovered (have, were_sent) one =
      let later = WasPut (done ++ step ∷ []) in
      let more = put_earlier done step in
      all_leave later proposer learner each config sent next (λ i m lt at. message_more (WasPut done) later more m (were_sent i m lt at)) recovered old new step
      (λ node. seat_more (WasPut done) later more (old node) (have node)) (put_now done step) one

  pub put_at_first : AllPut [] at_first 0
  put_at_first = (λ node. started_from (WasPut []) [] (each_none (RecordFrom (WasPut []))), λ i m lt at. absurd (omega (arith, lt)))
