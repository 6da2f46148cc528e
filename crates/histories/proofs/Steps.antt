-- One step of a history after the other: what was sent so far is allowed, and each node knows of it what it has to.
use Rattle.std.proofs.Common.{◌≡◌, ◌≢◌, ℕ, ◌+◌, ◌<◌, inl, inr, Bool, true, List, [], ◌∷◌, ◌++◌, length, take, drop, slice_get, Option, Some, None, refl, sym, ap, subst, ◌∙◌, arith}
use Rattle.std.specs.List.{Contains}
use Rattle.std.proofs.lemmas.Bool.{cases_lt, cases_eq}
use Rattle.std.proofs.lemmas.Option.{slice_get_within, get_or_from_slice_get}
use Rattle.ballots.specs.declared.record.Record.{Record}
use Rattle.ballots.specs.declared.message.Message.{Message}
use Rattle.ballots.specs.declared.message.Body.{Body}
use Rattle.ballots.specs.declared.message.Body.TheVariants as body
use Rattle.ballots.specs.Message.{message}
use Rattle.proposer.specs.Call.{Begun, ProposerCall as Asked, Begins}
use Rattle.table_types.specs.Uploads.{Upload}
use Rattle.lawful_histories.specs.Lawful.{IsLawful}
use Rattle.lawful_histories.specs.Saying.{Saying, says, sayings}
use Rattle.lawful_histories.specs.Saying as say
use Rattle.agreement_rules.specs.Views.{AgreementConfig, Views, started_with}
use Rattle.agreement_rules.specs.Due.{Plan, Due, Refuses, Plans, record_due, BodyKeeps, MessageKeeps, TickKeeps}
use Rattle.histories.specs.Due.{Input, IsDue, InputKeeps}
use Rattle.agreement_rules.specs.Due as due
use Rattle.histories.specs.Due as input
use Rattle.histories.specs.Event.{Event, node_of}
use Rattle.histories.specs.Event as event
use Rattle.histories.specs.EventResult.{EventResult, count_of}
use Rattle.histories.specs.EventResult as results
use Rattle.histories.specs.History.{Step, History}
use Rattle.histories.specs.Following.{UpOrDown, IsUp, IsDown, recovered_in, down, reason_of, WantsMemory, PutGives, SendsGives, InputGives, CutGives, Delivers, GetGives, InfoGives, GetGivesIfAble, InfoGivesIfAble, OutcomeGives, QueryGives, RestartGives, UpGives, RefusesAsDown, DownGives, NodeGives, StepFollows, StepsReach, at_first, Follows}
use Rattle.histories.proofs.Lists.{nothing_in}
use Rattle.histories.proofs.Sayings.{WasSaidBefore, of_its_slot, said_by, were_said}
use Rattle.histories.proofs.Rules.{AllowsSaying, AreAllowed, slot_is_lawful}
use Rattle.histories.proofs.Knowing.{IsOwn, MayBeDue, KnowsRecords, KnowsSeat, one_record_more, knows_with_due}
use Rattle.histories.proofs.Dues.{Laws, kept_with, MayBeSent, Keeps, KeepsIfPlanned, of_message, of_tick, of_put}
use Rattle.histories.proofs.Sending.{kept, came, each_allowed, ApartIfUp, seat_later, other_later}

-- ---- a node that starts

nothing_open : (b : Begun) (before since : List Asked) → [] ≡ before ++ Begins b ∷ since → ⊥
nothing_open b [] since e = cc
nothing_open b (call ∷ before) since e = cc

pub knows_at_start : (members : ℕ) (WasSaid : ℕ → Saying → Type 0) (me : ℕ) (records : List Record) → KnowsRecords WasSaid me records
    → KnowsSeat members WasSaid me (IsUp (started_with records))
knows_at_start members WasSaid me records knows = record {
  records = λ found. knows;
  up = record {
    promises = λ p has. absurd (nothing_in _ has);
    begun = λ b has. absurd (nothing_in _ has);
    plain = λ b has. absurd (nothing_in _ has);
    complete = λ b since is_open s v was. absurd (nothing_open b is_open.before since is_open.split);
    told_of = λ call has. absurd (nothing_in call has);
  };
}

-- ---- what one node's step leaves

module _ (config : AgreementConfig) (sent : List Message) (next me : ℕ) where
  abbrev WasSaid : ℕ → Saying → Type 0
  WasSaid s x = WasSaidBefore sent next s x

  -- the messages that go out, all its own and allowed, and what the node knows then
  pub record Moves (given : EventResult) (new : UpOrDown) : Type 0 where
    pub ms : List Message
    pub count : count_of given ≡ length ms
    pub placed : take (length ms) (drop next sent) ≡ ms
    pub own : (m : Message) → Contains ms m → IsOwn me m
    pub allowed : MayBeSent config.members sent next ms
    pub after : KnowsSeat config.members (WasSaidBefore sent (next + length ms)) me new

  -- nothing goes out
  apart_of_none : (seat : UpOrDown) → ApartIfUp config.members [] seat
  apart_of_none (IsUp views) = λ b since is_open s v (m, has, is). absurd (nothing_in m has)
  apart_of_none (IsDown records due) = tt

  rests : (given : EventResult) (new : UpOrDown) → count_of given ≡ 0 → KnowsSeat config.members WasSaid me new → Moves given new
  rests given new none knows = record {
    ms = [];
    count = none;
    placed = refl;
    own = λ m has. absurd (nothing_in m has);
    allowed = inr (λ m has k le. absurd (nothing_in m has));
    after = seat_later config.members WasSaid (WasSaidBefore sent (next + length {A = Message} [])) [] (kept sent next [] refl) (came sent next [] refl) me new knows
        (λ found m has. absurd (nothing_in m has)) (apart_of_none new);
  }

  given_rests : (given other : EventResult) (new seat : UpOrDown) → given ≡ other → count_of other ≡ 0 → new ≡ seat → KnowsSeat config.members WasSaid me seat → Moves given new
  given_rests given other new seat is none same knows =
      rests given new (ap count_of is ∙ none) (subst (λ (s : UpOrDown). KnowsSeat config.members WasSaid me s) (sym same) knows)

  -- ---- a node that is up

  module _ (laws : Laws) (lawful : AreAllowed config.members sent next)
      (views : Views) (knows : KnowsSeat config.members WasSaid me (IsUp views)) where
    abbrev of_records : KnowsRecords WasSaid me views.records
    of_records = knows.records true

    abbrev KeepsDue : Due → Type 0
    KeepsDue due = KeepsIfPlanned config.members sent next me views.records due

    stays : (given other : EventResult) (new : UpOrDown) → given ≡ other → count_of other ≡ 0 → new ≡ IsUp views → Moves given new
    stays given other new is none same = given_rests given other new (IsUp views) is none same knows

    -- what is due leaves the node, before the messages go out
    records_after : (due : Option Record) → MayBeDue WasSaid due → KnowsRecords WasSaid me (kept_with views.records due)
    records_after None may = of_records
    records_after (Some r) may = one_record_more WasSaid me views.records r of_records may

    planned_seat : (plan : Plan) → Keeps config.members sent next me views.records plan → KnowsSeat config.members WasSaid me (IsUp plan.after)
    planned_seat plan keeps = record {
      records = λ found. subst (λ (l : List Record). KnowsRecords WasSaid me l) (sym keeps.records_are) (records_after plan.kept keeps.due);
      up = keeps.calls;
    }

    -- and then
    goes_out : (plan : Plan) (given : EventResult) (new : UpOrDown) → Keeps config.members sent next me views.records plan → given ≡ results.Sent next (length plan.sends)
        → take (length plan.sends) (drop next sent) ≡ plan.sends → new ≡ IsUp plan.after → Moves given new
    goes_out plan given new keeps is placed same = record {
      ms = plan.sends;
      count = ap count_of is;
      placed = placed;
      own = keeps.own;
      allowed = keeps.allowed;
      after = subst (λ (s : UpOrDown). KnowsSeat config.members (WasSaidBefore sent (next + length plan.sends)) me s) (sym same)
          (seat_later config.members WasSaid (WasSaidBefore sent (next + length plan.sends)) plan.sends (kept sent next plan.sends placed) (came sent next plan.sends placed) me (IsUp plan.after)
          (planned_seat plan keeps) (λ found m has. keeps.covered m has) keeps.apart);
    }

    no_count : (refusal : due.Refusal) → count_of (results.Refused (reason_of refusal)) ≡ 0
    no_count refusal = refl

    of_step : (due : Due) (given : EventResult) (new : UpOrDown) → KeepsDue due → SendsGives sent next views due given new → Moves given new
    of_step (Refuses refusal) given new keeps (is, same) = stays given (results.Refused (reason_of refusal)) new is (no_count refusal) same
    of_step (Plans plan) given new keeps (is, placed, same) = goes_out plan given new keeps is placed same

    of_taking : (due : Due) (given : EventResult) (new : UpOrDown) → KeepsDue due → PutGives views due given new → Moves given new
    of_taking (Refuses refusal) given new keeps (is, same) = stays given (results.Refused (reason_of refusal)) new is (no_count refusal) same
    of_taking (Plans plan) given new keeps (is, same) = given_rests given results.Done new (IsUp plan.after) is refl same (planned_seat plan keeps)

    wants : (given : EventResult) (new : UpOrDown) → WantsMemory views given new → Moves given new
    wants given new (is, same) = stays given (results.Refused results.OutOfMemory) new is refl same

    -- a cut: the record that is due is kept, or it is not
    record_may : (due : Due) → KeepsDue due → MayBeDue WasSaid (record_due due)
    record_may (Refuses refusal) keeps = tt
    record_may (Plans plan) keeps = keeps.due

    -- a record of no message was proposed by nobody, and that of an acceptance by who sent the Accept
    may_be_none : (kept : Option Record) → kept ≡ None → MayBeDue WasSaid kept
    may_be_none kept is = subst (MayBeDue WasSaid) (sym is) tt

    body_may : (sender slot : ℕ) (b : Body) (kept : Option Record) → ((s : ℕ) → WasSaid s (says (message sender slot b) s)) → BodyKeeps views.records slot b kept → MayBeDue WasSaid kept
    body_may sender slot (body.Prepare ballot) kept was (standing, restored, inl (above, is)) = subst (MayBeDue WasSaid) (sym is) tt
    body_may sender slot (body.Prepare ballot) kept was (standing, restored, inr (not, is)) = may_be_none kept is
    body_may sender slot (body.Accept proposal) kept was (standing, restored, inl (above, is)) =
        subst (MayBeDue WasSaid) (sym is) (of_its_slot WasSaid slot (say.Accept proposal.ballot proposal.value) was)
    body_may sender slot (body.Accept proposal) kept was (standing, restored, inr (not, is)) = may_be_none kept is
    body_may sender slot (body.Promise ballot report) kept was is = may_be_none kept is
    body_may sender slot (body.Nack ballot promised) kept was is = may_be_none kept is
    body_may sender slot (body.Accepted acceptance) kept was is = may_be_none kept is
    body_may sender slot (body.Decided value) kept was is = may_be_none kept is
    body_may sender slot body.Ask kept was is = may_be_none kept is

    message_may : (m : Message) (kept : Option Record) → ((s : ℕ) → WasSaid s (says m s)) → MessageKeeps config views m kept → MayBeDue WasSaid kept
    message_may m kept was (inl (is_of, keeps)) = body_may m.sender m.slot m.body kept was keeps
    message_may m kept was (inr (stranger, is)) = may_be_none kept is

    down_with : (due : Option Record) → MayBeDue WasSaid due → KnowsSeat config.members WasSaid me (IsDown views.records due)
    down_with due may = record { records = λ found. knows_with_due WasSaid me found views.records due of_records may; up = tt }

    of_cut : (asked : Input) (given : EventResult) (new : UpOrDown) → ((kept : Option Record) → InputKeeps config me views asked kept → MayBeDue WasSaid kept)
        → CutGives config me views asked given new → Moves given new
    of_cut asked given new may (is, (kept, keeps, same)) =
        given_rests given results.Done new (IsDown views.records kept) is refl same (down_with kept (may kept keeps))

    tick_may : (left : ℕ) → ((due : Due) → IsDue config me views (input.Tick left) due → KeepsDue due) → (kept : Option Record)
        → TickKeeps config me views left kept → MayBeDue WasSaid kept
    tick_may left keeps kept (due, is_due, is) = subst (MayBeDue WasSaid) (sym is) (record_may due (keeps due is_due))

    -- what is due to an input
    of_due_step : (asked : Input) (given : EventResult) (new : UpOrDown) → ((due : Due) → IsDue config me views asked due → KeepsDue due)
        → InputGives config me views asked (SendsGives sent next views) given new → Moves given new
    of_due_step asked given new keeps (inl (due, is_due, gives)) = of_step due given new (keeps due is_due) gives
    of_due_step asked given new keeps (inr (allowed, out)) = wants given new out

    of_due_put : (asked : Input) (given : EventResult) (new : UpOrDown) → ((due : Due) → IsDue config me views asked due → KeepsDue due)
        → InputGives config me views asked (PutGives views) given new → Moves given new
    of_due_put asked given new keeps (inl (due, is_due, gives)) = of_taking due given new (keeps due is_due) gives
    of_due_put asked given new keeps (inr (allowed, out)) = wants given new out

    -- a message that is delivered was sent
    delivered : (number : ℕ) (m : Message) → number < next → slice_get sent number ≡ Some m → (s : ℕ) → WasSaid s (says m s)
    delivered number m lt is s = were_said sent s next m number lt (slice_get_within sent number m is, get_or_from_slice_get sent number m m is)

    due_of_message : (number : ℕ) (m : Message) → number < next → slice_get sent number ≡ Some m → (due : Due) → IsDue config me views (input.Deliver m) due → KeepsDue due
    due_of_message number m lt is due is_due = of_message laws config sent next me lawful views of_records knows.up m due (delivered number m lt is) is_due

    due_of_tick : (left : ℕ) (due : Due) → IsDue config me views (input.Tick left) due → KeepsDue due
    due_of_tick left due is_due = of_tick laws config sent next me lawful views of_records knows.up left due is_due

    due_of_put : (text : List ℕ) (due : Due) → IsDue config me views (input.Put text) due → KeepsDue due
    due_of_put text due is_due = of_put laws config sent next me lawful views of_records knows.up text due is_due

    of_delivery : (number : ℕ) (given : EventResult) (new : UpOrDown)
        → Delivers sent next number (λ m. InputGives config me views (input.Deliver m) (SendsGives sent next views)) views given new → Moves given new
    of_delivery number given new (inl (m, lt, is, gives)) = of_due_step (input.Deliver m) given new (due_of_message number m lt is) gives
    of_delivery number given new (inr (late, is, same)) = stays given (results.Refused results.NotSent) new is refl same

    of_delivery_cut : (number : ℕ) (given : EventResult) (new : UpOrDown)
        → Delivers sent next number (λ m. CutGives config me views (input.Deliver m)) views given new → Moves given new
    of_delivery_cut number given new (inl (m, lt, is, gives)) =
        of_cut (input.Deliver m) given new (λ kept. message_may m kept (delivered number m lt is)) gives
    of_delivery_cut number given new (inr (late, is, same)) = stays given (results.Refused results.NotSent) new is refl same

    -- a query
    get_counts : (uploads : List Upload) (table : List ℕ) (version : ℕ) (given : EventResult) → GetGives uploads table version given → count_of given ≡ 0
    get_counts uploads table version given (inl (found, is, e)) = ap count_of e
    get_counts uploads table version given (inr (none, e)) = ap count_of e

    info_counts : (uploads : List Upload) (table : List ℕ) (given : EventResult) → InfoGives uploads table given → count_of given ≡ 0
    info_counts uploads table given (inl (some, e)) = ap count_of e
    info_counts uploads table given (inr (none, e)) = ap count_of e

    outcome_counts : (uploads : List Upload) (text : List ℕ) (given : EventResult) → OutcomeGives uploads text given → count_of given ≡ 0
    outcome_counts uploads text given (upload, is_text, e) = ap count_of e

    get_counts_too : (uploads : List Upload) (table : List ℕ) (version : ℕ) (given : EventResult) → GetGivesIfAble uploads table version given → count_of given ≡ 0
    get_counts_too uploads table version given (inl gives) = get_counts uploads table version given gives
    get_counts_too uploads table version given (inr (some, e)) = ap count_of e

    info_counts_too : (uploads : List Upload) (table : List ℕ) (given : EventResult) → InfoGivesIfAble uploads table given → count_of given ≡ 0
    info_counts_too uploads table given (inl gives) = info_counts uploads table given gives
    info_counts_too uploads table given (inr (some, e)) = ap count_of e

    of_question : (Gives : List Upload → EventResult → Type 0) (given : EventResult) (new : UpOrDown) → ((uploads : List Upload) → Gives uploads given → count_of given ≡ 0)
        → QueryGives config views Gives given new → Moves given new
    of_question Gives given new counts (uploads, has, gives, same) =
        rests given new (counts uploads gives) (subst (λ (s : UpOrDown). KnowsSeat config.members WasSaid me s) (sym same) knows)

  -- ---- a start

  down_knows : (old : UpOrDown) → KnowsSeat config.members WasSaid me old → KnowsSeat config.members WasSaid me (down old)
  down_knows (IsUp views) knows = record { records = λ found. knows.records true; up = tt }
  down_knows (IsDown records due) knows = knows

  of_restart : (found : Bool) (old : UpOrDown) (given : EventResult) (new : UpOrDown) → KnowsSeat config.members WasSaid me old → RestartGives found old given new → Moves given new
  of_restart found old given new knows (inl (is, same)) =
      given_rests given results.Done new (IsUp (started_with (recovered_in found old))) is refl same (knows_at_start config.members WasSaid me (recovered_in found old) (knows.records found))
  of_restart found old given new knows (inr (is, same)) = given_rests given (results.Refused results.OutOfMemory) new (down old) is refl same (down_knows old knows)

  -- ---- a node that is down

  refuses : (old : UpOrDown) (given : EventResult) (new : UpOrDown) → KnowsSeat config.members WasSaid me old → RefusesAsDown old given new → Moves given new
  refuses old given new knows (is, same) = given_rests given (results.Refused results.Down) new old is refl same knows

  of_down : (found : Bool) (old : UpOrDown) (e : Event) (given : EventResult) (new : UpOrDown) → KnowsSeat config.members WasSaid me old → DownGives found old e given new → Moves given new
  of_down found old (event.Put node text) given new knows gives = refuses old given new knows gives
  of_down found old (event.Tick node left) given new knows gives = refuses old given new knows gives
  of_down found old (event.Deliver node number) given new knows gives = refuses old given new knows gives
  of_down found old (event.TickCut node left) given new knows gives = refuses old given new knows gives
  of_down found old (event.DeliverCut node number) given new knows gives = refuses old given new knows gives
  of_down found old (event.Restart node) given new knows gives = of_restart found old given new knows gives
  of_down found old (event.Get node table version) given new knows gives = refuses old given new knows gives
  of_down found old (event.Info node table) given new knows gives = refuses old given new knows gives
  of_down found old (event.Outcome node text) given new knows gives = refuses old given new knows gives

-- ---- any event of a node

module _ (laws : Laws) (config : AgreementConfig) (sent : List Message) (next : ℕ) (lawful : AreAllowed config.members sent next) where
  abbrev KnowsNow : ℕ → UpOrDown → Type 0
  KnowsNow me seat = KnowsSeat config.members (WasSaidBefore sent next) me seat

  of_up : (found : Bool) (views : Views) (e : Event) (given : EventResult) (new : UpOrDown) → KnowsNow (node_of e) (IsUp views)
      → UpGives config sent next found views e given new → Moves config sent next (node_of e) given new
  of_up found views (event.Put node text) given new knows gives =
      of_due_put config sent next node laws lawful views knows (input.Put text) given new (due_of_put config sent next node laws lawful views knows text) gives
  of_up found views (event.Tick node left) given new knows gives =
      of_due_step config sent next node laws lawful views knows (input.Tick left) given new (due_of_tick config sent next node laws lawful views knows left) gives
  of_up found views (event.Deliver node number) given new knows gives = of_delivery config sent next node laws lawful views knows number given new gives
  of_up found views (event.TickCut node left) given new knows gives =
      of_cut config sent next node laws lawful views knows (input.Tick left) given new
      (tick_may config sent next node laws lawful views knows left (due_of_tick config sent next node laws lawful views knows left)) gives
  of_up found views (event.DeliverCut node number) given new knows gives = of_delivery_cut config sent next node laws lawful views knows number given new gives
  of_up found views (event.Restart node) given new knows gives = of_restart config sent next node found (IsUp views) given new knows gives
  of_up found views (event.Get node table version) given new knows gives =
      of_question config sent next node laws lawful views knows (λ uploads. GetGivesIfAble uploads table version) given new
      (λ uploads g. get_counts_too config sent next node laws lawful views knows uploads table version given g) gives
  of_up found views (event.Info node table) given new knows gives =
      of_question config sent next node laws lawful views knows (λ uploads. InfoGivesIfAble uploads table) given new
      (λ uploads g. info_counts_too config sent next node laws lawful views knows uploads table given g) gives
  of_up found views (event.Outcome node text) given new knows gives =
      of_question config sent next node laws lawful views knows (λ uploads. OutcomeGives uploads text) given new
      (λ uploads g. outcome_counts config sent next node laws lawful views knows uploads text given g) gives

  pub of_event : (found : Bool) (old : UpOrDown) (e : Event) (given : EventResult) (new : UpOrDown) → KnowsNow (node_of e) old → NodeGives config sent next found old e given new
      → Moves config sent next (node_of e) given new
  of_event found (IsUp views) e given new knows gives = of_up found views e given new knows gives
  of_event found (IsDown records due) e given new knows gives = of_down config sent next (node_of e) found (IsDown records due) e given new knows gives

-- ---- all nodes

-- what was said before this place is allowed, and every node knows what it has to
pub record Holds (config : AgreementConfig) (sent : List Message) (next : ℕ) (seats : ℕ → UpOrDown) : Type 0 where
  pub lawful : AreAllowed config.members sent next
  pub each_knows : (a : ℕ) → KnowsSeat config.members (WasSaidBefore sent next) a (seats a)

module _ (laws : Laws) (config : AgreementConfig) (sent : List Message) where
  module _ (next : ℕ) (old new : ℕ → UpOrDown) (holds : Holds config sent next old) (me : ℕ) (given : EventResult) (moves : Moves config sent next me given (new me))
      (others : (other : ℕ) → other ≢ me → new other ≡ old other) where
    abbrev End : ℕ
    End = next + length moves.ms

    lawful_then : AreAllowed config.members sent End
    lawful_then s k x lt h = elim (cases_lt k next) as (λ _. AllowsSaying config.members (WasSaidBefore sent k s) x) [
      | inl before ↦ holds.lawful s k x before h
      | inr ge ↦ each_allowed sent next moves.ms moves.placed config.members moves.allowed s k x ge lt h
    ]

    abbrev KnowsThen : ℕ → UpOrDown → Type 0
    KnowsThen a seat = KnowsSeat config.members (WasSaidBefore sent End) a seat

    knows_then : (a : ℕ) → KnowsThen a (new a)
    knows_then a = elim (cases_eq a me) as (λ _. KnowsThen a (new a)) [
      | inl own ↦ subst (λ (x : ℕ). KnowsThen x (new x)) (sym own) moves.after
      | inr other ↦
          subst (λ (s : UpOrDown). KnowsThen a s) (sym (others a other))
          (other_later config.members (WasSaidBefore sent next) (WasSaidBefore sent End) moves.ms (kept sent next moves.ms moves.placed) (came sent next moves.ms moves.placed)
          a me other moves.own (old a) (holds.each_knows a))
    ]

    holds_then : Holds config sent (next + count_of given) new
    holds_then =
        subst (λ (n : ℕ). Holds config sent (next + n) new) (sym moves.count) (let it : Holds config sent End new = record { lawful = lawful_then; each_knows = knows_then } in it)

  outside : (next : ℕ) (old new : ℕ → UpOrDown) (given : EventResult) → Holds config sent next old → given ≡ results.Refused results.OutOfRange → ((other : ℕ) → new other ≡ old other)
      → Holds config sent (next + count_of given) new
  outside next old new given holds is same =
      let end : next + count_of given ≡ next = omega (arith, ap count_of is) in
      subst (λ (n : ℕ). Holds config sent n new) (sym end) (record {
        lawful = holds.lawful;
        each_knows = λ a. subst (λ (s : UpOrDown). KnowsSeat config.members (WasSaidBefore sent next) a s) (sym (same a)) (holds.each_knows a);
      })

  one_step : (next : ℕ) (old : ℕ → UpOrDown) (step : Step) (found : Bool) (new : ℕ → UpOrDown) → Holds config sent next old → StepFollows config sent next old step found new
      → Holds config sent (next + count_of step.result) new
  one_step next old step found new holds (inl (member, gives, others)) =
      holds_then next old new holds (node_of step.event) step.result
      (of_event laws config sent next holds.lawful found (old (node_of step.event)) step.event step.result (new (node_of step.event)) (holds.each_knows (node_of step.event)) gives) others
  one_step next old step found new holds (inr (no_member, is, same)) = outside next old new step.result holds is same

  all_steps : (steps : List Step) (found : List Bool) (next : ℕ) (seats last : ℕ → UpOrDown) → Holds config sent next seats → StepsReach config sent seats next steps found last
      → AreAllowed config.members sent (length sent)
  all_steps [] found next seats last holds (none, end, same) s k x lt h = holds.lawful s k x (omega (arith, lt, end)) h
  all_steps (step ∷ steps) [] next seats last holds reaches s k x lt h = absurd reaches
  all_steps (step ∷ steps) (f ∷ found) next seats last holds (after, follows, asked, rest) s k x lt h =
      all_steps steps found (next + count_of step.result) after last (one_step next seats step f after holds follows) rest s k x lt h

  nothing_said : (s : ℕ) (x : Saying) → WasSaidBefore sent 0 s x → ⊥
  nothing_said s x h = absurd (omega (arith, h.1))

  holds_at_first : Holds config sent 0 at_first
  holds_at_first = record {
    lawful = λ s k x lt h. absurd (omega (arith, lt));
    each_knows = λ a. knows_at_start config.members (WasSaidBefore sent 0) a [] (record {
      covers = λ s x was. absurd (nothing_said s x was);
      proposed = λ s x has. absurd (nothing_in _ has);
    });
  }

-- ---- the law

pub follows_is_lawful : Laws → (history : History) → Follows history → IsLawful history.config.members history.sent
follows_is_lawful laws history follows s =
    slot_is_lawful history.config.members (sayings history.sent s)
    (λ k x lt h. all_steps laws history.config history.sent history.steps follows.recovered 0 at_first follows.seats (holds_at_first laws history.config history.sent)
    follows.reached s k x (let there = said_by history.sent s k x h in there.1.0) h)
