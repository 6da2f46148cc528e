-- What is planned for a message that tells of a value, and done.
use Rattle.std.proofs.Common.{◌≡◌, ℕ, ◌<◌, ◌≤◌, ◌+◌, refl, sym, subst, ◌∙◌, None, Some, Err, List, [], ◌∷◌, length, take, get_or}
use Rattle.std.specs.List.{Contains}
use Rattle.std.proofs.lemmas.List.{take_all}
use Rattle.ballots.specs.declared.record.Record.{Record}
use Rattle.ballots.specs.declared.message.Message.{Message}
use Rattle.agreement_rules.specs.Views.{AgreementConfig, Views, started_with}
use Rattle.agreement_rules.specs.Due.{Plans, IsMessageOf, has_seen}
use Rattle.histories.specs.Due.{MessageIsDue}
use Rattle.histories.specs.Due as owed
use Rattle.node_core.specs.declared.plan.Planned.{Planned}
use Rattle.node_events.specs.declared.event_result.Reason.{Reason}
use Rattle.node_events.specs.declared.event_result.Reason.TheVariants as reason
use Rattle.stored_nodes.specs.State.{StoredNodeState, IsPlaced, StandsUp}
use Rattle.stored_nodes.specs.Parts.{PlanAnswers, IsDoneFor, IsBrokenOff, StandsStill}
use Rattle.resumed_histories.specs.StartingOver.{TellsOfAValue, Hears}
use Rattle.resumed_nodes.specs.Heard.{heard}
use Rattle.resumed_nodes.specs.Hearing.{HasHeard, HearAnswers, IsHearFaultFor, HearAllAnswers}
use Rattle.resumed_nodes.specs.declared.fault.HearFault.{HearFault}
use Rattle.resumed_nodes.specs.declared.fault.HearFault.TheVariants as fault
use Rattle.resumed_nodes.proofs.Told.{keeps_no_record, same_records, hears_more, one_further, heard_is_one}

none_is_some : {X : Type 0} (x : X) → None ≡ Some x → ⊥
none_is_some x same = cc

-- ---- one message

module _ {S : Type 0} (old mid : StoredNodeState S) (views : Views) (m : Message) (tells : TellsOfAValue m.body) (up : StandsUp old views) where
  -- it is refused
  pub refusal_answers : (why : Reason) → PlanAnswers old mid (owed.Deliver m) (Err why) → (told : HearFault) → IsHearFaultFor why told
      → HearAnswers {T = Unit {0}} old mid views m (Err told)
  refusal_answers reason.OutOfRange refuses told is =
      subst (λ (f : HearFault). HearAnswers {T = Unit {0}} old mid views m (Err f)) (sym is)
      (tells, λ of. (refuses.1 views up).1 (subst (λ (c : AgreementConfig). IsMessageOf c m) (sym up.config_is) of))
  refusal_answers reason.SlotsSpent refuses told is = absurd (let other = (refuses.1 views up).0 in cc)
  refusal_answers reason.RoundsSpent refuses told is = absurd (let other = (refuses.1 views up).0 in cc)
  refusal_answers reason.OutOfMemory refuses told is = subst (λ (f : HearFault). HearAnswers {T = Unit {0}} old mid views m (Err f)) (sym is) tells
  refusal_answers reason.Down refuses told is = absurd (none_is_some up.node (sym refuses ∙ up.up))
  refusal_answers reason.NotSent refuses told is = absurd refuses

  module _ (new : StoredNodeState S) (same : StandsStill old mid) (planned : Planned) where
    -- it is done
    pub done : IsDoneFor mid new views (owed.Deliver m) planned → (after : Views) × HasHeard old new views (m ∷ []) after
    done taken =
        let due : MessageIsDue old.config old.me views m (Plans taken.plan) =
        subst (λ (c : AgreementConfig). MessageIsDue c old.me views m (Plans taken.plan)) same.config_is
        (subst (λ (n : ℕ). MessageIsDue mid.config n views m (Plans taken.plan)) same.me_is taken.due) in (
          taken.plan.after,
          record {
            hears = (taken.plan, tells, due, refl);
            stands = taken.stands;
            placed = taken.placed;
            me_is = taken.me_is ∙ same.me_is;
            config_is = taken.config_is ∙ same.config_is;
            records_are = taken.stands.kept ∙ (same_records old.config old.me (has_seen views m) m.sender m.slot m.body taken.plan tells due.1 ∙ sym up.kept);
          },
        )

    -- no store fails of which nothing is asked
    pub never_broken : IsBrokenOff mid new views (owed.Deliver m) planned → ⊥
    never_broken off = keeps_no_record mid.config views m off.last tells off.keeps

-- ---- all messages

-- these messages were heard, whatever they leave
abbrev pub HeardSo : {S : Type 0} → (old new : StoredNodeState S) → List Message → Type 0
HeardSo old new told =
    (records : List Record) → IsPlaced old → StandsUp old (started_with records) → (after : Views) × HasHeard old new (started_with records) told after

module _ {S : Type 0} (old mid new : StoredNodeState S) (told : List Message) (place : ℕ) (m : Message) (within : place < length told) (item : m ≡ get_or told place m) (so_far : HeardSo old mid (take place told)) where
  -- and one more
  pub heard_more : ((views : Views) → IsPlaced mid → StandsUp mid views → (after : Views) × HasHeard mid new views (m ∷ []) after) → HeardSo old new (take (place + 1) told)
  heard_more hears = one_further (HeardSo old new) told place m within item (λ records placed up.
      let before = so_far records placed up in
      let once = hears before.0 before.1.placed before.1.stands in
      let again : Hears old.config old.me before.0 (m ∷ []) once.0 =
      subst (λ (c : AgreementConfig). Hears c old.me before.0 (m ∷ []) once.0) before.1.config_is
      (subst (λ (n : ℕ). Hears mid.config n before.0 (m ∷ []) once.0) before.1.me_is once.1.hears) in (
        once.0,
        record {
          hears = hears_more old.config old.me (take place told) (started_with records) before.0 once.0 m before.1.hears again;
          stands = once.1.stands;
          placed = once.1.placed;
          me_is = once.1.me_is ∙ before.1.me_is;
          config_is = once.1.config_is ∙ before.1.config_is;
          records_are = once.1.records_are ∙ before.1.records_are;
        },
      ))

  there : Contains told m
  there = (place, within, sym item)

  fails_as : (why : HearFault) (views : Views) → mid.config ≡ old.config → HearAnswers {T = Unit {0}} mid new views m (Err why) → (records : List Record)
      → HearAllAnswers {T = Unit {0}} old new records told (Err why)
  fails_as fault.NoValue views config answers records = (m, there, answers)
  fails_as fault.OutOfRange views config answers records =
      (m, there, λ of. answers.1 (subst (λ (c : AgreementConfig). IsMessageOf c m) (sym config) of))
  fails_as fault.OutOfMemory views config answers records = tt
  fails_as fault.Down views config answers records = absurd answers
  fails_as (fault.Store store) views config answers records = absurd answers

  -- or it meets a fault
  pub meets : (why : HearFault) → ((views : Views) → IsPlaced mid → StandsUp mid views → HearAnswers {T = Unit {0}} mid new views m (Err why))
      → (records : List Record) → IsPlaced old → StandsUp old (started_with records) → HearAllAnswers {T = Unit {0}} old new records told (Err why)
  meets why answers records placed up =
      let before = so_far records placed up in
      fails_as why before.0 before.1.config_is (answers before.0 before.1.placed before.1.stands) records

-- all were heard
pub heard_all : {S : Type 0} (old new : StoredNodeState S) (told : List Message) (place : ℕ) → length told ≤ place → HeardSo old new (take place told)
    → (records : List Record) → IsPlaced old → StandsUp old (started_with records) → HasHeard old new (started_with records) told (heard records told)
heard_all old new told place whole hears records placed up =
    let all : HeardSo old new told = subst (HeardSo old new) (take_all place told whole) hears in
    let end = all records placed up in
    subst (λ (v : Views). HasHeard old new (started_with records) told v) (heard_is_one old.config old.me records told end.0 end.1.hears) end.1
