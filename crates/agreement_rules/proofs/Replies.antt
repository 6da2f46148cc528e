-- What goes out where a body is due, by what the records show and what came before.
use Rattle.std.proofs.Common.{◌≡◌, ℕ, suc, ◌+◌, ◌-◌, ◌<◌, min, ◌⊎◌, ◌↔◌, ◌&&◌, inl, inr, Bool, true, false, cond, List, [], ◌∷◌, ◌++◌, length, take, drop, filter, filter_map, slice_get, Option, Some, None, refl, sym, ap, subst, ◌∙◌, nat_lt, eqb, eqb-true}
use Rattle.std.specs.List.{Contains}
use Rattle.std.proofs.lemmas.List.{append-nil}
use Rattle.std.proofs.lemmas.List.Elements.{filter_map-append, filter-append}
use Rattle.ballots.specs.Ballot.{Ballot, IsBelow, IsAbove, IsAtLeast, is_same_ballot}
use Rattle.ballots.specs.declared.value.Value.{Value}
use Rattle.ballots.specs.declared.acceptance.Acceptance.{Acceptance}
use Rattle.ballots.specs.declared.message.Message.{Message}
use Rattle.ballots.specs.declared.message.Body.{Body}
use Rattle.ballots.specs.declared.message.Body.TheVariants.{Prepare, Promise, Nack, Accept, Accepted, Ask, Decided}
use Rattle.ballots.specs.Message.{message}
use Rattle.ballots.specs.Acceptance.{acceptance}
use Rattle.ballots.proofs.CallerLemmas.{at_least_where_not_below, same_ballot_is}
use Rattle.acceptor.specs.Standing.{Standing}
use Rattle.acceptor.specs.declared.answer.Answer.{Answer}
use Rattle.acceptor.specs.declared.answer.Answer.TheVariants as answer
use Rattle.acceptor.specs.Answering.{Prepares, Accepts}
use Rattle.acceptor.specs.Restored.{IsRestored}
use Rattle.proposer.specs.Call.{Reach, OneSlot, AllFrom, Promise as Promising, Begun, ProposerCall as Asked, Promises}
use Rattle.proposer.specs.Choosing.{HasMajority, reports_of, Chooses}
use Rattle.proposer.specs.Reporting.{promise_in}
use Rattle.proposer.specs.Attempting.{IsOpen, Completes, is_for, answering, counted, Answers}
use Rattle.proposer.specs.Promised.{MajorityPromised}
use Rattle.decided_log.specs.Asked.{asked_of, decided_message, decided_messages, max_asked}
use Rattle.agreement_rules.specs.Views.{AgreementConfig, Views, HasPrefix}
use Rattle.agreement_rules.specs.Due.{Plan, Plans, Refuses, Aim, Attempts, AsksFrom, AsksAt, AimIsDue, TickIsDue, accept_of, ReplyToPrepare, ReplyToAccept, PartIsDue}
use Rattle.agreement_rules.proofs.Lists.{nothing_in, of_one, of_none, first_or_rest}
use Rattle.agreement_rules.proofs.Prefixes.{OneValue, one_prefix}
use Rattle.agreement_rules.proofs.OneDue.{OnePromise, OneAcceptance}

abbrev pub sends_of : Plan → List Message
sends_of plan = plan.sends

-- ---- a Prepare

abbrev pub PrepareAnswered : ℕ → Standing → ℕ → Ballot → List Message → Type 0
PrepareAnswered me standing slot ballot sends =
    ((sends ≡ message me slot (Promise ballot (standing.accepted slot)) ∷ [])
    × ((held : Ballot) → standing.promised slot ≡ Some held → IsBelow held ballot))
    ⊎ ((promised : Ballot) × (sends ≡ message me slot (Nack ballot promised) ∷ [])
    × (standing.promised slot ≡ Some promised) × (IsBelow promised ballot → ⊥))

module _ (one_promise : OnePromise) (one_acceptance : OneAcceptance) (me : ℕ) (views : Views) (standing : Standing)
    (restored : IsRestored views.records standing) (slot : ℕ) (plan : Plan) where
  prepare_replied : (ballot : Ballot) (old new : Standing) (reply : Answer) → IsRestored views.records old → Prepares old new slot ballot reply
      → ReplyToPrepare me views slot ballot reply plan → PrepareAnswered me standing slot ballot plan.sends
  prepare_replied ballot old new (answer.Promise report) is_old (above, is, sets) replies =
      let reported : report ≡ standing.accepted slot = is ∙ one_acceptance views.records old standing is_old restored slot in
      let promised : old.promised slot ≡ standing.promised slot = one_promise views.records old standing is_old restored slot in
      inl (
        ap sends_of replies ∙ ap (λ (r : Option Acceptance). let l : List Message = message me slot (Promise ballot r) ∷ [] in l) reported,
        λ held has. subst (IsAbove ballot) (promised ∙ has) above,
      )
  prepare_replied ballot old new (answer.Nack promised) is_old (has, at_least, same) replies =
      inr (
        promised,
        ap sends_of replies,
        sym (one_promise views.records old standing is_old restored slot) ∙ has,
        (at_least_where_not_below ballot promised).0 at_least,
      )
  prepare_replied ballot old new answer.Granted is_old prepares replies = absurd prepares
  prepare_replied ballot old new (answer.PromiseFrom reports) is_old prepares replies = absurd prepares

  pub prepare_answered : (config : AgreementConfig) (sender : ℕ) (ballot : Ballot) → PartIsDue config me views sender slot (Prepare ballot) plan
      → PrepareAnswered me standing slot ballot plan.sends
  prepare_answered config sender ballot (old, new, reply, is_old, prepares, replies) = prepare_replied ballot old new reply is_old prepares replies

-- ---- an Accept

abbrev pub AcceptAnswered : ℕ → Standing → ℕ → Acceptance → List Message → Type 0
AcceptAnswered me standing slot proposal sends =
    ((sends ≡ message me slot (Accepted proposal) ∷ [])
    × ((held : Ballot) → standing.promised slot ≡ Some held → IsBelow proposal.ballot held → ⊥))
    ⊎ ((promised : Ballot) × (sends ≡ message me slot (Nack proposal.ballot promised) ∷ [])
    × (standing.promised slot ≡ Some promised) × IsBelow proposal.ballot promised)

module _ (one_promise : OnePromise) (me : ℕ) (views : Views) (standing : Standing) (restored : IsRestored views.records standing) (slot : ℕ) (plan : Plan) where
  accept_replied : (proposal : Acceptance) (old new : Standing) (reply : Answer) → IsRestored views.records old → Accepts old new slot proposal reply
      → ReplyToAccept me views slot proposal reply plan → AcceptAnswered me standing slot proposal plan.sends
  accept_replied proposal old new answer.Granted is_old (at_least, sets) replies =
      let promised : old.promised slot ≡ standing.promised slot = one_promise views.records old standing is_old restored slot in
      inl (
        ap sends_of replies,
        λ held has. (at_least_where_not_below held proposal.ballot).0 (subst (IsAtLeast proposal.ballot) (promised ∙ has) at_least),
      )
  accept_replied proposal old new (answer.Nack promised) is_old (has, below, same) replies =
      inr (promised, ap sends_of replies, sym (one_promise views.records old standing is_old restored slot) ∙ has, below)
  accept_replied proposal old new (answer.Promise report) is_old accepts replies = absurd accepts
  accept_replied proposal old new (answer.PromiseFrom reports) is_old accepts replies = absurd accepts

  pub accept_answered : (config : AgreementConfig) (sender : ℕ) (proposal : Acceptance) → PartIsDue config me views sender slot (Accept proposal) plan
      → AcceptAnswered me standing slot proposal plan.sends
  accept_answered config sender proposal (old, new, reply, is_old, accepts, replies) = accept_replied proposal old new reply is_old accepts replies

-- ---- a Promise

-- one that is not for the attempt does not count
nothing_of : (members : ℕ) (begun : Begun) (p : Promising) (reach : Reach) → is_for members begun p ≡ false
    → filter (is_for members begun) (filter_map (promise_in reach begun.slot) (Promises p ∷ [])) ≡ []
nothing_of members begun p OneSlot is = ap (λ (t : Bool). cond t (p ∷ []) []) is
nothing_of members begun p AllFrom is = refl

answering_no_more : (members : ℕ) (begun : Begun) (since : List Asked) (p : Promising) → is_for members begun p ≡ false
    → answering members begun (since ++ Promises p ∷ []) ≡ answering members begun since ++ []
answering_no_more members begun since p is =
    ap (filter (is_for members begun)) (filter_map-append (promise_in begun.reach begun.slot) since (Promises p ∷ []))
    ∙ filter-append (is_for members begun) (filter_map (promise_in begun.reach begun.slot) since) (filter_map (promise_in begun.reach begun.slot) (Promises p ∷ []))
    ∙ ap (λ (l : List Promising). answering members begun since ++ l) (nothing_of members begun p begun.reach is)

both : (a b : Bool) → (a && b) ≡ true → (a ≡ true) × (b ≡ true)
both true b is = (refl, is)
both false b is = absurd (let no : false ≡ true = is in cc)

-- what completes an attempt is for it
pub record IsFor (begun : Begun) (p : Promising) : Type 0 where
  pub slot : p.slot ≡ begun.slot
  pub ballot : p.ballot ≡ begun.ballot

completes_step : (members : ℕ) (begun : Begun) (since : List Asked) (p : Promising) (b : Bool) → is_for members begun p ≡ b → Completes members begun since p → IsFor begun p
completes_step members begun since p true is completes =
    let sender = both (nat_lt p.sender members) (eqb p.slot begun.slot && is_same_ballot p.ballot begun.ballot) is in
    let rest = both (eqb p.slot begun.slot) (is_same_ballot p.ballot begun.ballot) sender.1 in
    record { slot = eqb-true p.slot begun.slot rest.0; ballot = (same_ballot_is p.ballot begun.ballot).0 rest.1 }
completes_step members begun since p false is completes =
    absurd (completes.before (subst (HasMajority members) (answering_no_more members begun since p is ∙ append-nil (answering members begun since)) completes.now))

pub completes_its_own : (members : ℕ) (begun : Begun) (since : List Asked) (p : Promising) → Completes members begun since p → IsFor begun p
completes_its_own members begun since p completes = completes_step members begun since p (is_for members begun p) refl completes

abbrev pub PromiseAnswered : ℕ → ℕ → List Asked → Promising → List Message → Type 0
PromiseAnswered members me calls promise sends =
    ((sends ≡ [])
    × ((begun : Begun) (since : List Asked) → IsOpen calls begun since → Completes members begun since promise → ⊥))
    ⊎ ((begun : Begun) × (since : List Asked) × (value : Value) × IsOpen calls begun since
    × (promise.slot ≡ begun.slot) × (promise.ballot ≡ begun.ballot)
    × MajorityPromised members begun (since ++ Promises promise ∷ [])
    × Chooses begun.candidate (reports_of (counted members begun (since ++ Promises promise ∷ []))) value
    × (sends ≡ message me promise.slot (Accept (acceptance promise.ballot value)) ∷ []))

-- the proposer's law that is used
abbrev pub MajorityLaw : Type 0
MajorityLaw = (members : ℕ) (begun : Begun) (since : List Asked) → (HasMajority members (answering members begun since) ↔ MajorityPromised members begun since)

promise_replied : MajorityLaw → (members me : ℕ) (calls : List Asked) (p : Promising) (accept : Option (ℕ × Ballot × Value)) → Answers members calls p accept
    → PromiseAnswered members me calls p (accept_of me accept)
promise_replied law members me calls p None none = inl (refl, none)
promise_replied law members me calls p (Some accept) is =
    let own = completes_its_own members is.begun is.since p is.completes in
    inr (
      is.begun,
      is.since,
      accept.2,
      is.open_is,
      own.slot,
      own.ballot,
      (law members is.begun (is.since ++ Promises p ∷ [])).0 is.completes.now,
      is.value_is,
      ap (λ (s : ℕ). let l : List Message = message me s (Accept (acceptance accept.1 accept.2)) ∷ [] in l) (is.slot_is ∙ sym own.slot)
          ∙ ap (λ (b : Ballot). let l : List Message = message me p.slot (Accept (acceptance b accept.2)) ∷ [] in l) (is.ballot_is ∙ sym own.ballot),
    )

pub promise_answered : MajorityLaw → (config : AgreementConfig) (me : ℕ) (views : Views) (p : Promising) (plan : Plan)
    → PartIsDue config me views p.sender p.slot (Promise p.ballot p.report) plan → PromiseAnswered config.members me views.proposer_calls p plan.sends
promise_answered law config me views p plan (accept, answers, is) =
    subst (PromiseAnswered config.members me views.proposer_calls p) (sym (ap sends_of is)) (promise_replied law config.members me views.proposer_calls p accept answers)

-- ---- an Ask

abbrev pub AskedLaws : Type 0
AskedLaws = ((node from : ℕ) (prefix : List Value) → length (asked_of node prefix from) ≡ min 16 (length prefix - from))
    × ((node from k : ℕ) (prefix : List Value) → k < length (asked_of node prefix from)
    → (value : Value) × (slice_get prefix (from + k) ≡ Some value) × (slice_get (asked_of node prefix from) k ≡ Some (decided_message node (from + k) value)))

abbrev pub AskAnswered : ℕ → List Value → ℕ → List Message → Type 0
AskAnswered me values from sends =
    (length sends ≡ min 16 (length values - from))
    × ((k : ℕ) → k < length sends → (value : Value) × (slice_get values (from + k) ≡ Some value)
    × (slice_get sends k ≡ Some (message me (from + k) (Decided value))))

pub ask_answered : AskedLaws → OneValue → (config : AgreementConfig) (me : ℕ) (views : Views) (sender slot : ℕ) (values : List Value) (plan : Plan)
    → HasPrefix config.members views.learner_calls values → PartIsDue config me views sender slot Ask plan → AskAnswered me values slot plan.sends
ask_answered laws one_value config me views sender slot values plan prefix (found, is_found, is) =
    let same : found ≡ values = one_prefix one_value config.members views.learner_calls found values is_found prefix in
    let sends : plan.sends ≡ asked_of me values slot = ap sends_of is ∙ ap (λ (l : List Value). asked_of me l slot) same in
    subst (AskAnswered me values slot) (sym sends) (laws.0 me slot values, λ k within. laws.1 me slot k values within)

-- ---- who sends it, and for which slot

-- it is this node's, for this slot
abbrev pub IsFrom : ℕ → ℕ → Message → Type 0
IsFrom me slot m = (m.sender ≡ me) × (m.slot ≡ slot)

from_one : (me slot : ℕ) (said : Body) (sends : List Message) → sends ≡ message me slot said ∷ [] → (m : Message) → Contains sends m → IsFrom me slot m
from_one me slot said sends is m has = subst (IsFrom me slot) (sym (of_one sends (message me slot said) m is has)) (refl, refl)

from_none : (me slot : ℕ) (sends : List Message) → sends ≡ [] → (m : Message) → Contains sends m → IsFrom me slot m
from_none me slot sends is m has = absurd (of_none sends m is has)

abbrev pub IsAsk : Body → Type 0
IsAsk said = said ≡ Ask

module _ (law : MajorityLaw) (config : AgreementConfig) (me : ℕ) (views : Views) (sender slot : ℕ) (plan : Plan) where
  from_prepare : (ballot : Ballot) (reply : Answer) → ReplyToPrepare me views slot ballot reply plan → (m : Message) → Contains plan.sends m → IsFrom me slot m
  from_prepare ballot (answer.Promise report) is = from_one me slot (Promise ballot report) plan.sends (ap sends_of is)
  from_prepare ballot (answer.Nack promised) is = from_one me slot (Nack ballot promised) plan.sends (ap sends_of is)
  from_prepare ballot answer.Granted is = absurd is
  from_prepare ballot (answer.PromiseFrom reports) is = absurd is

  from_accept : (proposal : Acceptance) (reply : Answer) → ReplyToAccept me views slot proposal reply plan → (m : Message) → Contains plan.sends m → IsFrom me slot m
  from_accept proposal answer.Granted is = from_one me slot (Accepted proposal) plan.sends (ap sends_of is)
  from_accept proposal (answer.Nack promised) is = from_one me slot (Nack proposal.ballot promised) plan.sends (ap sends_of is)
  from_accept proposal (answer.Promise report) is = absurd is
  from_accept proposal (answer.PromiseFrom reports) is = absurd is

  from_promise : (ballot : Ballot) (sends : List Message) → ((value : Value) × (sends ≡ message me slot (Accept (acceptance ballot value)) ∷ [])) ⊎ (sends ≡ [])
      → (m : Message) → Contains sends m → IsFrom me slot m
  from_promise ballot sends (inl (value, is)) = from_one me slot (Accept (acceptance ballot value)) sends is
  from_promise ballot sends (inr is) = from_none me slot sends is

  pub of_its_slot : (said : Body) → (IsAsk said → ⊥) → PartIsDue config me views sender slot said plan → (m : Message) → Contains plan.sends m → IsFrom me slot m
  of_its_slot (Prepare ballot) not (old, new, reply, is_old, prepares, replies) = from_prepare ballot reply replies
  of_its_slot (Accept proposal) not (old, new, reply, is_old, accepts, replies) = from_accept proposal reply replies
  of_its_slot (Promise ballot report) not due =
      from_promise ballot plan.sends
      (elim (promise_answered law config me views (record { sender = sender; slot = slot; ballot = ballot; report = report }) plan due)
      as (λ _. ((value : Value) × (plan.sends ≡ message me slot (Accept (acceptance ballot value)) ∷ [])) ⊎ (plan.sends ≡ [])) [
        | inl none ↦ inr none.0
        | inr some ↦ inl (some.2, some.8)
      ])
  of_its_slot (Nack ballot promised) not is = from_none me slot plan.sends (ap sends_of is)
  of_its_slot (Accepted acceptance) not is = from_none me slot plan.sends (ap sends_of is)
  of_its_slot (Decided value) not is = from_none me slot plan.sends (ap sends_of is)
  of_its_slot Ask not due = absurd (not refl)

  decided_own : (from : ℕ) (values : List Value) (m : Message) → Contains (decided_messages me from values) m → m.sender ≡ me
  decided_own from [] m has = absurd (nothing_in m has)
  decided_own from (value ∷ values) m has = elim (first_or_rest (decided_message me from value) m (decided_messages me (suc from) values) has) as (λ _. m.sender ≡ me) [
    | inl first ↦ ap (λ (x : Message). x.sender) first
    | inr rest ↦ decided_own (suc from) values m rest
  ]

  pub of_itself : (said : Body) → PartIsDue config me views sender slot said plan → (m : Message) → Contains plan.sends m → m.sender ≡ me
  of_itself (Prepare ballot) due m has = (of_its_slot (Prepare ballot) (λ e. let no : Prepare ballot ≡ Ask = e in cc) due m has).0
  of_itself (Accept proposal) due m has = (of_its_slot (Accept proposal) (λ e. let no : Accept proposal ≡ Ask = e in cc) due m has).0
  of_itself (Promise ballot report) due m has = (of_its_slot (Promise ballot report) (λ e. let no : Promise ballot report ≡ Ask = e in cc) due m has).0
  of_itself (Nack ballot promised) due m has = (of_its_slot (Nack ballot promised) (λ e. let no : Nack ballot promised ≡ Ask = e in cc) due m has).0
  of_itself (Accepted acceptance) due m has = (of_its_slot (Accepted acceptance) (λ e. let no : Accepted acceptance ≡ Ask = e in cc) due m has).0
  of_itself (Decided value) due m has = (of_its_slot (Decided value) (λ e. let no : Decided value ≡ Ask = e in cc) due m has).0
  of_itself Ask (values, prefix, is) m has =
      decided_own slot (take max_asked (drop slot values)) m (subst (λ (l : List Message). Contains l m) (ap sends_of is) has)

-- ---- a tick

asks_itself : (config : AgreementConfig) (me : ℕ) (views : Views) (slot : ℕ) (plan : Plan) → AsksAt config me views slot plan → (m : Message) → Contains plan.sends m → m.sender ≡ me
asks_itself config me views slot plan (inl (within, is)) m has = (from_one me slot Ask plan.sends (ap sends_of is) m has).0
asks_itself config me views slot plan (inr (spent, is)) m has = absurd (of_none plan.sends m (ap sends_of is) has)

aims_itself : (config : AgreementConfig) (me : ℕ) (views : Views) (aim : Aim) (plan : Plan) → AimIsDue config me views aim (Plans plan) → (m : Message) → Contains plan.sends m → m.sender ≡ me
aims_itself config me views (Attempts slot value) plan (highest, within, is_highest, left, is) m has = (from_one me slot (Prepare _) plan.sends (ap sends_of is) m has).0
aims_itself config me views (AsksFrom slot) plan asks m has = asks_itself config me views slot plan asks m has

pub ticks_itself : (config : AgreementConfig) (me : ℕ) (views : Views) (left : ℕ) (plan : Plan) → TickIsDue config me views left (Plans plan) → (m : Message) → Contains plan.sends m → m.sender ≡ me
ticks_itself config me views left plan (inl (over, is)) m has = absurd (let no : Plans plan ≡ Refuses _ = is in cc)
ticks_itself config me views left plan (inr (aim, within, is_aim, due)) m has = aims_itself config me views aim plan due m has
