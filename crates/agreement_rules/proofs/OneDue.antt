-- What is due is one thing: to a tick, to a body, and of records.
use mathlib.Core.Path.{fun_ext}
use Rattle.std.proofs.Common.{◌≡◌, ℕ, ◌<◌, ◌≤◌, max, ◌⊎◌, inl, inr, List, [], ◌∷◌, length, Option, Some, None, refl, sym, ap, subst, ◌∙◌, arith}
use Rattle.ballots.specs.Limits.{max_round}
use Rattle.ballots.specs.Ballot.{Ballot, IsAbove, IsAtLeast}
use Rattle.ballots.specs.declared.value.Value.{Value}
use Rattle.ballots.specs.declared.value.Value.TheVariants.{Upload as UploadValue}
use Rattle.ballots.specs.declared.acceptance.Acceptance.{Acceptance}
use Rattle.ballots.specs.declared.record.Record.{Record}
use Rattle.ballots.specs.declared.record.Record.TheVariants.{Promised, Accepted as HasAccepted}
use Rattle.ballots.specs.declared.message.Message.{Message}
use Rattle.ballots.specs.declared.message.Body.{Body}
use Rattle.ballots.specs.declared.message.Body.TheVariants.{Prepare, Promise, Nack, Accept, Accepted, Ask, Decided}
use Rattle.acceptor.specs.Standing.{Standing}
use Rattle.acceptor.specs.declared.answer.Answer.{Answer}
use Rattle.acceptor.specs.declared.answer.Answer.TheVariants as answer
use Rattle.acceptor.specs.Answering.{Prepares, Accepts}
use Rattle.acceptor.specs.Restored.{IsRestored, IsHighestRound}
use Rattle.proposer.specs.Call.{Promise as Promising, ProposerCall as Asked, Promises}
use Rattle.proposer.specs.Attempting.{next_ballot, Answers}
use Rattle.decided_log.specs.Asked.{asked_of}
use Rattle.agreement_rules.specs.Views.{AgreementConfig, Views, HasGap}
use Rattle.agreement_rules.specs.Due.{Plan, Due, Refuses, Plans, OutOfRange, SlotsSpent, RoundsSpent, OutOfMemory, Aim, Attempts, AsksFrom, IsAim, AsksAt, AimIsDue, TickIsDue, begins, sends_alone, also_proposes, accept_of, ReplyToPrepare, ReplyToAccept, PartIsDue, record_due, BodyKeeps, MessageKeeps, TickKeeps}
use Rattle.agreement_rules.proofs.Prefixes.{OneValue, one_prefix, one_free_slot}

-- the laws of lower crates that are used
abbrev pub OnePromise : Type 0
OnePromise = (records : List Record) (a b : Standing) → IsRestored records a → IsRestored records b → (slot : ℕ) → a.promised slot ≡ b.promised slot

abbrev pub OneAcceptance : Type 0
OneAcceptance = (records : List Record) (a b : Standing) → IsRestored records a → IsRestored records b → (slot : ℕ) → a.accepted slot ≡ b.accepted slot

pub record Laws : Type 0 where
  pub learned : OneValue
  pub promises : OnePromise
  pub acceptances : OneAcceptance
  pub round : (records : List Record) (a b : ℕ) → IsHighestRound records a → IsHighestRound records b → a ≡ b
  pub prepare : (old a b : Standing) (slot : ℕ) (ballot : Ballot) (x y : Answer) → Prepares old a slot ballot x → Prepares old b slot ballot y → x ≡ y
  pub accept : (old a b : Standing) (slot : ℕ) (proposal : Acceptance) (x y : Answer) → Accepts old a slot proposal x → Accepts old b slot proposal y → x ≡ y
  pub answers : (members : ℕ) (calls : List Asked) (promise : Promising) (a b : Option (ℕ × Ballot × Value))
      → Answers members calls promise a → Answers members calls promise b → a ≡ b

module _ (laws : Laws) where
  pub one_standing : (records : List Record) (a b : Standing) → IsRestored records a → IsRestored records b → a ≡ b
  one_standing records a b is_a is_b =
      let promises : a.promised ≡ b.promised = fun_ext (laws.promises records a b is_a is_b) in
      let acceptances : a.accepted ≡ b.accepted = fun_ext (laws.acceptances records a b is_a is_b) in
      ap (λ (f : ℕ → Option Ballot). let s : Standing = record { promised = f; accepted = a.accepted } in s) promises
      ∙ ap (λ (f : ℕ → Option Acceptance). let s : Standing = record { promised = b.promised; accepted = f } in s) acceptances

  -- ---- a tick

  -- nothing waits, and something does
  waits_not : (text : List ℕ) (others : List (List ℕ)) (waiting : List (List ℕ)) → waiting ≡ text ∷ others → waiting ≡ [] → ⊥
  waits_not text others waiting some none = let no : text ∷ others ≡ [] = sym some ∙ none in cc

  attempts : (slot slot' : ℕ) (value value' : Value) → slot ≡ slot' → value ≡ value' → Attempts slot value ≡ Attempts slot' value'
  attempts slot slot' value value' slots values = cc

  one_aim : (config : AgreementConfig) (views : Views) (left : ℕ) (a b : Aim) → IsAim config views left a → IsAim config views left b → a ≡ b
  one_aim config views left (Attempts slot value) (Attempts slot' value') (inl (text, others, waits, is, free)) (inl (text', others', waits', is', free')) =
      let same : text ∷ others ≡ text' ∷ others' = sym waits ∙ waits' in
      let texts : text ≡ text' = cc in
      attempts slot slot' value value' (one_free_slot config.members views.learner_calls left slot slot' free free') (is ∙ ap UploadValue texts ∙ sym is')
  one_aim config views left (Attempts slot value) (Attempts slot' value') (inl (text, others, waits, is, free)) (inr (values, none, is', prefix, at, gap)) =
      absurd (waits_not text others views.waiting waits none)
  one_aim config views left (Attempts slot value) (Attempts slot' value') (inr (values, none, is', prefix, at, gap)) (inl (text, others, waits, is, free)) =
      absurd (waits_not text others views.waiting waits none)
  one_aim config views left (Attempts slot value) (Attempts slot' value') (inr (values, none, is, prefix, at, gap)) (inr (values', none', is', prefix', at', gap')) =
      attempts slot slot' value value' (at ∙ ap length (one_prefix laws.learned config.members views.learner_calls values values' prefix prefix') ∙ sym at') (is ∙ sym is')
  one_aim config views left (Attempts slot value) (AsksFrom slot') (inl (text, others, waits, is, free)) (values, none, prefix, at, no_gap) =
      absurd (waits_not text others views.waiting waits none)
  one_aim config views left (Attempts slot value) (AsksFrom slot') (inr (values, none, is, prefix, at, gap)) (values', none', prefix', at', no_gap) =
      absurd (no_gap (subst (HasGap config.members views.learner_calls) (at ∙ ap length (one_prefix laws.learned config.members views.learner_calls values values' prefix prefix') ∙ sym at') gap))
  one_aim config views left (AsksFrom slot) (Attempts slot' value') (values, none, prefix, at, no_gap) (inl (text, others, waits, is, free)) =
      absurd (waits_not text others views.waiting waits none)
  one_aim config views left (AsksFrom slot) (Attempts slot' value') (values, none, prefix, at, no_gap) (inr (values', none', is', prefix', at', gap)) =
      absurd (no_gap (subst (HasGap config.members views.learner_calls) (at' ∙ ap length (one_prefix laws.learned config.members views.learner_calls values' values prefix' prefix) ∙ sym at) gap))
  one_aim config views left (AsksFrom slot) (AsksFrom slot') (values, none, prefix, at, no_gap) (values', none', prefix', at', no_gap') =
      ap AsksFrom (at ∙ ap length (one_prefix laws.learned config.members views.learner_calls values values' prefix prefix') ∙ sym at')

  -- an attempt begins at one ballot
  abbrev begun_at : ℕ → Views → ℕ → Value → ℕ → Due
  begun_at me views slot value highest = Plans (begins me views slot value (next_ballot me highest views.seen_round))

  one_asked : (config : AgreementConfig) (me : ℕ) (views : Views) (slot : ℕ) (a b : Plan) → AsksAt config me views slot a → AsksAt config me views slot b → a ≡ b
  one_asked config me views slot a b (inl (within, is)) (inl (within', is')) = is ∙ sym is'
  one_asked config me views slot a b (inl (within, is)) (inr (spent, is')) = absurd (omega (arith, within, spent))
  one_asked config me views slot a b (inr (spent, is)) (inl (within, is')) = absurd (omega (arith, within, spent))
  one_asked config me views slot a b (inr (spent, is)) (inr (spent', is')) = is ∙ sym is'

  -- the rounds are spent, or they are not
  spent_or_left : (views : Views) (h k : ℕ) → IsHighestRound views.records h → IsHighestRound views.records k
      → max_round ≤ max views.seen_round h → max views.seen_round k < max_round → ⊥
  spent_or_left views h k is_h is_k spent left =
      let same : h ≡ k = laws.round views.records h k is_h is_k in
      let less : max views.seen_round h < max_round = subst (λ (n : ℕ). max views.seen_round n < max_round) (sym same) left in
      omega (arith, spent, less)

  one_of_aim : (config : AgreementConfig) (me : ℕ) (views : Views) (aim : Aim) (a b : Due) → AimIsDue config me views aim a → AimIsDue config me views aim b → a ≡ b
  one_of_aim config me views (Attempts slot value) (Refuses SlotsSpent) (Refuses SlotsSpent) x y = refl
  one_of_aim config me views (Attempts slot value) (Refuses SlotsSpent) (Refuses RoundsSpent) x (k, within, is_k, spent) = absurd (omega (arith, x, within))
  one_of_aim config me views (Attempts slot value) (Refuses SlotsSpent) (Refuses OutOfRange) x y = absurd y
  one_of_aim config me views (Attempts slot value) (Refuses SlotsSpent) (Refuses OutOfMemory) x y = absurd y
  one_of_aim config me views (Attempts slot value) (Refuses SlotsSpent) (Plans plan) x (k, within, is_k, left, is) = absurd (omega (arith, x, within))
  one_of_aim config me views (Attempts slot value) (Refuses RoundsSpent) (Refuses SlotsSpent) (h, within, is_h, spent) y = absurd (omega (arith, y, within))
  one_of_aim config me views (Attempts slot value) (Refuses RoundsSpent) (Refuses RoundsSpent) x y = refl
  one_of_aim config me views (Attempts slot value) (Refuses RoundsSpent) (Refuses OutOfRange) x y = absurd y
  one_of_aim config me views (Attempts slot value) (Refuses RoundsSpent) (Refuses OutOfMemory) x y = absurd y
  one_of_aim config me views (Attempts slot value) (Refuses RoundsSpent) (Plans plan) (h, within, is_h, spent) (k, within', is_k, left, is) =
      absurd (spent_or_left views h k is_h is_k spent left)
  one_of_aim config me views (Attempts slot value) (Refuses OutOfRange) b x y = absurd x
  one_of_aim config me views (Attempts slot value) (Refuses OutOfMemory) b x y = absurd x
  one_of_aim config me views (Attempts slot value) (Plans plan) (Refuses SlotsSpent) (h, within, is_h, left, is) y = absurd (omega (arith, y, within))
  one_of_aim config me views (Attempts slot value) (Plans plan) (Refuses RoundsSpent) (h, within, is_h, left, is) (k, within', is_k, spent) =
      absurd (spent_or_left views k h is_k is_h spent left)
  one_of_aim config me views (Attempts slot value) (Plans plan) (Refuses OutOfRange) x y = absurd y
  one_of_aim config me views (Attempts slot value) (Plans plan) (Refuses OutOfMemory) x y = absurd y
  one_of_aim config me views (Attempts slot value) (Plans plan) (Plans plan') (h, within, is_h, left, is) (k, within', is_k, left', is') =
      ap Plans is ∙ ap (begun_at me views slot value) (laws.round views.records h k is_h is_k) ∙ ap Plans (sym is')
  one_of_aim config me views (AsksFrom slot) (Refuses refusal) b x y = absurd x
  one_of_aim config me views (AsksFrom slot) (Plans plan) (Refuses refusal) x y = absurd y
  one_of_aim config me views (AsksFrom slot) (Plans plan) (Plans plan') x y = ap Plans (one_asked config me views slot plan plan' x y)

  pub one_of_tick : (config : AgreementConfig) (me : ℕ) (views : Views) (left : ℕ) (a b : Due) → TickIsDue config me views left a → TickIsDue config me views left b → a ≡ b
  one_of_tick config me views left a b (inl (over, is)) (inl (over', is')) = is ∙ sym is'
  one_of_tick config me views left a b (inl (over, is)) (inr (aim, within, is_aim, due)) = absurd (omega (arith, over, within))
  one_of_tick config me views left a b (inr (aim, within, is_aim, due)) (inl (over, is)) = absurd (omega (arith, over, within))
  one_of_tick config me views left a b (inr (aim, within, is_aim, due)) (inr (aim', within', is_aim', due')) =
      one_of_aim config me views aim a b due (subst (λ (x : Aim). AimIsDue config me views x b) (one_aim config views left aim' aim is_aim' is_aim) due')

  -- ---- a body

  one_reply_to_prepare : (me : ℕ) (views : Views) (slot : ℕ) (ballot : Ballot) (reply : Answer) (a b : Plan)
      → ReplyToPrepare me views slot ballot reply a → ReplyToPrepare me views slot ballot reply b → a ≡ b
  one_reply_to_prepare me views slot ballot (answer.Promise report) a b x y = x ∙ sym y
  one_reply_to_prepare me views slot ballot (answer.Nack promised) a b x y = x ∙ sym y
  one_reply_to_prepare me views slot ballot answer.Granted a b x y = absurd x
  one_reply_to_prepare me views slot ballot (answer.PromiseFrom reports) a b x y = absurd x

  one_reply_to_accept : (me : ℕ) (views : Views) (slot : ℕ) (proposal : Acceptance) (reply : Answer) (a b : Plan)
      → ReplyToAccept me views slot proposal reply a → ReplyToAccept me views slot proposal reply b → a ≡ b
  one_reply_to_accept me views slot proposal answer.Granted a b x y = x ∙ sym y
  one_reply_to_accept me views slot proposal (answer.Nack promised) a b x y = x ∙ sym y
  one_reply_to_accept me views slot proposal (answer.Promise report) a b x y = absurd x
  one_reply_to_accept me views slot proposal (answer.PromiseFrom reports) a b x y = absurd x

  pub one_of_body : (config : AgreementConfig) (me : ℕ) (views : Views) (sender slot : ℕ) (body : Body) (a b : Plan)
      → PartIsDue config me views sender slot body a → PartIsDue config me views sender slot body b → a ≡ b
  one_of_body config me views sender slot (Prepare ballot) a b (old, new, reply, restored, prepares, replies) (old', new', reply', restored', prepares', replies') =
      let alike : Prepares old new' slot ballot reply' =
      subst (λ (s : Standing). Prepares s new' slot ballot reply') (one_standing views.records old' old restored' restored) prepares' in
      let same : reply' ≡ reply = laws.prepare old new' new slot ballot reply' reply alike prepares in
      one_reply_to_prepare me views slot ballot reply a b replies (subst (λ (r : Answer). ReplyToPrepare me views slot ballot r b) same replies')
  one_of_body config me views sender slot (Accept proposal) a b (old, new, reply, restored, accepts, replies) (old', new', reply', restored', accepts', replies') =
      let alike : Accepts old new' slot proposal reply' =
      subst (λ (s : Standing). Accepts s new' slot proposal reply') (one_standing views.records old' old restored' restored) accepts' in
      let same : reply' ≡ reply = laws.accept old new' new slot proposal reply' reply alike accepts in
      one_reply_to_accept me views slot proposal reply a b replies (subst (λ (r : Answer). ReplyToAccept me views slot proposal r b) same replies')
  one_of_body config me views sender slot (Promise ballot report) a b (accept, answers, is) (accept', answers', is') =
      let promise : Promising = record { sender = sender; slot = slot; ballot = ballot; report = report } in
      let same : accept ≡ accept' = laws.answers config.members views.proposer_calls promise accept accept' answers answers' in
      is ∙ ap (λ (x : Option (ℕ × Ballot × Value)). sends_alone (also_proposes views (Promises promise)) (accept_of me x)) same ∙ sym is'
  one_of_body config me views sender slot (Nack ballot promised) a b x y = x ∙ sym y
  one_of_body config me views sender slot (Accepted acceptance) a b x y = x ∙ sym y
  one_of_body config me views sender slot (Decided value) a b x y = x ∙ sym y
  one_of_body config me views sender slot Ask a b (values, prefix, is) (values', prefix', is') =
      is ∙ ap (λ (l : List Value). sends_alone views (asked_of me l slot)) (one_prefix laws.learned config.members views.learner_calls values values' prefix prefix') ∙ sym is'

  -- ---- records

  -- a record that is kept where something holds, and else none
  one_if_holds : (P Q : Type 0) (kept a b : Option Record) → (P → Q) → (Q → P) → ((P × (a ≡ kept)) ⊎ ((P → ⊥) × (a ≡ None)))
      → ((Q × (b ≡ kept)) ⊎ ((Q → ⊥) × (b ≡ None))) → a ≡ b
  one_if_holds P Q kept a b there back (inl (holds, is)) (inl (holds', is')) = is ∙ sym is'
  one_if_holds P Q kept a b there back (inl (holds, is)) (inr (not, is')) = absurd (not (there holds))
  one_if_holds P Q kept a b there back (inr (not, is)) (inl (holds, is')) = absurd (not (back holds))
  one_if_holds P Q kept a b there back (inr (not, is)) (inr (not', is')) = is ∙ sym is'

  pub one_record_of_body : (records : List Record) (slot : ℕ) (body : Body) (a b : Option Record) → BodyKeeps records slot body a → BodyKeeps records slot body b → a ≡ b
  one_record_of_body records slot (Prepare ballot) a b (s, restored, x) (t, restored', y) =
      let same : s.promised slot ≡ t.promised slot = laws.promises records s t restored restored' slot in
      one_if_holds (IsAbove ballot (s.promised slot)) (IsAbove ballot (t.promised slot)) (Some (Promised slot ballot)) a b
      (subst (IsAbove ballot) same) (subst (IsAbove ballot) (sym same)) x y
  one_record_of_body records slot (Accept proposal) a b (s, restored, x) (t, restored', y) =
      let same : s.promised slot ≡ t.promised slot = laws.promises records s t restored restored' slot in
      one_if_holds (IsAtLeast proposal.ballot (s.promised slot)) (IsAtLeast proposal.ballot (t.promised slot)) (Some (HasAccepted slot proposal)) a b
      (subst (IsAtLeast proposal.ballot) same) (subst (IsAtLeast proposal.ballot) (sym same)) x y
  one_record_of_body records slot (Promise ballot report) a b x y = x ∙ sym y
  one_record_of_body records slot (Nack ballot promised) a b x y = x ∙ sym y
  one_record_of_body records slot (Accepted acceptance) a b x y = x ∙ sym y
  one_record_of_body records slot (Decided value) a b x y = x ∙ sym y
  one_record_of_body records slot Ask a b x y = x ∙ sym y

  pub one_record_of_message : (config : AgreementConfig) (views : Views) (m : Message) (a b : Option Record) → MessageKeeps config views m a → MessageKeeps config views m b → a ≡ b
  one_record_of_message config views m a b (inl (is, keeps)) (inl (is', keeps')) = one_record_of_body views.records m.slot m.body a b keeps keeps'
  one_record_of_message config views m a b (inl (is, keeps)) (inr (not, none)) = absurd (not is)
  one_record_of_message config views m a b (inr (not, none)) (inl (is, keeps)) = absurd (not is)
  one_record_of_message config views m a b (inr (not, none)) (inr (not', none')) = none ∙ sym none'

  pub one_record_of_tick : (config : AgreementConfig) (me : ℕ) (views : Views) (left : ℕ) (a b : Option Record) → TickKeeps config me views left a → TickKeeps config me views left b → a ≡ b
  one_record_of_tick config me views left a b (due, is, kept) (due', is', kept') = kept ∙ ap record_due (one_of_tick config me views left due due' is is') ∙ sym kept'
