-- What a node has that hears messages which tell of a value.
use Rattle.std.proofs.Common.{◌≡◌, ℕ, suc, ◌+◌, ◌<◌, arith, max, inl, inr, None, Some, List, [], ◌∷◌, ◌++◌, length, take, get_or, sym, ap, subst, ◌∙◌}
use Rattle.std.proofs.Math.Seq.{take-suc}
use Rattle.std.specs.List.{fold, flat_map}
use Rattle.std.proofs.lemmas.List.{append-nil, append_assoc}
use Rattle.ballots.specs.declared.record.Record.{Record}
use Rattle.ballots.specs.declared.message.Message.{Message}
use Rattle.ballots.specs.declared.message.Body.{Body}
use Rattle.ballots.specs.declared.message.Body.TheVariants as body
use Rattle.proposer.specs.Call.{ProposerCall}
use Rattle.learner.specs.Calls.{LearnerCall}
use Rattle.learner.specs.Calls as learner
use Rattle.agreement_rules.specs.Views.{AgreementConfig, Views, started_with, with_waiting}
use Rattle.agreement_rules.specs.Due.{Plan, also_learns, round_in, BodyKeeps, MessageKeeps}
use Rattle.agreement_rules.specs.Calling.{learner_calls_of}
use Rattle.histories.specs.Due.{BodyIsDue, LearnsOf}
use Rattle.resumed_histories.specs.StartingOver.{TellsOfAValue, Hears}
use Rattle.resumed_nodes.specs.Heard.{heard}

-- a node at which nothing waits
abbrev idle : List Record → ℕ → List ProposerCall → List LearnerCall → Views
idle records round proposer learner = record {
  records = records;
  seen_round = round;
  waiting = [];
  proposer_calls = proposer;
  learner_calls = learner;
}

abbrev greatest_from : ℕ → List Message → ℕ
greatest_from round told = fold (λ r m. max r (round_in m.body)) round told

abbrev calls_from : List Message → List LearnerCall
calls_from told = flat_map (λ m. learner_calls_of m.sender m.slot m.body) told

module _ (config : AgreementConfig) (node : ℕ) (records : List Record) (proposer : List ProposerCall) where
  learns : (round : ℕ) (calls : List LearnerCall) (call : LearnerCall) (plan : Plan) → LearnsOf config (idle records round proposer calls) call plan
      → plan.after ≡ idle records round proposer (calls ++ call ∷ [])
  learns round calls call plan (uploads, left, has, still, is) =
      ap (λ (p : Plan). p.after) is ∙ ap (λ (w : List (List ℕ)). with_waiting (also_learns (idle records round proposer calls) call) w) still

  told_body : (round : ℕ) (calls : List LearnerCall) (sender slot : ℕ) (said : Body) (plan : Plan) → TellsOfAValue said
      → BodyIsDue config node (idle records round proposer calls) sender slot said plan
      → plan.after ≡ idle records round proposer (calls ++ learner_calls_of sender slot said)
  told_body round calls sender slot (body.Prepare ballot) plan tells due = absurd tells
  told_body round calls sender slot (body.Promise ballot report) plan tells due = absurd tells
  told_body round calls sender slot (body.Nack ballot promised) plan tells due = absurd tells
  told_body round calls sender slot (body.Accept proposal) plan tells due = absurd tells
  told_body round calls sender slot (body.Accepted acceptance) plan tells due =
      learns round calls (learner.Accepted sender slot acceptance.ballot acceptance.value) plan due
  told_body round calls sender slot (body.Decided value) plan tells due = learns round calls (learner.Decided slot value) plan due
  told_body round calls sender slot body.Ask plan tells due = absurd tells

  hears_on : (told : List Message) (round : ℕ) (calls : List LearnerCall) (after : Views) → Hears config node (idle records round proposer calls) told after
      → after ≡ idle records (greatest_from round told) proposer (calls ++ calls_from told)
  hears_on [] round calls after same = same ∙ ap (λ (l : List LearnerCall). idle records round proposer l) (sym (append-nil calls))
  hears_on (m ∷ told) round calls after (plan, tells, (of, due), rest) =
      let once = told_body (max round (round_in m.body)) calls m.sender m.slot m.body plan tells due in
      let calls-once = calls ++ learner_calls_of m.sender m.slot m.body in
      let all = hears_on told (max round (round_in m.body)) calls-once after
      (subst (λ (v : Views). Hears config node v told after) once rest) in
      all ∙ ap (λ (l : List LearnerCall). idle records (greatest_from round (m ∷ told)) proposer l)
      (append_assoc calls (learner_calls_of m.sender m.slot m.body) (calls_from told))

pub heard_is_one : (config : AgreementConfig) (node : ℕ) (records : List Record) (told : List Message) (after : Views) → Hears config node (started_with records) told after
    → after ≡ heard records told
heard_is_one config node records told after hears = hears_on config node records [] told 0 [] after hears

-- ---- one message more

pub hears_more : (config : AgreementConfig) (node : ℕ) (told : List Message) (views mid after : Views) (m : Message) → Hears config node views told mid → Hears config node mid (m ∷ []) after
    → Hears config node views (told ++ m ∷ []) after
hears_more config node [] views mid after m same more = subst (λ (v : Views). Hears config node v (m ∷ []) after) same more
hears_more config node (first ∷ told) views mid after m (plan, tells, due, rest) more = (plan, tells, due, hears_more config node told plan.after mid after m rest more)

-- what holds of one element more holds of a list taken one element further
pub one_further : {A : Type 0} (P : List A → Type 0) (xs : List A) (i : ℕ) (x : A) → i < length xs → x ≡ get_or xs i x → P (take i xs ++ x ∷ []) → P (take (i + 1) xs)
one_further {A} P xs i x within is p =
    let next : i + 1 ≡ suc i = omega arith in
    subst P (sym (ap (λ (n : ℕ). take n xs) next ∙ take-suc xs i x within ∙ ap (λ (y : A). take i xs ++ y ∷ []) (sym is))) p

-- ---- nothing is kept

some_is_none : {X : Type 0} (x : X) → Some x ≡ None → ⊥
some_is_none x same = cc

no_record : (records : List Record) (slot : ℕ) (said : Body) (last : Record) → TellsOfAValue said → BodyKeeps records slot said (Some last) → ⊥
no_record records slot (body.Prepare ballot) last tells keeps = tells
no_record records slot (body.Promise ballot report) last tells keeps = tells
no_record records slot (body.Nack ballot promised) last tells keeps = tells
no_record records slot (body.Accept proposal) last tells keeps = tells
no_record records slot (body.Accepted acceptance) last tells keeps = some_is_none last keeps
no_record records slot (body.Decided value) last tells keeps = some_is_none last keeps
no_record records slot body.Ask last tells keeps = tells

-- no record is due to a message that tells of a value
pub keeps_no_record : (config : AgreementConfig) (views : Views) (m : Message) (last : Record) → TellsOfAValue m.body → MessageKeeps config views m (Some last) → ⊥
keeps_no_record config views m last tells (inl (of, keeps)) = no_record views.records m.slot m.body last tells keeps
keeps_no_record config views m last tells (inr (not, is)) = some_is_none last is

learns_records : (config : AgreementConfig) (views : Views) (call : LearnerCall) (plan : Plan) → LearnsOf config views call plan → plan.after.records ≡ views.records
learns_records config views call plan (uploads, left, has, still, is) = ap (λ (p : Plan). p.after.records) is

-- and its records are as they were
pub same_records : (config : AgreementConfig) (me : ℕ) (views : Views) (sender slot : ℕ) (said : Body) (plan : Plan) → TellsOfAValue said → BodyIsDue config me views sender slot said plan
    → plan.after.records ≡ views.records
same_records config me views sender slot (body.Prepare ballot) plan tells due = absurd tells
same_records config me views sender slot (body.Promise ballot report) plan tells due = absurd tells
same_records config me views sender slot (body.Nack ballot promised) plan tells due = absurd tells
same_records config me views sender slot (body.Accept proposal) plan tells due = absurd tells
same_records config me views sender slot (body.Accepted acceptance) plan tells due =
    learns_records config views (learner.Accepted sender slot acceptance.ballot acceptance.value) plan due
same_records config me views sender slot (body.Decided value) plan tells due = learns_records config views (learner.Decided slot value) plan due
same_records config me views sender slot body.Ask plan tells due = absurd tells
