-- Where a history leaves a node it shows whether the node is up, and its prefix; and what a put leaves there.
use Rattle.std.proofs.Common.{◌≡◌, ℕ, ◌+◌, ◌<◌, ◌⊎◌, ◌↔◌, inl, inr, Bool, true≢false, List, [], ◌∷◌, ◌++◌, refl, sym, subst, ◌∙◌}
use Rattle.ballots.specs.declared.value.Value.{Value}
use Rattle.ballots.specs.declared.message.Message.{Message}
use Rattle.lawful_histories.specs.Lawful.{IsLawful}
use Rattle.learner.specs.Calls.{LearnerCall}
use Rattle.agreement_rules.specs.Views.{AgreementConfig, Views, HasPrefix}
use Rattle.agreement_rules.specs.Due.{Plan, Refuses, Plans}
use Rattle.histories.specs.Due.{Waits, IsKnown, PutIsDue, waits_too}
use Rattle.histories.specs.Event as event
use Rattle.histories.specs.EventResult.{count_of}
use Rattle.histories.specs.EventResult as results
use Rattle.histories.specs.History.{Step}
use Rattle.histories.specs.Following.{UpOrDown, IsUp, IsDown, NodeGives, StepFollows, StepsReach, at_first, Reaches}
use Rattle.safe_histories.specs.Learning.{Runs, HasLearnedPrefix, heard_since_restart}
use Rattle.safe_histories.proofs.Lists.{contains_from_in, in_right}
use Rattle.safe_histories.proofs.Heard.{ChoiceLaws, LearnerLaws, calls_of, prefix_is_learned, learned_is_prefix}
use Rattle.safe_histories.proofs.Restarts.{step_of}
use Rattle.safe_histories.proofs.Running.{Agrees}
use Rattle.safe_histories.proofs.Seats.{AllAgree, step_agrees, agree_at_first}
use Rattle.safe_histories.proofs.Steps.{reach_all}

-- ---- a node that is up runs

seat_runs : (sent : List Message) (done : List Step) (node : ℕ) (seat : UpOrDown) → Agrees sent done node seat
    → ((views : Views) × (seat ≡ IsUp views)) ↔ Runs node done
seat_runs sent done node (IsUp views) agrees = (λ up. agrees.0, λ runs. (views, refl))
seat_runs sent done node (IsDown records due) agrees = (λ up. absurd (cc up.1), λ runs. absurd (true≢false (sym agrees ∙ runs)))

module _ (config : AgreementConfig) (sent : List Message) (steps : List Step) (recovered : List Bool) (seats : ℕ → UpOrDown) (node : ℕ) (within : node < config.members)
    (reached : Reaches config sent steps recovered seats) where
  agrees : Agrees sent steps node (seats node)
  agrees =
      reach_all config sent (λ done seats next. AllAgree sent done config.members done seats)
      (λ done before after next x r holds one. step_agrees sent done config next r before after x holds one)
      seats [] at_first 0 steps recovered (agree_at_first sent config.members) reached node within

  pub up_shown : ((views : Views) × (seats node ≡ IsUp views)) ↔ Runs node steps
  up_shown = seat_runs sent steps node (seats node) agrees

  -- ---- its prefix

  module _ (lawful : IsLawful config.members sent) (laws : ChoiceLaws) (learner : LearnerLaws) (views : Views) (up : seats node ≡ IsUp views)
      (values : List Value) where
    told : views.learner_calls ≡ calls_of (heard_since_restart sent steps node)
    told = (subst (Agrees sent steps node) up agrees).1

    pub prefix_shown : HasPrefix config.members views.learner_calls values ↔ HasLearnedPrefix config.members sent steps node values
    prefix_shown = (
      λ prefix. prefix_is_learned config.members sent lawful laws learner steps node values
          (subst (λ (calls : List LearnerCall). HasPrefix config.members calls values) told prefix),
      λ learned. subst (λ (calls : List LearnerCall). HasPrefix config.members calls values) (sym told)
          (learned_is_prefix config.members sent lawful laws learner steps node values learned),
    )

-- ---- what a put leaves

-- the step behind all others
record Last (config : AgreementConfig) (sent : List Message) (step : Step) (last : ℕ → UpOrDown) : Type 0 where
  pub before : ℕ → UpOrDown
  pub next : ℕ
  pub recovered : Bool
  pub follows : StepFollows config sent next before step recovered last

last_step : (config : AgreementConfig) (sent : List Message) (step : Step) (last seats : ℕ → UpOrDown) (next : ℕ) (rest : List Step) (recovered : List Bool)
    → StepsReach config sent seats next (rest ++ step ∷ []) recovered last → Last config sent step last
last_step config sent step last seats next [] [] reaches = absurd reaches
last_step config sent step last seats next [] (r ∷ more) (after, one, asked, (none, end, same)) =
    record {
      before = seats;
      next = next;
      recovered = r;
      follows = subst (λ (s : ℕ → UpOrDown). StepFollows config sent next seats step r s) (sym same) one;
    }
last_step config sent step last seats next (x ∷ rest) [] reaches = absurd reaches
last_step config sent step last seats next (x ∷ rest) (r ∷ more) (after, one, asked, others) =
    last_step config sent step last after (next + count_of x.result) rest more others

-- the upload waits at the node, or something is known of it there
abbrev Remembers : AgreementConfig → List ℕ → UpOrDown → Type 0
Remembers config text seat = (views : Views) × (seat ≡ IsUp views) × (Waits views text ⊎ IsKnown config views.learner_calls text)

remembers_as : (config : AgreementConfig) (text : List ℕ) (plan : Plan) (views : Views) (seat : UpOrDown) → seat ≡ IsUp plan.after → plan.after ≡ views
    → Waits views text ⊎ IsKnown config views.learner_calls text → Remembers config text seat
remembers_as config text plan views seat up same known = (views, up ∙ subst (λ (v : Views). IsUp plan.after ≡ IsUp v) same refl, known)

put_remembers : (config : AgreementConfig) (views : Views) (text : List ℕ) (plan : Plan) (seat : UpOrDown) → PutIsDue config views text (Plans plan)
    → seat ≡ IsUp plan.after → Remembers config text seat
put_remembers config views text plan seat (inl (known, same)) up =
    remembers_as config text plan views seat up (subst (λ (p : Plan). p.after ≡ views) (sym same) refl) known
put_remembers config views text plan seat (inr (new, unknown, left, same)) up =
    remembers_as config text plan (waits_too views text) seat up (subst (λ (p : Plan). p.after ≡ waits_too views text) (sym same) refl)
    (inl (contains_from_in (views.waiting ++ text ∷ []) text (in_right views.waiting (text ∷ []) text (inl refl))))

module _ (config : AgreementConfig) (sent : List Message) (node : ℕ) (text : List ℕ) (next : ℕ) (recovered : Bool) where
  seat_remembers : (old seat : UpOrDown) → NodeGives config sent next recovered old (event.Put node text) results.Done seat → Remembers config text seat
  seat_remembers (IsUp views) seat (inl (Refuses refusal, is, (gives, stays))) = absurd (cc gives)
  seat_remembers (IsUp views) seat (inl (Plans plan, is, (gives, stays))) = put_remembers config views text plan seat is stays
  seat_remembers (IsUp views) seat (inr (allowed, (gives, stays))) = absurd (cc gives)
  seat_remembers (IsDown records due) seat (gives, stays) = absurd (cc gives)

  step_remembers : (old new : ℕ → UpOrDown) → StepFollows config sent next old (step_of (event.Put node text) results.Done) recovered new
      → Remembers config text (new node)
  step_remembers old new (inl (member, gives, others)) = seat_remembers (old node) (new node) gives
  step_remembers old new (inr (past, gives, same)) = absurd (cc gives)

pub put_is_remembered : (config : AgreementConfig) (sent : List Message) (steps : List Step) (recovered : List Bool) (seats : ℕ → UpOrDown) (node : ℕ) (text : List ℕ)
    → Reaches config sent (steps ++ step_of (event.Put node text) results.Done ∷ []) recovered seats → Remembers config text (seats node)
put_is_remembered config sent steps recovered seats node text reached =
    let at = last_step config sent (step_of (event.Put node text) results.Done) seats at_first 0 steps recovered reached in
    step_remembers config sent node text at.next at.recovered at.before seats at.follows
