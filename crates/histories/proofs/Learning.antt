-- What a node's learner is told in a step is what the step hands over: two nodes that were told alike and have the same step
-- are told alike then, and answer queries alike.
use Rattle.std.proofs.Common.{◌≡◌, ℕ, inl, inr, Bool, true, false, if◌then◌else◌, List, [], ◌++◌, Option, Some, None, slice_get, refl, sym, ap, subst, ◌∙◌, arith}
use Rattle.std.specs.List.{cons_option}
use Rattle.std.proofs.lemmas.List.{append-nil}
use Rattle.ballots.specs.Ballot.{Ballot}
use Rattle.ballots.specs.declared.message.Message.{Message}
use Rattle.ballots.specs.declared.message.Body.{Body}
use Rattle.ballots.specs.declared.message.Body.TheVariants as body
use Rattle.ballots.specs.declared.record.Record.{Record}
use Rattle.ballots.specs.declared.acceptance.Acceptance.{Acceptance}
use Rattle.acceptor.specs.declared.answer.Answer.{Answer}
use Rattle.acceptor.specs.declared.answer.Answer.TheVariants as answer
use Rattle.learner.specs.Calls.{LearnerCall as Told}
use Rattle.learner.specs.Calls as told
use Rattle.table_types.specs.Uploads.{Upload}
use Rattle.agreement_rules.specs.Views.{AgreementConfig, Views}
use Rattle.histories.specs.Texts.{HasUploads}
use Rattle.agreement_rules.specs.Due.{Due, Plan, Refuses, Plans, Aim, Attempts, AsksFrom, AsksAt, AimIsDue, TickIsDue, ReplyToPrepare, ReplyToAccept, has_seen}
use Rattle.histories.specs.Due.{Input, PutIsDue, BodyIsDue, MessageIsDue, IsDue}
use Rattle.agreement_rules.specs.Due as due
use Rattle.histories.specs.Due as input
use Rattle.histories.specs.Event.{Event}
use Rattle.histories.specs.Event as event
use Rattle.histories.specs.EventResult.{EventResult}
use Rattle.histories.specs.EventResult as results
use Rattle.histories.specs.Following.{UpOrDown, IsUp, IsDown, down, PutGives, SendsGives, InputGives, CutGives, Delivers, GetGivesIfAble, InfoGivesIfAble, OutcomeGives, QueryGives, RestartGives, UpGives, RefusesAsDown, DownGives, NodeGives}
use Rattle.histories.specs.Owning.{is_query}
use Rattle.histories.proofs.Own.{is_sent, false_is_true}

-- ---- what a plan tells the learner

-- the call that a body makes
call_of : (sender slot : ℕ) → Body → Option Told
call_of sender slot (body.Prepare ballot) = None
call_of sender slot (body.Promise ballot report) = None
call_of sender slot (body.Nack ballot promised) = None
call_of sender slot (body.Accept proposal) = None
call_of sender slot (body.Accepted acceptance) = Some (told.Accepted sender slot acceptance.ballot acceptance.value)
call_of sender slot body.Ask = None
call_of sender slot (body.Decided value) = Some (told.Decided slot value)

put_tells : (config : AgreementConfig) (views : Views) (text : List ℕ) (plan : Plan) → PutIsDue config views text (Plans plan) → plan.after.learner_calls ≡ views.learner_calls
put_tells config views text plan (inl (known, is)) = ap (λ (p : Plan). p.after.learner_calls) is
put_tells config views text plan (inr (new, unknown, left, is)) = ap (λ (p : Plan). p.after.learner_calls) is

asks_tells : (config : AgreementConfig) (me : ℕ) (views : Views) (slot : ℕ) (plan : Plan) → AsksAt config me views slot plan → plan.after.learner_calls ≡ views.learner_calls
asks_tells config me views slot plan (inl (lt, is)) = ap (λ (p : Plan). p.after.learner_calls) is
asks_tells config me views slot plan (inr (last, is)) = ap (λ (p : Plan). p.after.learner_calls) is

aim_tells : (config : AgreementConfig) (me : ℕ) (views : Views) (aim : Aim) (plan : Plan) → AimIsDue config me views aim (Plans plan) → plan.after.learner_calls ≡ views.learner_calls
aim_tells config me views (Attempts slot value) plan (highest, lt, is_highest, less, is) = ap (λ (p : Plan). p.after.learner_calls) is
aim_tells config me views (AsksFrom slot) plan asks = asks_tells config me views slot plan asks

refused_plan : (r : due.Refusal) (plan : Plan) → (let d : Due = Plans plan in d) ≡ Refuses r → ⊥
refused_plan r plan same = cc

tick_tells : (config : AgreementConfig) (me : ℕ) (views : Views) (left : ℕ) (plan : Plan) → TickIsDue config me views left (Plans plan) → plan.after.learner_calls ≡ views.learner_calls
tick_tells config me views left plan (inl (more, is)) = absurd (refused_plan due.OutOfRange plan is)
tick_tells config me views left plan (inr (aim, le, is_aim, is)) = aim_tells config me views aim plan is

prepare_tells : (me : ℕ) (views : Views) (slot : ℕ) (ballot : Ballot) (reply : Answer) (plan : Plan) → ReplyToPrepare me views slot ballot reply plan
    → plan.after.learner_calls ≡ views.learner_calls
prepare_tells me views slot ballot (answer.Promise report) plan is = ap (λ (p : Plan). p.after.learner_calls) is
prepare_tells me views slot ballot (answer.Nack promised) plan is = ap (λ (p : Plan). p.after.learner_calls) is
prepare_tells me views slot ballot answer.Granted plan never = absurd never
prepare_tells me views slot ballot (answer.PromiseFrom reports) plan never = absurd never

accept_tells : (me : ℕ) (views : Views) (slot : ℕ) (proposal : Acceptance) (reply : Answer) (plan : Plan) → ReplyToAccept me views slot proposal reply plan
    → plan.after.learner_calls ≡ views.learner_calls
accept_tells me views slot proposal answer.Granted plan is = ap (λ (p : Plan). p.after.learner_calls) is
accept_tells me views slot proposal (answer.Nack promised) plan is = ap (λ (p : Plan). p.after.learner_calls) is
accept_tells me views slot proposal (answer.Promise report) plan never = absurd never
accept_tells me views slot proposal (answer.PromiseFrom reports) plan never = absurd never

body_tells : (config : AgreementConfig) (me : ℕ) (views : Views) (sender slot : ℕ) (b : Body) (plan : Plan) → BodyIsDue config me views sender slot b plan
    → plan.after.learner_calls ≡ views.learner_calls ++ cons_option (call_of sender slot b) []
unfolding call_of
body_tells config me views sender slot (body.Prepare ballot) plan (old, new, reply, restored, prepares, is) =
    prepare_tells me views slot ballot reply plan is ∙ sym (append-nil views.learner_calls)
body_tells config me views sender slot (body.Promise ballot report) plan (accept, answers, is) = ap (λ (p : Plan). p.after.learner_calls) is ∙ sym (append-nil views.learner_calls)
body_tells config me views sender slot (body.Nack ballot promised) plan is = ap (λ (p : Plan). p.after.learner_calls) is ∙ sym (append-nil views.learner_calls)
body_tells config me views sender slot (body.Accept proposal) plan (old, new, reply, restored, accepts, is) =
    accept_tells me views slot proposal reply plan is ∙ sym (append-nil views.learner_calls)
body_tells config me views sender slot (body.Accepted acceptance) plan (uploads, left, has, waits, is) = ap (λ (p : Plan). p.after.learner_calls) is
body_tells config me views sender slot body.Ask plan (values, prefix, is) = ap (λ (p : Plan). p.after.learner_calls) is ∙ sym (append-nil views.learner_calls)
body_tells config me views sender slot (body.Decided value) plan (uploads, left, has, waits, is) = ap (λ (p : Plan). p.after.learner_calls) is

-- ---- what a step tells the learner

told_by : Option Message → List Told
told_by None = []
told_by (Some m) = cons_option (call_of m.sender m.slot m.body) []

abbrev told_if : Bool → List Told → List Told
told_if b calls = if b then calls else []

message_tells : (config : AgreementConfig) (me : ℕ) (views : Views) (m : Message) (plan : Plan) → MessageIsDue config me views m (Plans plan)
    → plan.after.learner_calls ≡ views.learner_calls ++ told_by (Some m)
unfolding told_by
message_tells config me views m plan (is_of, is) = body_tells config me (has_seen views m) m.sender m.slot m.body plan is

-- the node is up, and its learner was told this besides
record Hears (views : Views) (more : List Told) (new : UpOrDown) : Type 0 where
  after : Views
  is_up : new ≡ IsUp after
  tells : after.learner_calls ≡ views.learner_calls ++ more

stays_up : (views : Views) (more : List Told) (new : UpOrDown) → more ≡ [] → new ≡ IsUp views → Hears views more new
stays_up views more new none same = record {
  after = views;
  is_up = same;
  tells = sym (append-nil views.learner_calls) ∙ ap (λ (l : List Told). views.learner_calls ++ l) (sym none);
}

goes_on : (views after : Views) (new : UpOrDown) → after.learner_calls ≡ views.learner_calls → new ≡ IsUp after → Hears views [] new
goes_on views after new same is = record { after = after; is_up = is; tells = same ∙ sym (append-nil views.learner_calls) }

module _ (config : AgreementConfig) (sent : List Message) (next : ℕ) (node : ℕ) (views : Views) (given : EventResult) (new : UpOrDown) where
  put_hears : (text : List ℕ) → InputGives config node views (input.Put text) (PutGives views) given new → Hears views [] new
  put_hears text (inl (Refuses refusal, is_due, (is, same))) = stays_up views [] new refl same
  put_hears text (inl (Plans plan, is_due, (is, same))) = goes_on views plan.after new (put_tells config views text plan is_due) same
  put_hears text (inr (allowed, (is, same))) = stays_up views [] new refl same

  tick_hears : (left : ℕ) → InputGives config node views (input.Tick left) (SendsGives sent next views) given new → Hears views [] new
  tick_hears left (inl (Refuses refusal, is_due, (is, same))) = stays_up views [] new refl same
  tick_hears left (inl (Plans plan, is_due, (is, placed, same))) = goes_on views plan.after new (tick_tells config node views left plan is_due) same
  tick_hears left (inr (allowed, (is, same))) = stays_up views [] new refl same

  message_hears : (m : Message) → InputGives config node views (input.Deliver m) (SendsGives sent next views) given new
      → Hears views (told_if (is_sent given) (told_by (Some m))) new
  message_hears m (inl (Refuses refusal, is_due, (is, same))) = stays_up views _ new (ap (λ (b : Bool). told_if b (told_by (Some m))) (ap is_sent is)) same
  message_hears m (inl (Plans plan, is_due, (is, placed, same))) = record {
    after = plan.after;
    is_up = same;
    tells = message_tells config node views m plan is_due ∙ ap (λ (b : Bool). views.learner_calls ++ told_if b (told_by (Some m))) (sym (ap is_sent is));
  }
  message_hears m (inr (allowed, (is, same))) = stays_up views _ new (ap (λ (b : Bool). told_if b (told_by (Some m))) (ap is_sent is)) same

  deliver_hears : (number : ℕ) → Delivers sent next number (λ m. InputGives config node views (input.Deliver m) (SendsGives sent next views)) views given new
      → Hears views (told_if (is_sent given) (told_by (slice_get sent number))) new
  deliver_hears number (inl (m, lt, there, gives)) =
      subst (λ (o : Option Message). Hears views (told_if (is_sent given) (told_by o)) new) (sym there) (message_hears m gives)
  deliver_hears number (inr (late, is, same)) = stays_up views _ new (ap (λ (b : Bool). told_if b (told_by (slice_get sent number))) (ap is_sent is)) same

-- ---- two nodes

-- both are down, or both are up and were told alike
abbrev pub Alike : UpOrDown → UpOrDown → Type 0
Alike (IsUp a) (IsUp b) = a.learner_calls ≡ b.learner_calls
Alike (IsUp a) (IsDown records due) = ⊥
Alike (IsDown records due) (IsUp b) = ⊥
Alike (IsDown records due) (IsDown others other) = Unit {0}

pub alike_same : (seat : UpOrDown) → Alike seat seat
alike_same (IsUp a) = refl
alike_same (IsDown records due) = tt

alike_along : (a b new after : UpOrDown) → new ≡ a → after ≡ b → Alike a b → Alike new after
alike_along a b new after is_a is_b alike = subst (λ (s : UpOrDown). Alike s after) (sym is_a) (subst (λ (s : UpOrDown). Alike a s) (sym is_b) alike)

both_hear : (a b : Views) (more : List Told) (new after : UpOrDown) → a.learner_calls ≡ b.learner_calls → Hears a more new → Hears b more after → Alike new after
both_hear a b more new after alike one two =
    alike_along (IsUp one.after) (IsUp two.after) new after one.is_up two.is_up (one.tells ∙ ap (λ (l : List Told). l ++ more) alike ∙ sym two.tells)

record GoesDown (new : UpOrDown) : Type 0 where
  records : List Record
  due : Option Record
  is_down : new ≡ IsDown records due

both_down : (new after : UpOrDown) → GoesDown new → GoesDown after → Alike new after
both_down new after one two = alike_along (IsDown one.records one.due) (IsDown two.records two.due) new after one.is_down two.is_down tt

cut_down : (config : AgreementConfig) (node : ℕ) (views : Views) (asked : Input) (given : EventResult) (new : UpOrDown) → CutGives config node views asked given new → GoesDown new
cut_down config node views asked given new (is, (kept, keeps, same)) = record { records = views.records; due = kept; is_down = same }

down_goes : (seat : UpOrDown) → GoesDown (down seat)
down_goes (IsUp views) = record { records = views.records; due = None; is_down = refl }
down_goes (IsDown records due) = record { records = records; due = due; is_down = refl }

both_restart : (found : Bool) (old seat : UpOrDown) (given : EventResult) (new after : UpOrDown) → RestartGives found old given new → RestartGives found seat given after → Alike new after
both_restart found old seat given new after (inl (is, same)) (inl (was, stays)) = alike_along _ _ new after same stays refl
both_restart found old seat given new after (inl (is, same)) (inr (was, stays)) =
    absurd (let no : results.Done ≡ results.Refused results.OutOfMemory = sym is ∙ was in cc)
both_restart found old seat given new after (inr (is, same)) (inl (was, stays)) =
    absurd (let no : results.Done ≡ results.Refused results.OutOfMemory = sym was ∙ is in cc)
both_restart found old seat given new after (inr (is, same)) (inr (was, stays)) =
    alike_along (down old) (down seat) new after same stays (both_down (down old) (down seat) (down_goes old) (down_goes seat))

module _ (config : AgreementConfig) (sent : List Message) (next : ℕ) (found : Bool) where
  both_up : (a b : Views) (e : Event) (given : EventResult) (new after : UpOrDown) → is_query e ≡ false → a.learner_calls ≡ b.learner_calls → UpGives config sent next found a e given new
      → UpGives config sent next found b e given after → Alike new after
  both_up a b (event.Put node text) given new after changes alike one two =
      both_hear a b [] new after alike (put_hears config sent next node a given new text one) (put_hears config sent next node b given after text two)
  both_up a b (event.Tick node left) given new after changes alike one two =
      both_hear a b [] new after alike (tick_hears config sent next node a given new left one) (tick_hears config sent next node b given after left two)
  both_up a b (event.Deliver node number) given new after changes alike one two =
      both_hear a b (told_if (is_sent given) (told_by (slice_get sent number))) new after alike (deliver_hears config sent next node a given new number one)
      (deliver_hears config sent next node b given after number two)
  both_up a b (event.TickCut node left) given new after changes alike one two =
      both_down new after (cut_down config node a (input.Tick left) given new one) (cut_down config node b (input.Tick left) given after two)
  both_up a b (event.DeliverCut node number) given new after changes alike (inl (m, lt, there, one)) (inl (n, less, where_it_is, two)) =
      both_down new after (cut_down config node a (input.Deliver m) given new one) (cut_down config node b (input.Deliver n) given after two)
  both_up a b (event.DeliverCut node number) given new after changes alike (inl (m, lt, there, one)) (inr (late, is, same)) = absurd (omega (arith, lt, late))
  both_up a b (event.DeliverCut node number) given new after changes alike (inr (late, is, same)) (inl (n, less, there, two)) = absurd (omega (arith, less, late))
  both_up a b (event.DeliverCut node number) given new after changes alike (inr (late, is, same)) (inr (later, was, stays)) =
      alike_along (IsUp a) (IsUp b) new after same stays alike
  both_up a b (event.Restart node) given new after changes alike one two = both_restart found (IsUp a) (IsUp b) given new after one two
  both_up a b (event.Get node table version) given new after changes alike one two = absurd (false_is_true (sym changes))
  both_up a b (event.Info node table) given new after changes alike one two = absurd (false_is_true (sym changes))
  both_up a b (event.Outcome node text) given new after changes alike one two = absurd (false_is_true (sym changes))

  both_away : (old seat : UpOrDown) (given : EventResult) (new after : UpOrDown) → Alike old seat → RefusesAsDown old given new → RefusesAsDown seat given after → Alike new after
  both_away old seat given new after alike (is, same) (was, stays) = alike_along old seat new after same stays alike

  both_were_down : (old seat : UpOrDown) (e : Event) (given : EventResult) (new after : UpOrDown) → Alike old seat → DownGives found old e given new → DownGives found seat e given after
      → Alike new after
  both_were_down old seat (event.Put node text) given new after alike one two = both_away old seat given new after alike one two
  both_were_down old seat (event.Tick node left) given new after alike one two = both_away old seat given new after alike one two
  both_were_down old seat (event.Deliver node number) given new after alike one two = both_away old seat given new after alike one two
  both_were_down old seat (event.TickCut node left) given new after alike one two = both_away old seat given new after alike one two
  both_were_down old seat (event.DeliverCut node number) given new after alike one two = both_away old seat given new after alike one two
  both_were_down old seat (event.Restart node) given new after alike one two = both_restart found old seat given new after one two
  both_were_down old seat (event.Get node table version) given new after alike one two = both_away old seat given new after alike one two
  both_were_down old seat (event.Info node table) given new after alike one two = both_away old seat given new after alike one two
  both_were_down old seat (event.Outcome node text) given new after alike one two = both_away old seat given new after alike one two

  pub alike_then : (old seat : UpOrDown) (e : Event) (given : EventResult) (new after : UpOrDown) → is_query e ≡ false → Alike old seat → NodeGives config sent next found old e given new
      → NodeGives config sent next found seat e given after → Alike new after
  alike_then (IsUp a) (IsUp b) e given new after changes alike one two = both_up a b e given new after changes alike one two
  alike_then (IsUp a) (IsDown records due) e given new after changes alike one two = absurd alike
  alike_then (IsDown records due) (IsUp b) e given new after changes alike one two = absurd alike
  alike_then (IsDown records due) (IsDown others other) e given new after changes alike one two =
      both_were_down (IsDown records due) (IsDown others other) e given new after alike one two

  -- ---- queries

  same_question : (a b : Views) (Gives : List Upload → EventResult → Type 0) (given : EventResult) (after : UpOrDown) → a.learner_calls ≡ b.learner_calls → QueryGives config b Gives given after
      → QueryGives config a Gives given (IsUp a)
  same_question a b Gives given after alike (uploads, has, gives, same) =
      (uploads, subst (λ (l : List Told). HasUploads config.members l uploads) (sym alike) has, gives, refl)

  up_question : (a b : Views) (e : Event) (given : EventResult) (after : UpOrDown) → is_query e ≡ true → a.learner_calls ≡ b.learner_calls → UpGives config sent next found b e given after
      → UpGives config sent next found a e given (IsUp a)
  up_question a b (event.Put node text) given after asks alike gives = absurd (false_is_true asks)
  up_question a b (event.Tick node left) given after asks alike gives = absurd (false_is_true asks)
  up_question a b (event.Deliver node number) given after asks alike gives = absurd (false_is_true asks)
  up_question a b (event.TickCut node left) given after asks alike gives = absurd (false_is_true asks)
  up_question a b (event.DeliverCut node number) given after asks alike gives = absurd (false_is_true asks)
  up_question a b (event.Restart node) given after asks alike gives = absurd (false_is_true asks)
  up_question a b (event.Get node table version) given after asks alike gives =
      same_question a b (λ uploads. GetGivesIfAble uploads table version) given after alike gives
  up_question a b (event.Info node table) given after asks alike gives =
      same_question a b (λ uploads. InfoGivesIfAble uploads table) given after alike gives
  up_question a b (event.Outcome node text) given after asks alike gives =
      same_question a b (λ uploads. OutcomeGives uploads text) given after alike gives

  down_question : (old seat : UpOrDown) (e : Event) (given : EventResult) (after : UpOrDown) → is_query e ≡ true → DownGives found seat e given after → DownGives found old e given old
  down_question old seat (event.Put node text) given after asks gives = absurd (false_is_true asks)
  down_question old seat (event.Tick node left) given after asks gives = absurd (false_is_true asks)
  down_question old seat (event.Deliver node number) given after asks gives = absurd (false_is_true asks)
  down_question old seat (event.TickCut node left) given after asks gives = absurd (false_is_true asks)
  down_question old seat (event.DeliverCut node number) given after asks gives = absurd (false_is_true asks)
  down_question old seat (event.Restart node) given after asks gives = absurd (false_is_true asks)
  down_question old seat (event.Get node table version) given after asks gives = (gives.0, refl)
  down_question old seat (event.Info node table) given after asks gives = (gives.0, refl)
  down_question old seat (event.Outcome node text) given after asks gives = (gives.0, refl)

  pub question_again : (old seat : UpOrDown) (e : Event) (given : EventResult) (after : UpOrDown) → is_query e ≡ true → Alike old seat → NodeGives config sent next found seat e given after
      → NodeGives config sent next found old e given old
  question_again (IsUp a) (IsUp b) e given after asks alike gives = up_question a b e given after asks alike gives
  question_again (IsUp a) (IsDown records due) e given after asks alike gives = absurd alike
  question_again (IsDown records due) (IsUp b) e given after asks alike gives = absurd alike
  question_again (IsDown records due) (IsDown others other) e given after asks alike gives =
      down_question (IsDown records due) (IsDown others other) e given after asks gives
