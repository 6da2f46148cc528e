-- What a step gives a node, memory apart, and how it leaves the node, is one thing; and so are the records that a node's entries
-- made it keep.
use Rattle.std.proofs.Common.{◌≡◌, ◌≢◌, ℕ, inl, inr, Bool, true, false, Option, None, Some, List, [], ◌∷◌, ◌++◌, length, filter_map, slice_get, refl, sym, ap, ap₂, subst, ◌∙◌, arith}
use Rattle.ballots.specs.declared.message.Message.{Message}
use Rattle.ballots.specs.declared.record.Record.{Record}
use Rattle.table_types.specs.Uploads.{Upload}
use Rattle.table_types.specs.Tables.{Version, version_of, outcome_of}
use Rattle.table_types.specs.Answers.{answer_of}
use Rattle.agreement_rules.specs.Views.{AgreementConfig, Views}
use Rattle.agreement_rules.specs.Due.{Plan, Due, Refuses, Plans, TickKeeps, MessageKeeps}
use Rattle.agreement_rules.specs.Keeping.{record_of}
use Rattle.histories.specs.Due.{Input, IsDue, InputKeeps}
use Rattle.histories.specs.Due as input
use Rattle.histories.specs.Event.{Event}
use Rattle.histories.specs.Event as event
use Rattle.histories.specs.EventResult.{EventResult}
use Rattle.histories.specs.EventResult as results
use Rattle.histories.specs.Following.{UpOrDown, IsUp, IsDown, PutGives, SendsGives, InputGives, CutGives, Delivers, OutcomeGives, GetGivesIfAble, InfoGivesIfAble, QueryGives, RestartGives, UpGives, DownGives, NodeGives}
use Rattle.histories.specs.Owning.{OwnEntry, number_in, is_turned_away, handed_in, Leads}
use Rattle.histories.specs.Keeping.{is_recovered, IsDueAtCut, if_recovered, AreKept}
use Rattle.histories.proofs.Own.{false_is_true, not_away, of_input, handed_there}
use Rattle.histories.proofs.OneDue.{OneDueLaws, one_upload, one_list, one_due}

-- the laws of lower crates that are used
pub record OneSeatLaws : Type 0 where
  pub due : OneDueLaws
  pub tick_record : (config : AgreementConfig) (me : ℕ) (views : Views) (left : ℕ) (a b : Option Record) → TickKeeps config me views left a → TickKeeps config me views left b → a ≡ b
  pub message_record : (config : AgreementConfig) (views : Views) (m : Message) (a b : Option Record) → MessageKeeps config views m a → MessageKeeps config views m b → a ≡ b

abbrev is_refused : EventResult → Bool
is_refused (results.Sent first count) = false
is_refused results.Done = false
is_refused (results.Answer bytes) = false
is_refused results.Unavailable = false
is_refused (results.Info version) = false
is_refused results.NoTable = false
is_refused (results.Outcome outcome) = false
is_refused (results.Refused reason) = true

abbrev wants_memory : EventResult
wants_memory = results.Refused results.OutOfMemory

-- what is not refused is no want of memory
apart : (given : EventResult) → is_refused given ≡ false → given ≡ wants_memory → ⊥
apart given answered wants = false_is_true (sym answered ∙ ap is_refused wants)

not_refused : (given other : EventResult) → given ≡ other → is_refused other ≡ false → is_refused given ≡ false
not_refused given other is answered = ap is_refused is ∙ answered

same_some : {X : Type 0} → (o : Option X) → (a b : X) → o ≡ Some a → o ≡ Some b → a ≡ b
same_some o a b is also = let both : Some a ≡ Some b = sym is ∙ also in cc

some_or_none : {X : Type 0} → (o : Option X) → (a : X) → o ≡ Some a → o ≡ None → ⊥
some_or_none o a is none = let both : Some a ≡ None = sym is ∙ none in cc

-- ---- how what is due leaves a node

abbrev left_by : Views → Due → UpOrDown
left_by views (Refuses refusal) = IsUp views
left_by views (Plans plan) = IsUp plan.after

put_leaves : (views : Views) (d : Due) (given : EventResult) (new : UpOrDown) → PutGives views d given new → new ≡ left_by views d
put_leaves views (Refuses refusal) given new (is, same) = same
put_leaves views (Plans plan) given new (is, same) = same

put_plans : (views : Views) (plan : Plan) (given : EventResult) (new : UpOrDown) → PutGives views (Plans plan) given new → is_refused given ≡ false
put_plans views plan given new (is, same) = not_refused given results.Done is refl

put_gives : (views : Views) (d : Due) (x y : EventResult) (new other : UpOrDown) → PutGives views d x new → PutGives views d y other → x ≡ y
put_gives views (Refuses refusal) x y new other (is, same) (also, same') = is ∙ sym also
put_gives views (Plans plan) x y new other (is, same) (also, same') = is ∙ sym also

send_leaves : (sent : List Message) (next : ℕ) (views : Views) (d : Due) (given : EventResult) (new : UpOrDown) → SendsGives sent next views d given new → new ≡ left_by views d
send_leaves sent next views (Refuses refusal) given new (is, same) = same
send_leaves sent next views (Plans plan) given new (is, placed, same) = same

send_plans : (sent : List Message) (next : ℕ) (views : Views) (plan : Plan) (given : EventResult) (new : UpOrDown) → SendsGives sent next views (Plans plan) given new
    → is_refused given ≡ false
send_plans sent next views plan given new (is, placed, same) = not_refused given (results.Sent next (length plan.sends)) is refl

send_gives : (sent : List Message) (next : ℕ) (views : Views) (d : Due) (x y : EventResult) (new other : UpOrDown) → SendsGives sent next views d x new → SendsGives sent next views d y other
    → x ≡ y
send_gives sent next views (Refuses refusal) x y new other (is, same) (also, same') = is ∙ sym also
send_gives sent next views (Plans plan) x y new other (is, placed, same) (also, placed', same') = is ∙ sym also

module _ (laws : OneSeatLaws) where
  one_record : (config : AgreementConfig) (me : ℕ) (views : Views) (asked : Input) (a b : Option Record) → InputKeeps config me views asked a → InputKeeps config me views asked b → a ≡ b
  one_record config me views (input.Put text) a b is also = is ∙ sym also
  one_record config me views (input.Tick left) a b is also = laws.tick_record config me views left a b is also
  one_record config me views (input.Deliver m) a b is also = laws.message_record config views m a b is also

  -- an input, whose answers are told in two histories
  module _ (config : AgreementConfig) (node : ℕ) (views : Views) (asked : Input) (First Second : Due → EventResult → UpOrDown → Type 0) (first : (d : Due) (given : EventResult) (new : UpOrDown) → First d given new → new ≡ left_by views d) (second : (d : Due) (given : EventResult) (new : UpOrDown) → Second d given new → new ≡ left_by views d) (plans : (plan : Plan) (given : EventResult) (new : UpOrDown) → First (Plans plan) given new → is_refused given ≡ false) (also_plans : (plan : Plan) (given : EventResult) (new : UpOrDown) → Second (Plans plan) given new → is_refused given ≡ false) where
    first_wants : (d : Due) (given : EventResult) (new : UpOrDown) → First d given new → given ≡ wants_memory → new ≡ IsUp views
    first_wants (Refuses refusal) given new gives wants = first (Refuses refusal) given new gives
    first_wants (Plans plan) given new gives wants = absurd (apart given (plans plan given new gives) wants)

    second_wants : (d : Due) (given : EventResult) (new : UpOrDown) → Second d given new → given ≡ wants_memory → new ≡ IsUp views
    second_wants (Refuses refusal) given new gives wants = second (Refuses refusal) given new gives
    second_wants (Plans plan) given new gives wants = absurd (apart given (also_plans plan given new gives) wants)

    input_leaves : (given : EventResult) (new other : UpOrDown) → InputGives config node views asked First given new → InputGives config node views asked Second given other → new ≡ other
    input_leaves given new other (inl (d, is, gives)) (inl (d', is', gives')) =
        first d given new gives ∙ ap (left_by views) (one_due laws.due config node views asked d d' is is') ∙ sym (second d' given other gives')
    input_leaves given new other (inl (d, is, gives)) (inr (allowed, (wants, same))) = first_wants d given new gives wants ∙ sym same
    input_leaves given new other (inr (allowed, (wants, same))) (inl (d, is, gives)) = same ∙ sym (second_wants d given other gives wants)
    input_leaves given new other (inr (allowed, (wants, same))) (inr (allowed', (wants', same'))) = same ∙ sym same'

  module _ (config : AgreementConfig) (node : ℕ) (views : Views) (asked : Input) (Gives : Due → EventResult → UpOrDown → Type 0) (gives_one : (d : Due) (x y : EventResult) (new other : UpOrDown) → Gives d x new → Gives d y other → x ≡ y) where
    input_gives : (x y : EventResult) (new other : UpOrDown) → x ≢ wants_memory → y ≢ wants_memory → InputGives config node views asked Gives x new → InputGives config node views asked Gives y other → x ≡ y
    input_gives x y new other able also_able (inl (d, is, gives)) (inl (d', is', gives')) =
        gives_one d x y new other gives (subst (λ (e : Due). Gives e y other) (one_due laws.due config node views asked d' d is' is) gives')
    input_gives x y new other able also_able (inl (d, is, gives)) (inr (allowed, (wants, same))) = absurd (also_able wants)
    input_gives x y new other able also_able (inr (allowed, (wants, same))) gives = absurd (able wants)

  -- ---- how a step leaves a node

  module _ (config : AgreementConfig) (sent sent' : List Message) (next next' : ℕ) (found : Bool) where
    tick_leaves : (node : ℕ) (views : Views) (asked : Input) (given : EventResult) (new other : UpOrDown) → InputGives config node views asked (SendsGives sent next views) given new
        → InputGives config node views asked (SendsGives sent' next' views) given other → new ≡ other
    tick_leaves node views asked given new other gives gives' =
        input_leaves config node views asked (SendsGives sent next views) (SendsGives sent' next' views) (send_leaves sent next views) (send_leaves sent' next' views)
        (send_plans sent next views) (send_plans sent' next' views) given new other gives gives'

    cut_leaves : (node : ℕ) (views : Views) (asked : Input) (given : EventResult) (new other : UpOrDown) → CutGives config node views asked given new → CutGives config node views asked given other
        → new ≡ other
    cut_leaves node views asked given new other (is, (kept, keeps, same)) (also, (kept', keeps', same')) =
        same ∙ ap (IsDown views.records) (one_record config node views asked kept kept' keeps keeps') ∙ sym same'

    one_handed : (e : Event) (given : EventResult) (number : ℕ) (m m' : Message) → is_turned_away given ≡ false → number_in e ≡ Some number → slice_get sent number ≡ Some m → slice_get sent' number ≡ Some m'
        → handed_in sent (record { event = e; result = given }) ≡ handed_in sent' (record { event = e; result = given }) → m ≡ m'
    one_handed e given number m m' taken is there there' alike =
        same_some (handed_in sent' (record { event = e; result = given })) m m' (sym alike ∙ handed_there sent e given number m taken is there)
        (handed_there sent' e given number m' taken is there')

    delivery_leaves : (node number : ℕ) (views : Views) (given : EventResult) (new other : UpOrDown)
        → handed_in sent (record { event = event.Deliver node number; result = given }) ≡ handed_in sent' (record { event = event.Deliver node number; result = given })
        → Delivers sent next number (λ m. InputGives config node views (input.Deliver m) (SendsGives sent next views)) views given new
        → Delivers sent' next' number (λ m. InputGives config node views (input.Deliver m) (SendsGives sent' next' views)) views given other → new ≡ other
    delivery_leaves node number views given new other alike (inl (m, lt, there, gives)) (inl (m', lt', there', gives')) =
        let taken = not_away sent next given (of_input config sent next node views (input.Deliver m) given new gives) in
        let same : m' ≡ m = sym (one_handed (event.Deliver node number) given number m m' taken refl there there' alike) in
        tick_leaves node views (input.Deliver m) given new other gives
        (subst (λ (x : Message). InputGives config node views (input.Deliver x) (SendsGives sent' next' views) given other) same gives')
    delivery_leaves node number views given new other alike (inl (m, lt, there, gives)) (inr (late, is, same)) =
        absurd (false_is_true (sym (not_away sent next given (of_input config sent next node views (input.Deliver m) given new gives)) ∙ ap is_turned_away is))
    delivery_leaves node number views given new other alike (inr (late, is, same)) (inl (m, lt, there, gives)) =
        absurd (false_is_true (sym (not_away sent' next' given (of_input config sent' next' node views (input.Deliver m) given other gives)) ∙ ap is_turned_away is))
    delivery_leaves node number views given new other alike (inr (late, is, same)) (inr (late', is', same')) = same ∙ sym same'

    cut_delivery_leaves : (node number : ℕ) (views : Views) (given : EventResult) (new other : UpOrDown)
        → handed_in sent (record { event = event.DeliverCut node number; result = given }) ≡ handed_in sent' (record { event = event.DeliverCut node number; result = given })
        → Delivers sent next number (λ m. CutGives config node views (input.Deliver m)) views given new
        → Delivers sent' next' number (λ m. CutGives config node views (input.Deliver m)) views given other → new ≡ other
    cut_delivery_leaves node number views given new other alike (inl (m, lt, there, gives)) (inl (m', lt', there', gives')) =
        let same : m' ≡ m = sym (one_handed (event.DeliverCut node number) given number m m' (ap is_turned_away gives.0) refl there there' alike) in
        cut_leaves node views (input.Deliver m) given new other gives
        (subst (λ (x : Message). CutGives config node views (input.Deliver x) given other) same gives')
    cut_delivery_leaves node number views given new other alike (inl (m, lt, there, gives)) (inr (late, is, same)) =
        absurd (false_is_true (sym (ap is_turned_away gives.0) ∙ ap is_turned_away is))
    cut_delivery_leaves node number views given new other alike (inr (late, is, same)) (inl (m, lt, there, gives)) =
        absurd (false_is_true (sym (ap is_turned_away gives.0) ∙ ap is_turned_away is))
    cut_delivery_leaves node number views given new other alike (inr (late, is, same)) (inr (late', is', same')) = same ∙ sym same'

    restart_leaves : (old : UpOrDown) (given : EventResult) (new other : UpOrDown) → RestartGives found old given new → RestartGives found old given other → new ≡ other
    restart_leaves old given new other (inl (is, same)) (inl (is', same')) = same ∙ sym same'
    restart_leaves old given new other (inl (is, same)) (inr (wants, same')) = absurd (apart given (not_refused given results.Done is refl) wants)
    restart_leaves old given new other (inr (wants, same)) (inl (is, same')) = absurd (apart given (not_refused given results.Done is refl) wants)
    restart_leaves old given new other (inr (wants, same)) (inr (wants', same')) = same ∙ sym same'

    up_leaves : (views : Views) (e : Event) (given : EventResult) (new other : UpOrDown)
        → handed_in sent (record { event = e; result = given }) ≡ handed_in sent' (record { event = e; result = given }) → UpGives config sent next found views e given new
        → UpGives config sent' next' found views e given other → new ≡ other
    up_leaves views (event.Put node text) given new other alike gives gives' =
        input_leaves config node views (input.Put text) (PutGives views) (PutGives views) (put_leaves views) (put_leaves views) (put_plans views) (put_plans views) given new other gives gives'
    up_leaves views (event.Tick node left) given new other alike gives gives' = tick_leaves node views (input.Tick left) given new other gives gives'
    up_leaves views (event.Deliver node number) given new other alike gives gives' = delivery_leaves node number views given new other alike gives gives'
    up_leaves views (event.TickCut node left) given new other alike gives gives' = cut_leaves node views (input.Tick left) given new other gives gives'
    up_leaves views (event.DeliverCut node number) given new other alike gives gives' = cut_delivery_leaves node number views given new other alike gives gives'
    up_leaves views (event.Restart node) given new other alike gives gives' = restart_leaves (IsUp views) given new other gives gives'
    up_leaves views (event.Get node table version) given new other alike (uploads, has, is, same) (uploads', has', is', same') = same ∙ sym same'
    up_leaves views (event.Info node table) given new other alike (uploads, has, is, same) (uploads', has', is', same') = same ∙ sym same'
    up_leaves views (event.Outcome node text) given new other alike (uploads, has, is, same) (uploads', has', is', same') = same ∙ sym same'

    down_leaves : (old : UpOrDown) (e : Event) (given : EventResult) (new other : UpOrDown) → DownGives found old e given new → DownGives found old e given other → new ≡ other
    down_leaves old (event.Put node text) given new other gives gives' = gives.1 ∙ sym gives'.1
    down_leaves old (event.Tick node left) given new other gives gives' = gives.1 ∙ sym gives'.1
    down_leaves old (event.Deliver node number) given new other gives gives' = gives.1 ∙ sym gives'.1
    down_leaves old (event.TickCut node left) given new other gives gives' = gives.1 ∙ sym gives'.1
    down_leaves old (event.DeliverCut node number) given new other gives gives' = gives.1 ∙ sym gives'.1
    down_leaves old (event.Restart node) given new other gives gives' = restart_leaves old given new other gives gives'
    down_leaves old (event.Get node table version) given new other gives gives' = gives.1 ∙ sym gives'.1
    down_leaves old (event.Info node table) given new other gives gives' = gives.1 ∙ sym gives'.1
    down_leaves old (event.Outcome node text) given new other gives gives' = gives.1 ∙ sym gives'.1

    seat_leaves : (old : UpOrDown) (e : Event) (given : EventResult) (new other : UpOrDown)
        → handed_in sent (record { event = e; result = given }) ≡ handed_in sent' (record { event = e; result = given }) → NodeGives config sent next found old e given new
        → NodeGives config sent' next' found old e given other → new ≡ other
    seat_leaves (IsUp views) e given new other alike gives gives' = up_leaves views e given new other alike gives gives'
    seat_leaves (IsDown records due) e given new other alike gives gives' = down_leaves (IsDown records due) e given new other gives gives'

  pub one_left : (config : AgreementConfig) (sent : List Message) (next : ℕ) (found : Bool) (old : UpOrDown) (e : Event) (given : EventResult) (new other : UpOrDown) → NodeGives config sent next found old e given new
      → NodeGives config sent next found old e given other → new ≡ other
  one_left config sent next found old e given new other gives gives' = seat_leaves config sent sent next next found old e given new other refl gives gives'

  pub one_led : (config : AgreementConfig) (old : UpOrDown) (entry : OwnEntry) (new other : UpOrDown) → Leads config old entry new → Leads config old entry other → new ≡ other
  one_led config old entry new other leads also =
      seat_leaves config leads.sent also.sent leads.next also.next entry.recovered old entry.step.event entry.step.result new other (leads.handed_is ∙ sym also.handed_is) leads.gives also.gives

  -- ---- what a step gives

  module _ (config : AgreementConfig) (sent : List Message) (next : ℕ) (found : Bool) where
    delivery_gives : (node number : ℕ) (views : Views) (x y : EventResult) (new other : UpOrDown) → x ≢ wants_memory → y ≢ wants_memory
        → Delivers sent next number (λ m. InputGives config node views (input.Deliver m) (SendsGives sent next views)) views x new
        → Delivers sent next number (λ m. InputGives config node views (input.Deliver m) (SendsGives sent next views)) views y other → x ≡ y
    delivery_gives node number views x y new other able also_able (inl (m, lt, there, gives)) (inl (m', lt', there', gives')) =
        let same : m' ≡ m = same_some (slice_get sent number) m' m there' there in
        input_gives config node views (input.Deliver m) (SendsGives sent next views) (send_gives sent next views) x y new other able also_able gives
        (subst (λ (a : Message). InputGives config node views (input.Deliver a) (SendsGives sent next views) y other) same gives')
    delivery_gives node number views x y new other able also_able (inl (m, lt, there, gives)) (inr (late, is, same)) = absurd (omega (arith, lt, late))
    delivery_gives node number views x y new other able also_able (inr (late, is, same)) (inl (m, lt, there, gives)) = absurd (omega (arith, lt, late))
    delivery_gives node number views x y new other able also_able (inr (late, is, same)) (inr (late', is', same')) = is ∙ sym is'

    cut_delivery_gives : (node number : ℕ) (views : Views) (x y : EventResult) (new other : UpOrDown) → Delivers sent next number (λ m. CutGives config node views (input.Deliver m)) views x new
        → Delivers sent next number (λ m. CutGives config node views (input.Deliver m)) views y other → x ≡ y
    cut_delivery_gives node number views x y new other (inl (m, lt, there, gives)) (inl (m', lt', there', gives')) = gives.0 ∙ sym gives'.0
    cut_delivery_gives node number views x y new other (inl (m, lt, there, gives)) (inr (late, is, same)) = absurd (omega (arith, lt, late))
    cut_delivery_gives node number views x y new other (inr (late, is, same)) (inl (m, lt, there, gives)) = absurd (omega (arith, lt, late))
    cut_delivery_gives node number views x y new other (inr (late, is, same)) (inr (late', is', same')) = is ∙ sym is'

    restart_gives : (old : UpOrDown) (x y : EventResult) (new other : UpOrDown) → x ≢ wants_memory → y ≢ wants_memory → RestartGives found old x new → RestartGives found old y other → x ≡ y
    restart_gives old x y new other able also_able (inl (is, same)) (inl (is', same')) = is ∙ sym is'
    restart_gives old x y new other able also_able (inl (is, same)) (inr (wants, same')) = absurd (also_able wants)
    restart_gives old x y new other able also_able (inr (wants, same)) gives = absurd (able wants)

    version_given : (uploads : List Upload) (table : List ℕ) (version : ℕ) (x y : EventResult) → x ≢ wants_memory → y ≢ wants_memory → GetGivesIfAble uploads table version x
        → GetGivesIfAble uploads table version y → x ≡ y
    version_given uploads table version x y able also_able (inl (inl (a, is, given))) (inl (inl (b, is', given'))) =
        given ∙ ap (λ (v : Version). results.Answer (answer_of v)) (same_some (version_of table version uploads) a b is is') ∙ sym given'
    version_given uploads table version x y able also_able (inl (inl (a, is, given))) (inl (inr (none, given'))) = absurd (some_or_none (version_of table version uploads) a is none)
    version_given uploads table version x y able also_able (inl (inr (none, given))) (inl (inl (b, is', given'))) = absurd (some_or_none (version_of table version uploads) b is' none)
    version_given uploads table version x y able also_able (inl (inr (none, given))) (inl (inr (none', given'))) = given ∙ sym given'
    version_given uploads table version x y able also_able (inl gives) (inr (some, wants)) = absurd (also_able wants)
    version_given uploads table version x y able also_able (inr (some, wants)) gives = absurd (able wants)

    table_given : (uploads : List Upload) (table : List ℕ) (x y : EventResult) → x ≢ wants_memory → y ≢ wants_memory → InfoGivesIfAble uploads table x → InfoGivesIfAble uploads table y → x ≡ y
    table_given uploads table x y able also_able (inl (inl (some, given))) (inl (inl (some', given'))) = given ∙ sym given'
    table_given uploads table x y able also_able (inl (inl (some, given))) (inl (inr (none, given'))) = absurd (omega (arith, some, ap length none))
    table_given uploads table x y able also_able (inl (inr (none, given))) (inl (inl (some, given'))) = absurd (omega (arith, some, ap length none))
    table_given uploads table x y able also_able (inl (inr (none, given))) (inl (inr (none', given'))) = given ∙ sym given'
    table_given uploads table x y able also_able (inl gives) (inr (some, wants)) = absurd (also_able wants)
    table_given uploads table x y able also_able (inr (some, wants)) gives = absurd (able wants)

    outcome_given : (uploads : List Upload) (text : List ℕ) (x y : EventResult) → OutcomeGives uploads text x → OutcomeGives uploads text y → x ≡ y
    outcome_given uploads text x y (a, is, given) (b, is', given') =
        given ∙ ap (λ (u : Upload). results.Outcome (outcome_of uploads u)) (one_upload laws.due text a b is is') ∙ sym given'

    question_gives : (views : Views) (Gives : List Upload → EventResult → Type 0) (x y : EventResult) (new other : UpOrDown)
        → ((uploads : List Upload) → Gives uploads x → Gives uploads y → x ≡ y) → QueryGives config views Gives x new → QueryGives config views Gives y other → x ≡ y
    question_gives views Gives x y new other one (us, has, gives, same) (vs, has', gives', same') =
        one us gives (subst (λ (l : List Upload). Gives l y) (one_list laws.due config.members views.learner_calls vs us has' has) gives')

    up_gives : (views : Views) (e : Event) (x y : EventResult) (new other : UpOrDown) → x ≢ wants_memory → y ≢ wants_memory → UpGives config sent next found views e x new
        → UpGives config sent next found views e y other → x ≡ y
    up_gives views (event.Put node text) x y new other able also_able gives gives' =
        input_gives config node views (input.Put text) (PutGives views) (put_gives views) x y new other able also_able gives gives'
    up_gives views (event.Tick node left) x y new other able also_able gives gives' =
        input_gives config node views (input.Tick left) (SendsGives sent next views) (send_gives sent next views) x y new other able also_able gives gives'
    up_gives views (event.Deliver node number) x y new other able also_able gives gives' = delivery_gives node number views x y new other able also_able gives gives'
    up_gives views (event.TickCut node left) x y new other able also_able gives gives' = gives.0 ∙ sym gives'.0
    up_gives views (event.DeliverCut node number) x y new other able also_able gives gives' = cut_delivery_gives node number views x y new other gives gives'
    up_gives views (event.Restart node) x y new other able also_able gives gives' = restart_gives (IsUp views) x y new other able also_able gives gives'
    up_gives views (event.Get node table version) x y new other able also_able gives gives' =
        question_gives views (λ uploads. GetGivesIfAble uploads table version) x y new other (λ uploads. version_given uploads table version x y able also_able) gives gives'
    up_gives views (event.Info node table) x y new other able also_able gives gives' =
        question_gives views (λ uploads. InfoGivesIfAble uploads table) x y new other (λ uploads. table_given uploads table x y able also_able) gives gives'
    up_gives views (event.Outcome node text) x y new other able also_able gives gives' =
        question_gives views (λ uploads. OutcomeGives uploads text) x y new other (λ uploads. outcome_given uploads text x y) gives gives'

    down_gives : (old : UpOrDown) (e : Event) (x y : EventResult) (new other : UpOrDown) → x ≢ wants_memory → y ≢ wants_memory → DownGives found old e x new → DownGives found old e y other → x ≡ y
    down_gives old (event.Put node text) x y new other able also_able gives gives' = gives.0 ∙ sym gives'.0
    down_gives old (event.Tick node left) x y new other able also_able gives gives' = gives.0 ∙ sym gives'.0
    down_gives old (event.Deliver node number) x y new other able also_able gives gives' = gives.0 ∙ sym gives'.0
    down_gives old (event.TickCut node left) x y new other able also_able gives gives' = gives.0 ∙ sym gives'.0
    down_gives old (event.DeliverCut node number) x y new other able also_able gives gives' = gives.0 ∙ sym gives'.0
    down_gives old (event.Restart node) x y new other able also_able gives gives' = restart_gives old x y new other able also_able gives gives'
    down_gives old (event.Get node table version) x y new other able also_able gives gives' = gives.0 ∙ sym gives'.0
    down_gives old (event.Info node table) x y new other able also_able gives gives' = gives.0 ∙ sym gives'.0
    down_gives old (event.Outcome node text) x y new other able also_able gives gives' = gives.0 ∙ sym gives'.0

    pub one_given : (old : UpOrDown) (e : Event) (x y : EventResult) (new other : UpOrDown) → x ≢ wants_memory → y ≢ wants_memory → NodeGives config sent next found old e x new
        → NodeGives config sent next found old e y other → x ≡ y
    one_given (IsUp views) e x y new other able also_able gives gives' = up_gives views e x y new other able also_able gives gives'
    one_given (IsDown records due) e x y new other able also_able gives gives' = down_gives (IsDown records due) e x y new other able also_able gives gives'

  -- ---- what is kept

  module _ (config : AgreementConfig) where
    one_at_cut : (seat : UpOrDown) (e : Event) (handed : Option Message) (a b : Option Record) → IsDueAtCut config seat e handed a → IsDueAtCut config seat e handed b → a ≡ b
    one_at_cut (IsDown records due) e handed a b is also = is ∙ sym also
    one_at_cut (IsUp views) (event.TickCut node left) handed a b is also = laws.tick_record config node views left a b is also
    one_at_cut (IsUp views) (event.DeliverCut node number) None a b is also = is ∙ sym also
    one_at_cut (IsUp views) (event.DeliverCut node number) (Some m) a b is also = laws.message_record config views m a b is also
    one_at_cut (IsUp views) (event.Put node text) handed a b is also = is ∙ sym also
    one_at_cut (IsUp views) (event.Tick node left) handed a b is also = is ∙ sym also
    one_at_cut (IsUp views) (event.Deliver node number) handed a b is also = is ∙ sym also
    one_at_cut (IsUp views) (event.Restart node) handed a b is also = is ∙ sym also
    one_at_cut (IsUp views) (event.Get node table version) handed a b is also = is ∙ sym also
    one_at_cut (IsUp views) (event.Info node table) handed a b is also = is ∙ sym also
    one_at_cut (IsUp views) (event.Outcome node text) handed a b is also = is ∙ sym also

    pub one_kept : (seat : UpOrDown) (entries : List OwnEntry) (a b : List Record) → AreKept config seat entries a → AreKept config seat entries b → a ≡ b
    one_kept seat [] a b is also = is ∙ sym also
    one_kept seat (entry ∷ entries) a b (after, due, more, leads, cut, rest, is) (after', due', more', leads', cut', rest', also) =
        let seats : after' ≡ after = one_led config seat entry after' after leads' leads in
        let dues : due ≡ due' = one_at_cut seat entry.step.event entry.handed due due' cut cut' in
        let mores : more ≡ more' = one_kept after entries more more' rest (subst (λ (s : UpOrDown). AreKept config s entries more') seats rest') in
        is ∙ ap₂ (λ (d : Option Record) (l : List Record). filter_map record_of entry.sends ++ (if_recovered (is_recovered entries) d ++ l)) dues mores ∙ sym also
