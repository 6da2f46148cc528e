-- The record that stands behind a message is among those of its sender.
use Rattle.std.proofs.Common.{◌≡◌, ℕ, zero, suc, ◌+◌, ◌<◌, ◌≤◌, inl, inr, ◌&&◌, not, Bool, true, false, if◌then◌else◌, Option, None, Some, List, [], ◌∷◌, ◌++◌, length, take, drop, filter_map, slice_get, refl, sym, ap, ap₂, subst, ◌∙◌, arith}
use Rattle.std.specs.List.{Contains, cons_option}
use Rattle.std.proofs.lemmas.Bool.{cases_lt, eq-eqb}
use Rattle.std.proofs.lemmas.List.Elements.{Contains-append_left, Contains-append_right}
use Rattle.std.proofs.lemmas.Option.{slice_get_read}
use Rattle.ballots.specs.declared.message.Message.{Message}
use Rattle.ballots.specs.declared.record.Record.{Record}
use Rattle.table_types.specs.Uploads.{Upload}
use Rattle.table_types.specs.Tables.{effective, outcome_of}
use Rattle.table_types.specs.Answers.{answer_of}
use Rattle.agreement_rules.specs.Views.{AgreementConfig, Views, started_with}
use Rattle.agreement_rules.specs.Due.{Refuses, Plans}
use Rattle.agreement_rules.specs.Keeping.{record_of}
use Rattle.histories.specs.Due.{Input}
use Rattle.histories.specs.Due as input
use Rattle.histories.specs.Event.{Event, node_of}
use Rattle.histories.specs.Event as event
use Rattle.histories.specs.EventResult.{EventResult, count_of}
use Rattle.histories.specs.EventResult as results
use Rattle.histories.specs.History.{Step}
use Rattle.histories.specs.Following.{UpOrDown, IsUp, IsDown, reason_of, SendsGives, InputGives, GetGivesIfAble, InfoGivesIfAble, UpGives, RestartGives, DownGives, NodeGives, StepFollows, StepsReach, Reaches, at_first}
use Rattle.histories.specs.Owning.{OwnEntry, is_query, concerns, sends_in, entry_of, own}
use Rattle.histories.specs.Keeping.{is_recovered, if_recovered, AreKept, records_in}
use Rattle.resumed_histories.proofs.Sending.{PartsAnswer, TicksSay, seat_own}
use Rattle.resumed_histories.proofs.Accepting.{KeepsRecords}

-- ---- lists

none_in : {X : Type 0} (x : X) → Contains [] x → ⊥
none_in x has = absurd (omega (arith, has.1))

none_is_some : {X : Type 0} (x : X) → None ≡ Some x → ⊥
none_is_some x same = cc

some_same : {X : Type 0} (x y : X) → Some x ≡ Some y → x ≡ y
some_same x y same = cc

at_front : {X : Type 0} (x : X) (xs : List X) → Contains (x ∷ xs) x
at_front x xs = (0, omega arith, refl)

behind : {X : Type 0} (y x : X) (xs : List X) → Contains xs x → Contains (y ∷ xs) x
behind y x xs (k, within, same) = (suc k, omega (arith, within), same)

within_list : {X : Type 0} (xs : List X) (k : ℕ) (x : X) → slice_get xs k ≡ Some x → k < length xs
within_list [] k x is = absurd (none_is_some x is)
within_list (y ∷ xs) zero x is = omega arith
within_list (y ∷ xs) (suc k) x is = omega (arith, within_list xs k x is)

-- what stands from a place on is in what is taken from there
taken_has : {X : Type 0} (xs : List X) (next count k : ℕ) (x : X) → next ≤ k → k < next + count → slice_get xs k ≡ Some x → Contains (take count (drop next xs)) x
taken_has [] next count k x from to is = absurd (none_is_some x is)
taken_has (y ∷ xs) zero zero k x from to is = absurd (omega (arith, to))
taken_has (y ∷ xs) zero (suc count) zero x from to is = subst (Contains (y ∷ take count xs)) (some_same y x is) (at_front y (take count xs))
taken_has (y ∷ xs) zero (suc count) (suc k) x from to is = behind y x (take count xs) (taken_has xs zero count k x (omega arith) (omega (arith, to)) is)
taken_has (y ∷ xs) (suc next) count zero x from to is = absurd (omega (arith, from))
taken_has (y ∷ xs) (suc next) count (suc k) x from to is = taken_has xs next count k x (omega (arith, from)) (omega (arith, to)) is

with_front : {Y : Type 0} (o : Option Y) (ys : List Y) (y : Y) → o ≡ Some y → Contains (cons_option o ys) y
with_front o ys y is = subst (λ (o : Option _). Contains (cons_option o ys) y) (sym is) (at_front y ys)

with_rest : {Y : Type 0} (o : Option Y) (ys : List Y) (y : Y) → Contains ys y → Contains (cons_option o ys) y
with_rest None ys y has = has
with_rest (Some z) ys y has = behind z y ys has

gives_its_own : {X Y : Type 0} (f : X → Option Y) (xs : List X) (x : X) (y : Y) → f x ≡ Some y → Contains xs x → Contains (filter_map f xs) y
gives_its_own f [] x y is has = absurd (none_in x has)
gives_its_own f (z ∷ xs) x y is (zero, within, same) = with_front (f z) (filter_map f xs) y (ap f same ∙ is)
gives_its_own f (z ∷ xs) x y is (suc k, within, same) = with_rest (f z) (filter_map f xs) y (gives_its_own f xs x y is (k, omega (arith, within), same))

-- ---- what an entry sends, its node keeps

kept_of : (config : AgreementConfig) (entries : List OwnEntry) (seat : UpOrDown) (records : List Record) (entry : OwnEntry) (m : Message) (kept : Record) → AreKept config seat entries records
    → Contains entries entry → Contains entry.sends m → record_of m ≡ Some kept → Contains records kept
kept_of config [] seat records entry m kept keeps has sends is = absurd (none_in entry has)
kept_of config (first ∷ entries) seat records entry m kept (after, due, more, leads, at_cut, rest, are) (zero, within, same) sends is =
    let here : Contains first.sends m = subst (λ (e : OwnEntry). Contains e.sends m) (sym same) sends in
    subst (λ (rs : List Record). Contains rs kept) (sym are)
    (Contains-append_left (filter_map record_of first.sends) (if_recovered (is_recovered entries) due ++ more) kept
    (gives_its_own record_of first.sends m kept is here))
kept_of config (first ∷ entries) seat records entry m kept (after, due, more, leads, at_cut, rest, are) (suc k, within, same) sends is =
    subst (λ (rs : List Record). Contains rs kept) (sym are)
    (Contains-append_right (filter_map record_of first.sends) (if_recovered (is_recovered entries) due ++ more) kept
    (Contains-append_right (if_recovered (is_recovered entries) due) more kept
    (kept_of config entries after more entry m kept rest (k, omega (arith, within), same) sends is)))

-- ---- a step that sends

module _ (config : AgreementConfig) (sent : List Message) (next : ℕ) (given : EventResult) (new : UpOrDown) (some : 0 < count_of given) where
  quiet : (other : EventResult) → given ≡ other → count_of other ≡ 0 → ⊥
  quiet other is none = absurd (omega (arith, some, ap count_of is, none))

  -- what goes out are the next messages of the history, and no query was asked
  abbrev GoesOut : Event → Type 0
  GoesOut e = (is_query e ≡ false) × (given ≡ results.Sent next (count_of given))

  input_out : (node : ℕ) (views : Views) (i : Input) → InputGives config node views i (SendsGives sent next views) given new → given ≡ results.Sent next (count_of given)
  input_out node views i (inl (Refuses refusal, is_due, (is, same))) = absurd (quiet (results.Refused (reason_of refusal)) is refl)
  input_out node views i (inl (Plans plan, is_due, (is, placed, same))) = is ∙ ap (results.Sent next) (sym (ap count_of is))
  input_out node views i (inr (allowed, (is, same))) = absurd (quiet (results.Refused results.OutOfMemory) is refl)

  restart_quiet : (recovered : Bool) (old : UpOrDown) → RestartGives recovered old given new → ⊥
  restart_quiet recovered old (inl (is, same)) = quiet results.Done is refl
  restart_quiet recovered old (inr (is, same)) = quiet (results.Refused results.OutOfMemory) is refl

  get_quiet : (uploads : List Upload) (table : List ℕ) (version : ℕ) → GetGivesIfAble uploads table version given → ⊥
  get_quiet uploads table version (inl (inl (found, has, is))) = quiet (results.Answer (answer_of found)) is refl
  get_quiet uploads table version (inl (inr (none, is))) = quiet results.Unavailable is refl
  get_quiet uploads table version (inr (has, is)) = quiet (results.Refused results.OutOfMemory) is refl

  info_quiet : (uploads : List Upload) (table : List ℕ) → InfoGivesIfAble uploads table given → ⊥
  info_quiet uploads table (inl (inl (has, is))) = quiet (results.Info (length (effective table uploads))) is refl
  info_quiet uploads table (inl (inr (none, is))) = quiet results.NoTable is refl
  info_quiet uploads table (inr (has, is)) = quiet (results.Refused results.OutOfMemory) is refl

  up_out : (recovered : Bool) (views : Views) (e : Event) → UpGives config sent next recovered views e given new → GoesOut e
  up_out recovered views (event.Put node text) (inl (Refuses refusal, is_due, (is, same))) = absurd (quiet (results.Refused (reason_of refusal)) is refl)
  up_out recovered views (event.Put node text) (inl (Plans plan, is_due, (is, same))) = absurd (quiet results.Done is refl)
  up_out recovered views (event.Put node text) (inr (allowed, (is, same))) = absurd (quiet (results.Refused results.OutOfMemory) is refl)
  up_out recovered views (event.Tick node left) gives = (refl, input_out node views (input.Tick left) gives)
  up_out recovered views (event.Deliver node number) (inl (m, before, there, gives)) = (refl, input_out node views (input.Deliver m) gives)
  up_out recovered views (event.Deliver node number) (inr (late, is, same)) = absurd (quiet (results.Refused results.NotSent) is refl)
  up_out recovered views (event.TickCut node left) gives = absurd (quiet results.Done gives.0 refl)
  up_out recovered views (event.DeliverCut node number) (inl (m, before, there, gives)) = absurd (quiet results.Done gives.0 refl)
  up_out recovered views (event.DeliverCut node number) (inr (late, is, same)) = absurd (quiet (results.Refused results.NotSent) is refl)
  up_out recovered views (event.Restart node) gives = absurd (restart_quiet recovered (IsUp views) gives)
  up_out recovered views (event.Get node table version) (uploads, has, gives, same) = absurd (get_quiet uploads table version gives)
  up_out recovered views (event.Info node table) (uploads, has, gives, same) = absurd (info_quiet uploads table gives)
  up_out recovered views (event.Outcome node text) (uploads, has, (upload, is_text, is), same) = absurd (quiet (results.Outcome (outcome_of uploads upload)) is refl)

  down_quiet : (recovered : Bool) (old : UpOrDown) (e : Event) → DownGives recovered old e given new → ⊥
  down_quiet recovered old (event.Put node text) (is, same) = quiet (results.Refused results.Down) is refl
  down_quiet recovered old (event.Tick node left) (is, same) = quiet (results.Refused results.Down) is refl
  down_quiet recovered old (event.Deliver node number) (is, same) = quiet (results.Refused results.Down) is refl
  down_quiet recovered old (event.TickCut node left) (is, same) = quiet (results.Refused results.Down) is refl
  down_quiet recovered old (event.DeliverCut node number) (is, same) = quiet (results.Refused results.Down) is refl
  down_quiet recovered old (event.Restart node) gives = restart_quiet recovered old gives
  down_quiet recovered old (event.Get node table version) (is, same) = quiet (results.Refused results.Down) is refl
  down_quiet recovered old (event.Info node table) (is, same) = quiet (results.Refused results.Down) is refl
  down_quiet recovered old (event.Outcome node text) (is, same) = quiet (results.Refused results.Down) is refl

  goes_out : (recovered : Bool) (old : UpOrDown) (e : Event) → NodeGives config sent next recovered old e given new → GoesOut e
  goes_out recovered (IsUp views) e gives = up_out recovered views e gives
  goes_out recovered (IsDown records due) e gives = absurd (down_quiet recovered (IsDown records due) e gives)

-- ---- the entry that sends a message is its sender's

its_own : (node : ℕ) (e : Event) → node ≡ node_of e → is_query e ≡ false → concerns node e ≡ true
its_own node e same asks = ap₂ (λ (a b : Bool). a && not b) (eq-eqb (node_of e) node (sym same)) asks

module _ (sent : List Message) where
  own_here : (node : ℕ) (step : Step) (steps : List Step) (was : Bool) (more : List Bool) → concerns node step.event ≡ true
      → Contains (own node sent (step ∷ steps) (was ∷ more)) (entry_of sent step was)
  own_here node step steps was more mine =
      subst (λ (b : Bool). Contains (if b then entry_of sent step was ∷ own node sent steps more else own node sent steps more) (entry_of sent step was)) (sym mine)
      (at_front (entry_of sent step was) (own node sent steps more))

  behind_if : (b : Bool) (first entry : OwnEntry) (entries : List OwnEntry) → Contains entries entry → Contains (if b then first ∷ entries else entries) entry
  behind_if true first entry entries has = behind first entry entries has
  behind_if false first entry entries has = has

  own_later : (node : ℕ) (step : Step) (steps : List Step) (was : Bool) (more : List Bool) (entry : OwnEntry) → Contains (own node sent steps more) entry
      → Contains (own node sent (step ∷ steps) (was ∷ more)) entry
  own_later node step steps was more entry has = behind_if (concerns node step.event) (entry_of sent step was) entry (own node sent steps more) has

  abbrev IsSentIn : List Step → List Bool → Message → Type 0
  IsSentIn steps recovered m = (entry : OwnEntry) × Contains (own m.sender sent steps recovered) entry × Contains entry.sends m

  module _ (parts : PartsAnswer) (ticks : TicksSay) (config : AgreementConfig) where
    sent_here : (step : Step) (steps : List Step) (was : Bool) (more : List Bool) (old new : ℕ → UpOrDown) (next number : ℕ) (m : Message) → StepFollows config sent next old step was new
        → next ≤ number → number < next + count_of step.result → slice_get sent number ≡ Some m → IsSentIn (step ∷ steps) (was ∷ more) m
    sent_here step steps was more old new next number m (inl (member, gives, others)) from to is =
        let node = node_of step.event in
        let out = goes_out config sent next step.result (new node) (omega (arith, from, to)) was (old node) step.event gives in
        let sends : Contains (sends_in sent step.result) m =
        subst (λ (given : EventResult). Contains (sends_in sent given) m) (sym out.1) (taken_has sent next (count_of step.result) number m from to is) in
        let sender : m.sender ≡ node = seat_own parts ticks config sent next m step.result (new node) sends was (old node) step.event out.0 gives in
        (entry_of sent step was, own_here m.sender step steps was more (its_own m.sender step.event sender out.0), sends)
    sent_here step steps was more old new next number m (inr (outside, refused, same)) from to is =
        absurd (omega (arith, from, to, ap count_of refused))

    sent_in : (steps : List Step) (recovered : List Bool) (seats last : ℕ → UpOrDown) (next number : ℕ) (m : Message) → StepsReach config sent seats next steps recovered last
        → next ≤ number → slice_get sent number ≡ Some m → IsSentIn steps recovered m
    sent_in [] recovered seats last next number m (none, end, same) from is = absurd (omega (arith, from, end, within_list sent number m is))
    sent_in (step ∷ steps) [] seats last next number m reaches from is = absurd reaches
    sent_in (step ∷ steps) (was ∷ more) seats last next number m (after, follows, asked, rest) from is =
        elim (cases_lt number (next + count_of step.result)) as (λ _. IsSentIn (step ∷ steps) (was ∷ more) m) [
          | inl before ↦ sent_here step steps was more seats after next number m follows from before is
          | inr past ↦
              let found = sent_in steps more after last (next + count_of step.result) number m rest past is in
              (found.0, own_later m.sender step steps was more found.0 found.1, found.2)
        ]

-- ---- the law

pub sent_is_recorded : KeepsRecords → PartsAnswer → TicksSay → (config : AgreementConfig) (sent : List Message) (steps : List Step) (recovered : List Bool) (seats : ℕ → UpOrDown) (m : Message)
    (kept : Record) → m.sender < config.members → Reaches config sent steps recovered seats → Contains sent m → record_of m ≡ Some kept
    → Contains (records_in (seats m.sender)) kept
sent_is_recorded keeps parts ticks config sent steps recovered seats m kept member reaches (number, within, same) is =
    let there : slice_get sent number ≡ Some m = slice_get_read sent (length sent) number m refl within (sym same) in
    let found = sent_in sent parts ticks config steps recovered at_first seats 0 number m reaches (omega arith) there in
    kept_of config (own m.sender sent steps recovered) (IsUp (started_with [])) (records_in (seats m.sender)) found.0 m kept
    (keeps config sent steps recovered seats m.sender member reaches) found.1 found.2 is
