-- The records that a history leaves a node are those that it kept: of what it sent, and of the cuts whose record was recovered.
use Rattle.std.proofs.Common.{◌≡◌, ℕ, ◌&&◌, inl, inr, Bool, true, false, if◌then◌else◌, Option, None, Some, List, [], ◌∷◌, ◌++◌, length, filter_map, refl, sym, ap, subst, ◌∙◌, append_assoc}
use Rattle.std.specs.List.{cons_option}
use Rattle.std.proofs.lemmas.List.{append-nil}
use Rattle.ballots.specs.declared.message.Message.{Message}
use Rattle.ballots.specs.declared.message.Body.{Body}
use Rattle.ballots.specs.declared.message.Body.TheVariants as body
use Rattle.ballots.specs.declared.record.Record.{Record}
use Rattle.table_types.specs.Uploads.{Upload}
use Rattle.table_types.specs.Tables.{effective, outcome_of}
use Rattle.table_types.specs.Answers.{answer_of}
use Rattle.agreement_rules.specs.Views.{AgreementConfig, Views, started_with}
use Rattle.agreement_rules.specs.Due.{Plan, Refuses, Plans, TickIsDue, PartIsDue, has_seen}
use Rattle.agreement_rules.specs.Keeping.{record_of}
use Rattle.histories.specs.Due.{Input, IsDue, PutIsDue, BodyIsDue, MessageIsDue, LearnsOf}
use Rattle.histories.specs.Due as input
use Rattle.histories.specs.Event.{Event, is_restart}
use Rattle.histories.specs.Event as event
use Rattle.histories.specs.EventResult.{EventResult, is_done}
use Rattle.histories.specs.EventResult as results
use Rattle.histories.specs.Following.{UpOrDown, IsUp, IsDown, with_due, reason_of, PutGives, SendsGives, InputGives, CutGives, Delivers, GetGivesIfAble, InfoGivesIfAble, RestartGives, UpGives, RefusesAsDown, DownGives, NodeGives}
use Rattle.histories.specs.Owning.{OwnEntry, handed_in, sends_in, is_turned_away, OwnReaches}
use Rattle.histories.specs.Keeping.{is_recovered, IsDueAtCut, if_recovered, AreKept, records_in}
use Rattle.histories.proofs.Own.{handed_away, handed_there}

-- ---- a plan keeps what it sends

-- the records of what a plan sends are its record, which is put behind those of before
pub record KeepsItsSends (views : Views) (plan : Plan) : Type 0 where
  pub sends : filter_map record_of plan.sends ≡ cons_option plan.kept []
  pub records : plan.after.records ≡ views.records ++ cons_option plan.kept []

abbrev pub TicksKeep : Type 0
TicksKeep = (config : AgreementConfig) (me : ℕ) (views : Views) (left : ℕ) (plan : Plan) → TickIsDue config me views left (Plans plan) → KeepsItsSends views plan

abbrev pub PartsKeep : Type 0
PartsKeep = (config : AgreementConfig) (me : ℕ) (views : Views) (sender slot : ℕ) (b : Body) (plan : Plan) → PartIsDue config me views sender slot b plan → KeepsItsSends views plan

-- nothing is sent or kept
quiet_keeps : (views after : Views) (plan : Plan) → plan ≡ record { kept = None; sends = []; after = after } → after.records ≡ views.records → KeepsItsSends views plan
quiet_keeps views after plan is same = record {
  sends = ap (λ (p : Plan). filter_map record_of p.sends) is ∙ sym (ap (λ (p : Plan). cons_option p.kept []) is);
  records = ap (λ (p : Plan). p.after.records) is ∙ same ∙ sym (append-nil views.records) ∙ sym (ap (λ (p : Plan). views.records ++ cons_option p.kept []) is);
}

put_keeps : (config : AgreementConfig) (views : Views) (text : List ℕ) (plan : Plan) → PutIsDue config views text (Plans plan) → KeepsItsSends views plan
put_keeps config views text plan (inl (known, is)) = quiet_keeps views views plan is refl
put_keeps config views text plan (inr (new, unknown, left, is)) = quiet_keeps views _ plan is refl

module _ (ticks : TicksKeep) (parts : PartsKeep) where
  body_keeps : (config : AgreementConfig) (me : ℕ) (views : Views) (sender slot : ℕ) (b : Body) (plan : Plan) → BodyIsDue config me views sender slot b plan → KeepsItsSends views plan
  body_keeps config me views sender slot (body.Prepare ballot) plan is_due = parts config me views sender slot (body.Prepare ballot) plan is_due
  body_keeps config me views sender slot (body.Promise ballot report) plan is_due = parts config me views sender slot (body.Promise ballot report) plan is_due
  body_keeps config me views sender slot (body.Nack ballot promised) plan is_due = parts config me views sender slot (body.Nack ballot promised) plan is_due
  body_keeps config me views sender slot (body.Accept proposal) plan is_due = parts config me views sender slot (body.Accept proposal) plan is_due
  body_keeps config me views sender slot (body.Accepted acceptance) plan (uploads, left, has, waits, is) = quiet_keeps views _ plan is refl
  body_keeps config me views sender slot body.Ask plan is_due = parts config me views sender slot body.Ask plan is_due
  body_keeps config me views sender slot (body.Decided value) plan (uploads, left, has, waits, is) = quiet_keeps views _ plan is refl

  input_keeps : (config : AgreementConfig) (me : ℕ) (views : Views) (asked : Input) (plan : Plan) → IsDue config me views asked (Plans plan) → KeepsItsSends views plan
  input_keeps config me views (input.Put text) plan is_due = put_keeps config views text plan is_due
  input_keeps config me views (input.Tick left) plan is_due = ticks config me views left plan is_due
  input_keeps config me views (input.Deliver m) plan (is_of, is_due) =
      let keeps = body_keeps config me (has_seen views m) m.sender m.slot m.body plan is_due in
      record { sends = keeps.sends; records = keeps.records }

-- ---- what stands at the end

-- what the node has in the end, where it was so, is what it had, with the record that was in doubt if that is recovered, and these
abbrev Ends : UpOrDown → Bool → UpOrDown → List Record → Type 0
Ends last recovered (IsUp views) more = records_in last ≡ views.records ++ more
Ends last recovered (IsDown records due) more = records_in last ≡ records ++ (if_recovered recovered due ++ more)

ends_at : (last : UpOrDown) (recovered : Bool) (after seat : UpOrDown) (more : List Record) → after ≡ seat → Ends last recovered after more → Ends last recovered seat more
ends_at last recovered after seat more same ends = subst (λ (s : UpOrDown). Ends last recovered s more) same ends

none_recovered : (due : Option Record) → if_recovered false due ≡ []
none_recovered None = refl
none_recovered (Some due) = refl

due_recovered : (recovered : Bool) (records : List Record) (due : Option Record) → with_due recovered records due ≡ records ++ if_recovered recovered due
due_recovered recovered records None = sym (append-nil records)
due_recovered true records (Some due) = refl
due_recovered false records (Some due) = sym (append-nil records)

at_end : (last seat : UpOrDown) → last ≡ seat → Ends last false seat []
at_end last (IsUp views) same = ap records_in same ∙ sym (append-nil views.records)
at_end last (IsDown records due) same =
    ap records_in same ∙ sym (append-nil records) ∙ sym (ap (λ (l : List Record). records ++ (l ++ [])) (none_recovered due))

-- ---- one entry

-- whether the next restart recovers the record, from this entry on
abbrev NextRecovers : Event → EventResult → Bool → Bool → Bool
NextRecovers e given recovered later = if is_restart e && is_done given then recovered else later

record Piece (config : AgreementConfig) (last : UpOrDown) (later : Bool) (more : List Record) (seat : UpOrDown) (e : Event) (given : EventResult) (recovered : Bool) (handed : Option Message)
    (sends : List Message) : Type 0 where
  due : Option Record
  at_cut : IsDueAtCut config seat e handed due
  ends : Ends last (NextRecovers e given recovered later) seat (filter_map record_of sends ++ (if_recovered later due ++ more))

module _ (ticks : TicksKeep) (parts : PartsKeep) (config : AgreementConfig) (last : UpOrDown) (later : Bool) (more : List Record) (sent : List Message) (next : ℕ) where
  -- nothing goes out
  sends_none : (given other : EventResult) (sends : List Message) → given ≡ other → sends_in sent other ≡ [] → sends_in sent given ≡ sends → filter_map record_of sends ≡ []
  sends_none given other sends is none are = ap (filter_map record_of) (sym are ∙ ap (sends_in sent) is ∙ none)

  module _ (views : Views) (given : EventResult) (sends : List Message) (are : sends_in sent given ≡ sends) (after : UpOrDown) (ends : Ends last later after more) where
    abbrev EndsHere : Option Record → Type 0
    EndsHere due = records_in last ≡ views.records ++ (filter_map record_of sends ++ (if_recovered later due ++ more))

    -- the node goes on with the records that it had
    stays : (now : Views) (other : EventResult) → given ≡ other → sends_in sent other ≡ [] → after ≡ IsUp now → now.records ≡ views.records → EndsHere None
    stays now other is none same records =
        ends_at last later after (IsUp now) more same ends ∙ ap (λ (l : List Record). l ++ more) records
        ∙ sym (ap (λ (l : List Record). views.records ++ (l ++ more)) (sends_none given other sends is none are))

    -- it goes down
    goes_down : (kept : Option Record) (other : EventResult) → given ≡ other → sends_in sent other ≡ [] → after ≡ IsDown views.records kept → EndsHere kept
    goes_down kept other is none same =
        ends_at last later after (IsDown views.records kept) more same ends
        ∙ sym (ap (λ (l : List Record). views.records ++ (l ++ (if_recovered later kept ++ more))) (sends_none given other sends is none are))

    -- it does what is due
    does : (plan : Plan) → KeepsItsSends views plan → filter_map record_of sends ≡ filter_map record_of plan.sends → after ≡ IsUp plan.after → EndsHere None
    does plan keeps goes same =
        ends_at last later after (IsUp plan.after) more same ends ∙ ap (λ (l : List Record). l ++ more) keeps.records
        ∙ append_assoc views.records (cons_option plan.kept []) more
        ∙ ap (λ (l : List Record). views.records ++ (l ++ more)) (sym keeps.sends ∙ sym goes)

    of_due : (node : ℕ) (asked : Input) → InputGives config node views asked (SendsGives sent next views) given after → EndsHere None
    of_due node asked (inl (Refuses refusal, is_due, (is, same))) = stays views (results.Refused (reason_of refusal)) is refl same refl
    of_due node asked (inl (Plans plan, is_due, (is, placed, same))) =
        does plan (input_keeps ticks parts config node views asked plan is_due) (ap (filter_map record_of) (sym are ∙ ap (sends_in sent) is ∙ placed)) same
    of_due node asked (inr (allowed, (is, same))) = stays views (results.Refused results.OutOfMemory) is refl same refl

    of_put : (node : ℕ) (text : List ℕ) → InputGives config node views (input.Put text) (PutGives views) given after → EndsHere None
    of_put node text (inl (Refuses refusal, is_due, (is, same))) = stays views (results.Refused (reason_of refusal)) is refl same refl
    of_put node text (inl (Plans plan, is_due, (is, same))) =
        let none : plan.kept ≡ None = put_keeps_none config views text plan is_due in
        let keeps = put_keeps config views text plan is_due in
        stays plan.after results.Done is refl same (keeps.records ∙ ap (λ (o : Option Record). views.records ++ cons_option o []) none ∙ append-nil views.records)
      where
        put_keeps_none : (config : AgreementConfig) (views : Views) (text : List ℕ) (plan : Plan) → PutIsDue config views text (Plans plan) → plan.kept ≡ None
        put_keeps_none config views text plan (inl (known, is)) = ap (λ (p : Plan). p.kept) is
        put_keeps_none config views text plan (inr (new, unknown, left, is)) = ap (λ (p : Plan). p.kept) is
    of_put node text (inr (allowed, (is, same))) = stays views (results.Refused results.OutOfMemory) is refl same refl

  -- ---- a node that is up

  module _ (views : Views) (recovered : Bool) (given : EventResult) (handed : Option Message) (sends : List Message) (after : UpOrDown)
      (are : sends_in sent given ≡ sends) (ends : Ends last later after more) where
    abbrev PieceOf : Event → Type 0
    PieceOf e = Piece config last later more (IsUp views) e given recovered handed sends

    abbrev IsHanded : Event → Type 0
    IsHanded e = handed_in sent (record { event = e; result = given }) ≡ handed

    delivery_piece : (node number : ℕ) → Delivers sent next number (λ m. InputGives config node views (input.Deliver m) (SendsGives sent next views)) views given after
        → PieceOf (event.Deliver node number)
    delivery_piece node number (inl (m, lt, there, gives)) =
        record { due = None; at_cut = refl; ends = of_due views given sends are after ends node (input.Deliver m) gives }
    delivery_piece node number (inr (late, is, same)) =
        record { due = None; at_cut = refl; ends = stays views given sends are after ends views (results.Refused results.NotSent) is refl same refl }

    tick_cut_piece : (node left : ℕ) → CutGives config node views (input.Tick left) given after → PieceOf (event.TickCut node left)
    tick_cut_piece node left (is, (kept, keeps, same)) =
        record { due = kept; at_cut = keeps; ends = goes_down views given sends are after ends kept results.Done is refl same }

    delivery_cut_piece : (node number : ℕ) → IsHanded (event.DeliverCut node number)
        → Delivers sent next number (λ m. CutGives config node views (input.Deliver m)) views given after → PieceOf (event.DeliverCut node number)
    delivery_cut_piece node number is_handed (inl (m, lt, there, (is, (kept, keeps, same)))) =
        let some : Some m ≡ handed = sym (handed_there sent (event.DeliverCut node number) given number m (ap is_turned_away is) refl there) ∙ is_handed in
        record {
          due = kept;
          at_cut = subst (λ (h : Option Message). IsDueAtCut config (IsUp views) (event.DeliverCut node number) h kept) some keeps;
          ends = goes_down views given sends are after ends kept results.Done is refl same;
        }
    delivery_cut_piece node number is_handed (inr (late, is, same)) =
        let none : None ≡ handed = sym (handed_away sent (event.DeliverCut node number) given (results.Refused results.NotSent) is refl) ∙ is_handed in
        record {
          due = None;
          at_cut = subst (λ (h : Option Message). IsDueAtCut config (IsUp views) (event.DeliverCut node number) h None) none refl;
          ends = stays views given sends are after ends views (results.Refused results.NotSent) is refl same refl;
        }

    restart_piece : (node : ℕ) → RestartGives recovered (IsUp views) given after → PieceOf (event.Restart node)
    restart_piece node (inl (is, same)) =
        record { due = None; at_cut = refl; ends = stays views given sends are after ends (started_with views.records) results.Done is refl same refl }
    restart_piece node (inr (is, same)) =
        record { due = None; at_cut = refl; ends = goes_down views given sends are after ends None (results.Refused results.OutOfMemory) is refl same }

    -- a query leaves the node as it was
    asked_ends : (other : EventResult) → given ≡ other → sends_in sent other ≡ [] → after ≡ IsUp views → EndsHere views given sends are after ends None
    asked_ends other is none same = stays views given sends are after ends views other is none same refl

    get_ends : (uploads : List Upload) (table : List ℕ) (version : ℕ) → GetGivesIfAble uploads table version given → after ≡ IsUp views
        → EndsHere views given sends are after ends None
    get_ends uploads table version (inl (inl (found, is, e))) same = asked_ends (results.Answer (answer_of found)) e refl same
    get_ends uploads table version (inl (inr (none, e))) same = asked_ends results.Unavailable e refl same
    get_ends uploads table version (inr (some, e)) same = asked_ends (results.Refused results.OutOfMemory) e refl same

    info_ends : (uploads : List Upload) (table : List ℕ) → InfoGivesIfAble uploads table given → after ≡ IsUp views → EndsHere views given sends are after ends None
    info_ends uploads table (inl (inl (some, e))) same = asked_ends (results.Info (length (effective table uploads))) e refl same
    info_ends uploads table (inl (inr (none, e))) same = asked_ends results.NoTable e refl same
    info_ends uploads table (inr (some, e)) same = asked_ends (results.Refused results.OutOfMemory) e refl same

    up_piece : (e : Event) → IsHanded e → UpGives config sent next recovered views e given after → PieceOf e
    up_piece (event.Put node text) is_handed gives = record { due = None; at_cut = refl; ends = of_put views given sends are after ends node text gives }
    up_piece (event.Tick node left) is_handed gives = record { due = None; at_cut = refl; ends = of_due views given sends are after ends node (input.Tick left) gives }
    up_piece (event.Deliver node number) is_handed gives = delivery_piece node number gives
    up_piece (event.TickCut node left) is_handed gives = tick_cut_piece node left gives
    up_piece (event.DeliverCut node number) is_handed gives = delivery_cut_piece node number is_handed gives
    up_piece (event.Restart node) is_handed gives = restart_piece node gives
    up_piece (event.Get node table version) is_handed (uploads, has, gives, same) =
        record { due = None; at_cut = refl; ends = get_ends uploads table version gives same }
    up_piece (event.Info node table) is_handed (uploads, has, gives, same) = record { due = None; at_cut = refl; ends = info_ends uploads table gives same }
    up_piece (event.Outcome node text) is_handed (uploads, has, (upload, is_text, e), same) =
        record { due = None; at_cut = refl; ends = asked_ends (results.Outcome (outcome_of uploads upload)) e refl same }

  -- ---- a node that is down

  module _ (records : List Record) (pending : Option Record) (recovered : Bool) (given : EventResult) (handed : Option Message) (sends : List Message) (after : UpOrDown)
      (are : sends_in sent given ≡ sends) (ends : Ends last later after more) where
    abbrev Was : UpOrDown
    Was = IsDown records pending

    abbrev AfterDown : Bool → Type 0
    AfterDown flag = Ends last flag Was (filter_map record_of sends ++ (if_recovered later None ++ more))

    still_down : (other : EventResult) → given ≡ other → sends_in sent other ≡ [] → after ≡ Was → AfterDown later
    still_down other is none same =
        ends_at last later after Was more same ends
        ∙ sym (ap (λ (l : List Record). records ++ (if_recovered later pending ++ (l ++ more))) (sends_none given other sends is none are))

    up_again : (other : EventResult) → given ≡ other → sends_in sent other ≡ [] → after ≡ IsUp (started_with (with_due recovered records pending)) → AfterDown recovered
    up_again other is none same =
        ends_at last later after (IsUp (started_with (with_due recovered records pending))) more same ends
        ∙ ap (λ (l : List Record). l ++ more) (due_recovered recovered records pending)
        ∙ append_assoc records (if_recovered recovered pending) more
        ∙ sym (ap (λ (l : List Record). records ++ (if_recovered recovered pending ++ (l ++ more))) (sends_none given other sends is none are))

    abbrev flag : Bool → Bool
    flag done = if done then recovered else later

    refused_piece : (e : Event) → is_restart e ≡ false → RefusesAsDown Was given after → IsDueAtCut config Was e handed None
        → Piece config last later more Was e given recovered handed sends
    refused_piece e not (is, same) at_cut = record {
      due = None;
      at_cut = at_cut;
      ends = subst AfterDown (sym (ap (λ (b : Bool). flag (b && is_done given)) not)) (still_down (results.Refused results.Down) is refl same);
    }

    restarted_piece : (node : ℕ) → RestartGives recovered Was given after → Piece config last later more Was (event.Restart node) given recovered handed sends
    restarted_piece node (inl (is, same)) = record {
      due = None;
      at_cut = refl;
      ends = subst AfterDown (sym (ap (λ (r : EventResult). flag (is_done r)) is)) (up_again results.Done is refl same);
    }
    restarted_piece node (inr (is, same)) = record {
      due = None;
      at_cut = refl;
      ends = subst AfterDown (sym (ap (λ (r : EventResult). flag (is_done r)) is)) (still_down (results.Refused results.OutOfMemory) is refl same);
    }

    down_piece : (e : Event) → DownGives recovered Was e given after → Piece config last later more Was e given recovered handed sends
    down_piece (event.Put node text) gives = refused_piece (event.Put node text) refl gives refl
    down_piece (event.Tick node left) gives = refused_piece (event.Tick node left) refl gives refl
    down_piece (event.Deliver node number) gives = refused_piece (event.Deliver node number) refl gives refl
    down_piece (event.TickCut node left) gives = refused_piece (event.TickCut node left) refl gives refl
    down_piece (event.DeliverCut node number) gives = refused_piece (event.DeliverCut node number) refl gives refl
    down_piece (event.Restart node) gives = restarted_piece node gives
    down_piece (event.Get node table version) gives = refused_piece (event.Get node table version) refl gives refl
    down_piece (event.Info node table) gives = refused_piece (event.Info node table) refl gives refl
    down_piece (event.Outcome node text) gives = refused_piece (event.Outcome node text) refl gives refl

  seat_piece : (seat : UpOrDown) (recovered : Bool) (e : Event) (given : EventResult) (handed : Option Message) (sends : List Message) (after : UpOrDown)
      → handed_in sent (record { event = e; result = given }) ≡ handed → sends_in sent given ≡ sends → NodeGives config sent next recovered seat e given after
      → Ends last later after more → Piece config last later more seat e given recovered handed sends
  seat_piece (IsUp views) recovered e given handed sends after is_handed are gives ends = up_piece views recovered given handed sends after are ends e is_handed gives
  seat_piece (IsDown records pending) recovered e given handed sends after is_handed are gives ends =
      down_piece records pending recovered given handed sends after are ends e gives

-- ---- all entries

-- these records are kept, and they are what the node has in the end beside what it had
pub record Kept (config : AgreementConfig) (seat : UpOrDown) (entries : List OwnEntry) (last : UpOrDown) : Type 0 where
  pub records : List Record
  pub kept : AreKept config seat entries records
  pub ends : Ends last (is_recovered entries) seat records

pub own_keeps : TicksKeep → PartsKeep → (config : AgreementConfig) (last : UpOrDown) (entries : List OwnEntry) (seat : UpOrDown) → OwnReaches config seat entries last → Kept config seat entries last
own_keeps ticks parts config last [] seat same = record { records = []; kept = refl; ends = at_end last seat same }
own_keeps ticks parts config last (entry ∷ entries) seat (after, leads, rest) =
    let behind = own_keeps ticks parts config last entries after rest in
    let piece = seat_piece ticks parts config last (is_recovered entries) behind.records leads.sent leads.next seat entry.recovered entry.step.event entry.step.result
    entry.handed entry.sends after leads.handed_is leads.sends_are leads.gives behind.ends in
    record {
      records = filter_map record_of entry.sends ++ (if_recovered (is_recovered entries) piece.due ++ behind.records);
      kept = (after, piece.due, behind.records, leads, piece.at_cut, behind.kept, refl);
      ends = piece.ends;
    }

-- what a node that had nothing has in the end are the records that it kept
pub kept_from_nothing : TicksKeep → PartsKeep → (config : AgreementConfig) (entries : List OwnEntry) (last : UpOrDown) → OwnReaches config (IsUp (started_with [])) entries last
    → AreKept config (IsUp (started_with [])) entries (records_in last)
kept_from_nothing ticks parts config entries last reaches =
    let it = own_keeps ticks parts config last entries (IsUp (started_with [])) reaches in
    subst (AreKept config (IsUp (started_with [])) entries) (sym it.ends) it.kept
