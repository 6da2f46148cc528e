-- Each step of a history is made again where nothing is in doubt: by itself; or, where a node goes down behind a record that is
-- found, by the step that sends what stands behind the record, and a cut at which nothing is due.
use Rattle.std.proofs.Common.{◌≡◌, ℕ, ◌<◌, inl, inr, Bool, true, false, if◌then◌else◌, List, [], ◌∷◌, ◌++◌, length, take, drop, slice_get, Option, Some, None, refl, sym, ap, subst, ◌∙◌, arith}
use Rattle.std.specs.List.{Contains}
use Rattle.ballots.specs.declared.message.Message.{Message}
use Rattle.ballots.specs.declared.record.Record.{Record}
use Rattle.table_types.specs.Uploads.{Upload}
use Rattle.agreement_rules.specs.Views.{AgreementConfig, Views, started_with}
use Rattle.agreement_rules.specs.Due.{Refuses, Plans, OutOfRange, TickKeeps, MessageKeeps}
use Rattle.histories.specs.Due.{Input}
use Rattle.histories.specs.Due as input
use Rattle.histories.specs.Event.{Event, node_of}
use Rattle.histories.specs.Event as event
use Rattle.histories.specs.EventResult.{EventResult, count_of, is_done}
use Rattle.histories.specs.EventResult as results
use Rattle.histories.specs.History.{Step}
use Rattle.histories.specs.Following.{UpOrDown, IsUp, IsDown, with_due, reason_of, PutGives, SendsGives, InputGives, CutGives, Delivers, GetGivesIfAble, InfoGivesIfAble, RestartGives, UpGives, RefusesAsDown, DownGives, NodeGives, IsAsked}
use Rattle.histories.specs.Keeping.{restarts, records_in}
use Rattle.cut_histories.specs.Settling.{settled, of_clients}
use Rattle.cut_histories.proofs.Lists.{get_with_more, place_of, taken_behind}
use Rattle.cut_histories.proofs.Saying.{KeepingLaws, Tells, same_tells, put_keeps, input_tells}
use Rattle.cut_histories.proofs.Uncut.{KeepsIt, message_uncut, tick_uncut}
use Rattle.cut_histories.proofs.Moving.{ReachingLaws, Come, Move, Onward, one_move, two_moves}

abbrev pub step_of : Event → EventResult → Step
step_of e given = record { event = e; result = given }

-- ---- a node that is up, and sends and keeps nothing

record IsQuiet (views : Views) (given : EventResult) (seat : UpOrDown) : Type 0 where
  after : Views
  is : seat ≡ IsUp after
  records : after.records ≡ views.records
  none : count_of given ≡ 0

quiet : (views : Views) (given other : EventResult) (seat : UpOrDown) → given ≡ other → count_of other ≡ 0 → seat ≡ IsUp views → IsQuiet views given seat
quiet views given other seat is none same = record { after = views; is = same; records = refl; none = ap count_of is ∙ none }

put_quiet : (config : AgreementConfig) (node : ℕ) (views : Views) (text : List ℕ) (given : EventResult) (seat : UpOrDown) → InputGives config node views (input.Put text) (PutGives views) given seat
    → IsQuiet views given seat
put_quiet config node views text given seat (inl (Refuses refusal, is_due, (is, same))) = quiet views given (results.Refused (reason_of refusal)) seat is refl same
put_quiet config node views text given seat (inl (Plans plan, is_due, (is, same))) =
    record { after = plan.after; is = same; records = put_keeps config views text plan is_due; none = ap count_of is }
put_quiet config node views text given seat (inr (allowed, (is, same))) = quiet views given (results.Refused results.OutOfMemory) seat is refl same

get_count : (uploads : List Upload) (table : List ℕ) (version : ℕ) (given : EventResult) → GetGivesIfAble uploads table version given → count_of given ≡ 0
get_count uploads table version given (inl (inl (found, has, is))) = ap count_of is
get_count uploads table version given (inl (inr (none, is))) = ap count_of is
get_count uploads table version given (inr (some, is)) = ap count_of is

info_count : (uploads : List Upload) (table : List ℕ) (given : EventResult) → InfoGivesIfAble uploads table given → count_of given ≡ 0
info_count uploads table given (inl (inl (some, is))) = ap count_of is
info_count uploads table given (inl (inr (none, is))) = ap count_of is
info_count uploads table given (inr (some, is)) = ap count_of is

-- ---- a history that has come to mirror another up to here

module _ (keeping : KeepingLaws) (laws : ReachingLaws) (config : AgreementConfig) (sent : List Message) (next : ℕ) (now : List Message) (seats : ℕ → UpOrDown) (done : List Step)
    (come : Come config now seats done) (placed : (number : ℕ) (m : Message) → number < next → slice_get sent number ≡ Some m → Contains now m) where
  -- what the step sent
  abbrev goes_out : EventResult → List Message
  goes_out given = take (count_of given) (drop next sent)

  -- it goes on by the node alone, sends all that the step sent, and leaves the node so; clients do the same
  abbrev pub Mirrors : Event → EventResult → UpOrDown → Type 0
  Mirrors e given to = Onward config now seats (node_of e) (goes_out given) to (done ++ of_clients (step_of e given ∷ []))

  as_it_is : (node : ℕ) (more sends : List Message) (seat to : UpOrDown) (clients : List Step) → more ≡ sends → seat ≡ to → Onward config now seats node more seat clients
      → Onward config now seats node sends to clients
  as_it_is node more sends seat to clients same ends onward =
      subst (λ (l : List Message). Onward config now seats node l to clients) same (subst (λ (s : UpOrDown). Onward config now seats node more s clients) ends onward)

  -- ---- the same step again, which sends nothing

  stands_still : (e : Event) → node_of e < config.members → (from : UpOrDown) → seats (node_of e) ≡ from → (found : Bool) (given : EventResult) (seat to : UpOrDown)
      → NodeGives config (now ++ []) (length now) found from e given seat → IsAsked e found → count_of given ≡ 0 → records_in seat ≡ records_in from → seat ≡ to
      → Mirrors e given to
  stands_still e member from was found given seat to gives asked none same ends =
      as_it_is (node_of e) [] (goes_out given) seat to (done ++ of_clients (step_of e given ∷ [])) (sym (ap (λ c. take c (drop next sent)) none)) ends
      (one_move laws config (node_of e) member now seats done come from was [] seat (of_clients (step_of e given ∷ [])) (record {
        step = step_of e given;
        recovered = found;
        of = refl;
        gives = gives;
        asked = asked;
        count = sym none;
        tells = same_tells (node_of e) (records_in from) [] (records_in seat) same;
        client = refl;
      }))

  stays_up : (e : Event) → node_of e < config.members → (views : Views) → seats (node_of e) ≡ IsUp views → (found : Bool) (given : EventResult) (seat : UpOrDown) (later : Bool)
      → NodeGives config (now ++ []) (length now) found (IsUp views) e given seat → IsAsked e found → IsQuiet views given seat → Mirrors e given (settled later seat)
  stays_up e member views was found given seat later gives asked still =
      stands_still e member (IsUp views) was found given seat (settled later seat) gives asked still.none (ap records_in still.is ∙ still.records)
      (still.is ∙ sym (ap (settled later) still.is))

  -- ---- a step that sends

  record Sends (node : ℕ) (views : Views) (asked : Input) (given : EventResult) (seat : UpOrDown) : Type 0 where
    more : List Message
    result : EventResult
    gives : InputGives config node views asked (SendsGives (now ++ more) (length now) views) result seat
    count : length more ≡ count_of result
    tells : Tells node views.records more (records_in seat)
    goes : more ≡ goes_out given
    after : Views
    is : seat ≡ IsUp after

  sends_again : (node : ℕ) (views : Views) (asked : Input) (given : EventResult) (seat : UpOrDown) → InputGives config node views asked (SendsGives sent next views) given seat
      → Sends node views asked given seat
  sends_again node views asked given seat (inl (Refuses refusal, is_due, (is, same))) = record {
    more = [];
    result = results.Refused (reason_of refusal);
    gives = inl (Refuses refusal, is_due, (refl, same));
    count = refl;
    tells = same_tells node views.records [] (records_in seat) (ap records_in same);
    goes = sym (ap (λ g. goes_out g) is);
    after = views;
    is = same;
  }
  sends_again node views asked given seat (inl (Plans plan, is_due, (is, out, same))) = record {
    more = plan.sends;
    result = results.Sent (length now) (length plan.sends);
    gives = inl (Plans plan, is_due, (refl, taken_behind now plan.sends, same));
    count = refl;
    tells = subst (λ (s : UpOrDown). Tells node views.records plan.sends (records_in s)) (sym same) (input_tells keeping config node views asked plan is_due);
    goes = sym (ap (λ g. goes_out g) is ∙ out);
    after = plan.after;
    is = same;
  }
  sends_again node views asked given seat (inr (allowed, (is, same))) = record {
    more = [];
    result = results.Refused results.OutOfMemory;
    gives = inr (allowed, (refl, same));
    count = refl;
    tells = same_tells node views.records [] (records_in seat) (ap records_in same);
    goes = sym (ap (λ g. goes_out g) is);
    after = views;
    is = same;
  }

  module _ (node : ℕ) (member : node < config.members) (views : Views) (was : seats node ≡ IsUp views) (given : EventResult) (seat : UpOrDown) (later : Bool) where
    sent_again : (asked : Input) (it : Sends node views asked given seat) (e : Event) → node_of e ≡ node
        → NodeGives config (now ++ it.more) (length now) false (IsUp views) e it.result seat → IsAsked e false → of_clients (step_of e it.result ∷ []) ≡ []
        → Onward config now seats node (goes_out given) (settled later seat) (done ++ [])
    sent_again asked it e of gives is_asked none =
        as_it_is node it.more (goes_out given) seat (settled later seat) (done ++ []) it.goes (it.is ∙ sym (ap (settled later) it.is))
        (one_move laws config node member now seats done come (IsUp views) was it.more seat [] (record {
          step = step_of e it.result;
          recovered = false;
          of = of;
          gives = gives;
          asked = is_asked;
          count = it.count;
          tells = it.tells;
          client = none;
        }))

    ticks : (left : ℕ) → InputGives config node views (input.Tick left) (SendsGives sent next views) given seat → Mirrors (event.Tick node left) given (settled later seat)
    ticks left gives =
        let it = sends_again node views (input.Tick left) given seat gives in
        sent_again (input.Tick left) it (event.Tick node left) refl it.gives refl refl

    -- the message of the number was not sent yet
    not_sent : (e : Event) → node_of e ≡ node → NodeGives config (now ++ []) (length now) false (IsUp views) e given seat → IsAsked e false
        → of_clients (step_of e given ∷ []) ≡ [] → given ≡ results.Refused results.NotSent → seat ≡ IsUp views
        → Onward config now seats node (goes_out given) (settled later seat) (done ++ [])
    not_sent e of gives asked none is same =
        as_it_is node [] (goes_out given) seat (settled later seat) (done ++ []) (sym (ap (λ g. goes_out g) is)) (same ∙ sym (ap (settled later) same))
        (one_move laws config node member now seats done come (IsUp views) was [] seat [] (record {
          step = step_of e given;
          recovered = false;
          of = of;
          gives = gives;
          asked = asked;
          count = sym (ap count_of is);
          tells = same_tells node views.records [] (records_in seat) (ap records_in same);
          client = none;
        }))

    delivers : (number : ℕ) → Delivers sent next number (λ m. InputGives config node views (input.Deliver m) (SendsGives sent next views)) views given seat
        → Mirrors (event.Deliver node number) given (settled later seat)
    delivers number (inl (m, before, there, gives)) =
        let it = sends_again node views (input.Deliver m) given seat gives in
        let place = place_of now m (placed number m before there) in
        sent_again (input.Deliver m) it (event.Deliver node place.0) refl (inl (m, place.1.0, get_with_more now it.more place.0 m place.1.1, it.gives)) refl refl
    delivers number (inr (late, is, same)) =
        not_sent (event.Deliver node (length now)) refl (inr (omega arith, is, same)) refl refl is same

    -- ---- a cut

    -- nothing is due where a tick is out of range
    cut_alone : (so_far : List Message) (views : Views) → Move config so_far node (IsUp views) [] (IsDown views.records None) []
    cut_alone so_far views = record {
      step = step_of (event.TickCut node 8) results.Done;
      recovered = false;
      of = refl;
      gives = (refl, (None, (Refuses OutOfRange, inl (omega arith, refl), refl), refl));
      asked = refl;
      count = refl;
      tells = same_tells node views.records [] views.records refl;
      client = refl;
    }

    -- the step that keeps the record, and is not cut
    record Uncut (r : Record) : Type 0 where
      more : List Message
      after : Views
      move : Move config now node (IsUp views) more (IsUp after) []
      records : after.records ≡ views.records ++ r ∷ []

    uncut_by : (asked : Input) (r : Record) → (it : KeepsIt config node views asked r) → (e : Event) → node_of e ≡ node
        → NodeGives config (now ++ it.plan.sends) (length now) false (IsUp views) e (results.Sent (length now) (length it.plan.sends)) (IsUp it.plan.after)
        → IsAsked e false → of_clients (step_of e (results.Sent (length now) (length it.plan.sends)) ∷ []) ≡ [] → Uncut r
    uncut_by asked r it e of gives is_asked none = record {
      more = it.plan.sends;
      after = it.plan.after;
      move = record {
        step = step_of e (results.Sent (length now) (length it.plan.sends));
        recovered = false;
        of = of;
        gives = gives;
        asked = is_asked;
        count = refl;
        tells = input_tells keeping config node views asked it.plan it.is_due;
        client = none;
      };
      records = it.records;
    }

    cut_again : (kept : Option Record) (found : Bool) → ((r : Record) → kept ≡ Some r → Uncut r)
        → Onward config now seats node [] (IsDown (with_due found views.records kept) None) (done ++ [])
    cut_again None found uncut = one_move laws config node member now seats done come (IsUp views) was [] (IsDown views.records None) [] (cut_alone now views)
    cut_again (Some r) false uncut = one_move laws config node member now seats done come (IsUp views) was [] (IsDown views.records None) [] (cut_alone now views)
    cut_again (Some r) true uncut =
        let it = uncut r refl in
        two_moves laws config node member now seats done come (IsUp views) was it.more (IsUp it.after) it.move (IsDown (views.records ++ r ∷ []) None)
        (subst (λ (l : List Record). Move config (now ++ it.more) node (IsUp it.after) [] (IsDown l None) []) it.records (cut_alone (now ++ it.more) it.after))

    cuts : (kept : Option Record) → given ≡ results.Done → seat ≡ IsDown views.records kept → ((r : Record) → kept ≡ Some r → Uncut r)
        → Onward config now seats node (goes_out given) (settled later seat) (done ++ [])
    cuts kept is same uncut =
        as_it_is node [] (goes_out given) (IsDown (with_due later views.records kept) None) (settled later seat) (done ++ []) (sym (ap (λ g. goes_out g) is))
        (sym (ap (settled later) same)) (cut_again kept later uncut)

    cuts_tick : (left : ℕ) → CutGives config node views (input.Tick left) given seat → Mirrors (event.TickCut node left) given (settled later seat)
    cuts_tick left (is, (kept, keeps, same)) =
        cuts kept is same
        (λ r some.
        let it = tick_uncut keeping config node views left r (subst (TickKeeps config node views left) some keeps) in
        uncut_by (input.Tick left) r it (event.Tick node left) refl (inl (Plans it.plan, it.is_due, (refl, taken_behind now it.plan.sends, refl))) refl refl)

    cuts_delivery : (number : ℕ) → Delivers sent next number (λ m. CutGives config node views (input.Deliver m)) views given seat
        → Mirrors (event.DeliverCut node number) given (settled later seat)
    cuts_delivery number (inl (m, before, there, (is, (kept, keeps, same)))) =
        let place = place_of now m (placed number m before there) in
        cuts kept is same
        (λ r some.
        let it = message_uncut config node views m r (subst (MessageKeeps config views m) some keeps) in
        uncut_by (input.Deliver m) r it (event.Deliver node place.0) refl
        (inl (m, place.1.0, get_with_more now it.plan.sends place.0 m place.1.1, inl (Plans it.plan, it.is_due, (refl, taken_behind now it.plan.sends, refl)))) refl refl)
    cuts_delivery number (inr (late, is, same)) =
        not_sent (event.DeliverCut node (length now)) refl (inr (omega arith, is, same)) refl refl is same

  -- ---- a restart of a node that is up

  restarts_up : (node : ℕ) → node < config.members → (views : Views) → seats node ≡ IsUp views → (found : Bool) (given : EventResult) (seat : UpOrDown) (later : Bool)
      → RestartGives found (IsUp views) given seat → Mirrors (event.Restart node) given (settled later seat)
  restarts_up node member views was found given seat later (inl (is, same)) =
      stays_up (event.Restart node) member views was found given seat later (inl (is, same)) tt
      (record { after = started_with views.records; is = same; records = refl; none = ap count_of is })
  restarts_up node member views was found given seat later (inr (is, same)) =
      stands_still (event.Restart node) member (IsUp views) was found given seat (settled later seat) (inr (is, same)) tt (ap count_of is) (ap records_in same)
      (same ∙ sym (ap (settled later) same))

  -- ---- a node that is down

  module _ (records : List Record) (due : Option Record) (given : EventResult) (seat : UpOrDown) (later : Bool) where
    abbrev settled_down : Bool → UpOrDown
    settled_down found = IsDown (with_due found records due) None

    refused : (e : Event) → node_of e < config.members → seats (node_of e) ≡ settled_down later → (found : Bool) → IsAsked e found
        → NodeGives config (now ++ []) (length now) found (settled_down later) e given (settled_down later) → RefusesAsDown (IsDown records due) given seat
        → Mirrors e given (settled later seat)
    refused e member was found asked gives (is, same) =
        stands_still e member (settled_down later) was found given (settled_down later) (settled later seat) gives asked (ap count_of is) refl (sym (ap (settled later) same))

    restarts_down : (node : ℕ) → node < config.members → (found : Bool) → seats node ≡ settled_down (if is_done given then found else later)
        → RestartGives found (IsDown records due) given seat → Mirrors (event.Restart node) given (settled later seat)
    restarts_down node member found was (inl (is, same)) =
        stands_still (event.Restart node) member (settled_down found) (was ∙ ap (λ (g : EventResult). settled_down (if is_done g then found else later)) is) found given
        (IsUp (started_with (with_due found records due))) (settled later seat) (inl (is, refl)) tt (ap count_of is) refl (sym (ap (settled later) same))
    restarts_down node member found was (inr (is, same)) =
        stands_still (event.Restart node) member (settled_down later) (was ∙ ap (λ (g : EventResult). settled_down (if is_done g then found else later)) is) found given
        (settled_down later) (settled later seat) (inr (is, refl)) tt (ap count_of is) refl (sym (ap (settled later) same))

  -- ---- any step of a member

  -- what a restart tells of the record that was due is what is found; of other steps a later one tells
  abbrev pub told_by : Event → EventResult → (found later : Bool) → Bool
  told_by e given found later = if restarts (step_of e given) then found else later

  up_mirrors : (e : Event) → node_of e < config.members → (views : Views) → seats (node_of e) ≡ IsUp views → (found : Bool) (given : EventResult) (seat : UpOrDown) (later : Bool)
      → IsAsked e found → UpGives config sent next found views e given seat → Mirrors e given (settled later seat)
  up_mirrors (event.Put node text) member views was found given seat later asked gives =
      stays_up (event.Put node text) member views was found given seat later gives asked (put_quiet config node views text given seat gives)
  up_mirrors (event.Tick node left) member views was found given seat later asked gives = ticks node member views was given seat later left gives
  up_mirrors (event.Deliver node number) member views was found given seat later asked gives = delivers node member views was given seat later number gives
  up_mirrors (event.TickCut node left) member views was found given seat later asked gives = cuts_tick node member views was given seat later left gives
  up_mirrors (event.DeliverCut node number) member views was found given seat later asked gives = cuts_delivery node member views was given seat later number gives
  up_mirrors (event.Restart node) member views was found given seat later asked gives = restarts_up node member views was found given seat later gives
  up_mirrors (event.Get node table version) member views was found given seat later asked (uploads, has, gives, same) =
      stays_up (event.Get node table version) member views was found given seat later (uploads, has, gives, same) asked
      (record { after = views; is = same; records = refl; none = get_count uploads table version given gives })
  up_mirrors (event.Info node table) member views was found given seat later asked (uploads, has, gives, same) =
      stays_up (event.Info node table) member views was found given seat later (uploads, has, gives, same) asked
      (record { after = views; is = same; records = refl; none = info_count uploads table given gives })
  up_mirrors (event.Outcome node text) member views was found given seat later asked (uploads, has, (upload, is_text, is), same) =
      stays_up (event.Outcome node text) member views was found given seat later (uploads, has, (upload, is_text, is), same) asked
      (record { after = views; is = same; records = refl; none = ap count_of is })

  down_mirrors : (e : Event) → node_of e < config.members → (records : List Record) (due : Option Record) (found : Bool) (given : EventResult) (seat : UpOrDown) (later : Bool)
      → seats (node_of e) ≡ IsDown (with_due (told_by e given found later) records due) None → IsAsked e found → DownGives found (IsDown records due) e given seat
      → Mirrors e given (settled later seat)
  down_mirrors (event.Put node text) member records due found given seat later was asked gives =
      refused records due given seat later (event.Put node text) member was found asked (gives.0, refl) gives
  down_mirrors (event.Tick node left) member records due found given seat later was asked gives =
      refused records due given seat later (event.Tick node left) member was found asked (gives.0, refl) gives
  down_mirrors (event.Deliver node number) member records due found given seat later was asked gives =
      refused records due given seat later (event.Deliver node number) member was found asked (gives.0, refl) gives
  down_mirrors (event.TickCut node left) member records due found given seat later was asked gives =
      refused records due given seat later (event.TickCut node left) member was found asked (gives.0, refl) gives
  down_mirrors (event.DeliverCut node number) member records due found given seat later was asked gives =
      refused records due given seat later (event.DeliverCut node number) member was found asked (gives.0, refl) gives
  down_mirrors (event.Restart node) member records due found given seat later was asked gives = restarts_down records due given seat later node member found was gives
  down_mirrors (event.Get node table version) member records due found given seat later was asked gives =
      refused records due given seat later (event.Get node table version) member was found asked (gives.0, refl) gives
  down_mirrors (event.Info node table) member records due found given seat later was asked gives =
      refused records due given seat later (event.Info node table) member was found asked (gives.0, refl) gives
  down_mirrors (event.Outcome node text) member records due found given seat later was asked gives =
      refused records due given seat later (event.Outcome node text) member was found asked (gives.0, refl) gives

  pub mirrors : (e : Event) → node_of e < config.members → (old : UpOrDown) (found : Bool) (given : EventResult) (seat : UpOrDown) (later : Bool)
      → seats (node_of e) ≡ settled (told_by e given found later) old → IsAsked e found → NodeGives config sent next found old e given seat
      → Mirrors e given (settled later seat)
  mirrors e member (IsUp views) found given seat later was asked gives = up_mirrors e member views was found given seat later asked gives
  mirrors e member (IsDown records due) found given seat later was asked gives = down_mirrors e member records due found given seat later was asked gives
