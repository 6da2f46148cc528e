-- A history in which nothing is in doubt goes on by a step of one member.
use Rattle.std.proofs.Common.{◌≡◌, ◌≢◌, ℕ, ◌<◌, ◌≤◌, inl, inr, Bool, if◌then◌else◌, List, [], ◌∷◌, ◌++◌, length, refl, sym, ap, subst, ◌∙◌, eq-eqb, ne_eqb}
use Rattle.std.specs.List.{Contains}
use Rattle.std.proofs.lemmas.Bool.{cases_eq}
use Rattle.std.proofs.lemmas.List.{append-nil}
use Rattle.std.proofs.lemmas.List.Elements.{Contains-append_left, Contains-append_right, filter-append}
use Rattle.ballots.specs.declared.message.Message.{Message}
use Rattle.ballots.specs.declared.record.Record.{Record}
use Rattle.agreement_rules.specs.Views.{AgreementConfig}
use Rattle.histories.specs.Event.{node_of}
use Rattle.histories.specs.EventResult.{EventResult, count_of}
use Rattle.histories.specs.EventResult as results
use Rattle.histories.specs.History.{Step}
use Rattle.histories.specs.Following.{UpOrDown, NodeGives, IsAsked, StepFollows, Reaches, with_seat}
use Rattle.histories.specs.Keeping.{records_in}
use Rattle.cut_histories.specs.Settling.{IsSaid, is_of_a_client, of_clients}
use Rattle.cut_histories.proofs.Lists.{nothing_in}
use Rattle.cut_histories.proofs.Saying.{Tells, said_with_more}

-- ---- what histories allow

pub record ReachingLaws : Type 0 where
  pub alone : (config : AgreementConfig) (sent : List Message) (next : ℕ) (seats : ℕ → UpOrDown) (step : Step) (recovered : Bool) (seat : UpOrDown)
      → node_of step.event < config.members → NodeGives config sent next recovered (seats (node_of step.event)) step.event step.result seat
      → StepFollows config sent next seats step recovered (with_seat seats (node_of step.event) seat)
  pub further : (config : AgreementConfig) (sent more : List Message) (steps : List Step) (recovered : List Bool) (seats new : ℕ → UpOrDown) (step : Step) (was : Bool)
      → Reaches config sent steps recovered seats → StepFollows config (sent ++ more) (length sent) seats step was new → IsAsked step.event was
      → length more ≡ count_of step.result → Reaches config (sent ++ more) (steps ++ step ∷ []) (recovered ++ was ∷ []) new

-- ---- seats

own_seat : (seats : ℕ → UpOrDown) (node : ℕ) (seat : UpOrDown) → with_seat seats node seat node ≡ seat
own_seat seats node seat = ap (λ (b : Bool). if b then seat else seats node) (eq-eqb node node refl)

other_seat : (seats : ℕ → UpOrDown) (node other : ℕ) (seat : UpOrDown) → other ≢ node → with_seat seats node seat other ≡ seats other
other_seat seats node other seat differs = ap (λ (b : Bool). if b then seat else seats other) (ne_eqb other node differs)

-- ---- where a history has come to

-- steps that send these messages, and leave the nodes so; each record of a member stands behind one of the messages
pub record Come (config : AgreementConfig) (sent : List Message) (seats : ℕ → UpOrDown) (clients : List Step) : Type 0 where
  pub steps : List Step
  pub recovered : List Bool
  pub reached : Reaches config sent steps recovered seats
  pub said : (node : ℕ) (r : Record) → node < config.members → Contains (records_in (seats node)) r → IsSaid sent node r
  pub same : of_clients steps ≡ clients

-- one step more of the node that is so
pub record Move (config : AgreementConfig) (sent : List Message) (node : ℕ) (from : UpOrDown) (more : List Message) (to : UpOrDown) (clients : List Step) : Type 0 where
  pub step : Step
  pub recovered : Bool
  pub of : node_of step.event ≡ node
  pub gives : NodeGives config (sent ++ more) (length sent) recovered from step.event step.result to
  pub asked : IsAsked step.event recovered
  pub count : length more ≡ count_of step.result
  pub tells : Tells node (records_in from) more (records_in to)
  pub client : of_clients (step ∷ []) ≡ clients

module _ (laws : ReachingLaws) (config : AgreementConfig) (sent : List Message) (seats : ℕ → UpOrDown) (done : List Step) (come : Come config sent seats done)
    (node : ℕ) (member : node < config.members) (more : List Message) (to : UpOrDown) (clients : List Step)
    (move : Move config sent node (seats node) more to clients) where
  follows : StepFollows config (sent ++ more) (length sent) seats move.step move.recovered (with_seat seats node to)
  follows =
      subst (λ (n : ℕ). n < config.members → NodeGives config (sent ++ more) (length sent) move.recovered (seats n) move.step.event move.step.result to
      → StepFollows config (sent ++ more) (length sent) seats move.step move.recovered (with_seat seats n to)) move.of
      (laws.alone config (sent ++ more) (length sent) seats move.step move.recovered to) member move.gives

  said_here : (r : Record) → Contains (records_in to) r → IsSaid (sent ++ more) node r
  said_here r has = elim (move.tells r has) as (λ _. IsSaid (sent ++ more) node r) [
    | inl before ↦ said_with_more sent more node r (come.said node r member before)
    | inr (m, there, own, is) ↦ (m, Contains-append_right sent more m there, own, is)
  ]

  said_now : (n : ℕ) (r : Record) → n < config.members → Contains (records_in (with_seat seats node to n)) r → IsSaid (sent ++ more) n r
  said_now n r within has = elim (cases_eq n node) as (λ _. IsSaid (sent ++ more) n r) [
    | inl same ↦
        let at_node = subst (λ (k : ℕ). Contains (records_in (with_seat seats node to k)) r) same has in
        subst (λ (k : ℕ). IsSaid (sent ++ more) k r) (sym same)
        (said_here r (subst (λ (s : UpOrDown). Contains (records_in s) r) (own_seat seats node to) at_node))
    | inr apart ↦
        said_with_more sent more n r
        (come.said n r within (subst (λ (s : UpOrDown). Contains (records_in s) r) (other_seat seats node n to apart) has))
  ]

  moved : Come config (sent ++ more) (with_seat seats node to) (done ++ clients)
  moved = record {
    steps = come.steps ++ move.step ∷ [];
    recovered = come.recovered ++ move.recovered ∷ [];
    reached = laws.further config sent more come.steps come.recovered seats (with_seat seats node to) move.step move.recovered come.reached follows move.asked move.count;
    said = said_now;
    same = filter-append (λ (s : Step). is_of_a_client s.event) come.steps (move.step ∷ []) ∙ ap (λ (l : List Step). l ++ of_clients (move.step ∷ [])) come.same
        ∙ ap (λ (l : List Step). done ++ l) move.client;
  }

-- an event of no member changes nothing
pub stands_aside : (laws : ReachingLaws) (config : AgreementConfig) (sent : List Message) (seats : ℕ → UpOrDown) (done : List Step) → Come config sent seats done
    → (step : Step) (found : Bool) → config.members ≤ node_of step.event → step.result ≡ results.Refused results.OutOfRange → IsAsked step.event found
    → Come config (sent ++ []) seats (done ++ of_clients (step ∷ []))
stands_aside laws config sent seats done come step found aside refused asked = record {
  steps = come.steps ++ step ∷ [];
  recovered = come.recovered ++ found ∷ [];
  reached = laws.further config sent [] come.steps come.recovered seats seats step found come.reached (inr (aside, refused, λ other. refl)) asked (sym (ap count_of refused));
  said = λ node r within has. said_with_more sent [] node r (come.said node r within has);
  same = filter-append (λ (s : Step). is_of_a_client s.event) come.steps (step ∷ []) ∙ ap (λ (l : List Step). l ++ of_clients (step ∷ [])) come.same;
}

-- ---- on from there

-- it has gone on, by one node alone, which is so now; it has sent all that it had sent, and these
pub record Onward (config : AgreementConfig) (sent : List Message) (seats : ℕ → UpOrDown) (node : ℕ) (sends : List Message) (to : UpOrDown) (clients : List Step) : Type 0 where
  pub now_sent : List Message
  pub now_seats : ℕ → UpOrDown
  pub come : Come config now_sent now_seats clients
  pub kept : (m : Message) → Contains sent m → Contains now_sent m
  pub new : (m : Message) → Contains sends m → Contains now_sent m
  pub here : now_seats node ≡ to
  pub others : (other : ℕ) → other ≢ node → now_seats other ≡ seats other

module _ (laws : ReachingLaws) (config : AgreementConfig) (node : ℕ) (member : node < config.members) where
  moved_from : (sent : List Message) (seats : ℕ → UpOrDown) (done : List Step) → Come config sent seats done → (from : UpOrDown) → seats node ≡ from
      → (more : List Message) (to : UpOrDown) (clients : List Step) → Move config sent node from more to clients
      → Come config (sent ++ more) (with_seat seats node to) (done ++ clients)
  moved_from sent seats done come from was more to clients move =
      moved laws config sent seats done come node member more to clients (subst (λ (s : UpOrDown). Move config sent node s more to clients) (sym was) move)

  pub one_move : (sent : List Message) (seats : ℕ → UpOrDown) (done : List Step) → Come config sent seats done
      → (from : UpOrDown) → seats node ≡ from → (more : List Message) (to : UpOrDown) (clients : List Step) → Move config sent node from more to clients
      → Onward config sent seats node more to (done ++ clients)
  one_move sent seats done come from was more to clients move = record {
    now_sent = sent ++ more;
    now_seats = with_seat seats node to;
    come = moved_from sent seats done come from was more to clients move;
    kept = λ m has. Contains-append_left sent more m has;
    new = λ m has. Contains-append_right sent more m has;
    here = own_seat seats node to;
    others = λ other differs. other_seat seats node other to differs;
  }

  -- two moves, of which the second one sends nothing, and clients did neither
  pub two_moves : (sent : List Message) (seats : ℕ → UpOrDown) (done : List Step) → Come config sent seats done
      → (from : UpOrDown) → seats node ≡ from → (more : List Message) (mid : UpOrDown) → Move config sent node from more mid []
      → (to : UpOrDown) → Move config (sent ++ more) node mid [] to [] → Onward config sent seats node [] to (done ++ [])
  two_moves sent seats done come from was more mid first to second =
      let after = moved_from sent seats done come from was more mid [] first in
      let last = moved_from (sent ++ more) (with_seat seats node mid) (done ++ []) after mid (own_seat seats node mid) [] to [] second in record {
        now_sent = (sent ++ more) ++ [];
        now_seats = with_seat (with_seat seats node mid) node to;
        come = subst (λ (l : List Step). Come config ((sent ++ more) ++ []) (with_seat (with_seat seats node mid) node to) l) (append-nil (done ++ [])) last;
        kept = λ m has. Contains-append_left (sent ++ more) [] m (Contains-append_left sent more m has);
        new = λ m has. absurd (nothing_in m has);
        here = own_seat (with_seat seats node mid) node to;
        others = λ other differs. other_seat (with_seat seats node mid) node other to differs ∙ other_seat seats node other mid differs;
      }
