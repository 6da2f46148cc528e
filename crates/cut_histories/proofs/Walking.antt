-- All steps of a history are made again, one after the other, where nothing is in doubt.
use Rattle.std.proofs.Common.{◌≡◌, ◌≢◌, ℕ, ◌+◌, ◌<◌, ◌≤◌, ◌==◌, ◌&&◌, inl, inr, Bool, true, false, if◌then◌else◌, List, [], ◌∷◌, ◌++◌, length, slice_get, Some, refl, sym, ap, subst, ◌∙◌, eq-eqb, ne_eqb, append_assoc, arith}
use Rattle.std.specs.List.{Contains}
use Rattle.std.proofs.lemmas.Bool.{cases_eq, cases_lt}
use Rattle.std.proofs.lemmas.List.{append-nil}
use Rattle.std.proofs.lemmas.List.Elements.{Contains-append_left, filter-append}
use Rattle.ballots.specs.declared.message.Message.{Message}
use Rattle.agreement_rules.specs.Views.{AgreementConfig}
use Rattle.histories.specs.Event.{node_of, is_restart}
use Rattle.histories.specs.EventResult.{EventResult, count_of, is_done}
use Rattle.histories.specs.EventResult as results
use Rattle.histories.specs.History.{Step}
use Rattle.histories.specs.Following.{UpOrDown, NodeGives, StepFollows, IsAsked, StepsReach, at_first}
use Rattle.histories.specs.Keeping.{restarts}
use Rattle.cut_histories.specs.Settling.{settled, is_of_a_client, of_clients}
use Rattle.cut_histories.proofs.Lists.{nothing_in, taken_has}
use Rattle.cut_histories.proofs.Saying.{KeepingLaws}
use Rattle.cut_histories.proofs.Moving.{ReachingLaws, Come, stands_aside}
use Rattle.cut_histories.proofs.Mirroring.{mirrors}

-- Whether the record is found that was due where the node went down: the step tells it, if it starts the node again, and else
-- what comes later does.
abbrev pub finds_with : Step → Bool → (ℕ → Bool) → ℕ → Bool
finds_with step recovered later node = if node_of step.event == node && restarts step then recovered else later node

-- likewise of steps, one after the other, and behind them all of what is found
abbrev pub will_find : (ℕ → Bool) → List Step → List Bool → ℕ → Bool
will_find found [] recovered = found
will_find found (step ∷ steps) [] = found
will_find found (step ∷ steps) (recovered ∷ more) = finds_with step recovered (will_find found steps more)

-- the other history, where a first part of this one has come to
pub record Mirror (config : AgreementConfig) (sent : List Message) (next : ℕ) (seats : ℕ → UpOrDown) (finds : ℕ → Bool) (clients : List Step) : Type 0 where
  pub now_sent : List Message
  pub now_seats : ℕ → UpOrDown
  pub come : Come config now_sent now_seats clients
  pub placed : (number : ℕ) (m : Message) → number < next → slice_get sent number ≡ Some m → Contains now_sent m
  pub settles : (node : ℕ) → now_seats node ≡ settled (finds node) (seats node)
  pub outside : (node : ℕ) → config.members ≤ node → now_seats node ≡ seats node

none_started : (here restarted done : Bool) → done ≡ false → (here && (restarted && done)) ≡ false
none_started here restarted true not_done = absurd (cc)
none_started true true false not_done = refl
none_started true false false not_done = refl
none_started false restarted false not_done = refl

module _ (keeping : KeepingLaws) (laws : ReachingLaws) (config : AgreementConfig) (sent : List Message) where
  module _ (next : ℕ) (seats after : ℕ → UpOrDown) (step : Step) (recovered : Bool) (later : ℕ → Bool) (clients : List Step) (asked : IsAsked step.event recovered)
      (so_far : Mirror config sent next seats (finds_with step recovered later) clients) where
    abbrev node : ℕ
    node = node_of step.event

    step_of_member : node < config.members → NodeGives config sent next recovered (seats node) step.event step.result (after node)
        → ((other : ℕ) → other ≢ node → after other ≡ seats other)
        → Mirror config sent (next + count_of step.result) after later (clients ++ of_clients (step ∷ []))
    step_of_member member gives others =
        let was = so_far.settles node
        ∙ ap (λ (b : Bool). settled (if b && restarts step then recovered else later node) (seats node)) (eq-eqb node node refl) in
        let on = mirrors keeping laws config sent next so_far.now_sent so_far.now_seats clients so_far.come so_far.placed step.event member (seats node) recovered
        step.result (after node) (later node) was asked gives in
        record {
          now_sent = on.now_sent;
          now_seats = on.now_seats;
          come = on.come;
          placed = λ number m before is. elim (cases_lt number next) as (λ _. Contains on.now_sent m) [
            | inl earlier ↦ on.kept m (so_far.placed number m earlier is)
            | inr from ↦ on.new m (taken_has sent next (count_of step.result) number m from before is)
          ];
          settles = λ other. elim (cases_eq other node) as (λ _. on.now_seats other ≡ settled (later other) (after other)) [
            | inl same ↦ subst (λ (n : ℕ). on.now_seats n ≡ settled (later n) (after n)) (sym same) on.here
            | inr apart ↦
                on.others other apart ∙ so_far.settles other
                ∙ ap (λ (b : Bool). settled (if b && restarts step then recovered else later other) (seats other)) (ne_eqb node other (λ same. apart (sym same)))
                ∙ ap (settled (later other)) (sym (others other apart))
          ];
          outside = λ other beyond.
              let apart : other ≢ node = λ same. absurd (omega (arith, same, beyond, member)) in
              on.others other apart ∙ so_far.outside other beyond ∙ sym (others other apart);
        }

    step_aside : config.members ≤ node → step.result ≡ results.Refused results.OutOfRange → ((other : ℕ) → after other ≡ seats other)
        → Mirror config sent (next + count_of step.result) after later (clients ++ of_clients (step ∷ []))
    step_aside aside refused others =
        let nothing : count_of step.result ≡ 0 = ap count_of refused in
        record {
          now_sent = so_far.now_sent ++ [];
          now_seats = so_far.now_seats;
          come = stands_aside laws config so_far.now_sent so_far.now_seats clients so_far.come step recovered aside refused asked;
          placed = λ number m before is. Contains-append_left so_far.now_sent [] m (so_far.placed number m (omega (arith, before, nothing)) is);
          settles = λ other.
              so_far.settles other
              ∙ ap (λ (b : Bool). settled (if b then recovered else later other) (seats other))
              (none_started (node == other) (is_restart step.event) (is_done step.result) (ap is_done refused))
              ∙ ap (settled (later other)) (sym (others other));
          outside = λ other beyond. so_far.outside other beyond ∙ sym (others other);
        }

    mirror_step : StepFollows config sent next seats step recovered after → Mirror config sent (next + count_of step.result) after later (clients ++ of_clients (step ∷ []))
    mirror_step (inl (member, gives, others)) = step_of_member member gives others
    mirror_step (inr (aside, refused, others)) = step_aside aside refused others

  walk : (found : ℕ → Bool) (last : ℕ → UpOrDown) (steps : List Step) (recovered : List Bool) (seats : ℕ → UpOrDown) (next : ℕ) (clients : List Step)
      → StepsReach config sent seats next steps recovered last → Mirror config sent next seats (will_find found steps recovered) clients
      → Mirror config sent (length sent) last found (clients ++ of_clients steps)
  walk found last [] recovered seats next clients (none, end, same) so_far =
      subst (λ (l : List Step). Mirror config sent (length sent) last found l) (sym (append-nil clients))
      (subst (λ (s : ℕ → UpOrDown). Mirror config sent (length sent) s found clients) (sym same) (subst (λ (n : ℕ). Mirror config sent n seats found clients) end so_far))
  walk found last (step ∷ steps) [] seats next clients reaches so_far = absurd reaches
  walk found last (step ∷ steps) (r ∷ more) seats next clients (after, one, asked, rest) so_far =
      subst (λ (l : List Step). Mirror config sent (length sent) last found l)
      (append_assoc clients (of_clients (step ∷ [])) (of_clients steps)
      ∙ ap (λ (l : List Step). clients ++ l) (sym (filter-append (λ (s : Step). is_of_a_client s.event) (step ∷ []) steps)))
      (walk found last steps more after (next + count_of step.result) (clients ++ of_clients (step ∷ [])) rest
      (mirror_step next seats after step r (will_find found steps more) clients asked so_far one))

  nothing_yet : (finds : ℕ → Bool) → Mirror config sent 0 at_first finds []
  nothing_yet finds = record {
    now_sent = [];
    now_seats = at_first;
    come = record {
      steps = [];
      recovered = [];
      reached = (refl, refl, refl);
      said = λ node r within has. absurd (nothing_in r has);
      same = refl;
    };
    placed = λ number m before is. absurd (omega (arith, before));
    settles = λ node. refl;
    outside = λ node beyond. refl;
  }

  pub mirrored : (steps : List Step) (recovered : List Bool) (seats : ℕ → UpOrDown) (found : ℕ → Bool) → StepsReach config sent at_first 0 steps recovered seats
      → Mirror config sent (length sent) seats found (of_clients steps)
  mirrored steps recovered seats found reaches = walk found seats steps recovered at_first 0 [] reaches (nothing_yet (will_find found steps recovered))
