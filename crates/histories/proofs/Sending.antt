-- Messages that go out, in their places; and what nodes know when they have gone out.
use Rattle.std.proofs.Common.{◌≡◌, ℕ, ◌+◌, ◌-◌, ◌<◌, ◌≤◌, ◌⊎◌, inl, inr, Bool, List, [], ◌∷◌, length, get_or, take, drop, sym, ap, subst, ◌∙◌, arith, length-drop, length-take, get_or-drop, get_or-take}
use Rattle.std.specs.List.{Contains}
use Rattle.std.proofs.lemmas.Bool.{cases_lt}
use Rattle.ballots.specs.Ballot.{Ballot}
use Rattle.ballots.specs.declared.value.Value.{Value}
use Rattle.ballots.specs.declared.record.Record.{Record}
use Rattle.ballots.specs.declared.message.Message.{Message}
use Rattle.proposer.specs.Call.{Begun, ProposerCall as Asked, Begins}
use Rattle.proposer.specs.Choosing.{HasMajority}
use Rattle.proposer.specs.Attempting.{IsOpen, answering}
use Rattle.lawful_histories.specs.Saying.{Saying, says, sayings}
use Rattle.lawful_histories.specs.Saying as say
use Rattle.lawful_histories.specs.Lawful.{Said}
use Rattle.lawful_histories.specs.Messages.{Sent}
use Rattle.agreement_rules.specs.Views.{Views}
use Rattle.histories.specs.Following.{UpOrDown, IsUp, IsDown, recovered_in}
use Rattle.histories.proofs.Lists.{only_one, in_middle}
use Rattle.histories.proofs.Sayings.{WasSaidBefore, OneSays, said_by}
use Rattle.histories.proofs.Rules.{AllowsSaying, Allows}
use Rattle.histories.proofs.Knowing.{IsOwnSaying, IsOwn, CoversSaying, Covers, KnowsSeat, KnowsIfUp, records_later, calls_later}
use Rattle.histories.proofs.Dues.{MayBeSent}

-- ---- places

module _ (sent : List Message) (next : ℕ) (ms : List Message) (placed : take (length ms) (drop next sent) ≡ ms) where
  within : (i : ℕ) → i < length ms → next + i < length sent
  within i lt = omega (arith, lt, length-take (length ms) (drop next sent), length-drop next sent, ap length placed)

  there : (i : ℕ) (d : Message) → i < length ms → get_or ms i d ≡ get_or sent (next + i) d
  there i d lt =
      ap (λ (l : List Message). get_or l i d) (sym placed) ∙ get_or-take (length ms) (drop next sent) i d lt ∙ get_or-drop next sent i d

  among : (k : ℕ) (m : Message) → next ≤ k → k < next + length ms → Sent sent k m → Contains ms m
  among k m ge lt h =
      let i : ℕ = k - next in
      let below : i < length ms = omega (arith, ge, lt) in
      let at : next + i ≡ k = omega (arith, ge) in
      (i, below, there i m below ∙ ap (λ (j : ℕ). get_or sent j m) at ∙ h.1)

  -- what is said there, one of them says
  one_says : (s k : ℕ) (x : Saying) → next ≤ k → k < next + length ms → Said (sayings sent s) k x → OneSays ms s x
  one_says s k x ge lt h = let it = said_by sent s k x h in (it.0, among k it.0 ge lt it.1, it.2)

  pub kept : (s : ℕ) (x : Saying) → WasSaidBefore sent next s x → WasSaidBefore sent (next + length ms) s x
  kept s x h = (h.0, omega (arith, h.1), h.2)

  pub came : (s : ℕ) (x : Saying) → WasSaidBefore sent (next + length ms) s x → WasSaidBefore sent next s x ⊎ OneSays ms s x
  came s x h = elim (cases_lt h.0 next) as (λ _. WasSaidBefore sent next s x ⊎ OneSays ms s x) [
    | inl lt ↦ inl (h.0, lt, h.2)
    | inr ge ↦ inr (one_says s h.0 x ge h.1 h.2)
  ]

  one_place : (k : ℕ) (m : Message) → ms ≡ m ∷ [] → next ≤ k → k < next + length ms → next ≡ k
  one_place k m one ge lt = omega (arith, ge, lt, ap length one)

  message_allowed : (members : ℕ) → MayBeSent members sent next ms → (k : ℕ) (m : Message) → next ≤ k → k < next + length ms → Contains ms m → Allows members (WasSaidBefore sent k) m
  message_allowed members (inl (one, is, may)) k m ge lt has =
      let same : m ≡ one = only_one one m (subst (λ (l : List Message). Contains l m) is has) in
      let at : next ≡ k = one_place k one is ge lt in
      subst (λ (i : ℕ). Allows members (WasSaidBefore sent i) m) at (subst (λ (x : Message). Allows members (WasSaidBefore sent next) x) (sym same) may)
  message_allowed members (inr all) k m ge lt has = all m has k ge

  pub each_allowed : (members : ℕ) → MayBeSent members sent next ms → (s k : ℕ) (x : Saying) → next ≤ k → k < next + length ms → Said (sayings sent s) k x
      → AllowsSaying members (WasSaidBefore sent k s) x
  each_allowed members may s k x ge lt h =
      let it = one_says s k x ge lt h in
      subst (AllowsSaying members (WasSaidBefore sent k s)) it.2 (message_allowed members may k it.0 ge lt it.1 s)

-- ---- what nodes know then

-- an Accept among these at the open attempt's ballot has its majority
abbrev pub Apart : ℕ → List Message → Views → Type 0
Apart members ms views = (b : Begun) (since : List Asked) → IsOpen views.proposer_calls b since → (s : ℕ) (v : Value) → OneSays ms s (say.Accept b.ballot v)
    → HasMajority members (answering members b since)

abbrev pub ApartIfUp : ℕ → List Message → UpOrDown → Type 0
ApartIfUp members ms (IsUp views) = Apart members ms views
ApartIfUp members ms (IsDown records due) = Unit {0}

pub begun_in : (asked : List Asked) (b : Begun) (since : List Asked) → IsOpen asked b since → Contains asked (Begins b)
begun_in asked b since is_open = subst (λ (l : List Asked). Contains l (Begins b)) (sym is_open.split) (in_middle is_open.before since (Begins b))

module _ (members : ℕ) (WasSaid Now : ℕ → Saying → Type 0) (ms : List Message) (keeps : (s : ℕ) (x : Saying) → WasSaid s x → Now s x)
    (comes : (s : ℕ) (x : Saying) → Now s x → WasSaid s x ⊎ OneSays ms s x) where
  up_later : (me : ℕ) (seat : UpOrDown) → KnowsIfUp members WasSaid me seat → ApartIfUp members ms seat → KnowsIfUp members Now me seat
  up_later me (IsUp views) knows apart = calls_later members WasSaid Now ms keeps comes me views.records views.proposer_calls views.learner_calls knows apart
  up_later me (IsDown records due) knows apart = tt

  pub seat_later : (me : ℕ) (seat : UpOrDown) → KnowsSeat members WasSaid me seat → ((found : Bool) (m : Message) → Contains ms m → Covers me (recovered_in found seat) m)
      → ApartIfUp members ms seat → KnowsSeat members Now me seat
  seat_later me seat knows covered apart = record {
    records = λ found. records_later members WasSaid Now ms keeps comes me (recovered_in found seat) (knows.records found) (covered found);
    up = up_later me seat knows.up apart;
  }

  -- the messages are another node's
  module _ (me sender : ℕ) (other : me ≡ sender → ⊥) (own : (m : Message) → Contains ms m → IsOwn sender m) where
    others_covered : (records : List Record) (s : ℕ) (x : Saying) → IsOwnSaying sender x → CoversSaying me records s x
    others_covered records s say.Silent by = tt
    others_covered records s (say.Prepare b) by = tt
    others_covered records s (say.Promise a b r) by = λ mine. absurd (other (sym mine ∙ by))
    others_covered records s (say.Accept b v) by = λ mine. absurd (other (sym mine ∙ by))
    others_covered records s (say.Accepted a b v) by = λ mine. absurd (other (sym mine ∙ by))
    others_covered records s (say.Decided v) by = tt

    others_ballot : (s : ℕ) (b : Ballot) (v : Value) → OneSays ms s (say.Accept b v) → b.node ≡ sender
    others_ballot s b v (m, has, is) = subst (IsOwnSaying sender) is (own m has s)

    others_apart : (seat : UpOrDown) → KnowsIfUp members WasSaid me seat → ApartIfUp members ms seat
    others_apart (IsUp views) knows = λ b since is_open s v has.
        absurd (other (sym (knows.begun b (begun_in views.proposer_calls b since is_open)).0 ∙ others_ballot s b.ballot v has))
    others_apart (IsDown records due) knows = tt

    pub other_later : (seat : UpOrDown) → KnowsSeat members WasSaid me seat → KnowsSeat members Now me seat
    other_later seat knows =
        seat_later me seat knows (λ found m has s. others_covered (recovered_in found seat) s (says m s) (own m has s))
        (others_apart seat knows.up)
