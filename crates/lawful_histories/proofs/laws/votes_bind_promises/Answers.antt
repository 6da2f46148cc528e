use Rattle.std.proofs.Common.{◌≡◌, ℕ, ◌<◌, List, Some, None, refl, inr}
use Rattle.ballots.specs.Ballot.{Ballot, IsBelow}
use Rattle.ballots.specs.declared.value.Value.{Value}
use Rattle.ballots.specs.Acceptance.{acceptance}
use Rattle.lawful_histories.specs.Saying.{Report, Saying, Promise, Accepted, sayings}
use Rattle.lawful_histories.specs.Lawful.{Said, IsLawfulSlot}
use Rattle.lawful_histories.proofs.ByMessages.{says_said}
use Rattle.lawful_histories.proofs.laws.votes_bind_promises.Goals as goal

pub returns-clause-above : goal.returns-clause-above
returns-clause-above g = λ n sent j k a s b c v r lawful lt vote promise.
    (lawful s).keeps_its_promise.promises j k a b c r lt (inr (v, says_said sent j s (Accepted a b v) vote)) (says_said sent k s (Promise a c r) promise)

reported : (n : ℕ) (xs : List Saying) (j k a : ℕ) (b c : Ballot) (v : Value) (r : Report) → IsLawfulSlot n xs → j < k → Said xs j (Accepted a b v) → Said xs k (Promise a c r)
    → (d : Ballot) × (w : Value) × (r ≡ Some (acceptance d w)) × (IsBelow d b → ⊥)
reported n xs j k a b c v None lawful lt vote promise = absurd (lawful.reports_its_highest.nothing k a c promise j b v lt vote)
reported n xs j k a b c v (Some q) lawful lt vote promise = (q.ballot, q.value, refl, lawful.reports_its_highest.highest k a c q.ballot q.value promise j b v lt vote)

pub returns-clause-reported : goal.returns-clause-reported
returns-clause-reported g = λ n sent j k a s b c v r lawful lt vote promise.
    reported n (sayings sent s) j k a b c v r (lawful s) lt (says_said sent j s (Accepted a b v) vote) (says_said sent k s (Promise a c r) promise)

pub returns-clause-value : goal.returns-clause-value
returns-clause-value g = λ n sent j k a s b c v w lawful vote promise.
    let at = lawful s in
    let proposed = at.accepts_what_was_proposed j a b v (says_said sent j s (Accepted a b v) vote) in
    let reported = at.reports_its_highest.proposed k a c b w (says_said sent k s (Promise a c (Some (acceptance b w))) promise) in
    at.one_value_a_ballot reported.0 proposed.0 b w v reported.2 proposed.2
