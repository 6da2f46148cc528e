-- What the messages before a place say of a slot, by places in the list of all that is said of it.
use Rattle.std.proofs.Common.{◌≡◌, ℕ, ◌<◌, ◌≤◌, List, length, get_or, take, refl, sym, subst, ◌∙◌, arith}
use Rattle.std.specs.List.{Any}
use Rattle.std.proofs.lemmas.List.{get_or-map, get_or-take, get_or_default, length-take-le, length-map}
use Rattle.ballots.specs.declared.message.Message.{Message}
use Rattle.ballots.specs.declared.message.Body.TheVariants as body
use Rattle.ballots.specs.Message.{message}
use Rattle.lawful_histories.specs.Saying.{Saying, Silent, says, sayings}
use Rattle.lawful_histories.specs.Lawful.{Said, SaidBefore}
use Rattle.lawful_histories.specs.Judging.{AnySaid, AllSaid}

-- any message: what a read past the end would give
pub blank : Message
blank = message 0 0 body.Ask

module _ (sent : List Message) (s : ℕ) where
  told_length : length (sayings sent s) ≡ length sent
  told_length = length-map sent (λ m. says m s)

  told_there : (k : ℕ) (d : Message) → k < length sent → get_or (sayings sent s) k Silent ≡ says (get_or sent k d) s
  told_there k d lt = get_or-map (λ m. says m s) sent k d Silent lt

  pub within_sent : (k : ℕ) (x : Saying) → Said (sayings sent s) k x → k < length sent
  within_sent k x h = omega (arith, h.0, told_length)

  pub said_by : (k : ℕ) (d : Message) (x : Saying) → Said (sayings sent s) k x → says (get_or sent k d) s ≡ x
  said_by k d x h = sym (told_there k d (within_sent k x h)) ∙ h.1

  pub said_there : (k : ℕ) (d : Message) → k < length sent → Said (sayings sent s) k (says (get_or sent k d) s)
  said_there k d lt = (omega (arith, lt, told_length), told_there k d lt)

  module _ (k : ℕ) (le : k ≤ length sent) where
    before_length : length (take k sent) ≡ k
    before_length = length-take-le k sent le

    -- what some message before the place says, and where
    pub any_before : (P : Saying → Type 0) → Any (λ m. P (says m s)) (take k sent) → (x : Saying) × SaidBefore (sayings sent s) k x × P x
    any_before P h =
        let lt : h.0 < k = omega (arith, h.2, before_length) in
        let at : get_or sent h.0 h.1 ≡ h.1 = sym (get_or-take k sent h.0 h.1 lt) ∙ h.3 in
        (says h.1 s, (h.0, lt, subst (λ (m : Message). Said (sayings sent s) h.0 (says m s)) at (said_there h.0 h.1 (omega (arith, lt, le)))), h.4)

    pub before_any : (P : Saying → Type 0) (x : Saying) → SaidBefore (sayings sent s) k x → P x → Any (λ m. P (says m s)) (take k sent)
    before_any P x h p =
        let j = h.0 in
        let m = get_or sent j blank in
        let in' : j < length sent = omega (arith, h.1, le) in
        (j, m, omega (arith, h.1, before_length), get_or-take k sent j m h.1 ∙ get_or_default sent j m blank in', subst P (sym (said_by j blank x h.2)) p)

    -- what all messages before the place say
    pub all_before : (P : Saying → Type 0) → AllSaid s (take k sent) P → (x : Saying) → SaidBefore (sayings sent s) k x → P x
    all_before P h x before =
        let j = before.0 in
        let here : get_or (take k sent) j blank ≡ get_or sent j blank = get_or-take k sent j blank before.1 in
        subst P (said_by j blank x before.2) (subst (λ (m : Message). P (says m s)) here (h j blank (omega (arith, before.1, before_length))))

    pub before_all : (P : Saying → Type 0) → ((x : Saying) → SaidBefore (sayings sent s) k x → P x) → AllSaid s (take k sent) P
    before_all P h j d lt =
        let below : j < k = omega (arith, lt, before_length) in
        let in' : j < length sent = omega (arith, below, le) in
        subst (λ (m : Message). P (says m s)) (sym (get_or-take k sent j d below)) (h (says (get_or sent j d) s) (j, below, said_there j d in'))

    -- one saying
    pub any_said : (x : Saying) → AnySaid s (take k sent) x → SaidBefore (sayings sent s) k x
    any_said x h =
        let found = any_before (λ y. y ≡ x) h in
        subst (λ (y : Saying). SaidBefore (sayings sent s) k y) found.2 found.1

    pub said_any : (x : Saying) → SaidBefore (sayings sent s) k x → AnySaid s (take k sent) x
    said_any x h = before_any (λ y. y ≡ x) x h refl
