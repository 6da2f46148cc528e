-- What is among the promises and the reports, told by what is in the list.
use Rattle.std.proofs.Common.{◌≡◌, ◌≢◌, ℕ, ◌<◌, ◌==◌, ◌||◌, ◌⊎◌, ◌↔◌, inl, inr, Bool, true, false, not, cond, List, [], ◌∷◌, ◌++◌, filter, filter_map, Option, Some, None, refl, sym, ap, subst, ◌∙◌, arith, eq-eqb, ne_eqb}
use Rattle.std.specs.List.{Contains, AllByRecursion, cons_option}
use Rattle.std.proofs.lemmas.Bool.Decides.{nat_tests}
use Rattle.std.proofs.lemmas.List.Elements.{Contains-push, Contains-append_left, Contains-append_right, Contains-append_cases, Contains-push_cases}
use Rattle.ballots.specs.Ballot.{Ballot, IsBelow}
use Rattle.ballots.specs.declared.value.Value.{Value}
use Rattle.ballots.proofs.CallerLemmas.{not_below_itself, below_carried, majority_stays}
use Rattle.proposer.specs.Call.{Reach, OneSlot, AllFrom, Begun, Promise, PromiseFrom, ProposerCall, Begins, Promises, PromisesFrom, GoesOn, Nacks}
use Rattle.proposer.specs.Choosing.{PromiseReport, is_from, is_sender, HasMajority, first_of_each, reports_of, IsHighest, Chooses}
use Rattle.proposer.specs.Reporting.{rises_from, said_of, promise_in}
use Rattle.proposer.specs.Attempting.{answering_at, answering, is_for}
use Rattle.proposer.specs.Promised.{IsAnswerTo, IsAnswerFrom, HasPromisedBy, HasPromised, MajorityPromised}
use Rattle.proposer.proofs.Lists.{all-append, all_weaker}
use Rattle.proposer.proofs.Counting.{other_than}
use Rattle.proposer.proofs.Answering.{is_for_parts, is_for_these}

-- ---- one element of a list

pub here : {X : Type 0} (x : X) (xs : List X) → Contains (x ∷ xs) x
here x xs = Contains-append_left (x ∷ []) xs x (Contains-push [] x)

pub there : {X : Type 0} (x y : X) (xs : List X) → Contains xs y → Contains (x ∷ xs) y
there x y xs is_in = Contains-append_right (x ∷ []) xs y is_in

in_the_middle : {X : Type 0} (before after : List X) (x : X) → Contains (before ++ x ∷ after) x
in_the_middle before after x = Contains-append_right before (x ∷ after) x (here x after)

pub nowhere : {X : Type 0} (x : X) → Contains [] x → ⊥
nowhere x is_in = absurd (omega (arith, is_in.1))

pub first_or_rest : {X : Type 0} (x y : X) (xs : List X) → Contains (x ∷ xs) y → (x ≡ y) ⊎ Contains xs y
first_or_rest x y xs is_in = elim (Contains-append_cases (x ∷ []) xs y is_in) as (λ _. (x ≡ y) ⊎ Contains xs y) [
  | inl one ↦ elim (Contains-push_cases [] x y one) as (λ _. (x ≡ y) ⊎ Contains xs y) [
    | inl none ↦ absurd (nowhere y none)
    | inr same ↦ inl same
  ]
  | inr rest ↦ inr rest
]

-- what holds of each holds of what is in the list
all_in : {X : Type 0} (P : X → Type 0) (xs : List X) (x : X) → AllByRecursion P xs → Contains xs x → P x
all_in P [] x of_all is_in = absurd (nowhere x is_in)
all_in P (y ∷ xs) x of_all is_in = elim (first_or_rest y x xs is_in) as (λ _. P x) [
  | inl same ↦ subst P same of_all.0
  | inr rest ↦ all_in P xs x of_all.1 rest
]

-- ---- a filter

out_step : {X : Type 0} (f : X → Bool) (y x : X) (xs : List X) (b : Bool) → f y ≡ b → Contains (cond b (y ∷ filter f xs) (filter f xs)) x
    → (Contains (filter f xs) x → Contains xs x × (f x ≡ true)) → Contains (y ∷ xs) x × (f x ≡ true)
out_step f y x xs true is is_in rest = elim (first_or_rest y x (filter f xs) is_in) as (λ _. Contains (y ∷ xs) x × (f x ≡ true)) [
  | inl same ↦ (subst (Contains (y ∷ xs)) same (here y xs), subst (λ z. f z ≡ true) same is)
  | inr later ↦ (there y x xs (rest later).0, (rest later).1)
]
out_step f y x xs false is is_in rest = (there y x xs (rest is_in).0, (rest is_in).1)

out_of_filter : {X : Type 0} (f : X → Bool) (xs : List X) (x : X) → Contains (filter f xs) x → Contains xs x × (f x ≡ true)
out_of_filter f [] x is_in = absurd (nowhere x is_in)
out_of_filter f (y ∷ xs) x is_in = out_step f y x xs (f y) refl is_in (out_of_filter f xs x)

into_step : {X : Type 0} (f : X → Bool) (y x : X) (xs : List X) (b : Bool) → f y ≡ b → f x ≡ true → (y ≡ x) ⊎ Contains (filter f xs) x
    → Contains (cond b (y ∷ filter f xs) (filter f xs)) x
into_step f y x xs true is passes (inl same) = subst (Contains (y ∷ filter f xs)) same (here y (filter f xs))
into_step f y x xs true is passes (inr rest) = there y x (filter f xs) rest
into_step f y x xs false is passes (inl same) = absurd (let no : false ≡ true = sym is ∙ ap f same ∙ passes in cc)
into_step f y x xs false is passes (inr rest) = rest

into_filter : {X : Type 0} (f : X → Bool) (xs : List X) (x : X) → f x ≡ true → Contains xs x → Contains (filter f xs) x
into_filter f [] x passes is_in = absurd (nowhere x is_in)
into_filter f (y ∷ xs) x passes is_in = elim (first_or_rest y x xs is_in) as (λ _. Contains (filter f (y ∷ xs)) x) [
  | inl same ↦ into_step f y x xs (f y) refl passes (inl same)
  | inr rest ↦ into_step f y x xs (f y) refl passes (inr (into_filter f xs x passes rest))
]

-- ---- the promises that answer an attempt

same_inside : {Y : Type 0} (a b : Y) → Some a ≡ Some b → a ≡ b
same_inside a b e = cc

-- the call of a promise, told by its reach
abbrev CameBy : Reach → ℕ → List ProposerCall → Promise → Type 0
CameBy OneSlot slot calls promise = Contains calls (Promises promise)
CameBy AllFrom slot calls promise =
    (said : PromiseFrom) × Contains calls (PromisesFrom said) × (rises_from said.slot said.reports ≡ true) × (promise ≡ said_of slot said)

came_behind : (reach : Reach) (slot : ℕ) (call : ProposerCall) (calls : List ProposerCall) (promise : Promise) → CameBy reach slot calls promise → CameBy reach slot (call ∷ calls) promise
came_behind OneSlot slot call calls promise came = there call (Promises promise) calls came
came_behind AllFrom slot call calls promise came = (came.0, there call (PromisesFrom came.0) calls came.1, came.2, came.3)

came_now : (reach : Reach) (slot : ℕ) (call : ProposerCall) (calls : List ProposerCall) (promise : Promise) → promise_in reach slot call ≡ Some promise → CameBy reach slot (call ∷ calls) promise
came_now OneSlot slot (Begins begun) calls promise told = absurd (cc)
came_now OneSlot slot (Promises first) calls promise told = subst (λ p. Contains (Promises first ∷ calls) (Promises p)) (same_inside first promise told) (here (Promises first) calls)
came_now OneSlot slot (PromisesFrom first) calls promise told = absurd (cc)
came_now OneSlot slot (GoesOn candidate) calls promise told = absurd (cc)
came_now OneSlot slot (Nacks at ballot) calls promise told = absurd (cc)
came_now AllFrom slot (Begins begun) calls promise told = absurd (cc)
came_now AllFrom slot (Promises first) calls promise told = absurd (cc)
came_now AllFrom slot (PromisesFrom first) calls promise told = by (rises_from first.slot first.reports) refl told
  where
    by : (rises : Bool) → rises_from first.slot first.reports ≡ rises → cond rises (Some (said_of slot first)) None ≡ Some promise → CameBy AllFrom slot (PromisesFrom first ∷ calls) promise
    by true rises is = (first, here (PromisesFrom first) calls, rises, sym (same_inside (said_of slot first) promise is))
    by false falls is = absurd (cc)
came_now AllFrom slot (GoesOn candidate) calls promise told = absurd (cc)
came_now AllFrom slot (Nacks at ballot) calls promise told = absurd (cc)

promised_step : (reach : Reach) (slot : ℕ) (call : ProposerCall) (calls : List ProposerCall) (promise : Promise) (told : Option Promise) → promise_in reach slot call ≡ told
    → Contains (cons_option told (filter_map (promise_in reach slot) calls)) promise → (Contains (filter_map (promise_in reach slot) calls) promise → CameBy reach slot calls promise) → CameBy reach slot (call ∷ calls) promise
promised_step reach slot call calls promise None is is_in rest = came_behind reach slot call calls promise (rest is_in)
promised_step reach slot call calls promise (Some first) is is_in rest = elim (first_or_rest first promise (filter_map (promise_in reach slot) calls) is_in) as (λ _. CameBy reach slot (call ∷ calls) promise) [
  | inl same ↦ came_now reach slot call calls promise (is ∙ ap Some same)
  | inr later ↦ came_behind reach slot call calls promise (rest later)
]

promised_in : (reach : Reach) (slot : ℕ) (calls : List ProposerCall) (promise : Promise) → Contains (filter_map (promise_in reach slot) calls) promise → CameBy reach slot calls promise
promised_in OneSlot slot [] promise is_in = absurd (nowhere promise is_in)
promised_in AllFrom slot [] promise is_in = absurd (nowhere promise is_in)
promised_in reach slot (call ∷ calls) promise is_in =
    promised_step reach slot call calls promise (promise_in reach slot call) refl is_in (promised_in reach slot calls promise)

in_step : {X : Type 0} (o : Option X) (xs : List X) (x : X) → Contains xs x → Contains (cons_option o xs) x
in_step None xs x is_in = is_in
in_step (Some y) xs x is_in = there y x xs is_in

told_in : (reach : Reach) (slot : ℕ) (calls : List ProposerCall) (call : ProposerCall) (promise : Promise) → promise_in reach slot call ≡ Some promise → Contains calls call → Contains (filter_map (promise_in reach slot) calls) promise
told_in reach slot [] call promise told is_in = absurd (nowhere call is_in)
told_in reach slot (first ∷ calls) call promise told is_in = elim (first_or_rest first call calls is_in) as (λ _. Contains (filter_map (promise_in reach slot) (first ∷ calls)) promise) [
  | inl same ↦
      subst (λ (o : Option Promise). Contains (cons_option o (filter_map (promise_in reach slot) calls)) promise) (sym (ap (promise_in reach slot) same ∙ told)) (here promise (filter_map (promise_in reach slot) calls))
  | inr rest ↦ in_step (promise_in reach slot first) (filter_map (promise_in reach slot) calls) promise (told_in reach slot calls call promise told rest)
]

in_promised : (reach : Reach) (slot : ℕ) (calls : List ProposerCall) (promise : Promise) → CameBy reach slot calls promise → Contains (filter_map (promise_in reach slot) calls) promise
in_promised OneSlot slot calls promise came = told_in OneSlot slot calls (Promises promise) promise refl came
in_promised AllFrom slot calls promise came =
    told_in AllFrom slot calls (PromisesFrom came.0) promise (rw came.2 (ap Some (sym came.3))) came.1

module _ (members : ℕ) (begun : Begun) (slot : ℕ) (since : List ProposerCall) (promise : Promise) where
  answers_then : Contains (answering_at members begun slot since) promise → CameBy begun.reach slot since promise × IsAnswerTo members begun promise
  answers_then is_in =
      let out : Contains (filter_map (promise_in begun.reach slot) since) promise × (is_for members begun promise ≡ true) = out_of_filter (is_for members begun) (filter_map (promise_in begun.reach slot) since) promise is_in in
      let parts : (promise.sender < members) × (promise.slot ≡ begun.slot) × (promise.ballot ≡ begun.ballot) = is_for_parts members begun promise out.1 in
      (promised_in begun.reach slot since promise out.0, record { member = parts.0; slot = parts.1; ballot = parts.2 })

  answers_by : CameBy begun.reach slot since promise × IsAnswerTo members begun promise → Contains (answering_at members begun slot since) promise
  answers_by told =
      into_filter (is_for members begun) (filter_map (promise_in begun.reach slot) since) promise (is_for_these members begun promise told.1.member told.1.slot told.1.ballot) (in_promised begun.reach slot since promise told.0)

-- an attempt for one slot, and one for all from one on
pub answers_are_told : (members : ℕ) (begun : Begun) (since : List ProposerCall) (promise : Promise) → begun.reach ≡ OneSlot → (Contains (answering members begun since) promise ↔ (Contains since (Promises promise) × IsAnswerTo members begun promise))
answers_are_told members begun since promise is = (
  λ is_in. let told = answers_then members begun begun.slot since promise is_in in (subst (λ (r : Reach). CameBy r begun.slot since promise) is told.0, told.1),
  λ told. answers_by members begun begun.slot since promise (subst (λ (r : Reach). CameBy r begun.slot since promise) (sym is) told.0, told.1),
)

pub answers_are_said : (members : ℕ) (begun : Begun) (slot : ℕ) (since : List ProposerCall) (promise : Promise) → begun.reach ≡ AllFrom
    → (Contains (answering_at members begun slot since) promise ↔ ((said : PromiseFrom) × Contains since (PromisesFrom said) × IsAnswerFrom members begun said × (promise ≡ said_of slot said)))
answers_are_said members begun slot since promise is = (
  λ is_in.
      let told = answers_then members begun slot since promise is_in in
      let came : CameBy AllFrom slot since promise = subst (λ (r : Reach). CameBy r slot since promise) is told.0 in
      let to : IsAnswerTo members begun (said_of slot came.0) = subst (IsAnswerTo members begun) came.3 told.1 in
      (came.0, came.1, record { member = to.member; slot = to.slot; ballot = to.ballot; rises = came.2 }, came.3),
  λ said.
      let from : IsAnswerFrom members begun said.0 = said.2 in
      answers_by members begun slot since promise (
        subst (λ (r : Reach). CameBy r slot since promise) (sym is) (said.0, said.1, from.rises, said.3),
        subst (IsAnswerTo members begun) (sym said.3) (record { member = from.member; slot = from.slot; ballot = from.ballot }),
      ),
)

-- who has answered, by the reach of the attempt
promised_then : (members : ℕ) (begun : Begun) (since : List ProposerCall) (promise : Promise) (reach : Reach) → begun.reach ≡ reach → Contains (answering members begun since) promise → HasPromisedBy reach members begun since promise.sender
promised_then members begun since promise OneSlot is is_in =
    let told = (answers_are_told members begun since promise is).0 is_in in
    (promise, told.0, told.1, refl)
promised_then members begun since promise AllFrom is is_in =
    let said = (answers_are_said members begun begun.slot since promise is).0 is_in in
    (said.0, said.1, said.2, sym (ap (λ (p : Promise). p.sender) said.3))

promised_by : (members : ℕ) (begun : Begun) (since : List ProposerCall) (node : ℕ) (reach : Reach) → begun.reach ≡ reach → HasPromisedBy reach members begun since node
    → (promise : Promise) × Contains (answering members begun since) promise × (promise.sender ≡ node)
promised_by members begun since node OneSlot is told = (told.0, (answers_are_told members begun since told.0 is).1 (told.1, told.2), told.3)
promised_by members begun since node AllFrom is told =
    (said_of begun.slot told.0, (answers_are_said members begun begun.slot since (said_of begun.slot told.0) is).1 (told.0, told.1, told.2, refl), told.3)

-- ---- senders

abbrev IsSender : List Promise → ℕ → Type 0
IsSender promises node = (promise : Promise) × Contains promises promise × (promise.sender ≡ node)

sender_step : (promise : Promise) (promises : List Promise) (node : ℕ) (b : Bool) → is_from node promise ≡ b → is_sender (promise ∷ promises) node ≡ true
    → (is_sender promises node ≡ true → IsSender promises node) → IsSender (promise ∷ promises) node
sender_step promise promises node true from is rest = (promise, here promise promises, grind (arith, nat_tests, from))
sender_step promise promises node false not_from is rest =
    let later = rest (ap (λ (b : Bool). b || is_sender promises node) (sym not_from) ∙ is) in
    (later.0, there promise later.0 promises later.1, later.2)

sender_then : (promises : List Promise) (node : ℕ) → is_sender promises node ≡ true → IsSender promises node
sender_then [] node is = absurd (let no : false ≡ true = is in cc)
sender_then (promise ∷ promises) node is = sender_step promise promises node (is_from node promise) refl is (sender_then promises node)

or_true : (b : Bool) → (b || true) ≡ true
or_true true = refl
or_true false = refl

sender_by : (promises : List Promise) (promise : Promise) → Contains promises promise → is_sender promises promise.sender ≡ true
sender_by [] promise is_in = absurd (nowhere promise is_in)
sender_by (first ∷ promises) promise is_in = elim (first_or_rest first promise promises is_in) as (λ _. is_sender (first ∷ promises) promise.sender ≡ true) [
  | inl same ↦
      let from : is_from promise.sender first ≡ true = eq-eqb first.sender promise.sender (ap (λ (p : Promise). p.sender) same) in
      ap (λ (b : Bool). b || is_sender promises promise.sender) from
  | inr rest ↦ ap (λ (b : Bool). is_from promise.sender first || b) (sender_by promises promise rest) ∙ or_true (is_from promise.sender first)
]

-- ---- a majority

majority_then : (members : ℕ) (begun : Begun) (since : List ProposerCall) → HasMajority members (answering members begun since) → MajorityPromised members begun since
majority_then members begun since majority = record {
  has_promised = is_sender (answering members begun since);
  majority = majority;
  each = λ node lt is.
      let sent = sender_then (answering members begun since) node is in
      subst (HasPromised members begun since) sent.2 (promised_then members begun since sent.0 begun.reach refl sent.1);
}

majority_by : (members : ℕ) (begun : Begun) (since : List ProposerCall) → MajorityPromised members begun since → HasMajority members (answering members begun since)
majority_by members begun since promised =
    majority_stays members promised.has_promised (is_sender (answering members begun since))
    (λ node lt is.
    let told = promised_by members begun since node begun.reach refl (promised.each node lt is) in
    subst (λ (n : ℕ). is_sender (answering members begun since) n ≡ true) told.2 (sender_by (answering members begun since) told.0 told.1))
    promised.majority

pub majority_is_promised : (members : ℕ) (begun : Begun) (since : List ProposerCall) → (HasMajority members (answering members begun since) ↔ MajorityPromised members begun since)
majority_is_promised members begun since = (majority_then members begun since, majority_by members begun since)

-- ---- each sender's first

differs_of : (a b : ℕ) → not (a == b) ≡ true → a ≢ b
differs_of a b is same =
    let no : not true ≡ true = subst (λ (x : Bool). not x ≡ true) (eq-eqb a b same) is in
    absurd (let falsum : false ≡ true = no in cc)

other_by : (first other : Promise) → first.sender ≢ other.sender → other_than first other ≡ true
other_by first other differs = ap not (ne_eqb other.sender first.sender (λ same. differs (sym same)))

-- the promise, with none of its sender before it
abbrev FirstOf : List Promise → Promise → Type 0
FirstOf promises promise =
    (before : List Promise) × (after : List Promise) × (promises ≡ before ++ promise ∷ after)
    × ((other : Promise) → Contains before other → other.sender ≢ promise.sender)

first_then : (promises : List Promise) (promise : Promise) → Contains (first_of_each promises) promise → FirstOf promises promise
first_then [] promise is_in = absurd (nowhere promise is_in)
first_then (first ∷ promises) promise is_in = elim (first_or_rest first promise (filter (other_than first) (first_of_each promises)) is_in) as (λ _. FirstOf (first ∷ promises) promise) [
  | inl same ↦ ([], promises, ap (λ (p : Promise). p ∷ promises) same, λ other none. absurd (nowhere other none))
  | inr rest ↦
      let out = out_of_filter (other_than first) (first_of_each promises) promise rest in
      let later = first_then promises promise out.0 in (
        first ∷ later.0,
        later.1,
        ap (λ (l : List Promise). first ∷ l) later.2,
        λ other before. elim (first_or_rest first other later.0 before) as (λ _. other.sender ≢ promise.sender) [
          | inl same ↦ λ own. differs_of promise.sender first.sender out.1 (sym (ap (λ (p : Promise). p.sender) same ∙ own))
          | inr earlier ↦ later.3 other earlier
        ],
      )
]

first_by : (before after : List Promise) (promise : Promise) → ((other : Promise) → Contains before other → other.sender ≢ promise.sender) → Contains (first_of_each (before ++ promise ∷ after)) promise
first_by [] after promise none = here promise (filter (other_than promise) (first_of_each after))
first_by (first ∷ before) after promise none =
    there first promise (filter (other_than first) (first_of_each (before ++ promise ∷ after)))
    (into_filter (other_than first) (first_of_each (before ++ promise ∷ after)) promise (other_by first promise (none first (here first before)))
    (first_by before after promise (λ other earlier. none other (there first other before earlier))))

pub firsts_count : (promises : List Promise) (promise : Promise) → (Contains (first_of_each promises) promise ↔ FirstOf promises promise)
firsts_count promises promise =
    (first_then promises promise, λ first. subst (λ (l : List Promise). Contains (first_of_each l) promise) (sym first.2) (first_by first.0 first.1 promise first.3))

-- no two are of one sender
abbrev Apart : List Promise → Type 0
Apart [] = Unit {0}
Apart (promise ∷ promises) = ((other : Promise) → Contains promises other → promise.sender ≢ other.sender) × Apart promises

filter_step : (f : Promise → Bool) (promise : Promise) (promises : List Promise) (b : Bool) → ((other : Promise) → Contains promises other → promise.sender ≢ other.sender) → Apart (filter f promises)
    → Apart (cond b (promise ∷ filter f promises) (filter f promises))
filter_step f promise promises true apart rest = (λ other is_in. apart other (out_of_filter f promises other is_in).0, rest)
filter_step f promise promises false apart rest = rest

filter_apart : (f : Promise → Bool) (promises : List Promise) → Apart promises → Apart (filter f promises)
filter_apart f [] apart = tt
filter_apart f (promise ∷ promises) apart = filter_step f promise promises (f promise) apart.0 (filter_apart f promises apart.1)

firsts_apart : (promises : List Promise) → Apart (first_of_each promises)
firsts_apart [] = tt
firsts_apart (first ∷ promises) = (
  λ other is_in own. differs_of other.sender first.sender (out_of_filter (other_than first) (first_of_each promises) other is_in).1 (sym own),
  filter_apart (other_than first) (first_of_each promises) (firsts_apart promises),
)

apart_back : (before rest : List Promise) → Apart (before ++ rest) → Apart rest
apart_back [] rest apart = apart
apart_back (promise ∷ before) rest apart = apart_back before rest apart.1

pub count_once : (promises before mid after : List Promise) (promise other : Promise) → first_of_each promises ≡ before ++ promise ∷ (mid ++ other ∷ after) → promise.sender ≢ other.sender
count_once promises before mid after promise other split =
    (apart_back before (promise ∷ (mid ++ other ∷ after)) (subst Apart split (firsts_apart promises))).0 other (in_the_middle mid after other)

-- ---- the highest report

none_above : (reports : List PromiseReport) (report other : PromiseReport) → IsHighest reports report → Contains reports other → IsBelow report.ballot other.ballot → ⊥
none_above reports report other highest is_in =
    all_in (λ r. IsBelow report.ballot r.ballot → ⊥) reports other
    (rw highest.split
    (all-append (λ r. IsBelow report.ballot r.ballot → ⊥) highest.before (report ∷ highest.after)
    (all_weaker (λ r. IsBelow r.ballot report.ballot) (λ r. IsBelow report.ballot r.ballot → ⊥) highest.before (λ r below above. not_below_itself r.ballot (below_carried r.ballot report.ballot r.ballot below above)) highest.above_those_before)
    (not_below_itself report.ballot, highest.not_below_those_after)))
    is_in

pub chooses_highest : (candidate : Value) (reports : List PromiseReport) (v : Value) → Chooses candidate reports v
    → ((reports ≡ []) × (v ≡ candidate)) ⊎ ((ballot : Ballot) × Contains reports (record { ballot = ballot; value = v }) × ((other : PromiseReport) → Contains reports other → IsBelow ballot other.ballot → ⊥))
chooses_highest candidate reports v (inl own) = inl own
chooses_highest candidate reports v (inr highest) =
    inr (
      highest.0,
      subst (λ (l : List PromiseReport). Contains l (record { ballot = highest.0; value = v })) (sym highest.1.split) (in_the_middle highest.1.before highest.1.after (record { ballot = highest.0; value = v })),
      λ other is_in. none_above reports (record { ballot = highest.0; value = v }) other highest.1 is_in,
    )

-- ---- what is reported

out_map_step : {X Y : Type 0} (h : X → Option Y) (x : X) (xs : List X) (y : Y) (o : Option Y) → h x ≡ o → Contains (cons_option o (filter_map h xs)) y
    → (Contains (filter_map h xs) y → (z : X) × Contains xs z × (h z ≡ Some y)) → (z : X) × Contains (x ∷ xs) z × (h z ≡ Some y)
out_map_step h x xs y None is is_in rest = let later = rest is_in in (later.0, there x later.0 xs later.1, later.2)
out_map_step {X} h x xs y (Some w) is is_in rest = elim (first_or_rest w y (filter_map h xs) is_in) as (λ _. (z : X) × Contains (x ∷ xs) z × (h z ≡ Some y)) [
  | inl same ↦ (x, here x xs, is ∙ ap Some same)
  | inr further ↦ let later = rest further in (later.0, there x later.0 xs later.1, later.2)
]

out_of_map : {X Y : Type 0} (h : X → Option Y) (xs : List X) (y : Y) → Contains (filter_map h xs) y → (z : X) × Contains xs z × (h z ≡ Some y)
out_of_map h [] y is_in = absurd (nowhere y is_in)
out_of_map h (x ∷ xs) y is_in = out_map_step h x xs y (h x) refl is_in (out_of_map h xs y)

into_map_step : {X Y : Type 0} (h : X → Option Y) (x z : X) (xs : List X) (y : Y) (o : Option Y) → h x ≡ o → h z ≡ Some y → (x ≡ z) ⊎ Contains (filter_map h xs) y
    → Contains (cons_option o (filter_map h xs)) y
into_map_step h x z xs y None is found (inl same) = absurd (let no : None ≡ Some y = sym is ∙ ap h same ∙ found in cc)
into_map_step h x z xs y None is found (inr rest) = rest
into_map_step h x z xs y (Some w) is found (inl same) =
    subst (Contains (w ∷ filter_map h xs)) (same_inside w y (sym is ∙ ap h same ∙ found)) (here w (filter_map h xs))
into_map_step h x z xs y (Some w) is found (inr rest) = there w y (filter_map h xs) rest

into_map : {X Y : Type 0} (h : X → Option Y) (xs : List X) (z : X) (y : Y) → h z ≡ Some y → Contains xs z → Contains (filter_map h xs) y
into_map h [] z y found is_in = absurd (nowhere z is_in)
into_map h (x ∷ xs) z y found is_in = elim (first_or_rest x z xs is_in) as (λ _. Contains (filter_map h (x ∷ xs)) y) [
  | inl same ↦ into_map_step h x z xs y (h x) refl found (inl same)
  | inr rest ↦ into_map_step h x z xs y (h x) refl found (inr (into_map h xs z y found rest))
]

pub reports_are_told : (promises : List Promise) (report : PromiseReport) → (Contains (reports_of promises) report ↔ ((promise : Promise) × Contains promises promise × (promise.report ≡ Some report)))
reports_are_told promises report =
    (out_of_map (λ (p : Promise). p.report) promises report, λ told. into_map (λ (p : Promise). p.report) promises told.0 report told.2 told.1)
