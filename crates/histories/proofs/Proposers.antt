-- What a proposer answers to the promises that came to it is what the rules ask.
use Rattle.std.proofs.Common.{◌≡◌, ℕ, ◌==◌, ◌||◌, ◌⊎◌, ◌↔◌, inl, inr, Bool, true, false, not, List, [], ◌∷◌, ◌++◌, filter, filter_map, Some, None, refl, sym, ap, subst, ◌∙◌, eq-eqb, ne_eqb}
use Rattle.std.specs.List.{Contains, AllByRecursion}
use Rattle.std.proofs.lemmas.Bool.{cases_eq}
use Rattle.std.proofs.lemmas.List.Folds.{list_any-append}
use Rattle.std.proofs.lemmas.List.Elements.{filter-append, filter_map-append, Contains-append_right}
use Rattle.ballots.specs.Ballot.{Ballot, IsBelow}
use Rattle.ballots.specs.declared.value.Value.{Value}
use Rattle.ballots.specs.declared.record.Record.{Record}
use Rattle.ballots.specs.declared.record.Record.TheVariants.{Began}
use Rattle.ballots.specs.Acceptance.{acceptance}
use Rattle.ballots.proofs.CallerLemmas.{majority_stays}
use Rattle.proposer.specs.Call.{OneSlot, Begun, Promise, ProposerCall, Begins, Promises, Nacks}
use Rattle.proposer.specs.Choosing.{PromiseReport as Reported, is_from, is_sender, HasMajority, first_of_each, reports_of, Chooses}
use Rattle.proposer.specs.Reporting.{promise_in}
use Rattle.proposer.specs.Attempting.{IsOpen, ends, is_for, answering, LeadsToAccept}
use Rattle.proposer.specs.Promised.{IsAnswerTo}
use Rattle.learner.specs.Calls.{LearnerCall as Told}
use Rattle.lawful_histories.specs.Saying.{Report, IsUpTo, Saying}
use Rattle.lawful_histories.specs.Saying as say
use Rattle.lawful_histories.specs.Majorities.{MajorityOf}
use Rattle.histories.proofs.Lists.{nothing_in, in_front, behind_front, in_middle, first_or_rest, last_or_before, before_last, last_in, into_filter, out_of_filter, SplitsMore, at_last, earlier, splits_more, all_front, all_last}
use Rattle.histories.proofs.Rules.{IsSafeAt, AllowsAccept, HasHighest}
use Rattle.histories.proofs.Knowing.{KnowsCalls}

-- ---- the laws of a proposer that are used here

pub record ProposerLaws : Type 0 where
  pub highest : (candidate : Value) (reports : List Reported) (v : Value) → Chooses candidate reports v
      → ((reports ≡ []) × (v ≡ candidate)) ⊎ ((ballot : Ballot) × Contains reports (record { ballot = ballot; value = v })
      × ((other : Reported) → Contains reports other → IsBelow ballot other.ballot → ⊥))
  pub reports : (promises : List Promise) (report : Reported) → Contains (reports_of promises) report
      ↔ ((p : Promise) × Contains promises p × (p.report ≡ Some report))
  pub goes_on : (calls since : List ProposerCall) (begun : Begun) (p : Promise)
      → IsOpen calls begun since → IsOpen (calls ++ Promises p ∷ []) begun (since ++ Promises p ∷ [])
  pub attempts : (calls : List ProposerCall) (begun another : Begun) (since after : List ProposerCall)
      → IsOpen calls begun since → IsOpen calls another after → (begun ≡ another) × (since ≡ after)
  pub answers : (members : ℕ) (begun : Begun) (since : List ProposerCall) (p : Promise) → begun.reach ≡ OneSlot
      → Contains (answering members begun since) p ↔ (Contains since (Promises p) × IsAnswerTo members begun p)

-- ---- who sent one

or_right : (p q : Bool) → q ≡ true → (p || q) ≡ true
or_right true q e = refl
or_right false q e = e

or_left : (p q : Bool) → p ≡ true → (p || q) ≡ true
or_left true q e = refl
or_left false q e = absurd (let no : false ≡ true = e in cc)

first_in : (ps : List Promise) (p : Promise) → Contains (first_of_each ps) p → Contains ps p
first_in [] p has = has
first_in (q ∷ ps) p has = elim (first_or_rest q p (filter (λ other. not (is_from q.sender other)) (first_of_each ps)) has) as (λ _. Contains (q ∷ ps) p) [
  | inl same ↦ subst (λ (x : Promise). Contains (q ∷ ps) x) (sym same) (in_front q ps)
  | inr rest ↦ behind_front q p ps (first_in ps p (out_of_filter (λ other. not (is_from q.sender other)) (first_of_each ps) p rest))
]

sender_in : (ps : List Promise) (p : Promise) → Contains ps p → is_sender ps p.sender ≡ true
sender_in [] p has = absurd (nothing_in p has)
sender_in (q ∷ ps) p has = elim (first_or_rest q p ps has) as (λ _. is_sender (q ∷ ps) p.sender ≡ true) [
  | inl same ↦ or_left (q.sender == p.sender) (is_sender ps p.sender) (eq-eqb q.sender p.sender (ap (λ (x : Promise). x.sender) (sym same)))
  | inr rest ↦ or_right (q.sender == p.sender) (is_sender ps p.sender) (sender_in ps p rest)
]

-- a sender's first
abbrev FirstFrom : ℕ → List Promise → Type 0
FirstFrom a ps = (p : Promise) × Contains (first_of_each ps) p × (p.sender ≡ a)

first_from : (a : ℕ) (ps : List Promise) → is_sender ps a ≡ true → FirstFrom a ps
first_from a [] e = absurd (let no : false ≡ true = e in cc)
first_from a (q ∷ ps) e = elim (cases_eq q.sender a) as (λ _. FirstFrom a (q ∷ ps)) [
  | inl own ↦ (q, in_front q (filter (λ other. not (is_from q.sender other)) (first_of_each ps)), own)
  | inr other ↦
      let rest : is_sender ps a ≡ true = subst (λ (t : Bool). (t || is_sender ps a) ≡ true) (ne_eqb q.sender a other) e in
      let p = first_from a ps rest in
      let apart : not (is_from q.sender p.0) ≡ true = ap not (ne_eqb p.0.sender q.sender (λ same. other (sym same ∙ p.2))) in
      (p.0, behind_front q p.0 (filter (λ other. not (is_from q.sender other)) (first_of_each ps)) (into_filter (λ other. not (is_from q.sender other)) (first_of_each ps) p.0 apart p.1), p.2)
]

-- ---- one call more

answering-append : (members : ℕ) (begun : Begun) (calls more : List ProposerCall) → answering members begun (calls ++ more) ≡ answering members begun calls ++ answering members begun more
answering-append members begun calls more =
    rw (filter_map-append (promise_in begun.reach begun.slot) calls more)
    (filter-append (is_for members begun) (filter_map (promise_in begun.reach begun.slot) calls) (filter_map (promise_in begun.reach begun.slot) more))

majority_more : (members : ℕ) (begun : Begun) (since : List ProposerCall) (call : ProposerCall) → HasMajority members (answering members begun since)
    → HasMajority members (answering members begun (since ++ call ∷ []))
majority_more members begun since call majority =
    let few = answering members begun since in
    let more = answering members begun (call ∷ []) in
    rw (answering-append members begun since (call ∷ []))
    (majority_stays members (is_sender few) (is_sender (few ++ more))
    (λ a lt e. list_any-append (is_from a) few more ∙ or_left (is_sender few a) (is_sender more a) e) majority)

-- what is open with one call more began with it, or was open before
pub data OpenMore (calls : List ProposerCall) (call : ProposerCall) (begun : Begun) (since : List ProposerCall) : Type 0 where
  begins_now : call ≡ Begins begun → OpenMore calls call begun since
  was_open : (rest : List ProposerCall) → since ≡ rest ++ call ∷ [] → IsOpen calls begun rest → ends begun call ≡ false → OpenMore calls call begun since

open_by_split : (calls : List ProposerCall) (call : ProposerCall) (begun : Begun) (since : List ProposerCall) (is_open : IsOpen (calls ++ call ∷ []) begun since)
    → SplitsMore calls call is_open.before (Begins begun) since → OpenMore calls call begun since
open_by_split calls call begun since is_open (at_last b e a) = begins_now (sym e)
open_by_split calls call begun since is_open (earlier rest a b) =
    let all = subst (λ (l : List ProposerCall). AllByRecursion (λ c. ends begun c ≡ false) l) a is_open.goes_on in
    was_open rest a (record {
      before = is_open.before;
      split = b;
      goes_on = all_front (λ c. ends begun c ≡ false) rest (call ∷ []) all;
    }) (all_last (λ c. ends begun c ≡ false) rest call all)

pub open_more : (calls : List ProposerCall) (call : ProposerCall) (begun : Begun) (since : List ProposerCall) → IsOpen (calls ++ call ∷ []) begun since → OpenMore calls call begun since
open_more calls call begun since is_open = open_by_split calls call begun since is_open (splits_more calls call is_open.before (Begins begun) since is_open.split)

-- ---- what is known with one call more

module _ (members : ℕ) (WasSaid : ℕ → Saying → Type 0) (me : ℕ) (records : List Record) (asked : List ProposerCall) (heard : List Told) (knows : KnowsCalls members WasSaid me records asked heard) where
  abbrev Completed : Begun → List ProposerCall → Type 0
  Completed b since = HasMajority members (answering members b since)

  still_complete : (call : ProposerCall) (b : Begun) (since : List ProposerCall) → (call ≡ Begins b → ⊥) → OpenMore asked call b since
      → (s : ℕ) (v : Value) → WasSaid s (say.Accept b.ballot v) → Completed b since
  still_complete call b since no_begin (begins_now e) s v was = absurd (no_begin e)
  still_complete call b since no_begin (was_open rest e is_open not_ended) s v was =
      subst (λ (l : List ProposerCall). Completed b l) (sym e) (majority_more members b rest call (knows.complete b rest is_open s v was))

  pub promised_too : (q : Promise) → WasSaid q.slot (say.Promise q.sender q.ballot q.report) → KnowsCalls members WasSaid me records (asked ++ Promises q ∷ []) heard
  promised_too q was = record {
    promises = λ p has. elim (last_or_before asked (Promises q) (Promises p) has) as (λ _. WasSaid p.slot (say.Promise p.sender p.ballot p.report)) [
      | inl there ↦ knows.promises p there
      | inr last ↦ let same : q ≡ p = cc in subst (λ (x : Promise). WasSaid x.slot (say.Promise x.sender x.ballot x.report)) same was
    ];
    begun = λ b has. elim (last_or_before asked (Promises q) (Begins b) has) as (λ _. (b.ballot.node ≡ me) × Contains records (Began b.ballot)) [
      | inl there ↦ knows.begun b there
      | inr last ↦ absurd (let no : Begins b ≡ Promises q = last in cc)
    ];
    plain = λ b has. elim (last_or_before asked (Promises q) (Begins b) has) as (λ _. b.reach ≡ OneSlot) [
      | inl there ↦ knows.plain b there
      | inr last ↦ absurd (let no : Begins b ≡ Promises q = last in cc)
    ];
    complete = λ b since is_open. still_complete (Promises q) b since (λ e. let no : Promises q ≡ Begins b = e in cc) (open_more asked (Promises q) b since is_open);
    told_of = knows.told_of;
  }

  pub nacked_too : (slot : ℕ) (ballot : Ballot) → KnowsCalls members WasSaid me records (asked ++ Nacks slot ballot ∷ []) heard
  nacked_too slot ballot = record {
    promises = λ p has. elim (last_or_before asked (Nacks slot ballot) (Promises p) has) as (λ _. WasSaid p.slot (say.Promise p.sender p.ballot p.report)) [
      | inl there ↦ knows.promises p there
      | inr last ↦ absurd (let no : Promises p ≡ Nacks slot ballot = last in cc)
    ];
    begun = λ b has. elim (last_or_before asked (Nacks slot ballot) (Begins b) has) as (λ _. (b.ballot.node ≡ me) × Contains records (Began b.ballot)) [
      | inl there ↦ knows.begun b there
      | inr last ↦ absurd (let no : Begins b ≡ Nacks slot ballot = last in cc)
    ];
    plain = λ b has. elim (last_or_before asked (Nacks slot ballot) (Begins b) has) as (λ _. b.reach ≡ OneSlot) [
      | inl there ↦ knows.plain b there
      | inr last ↦ absurd (let no : Begins b ≡ Nacks slot ballot = last in cc)
    ];
    complete = λ b since is_open. still_complete (Nacks slot ballot) b since (λ e. let no : Nacks slot ballot ≡ Begins b = e in cc) (open_more asked (Nacks slot ballot) b since is_open);
    told_of = knows.told_of;
  }

  -- an attempt begins at a ballot of this node, of which there is a record more, and at which nothing was proposed
  module _ (new : Begun) (own : new.ballot.node ≡ me) (one_slot : new.reach ≡ OneSlot) (fresh : (s : ℕ) (v : Value) → WasSaid s (say.Accept new.ballot v) → ⊥) where
    begun_complete : (b : Begun) (since : List ProposerCall) → OpenMore asked (Begins new) b since → (s : ℕ) (v : Value) → WasSaid s (say.Accept b.ballot v) → Completed b since
    begun_complete b since (begins_now e) s v was =
        let same : new ≡ b = cc in
        absurd (fresh s v (subst (λ (x : Begun). WasSaid s (say.Accept x.ballot v)) (sym same) was))
    begun_complete b since (was_open rest e is_open not_ended) s v was = absurd (let no : true ≡ false = not_ended in cc)

    pub begun_too : KnowsCalls members WasSaid me (records ++ Began new.ballot ∷ []) (asked ++ Begins new ∷ []) heard
    begun_too = record {
      promises = λ p has. elim (last_or_before asked (Begins new) (Promises p) has) as (λ _. WasSaid p.slot (say.Promise p.sender p.ballot p.report)) [
        | inl there ↦ knows.promises p there
        | inr last ↦ absurd (let no : Promises p ≡ Begins new = last in cc)
      ];
      begun = λ b has. elim (last_or_before asked (Begins new) (Begins b) has) as (λ _. (b.ballot.node ≡ me) × Contains (records ++ Began new.ballot ∷ []) (Began b.ballot)) [
        | inl there ↦ let it = knows.begun b there in (it.0, before_last records (Began new.ballot) (Began b.ballot) it.1)
        | inr last ↦
            let same : new ≡ b = cc in
            subst (λ (x : Begun). (x.ballot.node ≡ me) × Contains (records ++ Began new.ballot ∷ []) (Began x.ballot)) same (own, last_in records (Began new.ballot))
      ];
      plain = λ b has. elim (last_or_before asked (Begins new) (Begins b) has) as (λ _. b.reach ≡ OneSlot) [
        | inl there ↦ knows.plain b there
        | inr last ↦ let same : new ≡ b = cc in subst (λ (x : Begun). x.reach ≡ OneSlot) same one_slot
      ];
      complete = λ b since is_open. begun_complete b since (open_more asked (Begins new) b since is_open);
      told_of = knows.told_of;
    }

-- one record more changes nothing of the calls
pub calls_with_record : (members : ℕ) (WasSaid : ℕ → Saying → Type 0) (me : ℕ) (records : List Record) (r : Record) (asked : List ProposerCall) (heard : List Told)
    → KnowsCalls members WasSaid me records asked heard → KnowsCalls members WasSaid me (records ++ r ∷ []) asked heard
calls_with_record members WasSaid me records r asked heard knows = record {
  promises = knows.promises;
  begun = λ b has. let it = knows.begun b has in (it.0, before_last records r (Began b.ballot) it.1);
  plain = knows.plain;
  complete = knows.complete;
  told_of = knows.told_of;
}

-- ---- an Accept

module _ (laws : ProposerLaws) (members : ℕ) (WasSaid : ℕ → Saying → Type 0) (me : ℕ) (records : List Record) (asked : List ProposerCall) (heard : List Told)
    (knows : KnowsCalls members WasSaid me records asked heard)
    (q : Promise) (was_sent : WasSaid q.slot (say.Promise q.sender q.ballot q.report)) (answer : ℕ × Ballot × Value) (accepts : LeadsToAccept members asked q answer) where
  abbrev Now : List ProposerCall
  Now = accepts.since ++ Promises q ∷ []

  -- said of the attempt's slot
  abbrev Was : Saying → Type 0
  Was x = WasSaid accepts.begun.slot x

  abbrev Answering : List Promise
  Answering = answering members accepts.begun Now

  abbrev Counted : List Promise
  Counted = first_of_each Answering

  asked_before : (p : Promise) → Contains accepts.since (Promises p) → Contains asked (Promises p)
  asked_before p has =
      subst (λ (l : List ProposerCall). Contains l (Promises p)) (sym accepts.open_is.split)
      (Contains-append_right accepts.open_is.before (Begins accepts.begun ∷ accepts.since) (Promises p) (behind_front (Begins accepts.begun) (Promises p) accepts.since has))

  was_handed : (p : Promise) → Contains Now (Promises p) → WasSaid p.slot (say.Promise p.sender p.ballot p.report)
  was_handed p has = elim (last_or_before accepts.since (Promises q) (Promises p) has) as (λ _. WasSaid p.slot (say.Promise p.sender p.ballot p.report)) [
    | inl there ↦ knows.promises p (asked_before p there)
    | inr last ↦ let same : q ≡ p = cc in subst (λ (x : Promise). WasSaid x.slot (say.Promise x.sender x.ballot x.report)) same was_sent
  ]

  begun_here : Contains asked (Begins accepts.begun)
  begun_here = subst (λ (l : List ProposerCall). Contains l (Begins accepts.begun)) (sym accepts.open_is.split) (in_middle accepts.open_is.before accepts.since (Begins accepts.begun))

  answered : (p : Promise) → Contains Counted p → Contains Now (Promises p) × IsAnswerTo members accepts.begun p
  answered p has = (laws.answers members accepts.begun Now p (knows.plain accepts.begun begun_here)).0 (first_in Answering p has)

  -- what counts was sent, for this slot and at this ballot
  was_promised : (p : Promise) → Contains Counted p → Was (say.Promise p.sender accepts.begun.ballot p.report)
  was_promised p has =
      let it = answered p has in
      subst (λ (s : ℕ). WasSaid s (say.Promise p.sender accepts.begun.ballot p.report)) it.1.slot
      (subst (λ (b : Ballot). WasSaid p.slot (say.Promise p.sender b p.report)) it.1.ballot (was_handed p it.0))

  -- where nothing is reported
  module _ (none : reports_of Counted ≡ []) where
    no_report : (p : Promise) → Contains Counted p → (o : Report) → p.report ≡ o → o ≡ None
    no_report p has None e = refl
    no_report p has (Some x) e =
        absurd (nothing_in x (subst (λ (l : List Reported). Contains l x) none ((laws.reports Counted x).1 (p, has, e))))

    free : MajorityOf members (λ a. Was (say.Promise a accepts.begun.ballot None))
    free = record {
      is_in = is_sender Answering;
      majority = accepts.completes.now;
      each = λ a lt in'.
          let p = first_from a Answering in' in
          subst (λ (x : ℕ). Was (say.Promise x accepts.begun.ballot None)) p.2
          (subst (λ (r : Report). Was (say.Promise p.0.sender accepts.begun.ballot r)) (no_report p.0 p.1 p.0.report refl) (was_promised p.0 p.1));
    }

  -- where something is, with the highest report
  module _ (top : Ballot) (is_reported : Contains (reports_of Counted) (acceptance top answer.2))
      (none_above : (other : Reported) → Contains (reports_of Counted) other → IsBelow top other.ballot → ⊥) where
    up_to : (p : Promise) → Contains Counted p → (o : Report) → p.report ≡ o → IsUpTo o top
    up_to p has None e = tt
    up_to p has (Some x) e = none_above x ((laws.reports Counted x).1 (p, has, e))

    reporter : (p : Promise) × Contains Counted p × (p.report ≡ Some (acceptance top answer.2))
    reporter = (laws.reports Counted (acceptance top answer.2)).0 is_reported

    highest : HasHighest members Was accepts.begun.ballot answer.2
    highest = let it = reporter in record {
      highest = top;
      promised = record {
        is_in = is_sender Answering;
        majority = accepts.completes.now;
        each = λ a lt in'.
            let p = first_from a Answering in' in (
              p.0.report,
              subst (λ (x : ℕ). Was (say.Promise x accepts.begun.ballot p.0.report)) p.2 (was_promised p.0 p.1),
              up_to p.0 p.1 p.0.report refl,
            );
      };
      reporter = it.0.sender;
      is_member = (answered it.0 it.1).1.member;
      is_in = sender_in Answering it.0 (first_in Answering it.0 it.1);
      reported = subst (λ (r : Report). Was (say.Promise it.0.sender accepts.begun.ballot r)) it.2 (was_promised it.0 it.1);
    }

  safe : IsSafeAt members Was accepts.begun.ballot answer.2
  safe = elim (laws.highest accepts.begun.candidate (reports_of Counted) answer.2 accepts.value_is) as (λ _. IsSafeAt members Was accepts.begun.ballot answer.2) [
    | inl none ↦ inl (free none.0)
    | inr some ↦ inr (highest some.0 some.1 some.2)
  ]

  pub nothing_before : (s : ℕ) (v : Value) → WasSaid s (say.Accept answer.1 v) → ⊥
  nothing_before s v was =
      accepts.completes.before (knows.complete accepts.begun accepts.since accepts.open_is s v
      (subst (λ (b : Ballot). WasSaid s (say.Accept b v)) accepts.ballot_is was))

  pub accept_is_allowed : AllowsAccept members (WasSaid answer.0) answer.1 answer.2
  accept_is_allowed = record {
    one_value = λ v was. absurd (nothing_before answer.0 v was);
    safe = subst (λ (s : ℕ). IsSafeAt members (WasSaid s) answer.1 answer.2) (sym accepts.slot_is)
        (subst (λ (b : Ballot). IsSafeAt members Was b answer.2) (sym accepts.ballot_is) safe);
  }

  -- the ballot is the node's own, with a record
  pub accept_is_own : (answer.1.node ≡ me) × Contains records (Began answer.1)
  accept_is_own =
      subst (λ (b : Ballot). (b.node ≡ me) × Contains records (Began b)) (sym accepts.ballot_is)
      (knows.begun accepts.begun begun_here)

  -- with it the open attempt has its majority
  pub complete_now : (b : Begun) (since : List ProposerCall) → IsOpen (asked ++ Promises q ∷ []) b since → HasMajority members (answering members b since)
  complete_now b since is_open =
      let one = laws.attempts (asked ++ Promises q ∷ []) accepts.begun b Now since (laws.goes_on asked accepts.since accepts.begun q accepts.open_is) is_open in
      subst (λ (x : Begun). HasMajority members (answering members x since)) one.0
      (subst (λ (l : List ProposerCall). HasMajority members (answering members accepts.begun l)) one.1 accepts.completes.now)
