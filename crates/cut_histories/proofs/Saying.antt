-- What a node has after a plan: its records are those of before, and those that stand behind what it sends.
use Rattle.std.proofs.Common.{◌≡◌, ℕ, ◌⊎◌, inl, inr, List, [], ◌++◌, filter_map, sym, ap, subst}
use Rattle.std.specs.List.{Contains, cons_option}
use Rattle.std.proofs.lemmas.List.Elements.{Contains-append_left, Contains-append_cases}
use Rattle.ballots.specs.declared.message.Message.{Message}
use Rattle.ballots.specs.declared.message.Body.{Body}
use Rattle.ballots.specs.declared.message.Body.TheVariants as body
use Rattle.ballots.specs.declared.record.Record.{Record}
use Rattle.agreement_rules.specs.Views.{AgreementConfig, Views}
use Rattle.agreement_rules.specs.Due.{Plan, Plans, TickIsDue, PartIsDue, has_seen}
use Rattle.agreement_rules.specs.Keeping.{record_of}
use Rattle.histories.specs.Due.{Input, IsDue, PutIsDue, BodyIsDue}
use Rattle.histories.specs.Due as input
use Rattle.cut_histories.specs.Settling.{IsSaid}
use Rattle.cut_histories.proofs.Lists.{comes_of}

-- ---- what the parts of a node owe

-- the records of what is sent are the plan's, which is put behind those of before, and the node sends in its own name
pub record IsKept (me : ℕ) (views : Views) (plan : Plan) : Type 0 where
  pub sends : filter_map record_of plan.sends ≡ cons_option plan.kept []
  pub records : plan.after.records ≡ views.records ++ cons_option plan.kept []
  pub own : (m : Message) → Contains plan.sends m → m.sender ≡ me

pub record KeepingLaws : Type 0 where
  pub tick : (config : AgreementConfig) (me : ℕ) (views : Views) (left : ℕ) (plan : Plan) → TickIsDue config me views left (Plans plan) → IsKept me views plan
  pub part : (config : AgreementConfig) (me : ℕ) (views : Views) (sender slot : ℕ) (b : Body) (plan : Plan) → PartIsDue config me views sender slot b plan → IsKept me views plan

-- ---- messages more

pub said_with_more : (sent more : List Message) (node : ℕ) (r : Record) → IsSaid sent node r → IsSaid (sent ++ more) node r
said_with_more sent more node r (m, has, own, is) = (m, Contains-append_left sent more m has, own, is)

-- each record is one of before, or stands behind a message that this node sends
abbrev pub Tells : ℕ → List Record → List Message → List Record → Type 0
Tells me old sends new = (r : Record) → Contains new r → Contains old r ⊎ IsSaid sends me r

pub same_tells : (me : ℕ) (old : List Record) (sends : List Message) (new : List Record) → new ≡ old → Tells me old sends new
same_tells me old sends new same = λ r has. inl (subst (λ (l : List Record). Contains l r) same has)

kept_tells : (me : ℕ) (views : Views) (plan : Plan) → (filter_map record_of plan.sends ≡ cons_option plan.kept []) → plan.after.records ≡ views.records ++ cons_option plan.kept []
    → ((m : Message) → Contains plan.sends m → m.sender ≡ me) → Tells me views.records plan.sends plan.after.records
kept_tells me views plan sends records own = λ r has.
    elim (Contains-append_cases views.records (cons_option plan.kept []) r (subst (λ (l : List Record). Contains l r) records has))
    as (λ _. Contains views.records r ⊎ IsSaid plan.sends me r) [
      | inl before ↦ inl before
      | inr kept ↦
          let from = comes_of record_of plan.sends r (subst (λ (l : List Record). Contains l r) (sym sends) kept) in
          inr (from.0, from.1, own from.0 from.1, from.2)
    ]

plan_tells : (me : ℕ) (views : Views) (plan : Plan) → IsKept me views plan → Tells me views.records plan.sends plan.after.records
plan_tells me views plan kept = kept_tells me views plan kept.sends kept.records kept.own

-- ---- of each input

pub put_keeps : (config : AgreementConfig) (views : Views) (text : List ℕ) (plan : Plan) → PutIsDue config views text (Plans plan) → plan.after.records ≡ views.records
put_keeps config views text plan (inl (known, is)) = ap (λ (p : Plan). p.after.records) is
put_keeps config views text plan (inr (new, unknown, left, is)) = ap (λ (p : Plan). p.after.records) is

module _ (laws : KeepingLaws) (config : AgreementConfig) (me : ℕ) where
  body_tells : (views : Views) (sender slot : ℕ) (b : Body) (plan : Plan) → BodyIsDue config me views sender slot b plan → Tells me views.records plan.sends plan.after.records
  body_tells views sender slot (body.Prepare ballot) plan is_due = plan_tells me views plan (laws.part config me views sender slot (body.Prepare ballot) plan is_due)
  body_tells views sender slot (body.Promise ballot report) plan is_due = plan_tells me views plan (laws.part config me views sender slot (body.Promise ballot report) plan is_due)
  body_tells views sender slot (body.Nack ballot promised) plan is_due = plan_tells me views plan (laws.part config me views sender slot (body.Nack ballot promised) plan is_due)
  body_tells views sender slot (body.Accept proposal) plan is_due = plan_tells me views plan (laws.part config me views sender slot (body.Accept proposal) plan is_due)
  body_tells views sender slot (body.Accepted acceptance) plan (uploads, left, has, waits, is) =
      same_tells me views.records plan.sends plan.after.records (ap (λ (p : Plan). p.after.records) is)
  body_tells views sender slot body.Ask plan is_due = plan_tells me views plan (laws.part config me views sender slot body.Ask plan is_due)
  body_tells views sender slot (body.Decided value) plan (uploads, left, has, waits, is) =
      same_tells me views.records plan.sends plan.after.records (ap (λ (p : Plan). p.after.records) is)

  pub input_tells : (views : Views) (asked : Input) (plan : Plan) → IsDue config me views asked (Plans plan) → Tells me views.records plan.sends plan.after.records
  input_tells views (input.Put text) plan is_due = same_tells me views.records plan.sends plan.after.records (put_keeps config views text plan is_due)
  input_tells views (input.Tick left) plan is_due = plan_tells me views plan (laws.tick config me views left plan is_due)
  input_tells views (input.Deliver m) plan (is_of, is_due) = body_tells (has_seen views m) m.sender m.slot m.body plan is_due
