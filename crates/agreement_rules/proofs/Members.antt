-- A message is of the configuration where its sender is, its slot, and each ballot that it names; and the round in it is the
-- greatest that it names.
use Rattle.std.proofs.Common.{◌≡◌, ℕ, ◌<◌, ◌≤◌, max, ◌⊎◌, ◌↔◌, inl, inr, Option, Some, None, refl, sym, subst, ◌∙◌, arith}
use Rattle.std.proofs.lemmas.Bool.{cases_lt}
use Rattle.ballots.specs.Ballot.{Ballot}
use Rattle.ballots.specs.declared.acceptance.Acceptance.{Acceptance}
use Rattle.ballots.specs.declared.message.Message.{Message}
use Rattle.ballots.specs.declared.message.Body.{Body}
use Rattle.ballots.specs.declared.message.Body.TheVariants.{Prepare, Promise, Nack, Accept, Accepted, Ask, Decided}
use Rattle.agreement_rules.specs.Views.{AgreementConfig, Views}
use Rattle.agreement_rules.specs.Due.{IsReportOf, IsBodyOf, IsMessageOf, round_of_report, round_in, has_seen}
use Rattle.agreement_rules.specs.Naming.{ReportNames, Names}

-- each ballot that it names is a member's
abbrev pub NamesMembers : ℕ → Body → Type 0
NamesMembers members said = (ballot : Ballot) → Names said ballot → ballot.node < members

-- the same ballot is of the same member
same_member : (members : ℕ) (a b : Ballot) → a ≡ b → b.node < members → a.node < members
same_member members a b same within = subst (λ (x : Ballot). x.node < members) (sym same) within

report_members : (members : ℕ) (report : Option Acceptance) → IsReportOf members report → (ballot : Ballot) → ReportNames report ballot → ballot.node < members
report_members members None is ballot names = absurd names
report_members members (Some report) is ballot names = same_member members ballot report.ballot names is

members_report : (members : ℕ) (report : Option Acceptance) → ((ballot : Ballot) → ReportNames report ballot → ballot.node < members) → IsReportOf members report
members_report members None each = tt
members_report members (Some report) each = each report.ballot refl

names_members : (members : ℕ) (said : Body) → IsBodyOf members said → NamesMembers members said
names_members members (Prepare b) is ballot names = same_member members ballot b names is
names_members members (Promise b report) is ballot (inl names) = same_member members ballot b names is.0
names_members members (Promise b report) is ballot (inr names) = report_members members report is.1 ballot names
names_members members (Nack b promised) is ballot (inl names) = same_member members ballot b names is.0
names_members members (Nack b promised) is ballot (inr names) = same_member members ballot promised names is.1
names_members members (Accept proposal) is ballot names = same_member members ballot proposal.ballot names is
names_members members (Accepted acceptance) is ballot names = same_member members ballot acceptance.ballot names is
names_members members Ask is ballot names = absurd names
names_members members (Decided value) is ballot names = absurd names

members_named : (members : ℕ) (said : Body) → NamesMembers members said → IsBodyOf members said
members_named members (Prepare b) each = each b refl
members_named members (Promise b report) each = (each b (inl refl), members_report members report (λ ballot names. each ballot (inr names)))
members_named members (Nack b promised) each = (each b (inl refl), each promised (inr refl))
members_named members (Accept proposal) each = each proposal.ballot refl
members_named members (Accepted acceptance) each = each acceptance.ballot refl
members_named members Ask each = tt
members_named members (Decided value) each = tt

pub taken_where : (config : AgreementConfig) (m : Message)
    → (IsMessageOf config m ↔ ((m.sender < config.members) × (m.slot < config.slot_limit) × NamesMembers config.members m.body))
taken_where config m = (
  λ is. (is.sender, is.slot, names_members config.members m.body is.body),
  λ of. record { sender = of.0; slot = of.1; body = members_named config.members m.body of.2 },
)

-- ---- the greatest round

same_round : (a b : Ballot) (n : ℕ) → a ≡ b → b.round ≤ n → a.round ≤ n
same_round a b n same le = subst (λ (x : Ballot). x.round ≤ n) (sym same) le

left_max : (m n : ℕ) → m ≤ max m n
left_max m n = omega arith

right_max : (m n : ℕ) → n ≤ max m n
right_max m n = omega arith

report_round : (report : Option Acceptance) (ballot : Ballot) → ReportNames report ballot → ballot.round ≤ round_of_report report
report_round None ballot names = absurd names
report_round (Some report) ballot names = same_round ballot report.ballot report.ballot.round names (omega arith)

pub at_least_named : (said : Body) (ballot : Ballot) → Names said ballot → ballot.round ≤ round_in said
at_least_named (Prepare b) ballot names = same_round ballot b b.round names (omega arith)
at_least_named (Promise b report) ballot (inl names) = same_round ballot b (max b.round (round_of_report report)) names (left_max b.round (round_of_report report))
at_least_named (Promise b report) ballot (inr names) =
    let le : ballot.round ≤ round_of_report report = report_round report ballot names in
    let more : round_of_report report ≤ max b.round (round_of_report report) = right_max b.round (round_of_report report) in
    omega (arith, le, more)
at_least_named (Nack b promised) ballot (inl names) = same_round ballot b (max b.round promised.round) names (left_max b.round promised.round)
at_least_named (Nack b promised) ballot (inr names) = same_round ballot promised (max b.round promised.round) names (right_max b.round promised.round)
at_least_named (Accept proposal) ballot names = same_round ballot proposal.ballot proposal.ballot.round names (omega arith)
at_least_named (Accepted acceptance) ballot names = same_round ballot acceptance.ballot acceptance.ballot.round names (omega arith)
at_least_named Ask ballot names = absurd names
at_least_named (Decided value) ballot names = absurd names

-- it is that of a ballot that is named, or none is
abbrev pub IsOfNamed : Body → Type 0
IsOfNamed said = ((ballot : Ballot) × Names said ballot × (round_in said ≡ ballot.round))
    ⊎ ((round_in said ≡ 0) × ((ballot : Ballot) → Names said ballot → ⊥))

greater : (m n : ℕ) → (max m n ≡ m) ⊎ (max m n ≡ n)
greater m n = elim (cases_lt m n) as (λ _. (max m n ≡ m) ⊎ (max m n ≡ n)) [ inl lt ↦ inr (omega (arith, lt)) | inr ge ↦ inl (omega (arith, ge)) ]

of_promise : (b : Ballot) (report : Option Acceptance) → IsOfNamed (Promise b report)
of_promise b None = inl (b, inl refl, omega arith)
of_promise b (Some report) = elim (greater b.round report.ballot.round) as (λ _. IsOfNamed (Promise b (Some report))) [
  | inl first ↦ inl (b, inl refl, first)
  | inr second ↦ inl (report.ballot, inr refl, second)
]

pub of_named : (said : Body) → IsOfNamed said
of_named (Prepare b) = inl (b, refl, refl)
of_named (Promise b report) = of_promise b report
of_named (Nack b promised) = elim (greater b.round promised.round) as (λ _. IsOfNamed (Nack b promised)) [
  | inl first ↦ inl (b, inl refl, first)
  | inr second ↦ inl (promised, inr refl, second)
]
of_named (Accept proposal) = inl (proposal.ballot, refl, refl)
of_named (Accepted acceptance) = inl (acceptance.ballot, refl, refl)
of_named Ask = inr (refl, λ ballot names. names)
of_named (Decided value) = inr (refl, λ ballot names. names)

-- ---- what was seen

pub seen_named : (views : Views) (m : Message) (ballot : Ballot) → Names m.body ballot → ballot.round ≤ (has_seen views m).seen_round
seen_named views m ballot names =
    let le : ballot.round ≤ round_in m.body = at_least_named m.body ballot names in
    let more : round_in m.body ≤ max views.seen_round (round_in m.body) = right_max views.seen_round (round_in m.body) in
    omega (arith, le, more)

-- what was seen before, or in the message
pub seen_before : (views : Views) (m : Message) → views.seen_round ≤ (has_seen views m).seen_round
seen_before views m = left_max views.seen_round (round_in m.body)

pub seen_only : (views : Views) (m : Message)
    → ((has_seen views m).seen_round ≡ views.seen_round) ⊎ ((ballot : Ballot) × Names m.body ballot × ((has_seen views m).seen_round ≡ ballot.round))
seen_only views m = elim (greater views.seen_round (round_in m.body))
    as (λ _. ((has_seen views m).seen_round ≡ views.seen_round) ⊎ ((ballot : Ballot) × Names m.body ballot × ((has_seen views m).seen_round ≡ ballot.round))) [
      | inl before ↦ inl before
      | inr now ↦ elim (of_named m.body) as (λ _. ((has_seen views m).seen_round ≡ views.seen_round) ⊎ ((ballot : Ballot) × Names m.body ballot × ((has_seen views m).seen_round ≡ ballot.round))) [
        | inl named ↦ inr (named.0, named.1, now ∙ named.2)
        | inr none ↦ inl (let zero_is = none.0 in omega (arith, now, zero_is))
      ]
    ]
