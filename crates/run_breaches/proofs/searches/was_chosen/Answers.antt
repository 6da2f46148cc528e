use Rattle.run_breaches.proofs.Chosen.{chosen_where_decided, chosen_where_shown, shown_where_chosen}
use Rattle.run_breaches.proofs.searches.was_chosen.Goals as goal

pub returns-then-was_decided : goal.returns-then-was_decided
returns-then-was_decided c =
    let rules = (c.lawful_by_messages.ensures.lawful c.args.members c.args.before.now).0 c.requires in (
      (λ e. chosen_where_decided c.args.members c.args.slot c.args.before.now c.args.value.now rules (c.was_decided.ensures.0 c.if-was_decided.true)),
      (λ h. c.if-was_decided.true),
    )

pub returns-else-was_decided : goal.returns-else-was_decided
returns-else-was_decided c = (
  (λ e. chosen_where_shown c.args.members c.args.slot c.args.before.now c.args.value.now (c.is_shown.ensures.0 e)),
  (λ h. c.is_shown.ensures.1 (shown_where_chosen c.args.members c.args.slot c.args.before.now c.args.value.now h)),
)
