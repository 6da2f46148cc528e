use Rattle.std.proofs.Common.{[], ◌∷◌, ◌++◌}
use Rattle.run_breaches.proofs.Following.{rules_with_it, keeps_it}
use Rattle.run_breaches.proofs.Breaking.{breaking_is_not_keeping}
use Rattle.run_breaches.proofs.laws.a_message_follows_where_it_keeps_the_rules.Goals as goal

pub returns-clause-lawful : goal.returns-clause-lawful
returns-clause-lawful c = λ n before m lawful. (
  (λ with_it. keeps_it n before m ((c.lawful_by_messages.ensures.lawful n (before ++ m ∷ [])).0 with_it)),
  (λ keeps. (c.lawful_by_messages.ensures.lawful n (before ++ m ∷ [])).1 (rules_with_it n before m ((c.lawful_by_messages.ensures.lawful n before).0 lawful) keeps)),
)

pub returns-clause-broken : goal.returns-clause-broken
returns-clause-broken c = λ n before m broken breaks some keeps. breaking_is_not_keeping n m.slot before m.sender m.body broken breaks some keeps
