use Rattle.std.proofs.Common.{take, subst}
use Rattle.run_breaches.specs.Rules.{BodyTells}
use Rattle.run_breaches.proofs.Found.{next_is_lawful, is_first}
use Rattle.run_breaches.proofs.finding.breach_at.Goals as goal

pub returns-in-Some : goal.returns-in-Some
returns-in-Some c =
    let m = c.index-sent-place.result in
    let told = subst (BodyTells c.args.members m.slot (take c.args.place c.args.sent.now) m.sender m.body) c.in-Some.is c.broken_rules.ensures in
    is_first c.args.members c.args.sent.now c.args.place m c.requires.within c.index-sent-place.is c.requires.before
    c.a_message_follows_where_it_keeps_the_rules.ensures.lawful c.a_message_follows_where_it_keeps_the_rules.ensures.broken c.in-Some.broken told.0 told.1

pub returns-in-None : goal.returns-in-None
returns-in-None c =
    let m = c.index-sent-place.result in
    let told = subst (BodyTells c.args.members m.slot (take c.args.place c.args.sent.now) m.sender m.body) c.in-None.is c.broken_rules.ensures in
    next_is_lawful c.args.members c.args.sent.now c.args.place m c.requires.within c.index-sent-place.is c.requires.before
    c.a_message_follows_where_it_keeps_the_rules.ensures.lawful told
