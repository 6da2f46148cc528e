use Rattle.std.proofs.Common.{◌≡◌, filter, sym, subst, ◌∙◌, rules}
use Rattle.std.proofs.lemmas.Fn.{filter_same}
use Rattle.ballots.specs.Ballot.{IsAbove}
use Rattle.acceptor.specs.Ranges.{RangesState, Rise, ranged_at}
use Rattle.acceptor.specs.Raising.{RaisesFrom}
use Rattle.acceptor.proofs.Inserting.{stays, rise_filtered, put_among}
use Rattle.acceptor.proofs.ranges.Ranges.insert_from.Goals as goal

pub begun_below-earlier-requires : goal.begun_below-earlier-requires
begun_below-earlier-requires c =
    let left : c.retain.new.self.items ≡ filter (stays c.args.first c.args.ballot) c.self.inside.ranges.items =
    filter_same _ (stays c.args.first c.args.ballot) _ (λ x b f' k. search rules) _ _ c.retain.ensures.filtered in
    subst Rise (sym (c.deref.ensures.value ∙ left)) (rise_filtered (stays c.args.first c.args.ballot) c.self.inside.ranges.items c.self.invariant)

put : (c : goal.In-Ok) → Rise c.insert.new.self.items × RaisesFrom (ranged_at c.self.inside.ranges.items) (ranged_at c.insert.new.self.items) c.args.first c.args.ballot
put c =
    let left : c.retain.new.self.items ≡ filter (stays c.args.first c.args.ballot) c.self.inside.ranges.items =
    filter_same _ (stays c.args.first c.args.ballot) _ (λ x b f' k. search rules) _ _ c.retain.ensures.filtered in
    put_among c.self.inside.ranges.items c.retain.new.self.items c.deref.result.now c.insert.new.self.items c.begun_below-earlier.result c.args.first c.number.result c.args.ballot c.self.invariant
    c.number.ensures.within (subst (λ (s : RangesState). IsAbove c.args.ballot (ranged_at s.ranges c.args.first)) (sym c.self.view_is) c.requires.above) left c.deref.ensures.value c.number.ensures.value
    c.begun_below-earlier.ensures.earlier c.begun_below-earlier.ensures.later c.in-Ok.ensures.items

pub invariant_of-self : goal.invariant_of-self
invariant_of-self c = (put c).0

pub returns-clause-raises : goal.returns-clause-raises
returns-clause-raises c =
    subst (λ (s : RangesState). RaisesFrom (ranged_at s.ranges) (ranged_at c.insert.new.self.items) c.args.first c.args.ballot) c.self.view_is (put c).1
