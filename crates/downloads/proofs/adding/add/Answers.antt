use Rattle.std.specs.Cmp.Lexicographic.{same_text, other_text, pointwise}
use Rattle.std.proofs.Common.{nat_eq}
use Rattle.downloads.proofs.OneMore.{told_apart, told_same, was_longer, was_not_longer, begins_after, goes_on_as, stands_alone}
use Rattle.downloads.proofs.adding.add.Goals as goal

pub returns-then-ne : goal.returns-then-ne
returns-then-ne c =
    begins_after c.args.uploads.items c.pop.new.self.items c.push.new.self.items c.in_ok-begin-2.field-0.items c.in-Some.last c.args.said
    c.in-Some.ensures.items c.in_ok-push.ensures.items
    (other_text c.in-Some.last.id c.args.said.id (told_apart (pointwise nat_eq c.in-Some.last.id c.args.said.id) c.if-ne.ensures))
    c.in_ok-begin-2.ensures

pub returns-in_ok-push-in-Some-2 : goal.returns-in_ok-push-in-Some-2
returns-in_ok-push-in-Some-2 c =
    goes_on_as c.args.uploads.items c.pop.new.self.items c.in-Some.last c.in-Some-2.last c.args.said c.in-Some.ensures.items
    (same_text c.in-Some.last.id c.args.said.id (told_same (pointwise nat_eq c.in-Some.last.id c.args.said.id) c.if-ne.ensures))
    c.push-in-Some-2.new.self.items c.in_ok-push-in-Some-2.ensures.items
    (was_longer c.in-Some.last c.in-Some-2.last c.args.said.batch c.lengthen.result c.in_ok-last.field-0 c.in_ok-last.was c.in-Some-2.is c.lengthen.ensures)

pub returns-in-None : goal.returns-in-None
returns-in-None c =
    stands_alone c.args.uploads.items c.pop.new.self.items c.in-Some.last c.in-Some.last c.args.said c.in-Some.ensures.items
    (same_text c.in-Some.last.id c.args.said.id (told_same (pointwise nat_eq c.in-Some.last.id c.args.said.id) c.if-ne.ensures))
    (was_not_longer c.in-Some.last c.args.said.batch c.lengthen.result c.in_ok-last.field-0 c.in_ok-last.was c.in-None.is c.lengthen.ensures)
