use Rattle.std.proofs.Common.{◌≡◌, List, sym, ap, subst, ◌∙◌}
use Rattle.journal.specs.parts.histories.specs.Following.{UpOrDown}
use Rattle.journal.specs.Journaled.{seats_in}
use Rattle.seats.specs.State.{RunningSeat}
use Rattle.seats.proofs.seat.Seat.has_own.Goals as goal

pub returns : goal.returns
returns g c =
    let journal = c.args.journal.now in
    let starts : seats_in journal.start c.args.self.now.node.me ≡ c.args.self.now.start =
    subst (λ (s : RunningSeat g.row.S.Denot). seats_in journal.start s.node.me ≡ s.start) c.self.view_is
    (ap (λ (begun : List UpOrDown). seats_in begun c.self.inside.node.me) c.starts_as_named.ensures.start ∙ ap (seats_in g.J.Beginning.start) (sym c.self.invariant.0)) in (
      λ is. (let has = c.has_entries.ensures.0 is in ((has.0, has.1, starts), has.2)),
      λ agrees. c.has_entries.ensures.1 (agrees.0.0, agrees.0.1, agrees.1),
    )
