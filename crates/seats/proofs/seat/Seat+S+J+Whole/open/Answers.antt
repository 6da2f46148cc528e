use Rattle.std.proofs.Common.{◌≡◌, List, [], sym, ap, subst, ◌∙◌}
use Rattle.std.specs.Option.{IfSome}
use Rattle.journal.specs.parts.agreement_rules.specs.Views.{started_with}
use Rattle.journal.specs.parts.histories.specs.Following.{UpOrDown, IsUp}
use Rattle.journal.specs.parts.histories.specs.Owning.{OwnEntry, OwnReaches}
use Rattle.stored_nodes.specs.State.{StoredNodeState, IsPlaced, Stands}
use Rattle.journal.specs.parts.traces.specs.Told.{config_of}
use Rattle.journal.specs.Journaled.{seats_in}
use Rattle.seats.proofs.seat.Seat+S+J+Whole.open.Goals as goal

pub invariant_of-result : goal.invariant_of-result
invariant_of-result g c =
    let me : c.in-Some-2.node.me ≡ c.args.me = subst (λ o. IfSome o (λ (s : StoredNodeState g.row.S.Denot). s.me ≡ c.args.me)) c.in-Some-2.is c.in_ok-node.ensures.me in
    let config : c.in-Some-2.node.config ≡ c.in-Some.agreed = subst (λ o. IfSome o (λ (s : StoredNodeState g.row.S.Denot). s.config ≡ c.in-Some.agreed)) c.in-Some-2.is c.in_ok-node.ensures.config in (
      sym me,
      (
        IsUp (started_with []),
        record {
          config_is = config ∙ c.in-Some.ensures.value;
          placed = subst (λ o. IfSome o (λ (s : StoredNodeState g.row.S.Denot). IsPlaced s)) c.in-Some-2.is c.in_ok-node.ensures.placed;
          led = subst (λ (es : List OwnEntry). OwnReaches (config_of c.args.config) (seats_in g.J.Beginning.start c.args.me) es (IsUp (started_with []))) (sym c.held.ensures.entries) (sym (ap (λ (begun : List UpOrDown). seats_in begun c.args.me) c.requires.start));
          stands = subst (λ o. IfSome o (λ (s : StoredNodeState g.row.S.Denot). Stands s (IsUp (started_with [])))) c.in-Some-2.is c.in_ok-node.ensures.stands;
        },
      ),
      tt,
      c.held.ensures.keeps,
    )
