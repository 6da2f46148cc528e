use Rattle.std.proofs.Common.{◌≡◌, ℕ, List, [], ◌∷◌, ◌++◌, take, drop, ◌<◌, ◌≤◌, sym, ap, subst, ◌∙◌}
use Rattle.std.specs.List.{AllByRecursion}
use Rattle.ballots.specs.Ballot.{Ballot}
use Rattle.acceptor.specs.Ranges.{RangesState, Rise, ranged_at}
use Rattle.acceptor.specs.Ranged.{AreBelow, BindsFrom}
use Rattle.acceptor.proofs.Ranging.{rise_with, binds_with}
use Rattle.acceptor.proofs.ranges.Ranges.put_from.Goals as goal

pub invariant_of-self : goal.invariant_of-self
invariant_of-self c =
    let n = c.begun_below-earlier.result in
    let range : ℕ × Ballot = (c.args.first, c.args.ballot) in
    let items : c.push_reserved.new.self.items ≡ take n c.deref.result.now ++ range ∷ [] =
    c.push_reserved.ensures.items ∙ ap (λ (l : List (ℕ × Ballot)). l ++ range ∷ []) (c.truncate.ensures.items ∙ ap (λ (l : List (ℕ × Ballot)). take n l) (sym c.deref.ensures.value)) in
    let below : AreBelow (ranged_at c.deref.result.now) c.args.first c.args.ballot =
    subst (λ (l : List (ℕ × Ballot)). AreBelow (ranged_at l) c.args.first c.args.ballot) (sym (c.deref.ensures.value ∙ ap (λ (s : RangesState). s.ranges) c.self.view_is)) c.requires.below in
    let rise : Rise c.deref.result.now = subst Rise (sym c.deref.ensures.value) c.self.invariant in
    let earlier = subst (λ (k : ℕ). AllByRecursion (λ (r : ℕ × Ballot). r.0 < k) (take n c.deref.result.now)) c.number.ensures.value c.begun_below-earlier.ensures.earlier in
    subst Rise (sym items) (rise_with c.deref.result.now n c.args.first c.args.ballot c.number.ensures.within rise below earlier)

pub returns-clause-binds : goal.returns-clause-binds
returns-clause-binds c =
    let n = c.begun_below-earlier.result in
    let range : ℕ × Ballot = (c.args.first, c.args.ballot) in
    let items : c.push_reserved.new.self.items ≡ take n c.deref.result.now ++ range ∷ [] =
    c.push_reserved.ensures.items ∙ ap (λ (l : List (ℕ × Ballot)). l ++ range ∷ []) (c.truncate.ensures.items ∙ ap (λ (l : List (ℕ × Ballot)). take n l) (sym c.deref.ensures.value)) in
    let later = subst (λ (k : ℕ). AllByRecursion (λ (r : ℕ × Ballot). k ≤ r.0) (drop n c.deref.result.now)) c.number.ensures.value c.begun_below-earlier.ensures.later in
    subst (λ (l : List (ℕ × Ballot)). BindsFrom (ranged_at l) (ranged_at c.push_reserved.new.self.items) c.args.first c.args.ballot)
    (c.deref.ensures.value ∙ ap (λ (s : RangesState). s.ranges) c.self.view_is)
    (binds_with c.deref.result.now c.push_reserved.new.self.items n c.args.first c.args.ballot later items)
