use Rattle.std.proofs.Common.{◌≡◌, Bool, true, false, Option, None, Some, sym, ap, subst, ◌∙◌}
use Rattle.std.proofs.lemmas.Slice.Eq.{strip_prefix_is, slice_eq-Decides}
use Rattle.ballots.specs.declared.record.Record.{Record}
use Rattle.stored_nodes.specs.Kept.{RecoversAs}
use Rattle.stored_nodes.proofs.Recovering.{begins_otherwise, nothing_behind, last_behind, goes_on_otherwise, listed, listed_is, empty_by, some_by}
use Rattle.stored_nodes.proofs.kept.recovered_in.Goals as goal

pub returns-in_err-behind-clause-recovers : goal.returns-in_err-behind-clause-recovers
returns-in_err-behind-clause-recovers c =
    subst (λ (r : Option Bool). RecoversAs c.args.kept.now c.args.doubted.now c.args.recalled.now r) (sym c.from_residual.ensures)
    (begins_otherwise c.args.kept.now c.args.doubted.now c.args.recalled.now
    (strip_prefix_is c.equal_records_are_one.ensures c.args.recalled.now c.args.kept.now None c.in_err-behind.ensures.cases))

pub returns-then-is_empty-clause-recovers : goal.returns-then-is_empty-clause-recovers
returns-then-is_empty-clause-recovers c =
    nothing_behind c.args.kept.now c.args.doubted.now c.args.recalled.now c.in_ok-behind.behind.now
    (strip_prefix_is c.equal_records_are_one.ensures c.args.recalled.now c.args.kept.now (Some c.in_ok-behind.behind) c.in_ok-behind.ensures.cases)
    (empty_by c.in_ok-behind.behind.now c.if-is_empty.ensures)

pub returns-then-eq-clause-recovers : goal.returns-then-eq-clause-recovers
returns-then-eq-clause-recovers c =
    last_behind c.args.kept.now c.args.doubted.now c.args.recalled.now c.in_ok-behind.behind.now
    (strip_prefix_is c.equal_records_are_one.ensures c.args.recalled.now c.args.kept.now (Some c.in_ok-behind.behind) c.in_ok-behind.ensures.cases)
    ((slice_eq-Decides c.equal_records_are_one.ensures c.in_ok-behind.behind.now c.as_slice.result.now c.eq.result c.eq.ensures).0 c.if-eq.true
    ∙ listed_is c.args.doubted.now c.as_slice.result.now c.as_slice.ensures)

pub returns-then-eq-clause-certain : goal.returns-then-eq-clause-certain
returns-then-eq-clause-certain c = λ none same.
    some_by c.in_ok-behind.behind.now c.if-is_empty.ensures
    ((slice_eq-Decides c.equal_records_are_one.ensures c.in_ok-behind.behind.now c.as_slice.result.now c.eq.result c.eq.ensures).0 c.if-eq.true
    ∙ (listed_is c.args.doubted.now c.as_slice.result.now c.as_slice.ensures ∙ ap (λ (d : Option Record). listed d) none))

true_is_false : true ≡ false → ⊥
true_is_false is = cc

pub returns-else-eq-clause-recovers : goal.returns-else-eq-clause-recovers
returns-else-eq-clause-recovers c =
    goes_on_otherwise c.args.kept.now c.args.doubted.now c.args.recalled.now c.in_ok-behind.behind.now
    (strip_prefix_is c.equal_records_are_one.ensures c.args.recalled.now c.args.kept.now (Some c.in_ok-behind.behind) c.in_ok-behind.ensures.cases)
    (some_by c.in_ok-behind.behind.now c.if-is_empty.ensures)
    (λ is. true_is_false (sym ((slice_eq-Decides c.equal_records_are_one.ensures c.in_ok-behind.behind.now c.as_slice.result.now c.eq.result c.eq.ensures).1
    (is ∙ sym (listed_is c.args.doubted.now c.as_slice.result.now c.as_slice.ensures))) ∙ c.if-eq.false))
