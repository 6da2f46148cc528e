use Rattle.std.proofs.Common.{◌≡◌, ◌<◌, ◌≤◌, ℕ, List, length, map, take, sym, subst, ◌∙◌, arith}
use Rattle.std.proofs.lemmas.List.{length-map, length-take-le, take_all}
use Rattle.std.proofs.lemmas.Result.{err_from_is_err_and}
use Rattle.ballots.specs.declared.record.Record.{Record}
use Rattle.chosen_records.specs.Tallies.{IsTallyOf}
use Rattle.chosen_records.proofs.Counted.{nothing_counted}
use Rattle.chosen_records.proofs.Recording.{next_taken, seen_there, tells_first_nodes}
use Rattle.chosen_records.proofs.counting.tallied.Goals as goal

pub returns-in_err-count_own-clause-differ : goal.returns-in_err-count_own-clause-differ
returns-in_err-count_own-clause-differ c =
    let n : ℕ = c.loop-number.number in
    let fits : n < length c.args.records.now = omega arith in
    let seen : List (List Record) = map (λ own. own.items) c.args.records.now in
    let within : n < length seen = omega (arith, length-map c.args.records.now (λ own. own.items)) in
    let own = c.as_slice-own.result.now in
    let there = seen_there (λ own. own.items) c.args.records.now n c.from.result c.index-records-from.result own fits c.from.ensures c.index-records-from.is c.as_slice-own.ensures.value in
    let taken : length (take n seen) ≡ n = length-take-le n seen (omega (arith, within)) in
    let p = err_from_is_err_and c.from_residual.result c.from_residual.ensures.1 in
    rw (p.1, p.2)
    (tells_first_nodes seen n own _ within there
    (c.in_err-count_own.ensures.differ (take n seen) (taken ∙ sym c.node_of.ensures) c.loop-number.invariant))

pub loop-number-preserved : goal.loop-number-preserved
loop-number-preserved c =
    let n : ℕ = c.loop-number.number in
    let fits : n < length c.args.records.now = omega arith in
    let seen : List (List Record) = map (λ own. own.items) c.args.records.now in
    let within : n < length seen = omega (arith, length-map c.args.records.now (λ own. own.items)) in
    let own = c.as_slice-own.result.now in
    let there = seen_there (λ own. own.items) c.args.records.now n c.from.result c.index-records-from.result own fits c.from.ensures c.index-records-from.is c.as_slice-own.ensures.value in
    let taken : length (take n seen) ≡ n = length-take-le n seen (omega (arith, within)) in
    subst (λ (l : List (List Record)). IsTallyOf l c.count_own.new.tallies) (next_taken seen n own within there)
    (c.in_ok-count_own.ensures.counted (take n seen) (taken ∙ sym c.node_of.ensures) c.loop-number.invariant)

pub loop-number-init : goal.loop-number-init
loop-number-init c = nothing_counted c.new-tallies.result c.new-tallies.ensures.empty

pub returns-clause-counted : goal.returns-clause-counted
returns-clause-counted c =
    let seen : List (List Record) = map (λ own. own.items) c.args.records.now in
    let over : length seen ≤ c.loop-number.number = omega (arith, length-map c.args.records.now (λ own. own.items)) in
    subst (λ (l : List (List Record)). IsTallyOf l c.loop-number.tallies) (take_all c.loop-number.number seen over) c.loop-number.invariant
