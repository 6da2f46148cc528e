use Rattle.std.proofs.Common.{◌≡◌, ℕ, ◌++◌, ◌∷◌, [], inl, inr, OnOk, IfErr, sym, subst, ◌∙◌}
use Rattle.ballots.specs.declared.acceptance.Acceptance.{Acceptance}
use Rattle.ballots.specs.declared.record.Record.{Record}
use Rattle.ballots.specs.declared.record.Record.TheVariants.{Began, Promised, Accepted, PromisedFrom}
use Rattle.chosen_records.specs.Chosen.{TellsDiffer}
use Rattle.chosen_records.specs.Tallies.{IsTallyOf}
use Rattle.chosen_records.proofs.Counted.{counted_more, counted_over, tells_differ, ok_then, err_then}
use Rattle.chosen_records.proofs.counting.count_record.Goals as goal

pub returns-in-Accepted-clause-counted : goal.returns-in-Accepted-clause-counted
returns-in-Accepted-clause-counted c = λ done own last is.
    let slot : ℕ = c.in-Accepted.slot in
    let accepted = c.in-Accepted.acceptance in
    subst (λ (told : Record). OnOk c.count.result (IsTallyOf (done ++ (own ++ told ∷ []) ∷ []) c.count.new.tallies)) (sym c.in-Accepted.is)
    (ok_then c.count.result _ _ c.count.ensures.counted (λ counts. counted_more done own slot accepted c.args.node c.args.tallies.now c.count.new.tallies last is counts))

pub returns-in-Accepted-clause-differ : goal.returns-in-Accepted-clause-differ
returns-in-Accepted-clause-differ c = λ done own last is.
    let slot : ℕ = c.in-Accepted.slot in
    let accepted = c.in-Accepted.acceptance in
    subst (λ (told : Record). IfErr c.count.result (TellsDiffer (done ++ (own ++ told ∷ []) ∷ []))) (sym c.in-Accepted.is)
    (err_then c.count.result _ _ c.count.ensures.other (tells_differ done own slot accepted c.args.node c.args.tallies.now c.count.new.tallies last is))

pub returns-in-Began-clause-counted : goal.returns-in-Began-clause-counted
returns-in-Began-clause-counted c = λ done own last is. counted_over done own c.args.told.now c.args.tallies.now not is
  where
    not : (slot : ℕ) (accepted : Acceptance) → c.args.told.now ≡ Accepted slot accepted → ⊥
    not slot accepted e = elim c.in-Began.is [
      | inl began ↦ let no : Began began.0 ≡ Accepted slot accepted = sym began.1 ∙ e in cc
      | inr (inl promised) ↦ let no : Promised promised.0 promised.1 ≡ Accepted slot accepted = sym promised.2 ∙ e in cc
      | inr (inr from) ↦ let no : PromisedFrom from.0 from.1 ≡ Accepted slot accepted = sym from.2 ∙ e in cc
    ]
