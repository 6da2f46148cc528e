use Rattle.std.proofs.Common.{sym, [], ◌∷◌, ap₂, ◌∙◌, arith}
use Rattle.std.specs.List.{slice_split}
use Rattle.std.proofs.lemmas.Result.{err_from_is_err_and}
use Rattle.std.proofs.lemmas.List.Splits.{slice_split_first}
use Rattle.schema_words.specs.Spelling.{is_comma}
use Rattle.schema_words.proofs.Wording.{cut_at, uncut}
use Rattle.schema_words.proofs.Gathering.{none_read, one_read, none_more, last_part, all_read}
use Rattle.schema_words.proofs.reading.fields_of.Goals as goal

pub loop-part-init : goal.loop-part-init
loop-part-init c = record {
  text = c.utf8.words;
  read = none_read c.args.words.now c.new-fields.result.items c.new-fields.ensures.items;
}

pub returns-in_err-push_field-clause-fault : goal.returns-in_err-push_field-clause-fault
returns-in_err-push_field-clause-fault c =
    let cut = cut_at 44 c.loop-part.rest.now c.split_once.result c.split_once.ensures.cases (omega arith) (c.in-Some.part, c.in-Some.others) c.in-Some.is in
    let told = none_more c.args.words.now c.loop-part.rest.now c.in-Some.part.now c.loop-part.fields.items c.in_err-push_field.field-0.0
    (slice_split is_comma c.in-Some.others.now) c.loop-part.invariant.read
    (slice_split_first is_comma c.loop-part.rest.now 0 cut.0
    ∙ ap₂ (λ p o. p ∷ slice_split is_comma o) (sym cut.1) (sym cut.2))
    c.in_err-push_field.ensures.fault in
    let p = err_from_is_err_and c.from_residual.result c.from_residual.ensures.1 in
    rw (p.1, p.2) told

pub loop-part-preserved : goal.loop-part-preserved
loop-part-preserved c =
    let cut = cut_at 44 c.loop-part.rest.now c.split_once.result c.split_once.ensures.cases (omega arith) (c.in-Some.part, c.in-Some.others) c.in-Some.is in
    record {
      text = search;
      read = one_read c.args.words.now c.loop-part.rest.now c.in-Some.part.now c.in-Some.others.now c.loop-part.fields.items c.push_field.new.fields.items
          c.loop-part.invariant.read cut.0 cut.1 cut.2 c.in_ok-push_field.ensures.pushed;
    }

pub returns-in_err-push_field-2-clause-fault : goal.returns-in_err-push_field-2-clause-fault
returns-in_err-push_field-2-clause-fault c =
    let whole = uncut 44 c.loop-part.rest.now c.split_once.result c.split_once.ensures.cases (omega arith) c.in_default.is in
    let told = none_more c.args.words.now c.loop-part.rest.now c.loop-part.rest.now c.loop-part.fields.items c.in_err-push_field-2.field-0.0
    [] c.loop-part.invariant.read (last_part c.loop-part.rest.now whole)
    c.in_err-push_field-2.ensures.fault in
    let p = err_from_is_err_and c.from_residual-in_err-push_field-2.result c.from_residual-in_err-push_field-2.ensures.1 in
    rw (p.1, p.2) told

pub returns-clause-read : goal.returns-clause-read
returns-clause-read c =
    let whole = uncut 44 c.loop-part.rest.now c.split_once.result c.split_once.ensures.cases (omega arith) c.in_default.is in
    all_read c.args.words.now c.loop-part.rest.now c.loop-part.fields.items c.push_field-2.new.fields.items c.loop-part.invariant.read whole
    c.in_ok-push_field-2.ensures.pushed
