use Rattle.std.proofs.Common.{rules, arith, refl, sym, ap, subst, ◌∙◌, ◌≡◌, ◌≤◌, List, [], ◌∷◌, ◌++◌, map, length, append_assoc, ℕ}
use Rattle.std.specs.List.{AllByRecursion, AllZip}
use Rattle.serde_json.specs.View.{view}
use Rattle.header_types.specs.Views.{schema_of}
use Rattle.batch_types.specs.Canonical.{canonical_body}
use Rattle.batch_columns.specs.declared.batch.Batch.{Batch}
use Rattle.batch_columns.specs.Batches.{IsBatchOf, rows_of}
use Rattle.json_rows.specs.Lines.{IsOfLines, TellsBatches, TellsLine, TellsRows, TellsSomeRow, lines_of}
use Rattle.json_rows.proofs.Cut.{zip_split, zip_joined, rows_next, batches_then, not_of_lines, all_then}
use Rattle.json_rows.proofs.Zipped.{mapped_push}
use Rattle.json_rows.proofs.read.read_rows.Goals as goal
use Rattle.json_rows.proofs.read.read_rows.Goals.{then-is_short+else-is_err, else-is_short+else-len-lt2}

pub loop-rest-init : goal.loop-rest-init
loop-rest-init c =
    let none = c.new-batches.ensures.items in
    let schema = schema_of c.args.schema.now in record {
      some = omega arith;
      few = omega arith;
      read = record { lines = []; values = []; cut = refl; read = tt; told = subst (λ (bs : List Batch). TellsBatches schema.fields [] (map rows_of bs)) (sym none) refl };
      of_schema = subst (AllByRecursion (IsBatchOf schema)) (sym none) tt;
      short = subst (AllByRecursion (λ batch. length (canonical_body schema (rows_of batch)) ≤ 4128768)) (sym none) tt;
    }

pub returns-in_err-taken-clause-refused : goal.returns-in_err-taken-clause-refused
returns-in_err-taken-clause-refused c = λ values told all.
    let done = c.loop-rest.invariant.read in
    let split = zip_split TellsLine done.lines (lines_of c.loop-rest.rest.now) values (subst (λ (l : List (List ℕ)). AllZip TellsLine l values) done.cut told) in
    not_of_lines c.from_residual.result c.in_err-taken.field-0.0 c.from_residual.ensures.1 (λ of_lines. subst IsOfLines (c.in_err-taken.ensures.refused split.1 split.4) of_lines)

pub returns-in_err-batch-clause-refused : goal.returns-in_err-batch-clause-refused
returns-in_err-batch-clause-refused c = λ values told all.
    let done = c.loop-rest.invariant.read in
    let next = c.in_ok-taken.ensures.read in
    let schema = schema_of c.args.schema.now in
    let here = rows_next schema.fields c.args.text.now c.loop-rest.rest.now done.lines next.0 c.in_ok-taken.taken.rest.now values (map view c.in_ok-taken.taken.values.items) done.cut next.1 next.2 told all in
    not_of_lines c.from_residual-in_err-batch.result c.in_err-batch.field-0.0 c.from_residual-in_err-batch.ensures.1
    (c.in_err-batch.ensures.refused (subst (λ vs. AllByRecursion (TellsSomeRow schema.fields) (map view vs)) (sym c.deref-in-loop-rest.ensures.value) here))

pub loop-rest-preserved : goal.loop-rest-preserved
loop-rest-preserved c =
    let schema = schema_of c.args.schema.now in
    let done = c.loop-rest.invariant.read in
    let next = c.in_ok-taken.ensures.read in
    let taken = c.in_ok-taken.taken in
    let here = map view taken.values.items in
    let Short = λ (batch : Batch). length (canonical_body schema (rows_of batch)) ≤ 4128768 in
    elim c.if-is_short.branch [
      | then-is_short+else-is_err w ↦
          let items : List Batch = c.loop-rest.batches.items in
          let batch : Batch = c.in_ok-batch.batch in
          let pushed : w.push.new.self.items ≡ items ++ batch ∷ [] = search rules in
          let all : c.if-is_short.batches.items ≡ items ++ batch ∷ [] = ap (λ bs. bs.items) w.batches-is ∙ pushed in
          let rest : c.if-is_short.rest.now ≡ taken.rest.now = ap (λ r. r.now) w.rest-is in
          let told = subst (λ vs. TellsRows schema.fields (map view vs) (rows_of batch)) c.deref-in-loop-rest.ensures.value c.in_ok-batch.ensures.read in
          record {
            some = omega (arith, w.most-is, c.loop-rest.invariant.some);
            few = omega (arith, w.most-is, c.loop-rest.invariant.few);
            read = record {
              lines = done.lines ++ next.0;
              values = done.values ++ here;
              cut = done.cut ∙ ap (λ (l : List (List ℕ)). done.lines ++ l) next.1 ∙ sym (append_assoc done.lines next.0 (lines_of taken.rest.now))
                  ∙ ap (λ (l : List ℕ). (done.lines ++ next.0) ++ lines_of l) (sym rest);
              read = zip_joined TellsLine done.lines next.0 done.values here done.read next.2;
              told = subst (TellsBatches schema.fields (done.values ++ here)) (sym (ap (map rows_of) all ∙ mapped_push rows_of items batch))
                  (batches_then schema.fields done.values here (map rows_of items) (rows_of batch) done.told told);
            };
            of_schema = subst (AllByRecursion (IsBatchOf schema)) (sym all) (all_then (IsBatchOf schema) items batch c.loop-rest.invariant.of_schema c.in_ok-batch.ensures.of_schema);
            short = subst (AllByRecursion Short) (sym all) (all_then Short items batch c.loop-rest.invariant.short (w.if-is_short.ensures refl schema c.in_ok-batch.ensures.of_schema.shapes));
          }
      | else-is_short+else-len-lt2 w ↦
          let same : c.if-is_short.batches.items ≡ c.loop-rest.batches.items = ap (λ bs. bs.items) w.batches-is in
          let rest : c.if-is_short.rest.now ≡ c.loop-rest.rest.now = ap (λ r. r.now) w.rest-is in
          record {
            some = omega (arith, w.most-is, w.len-most.ensures, w.if-len-lt2.false, w.len.ensures);
            few = omega (arith, w.most-is, w.len-most.ensures, c.in_ok-taken.ensures.few, taken.values.ok.0, c.loop-rest.invariant.few);
            read = record {
              lines = done.lines;
              values = done.values;
              cut = done.cut ∙ ap (λ (l : List ℕ). done.lines ++ lines_of l) (sym rest);
              read = done.read;
              told = subst (λ (bs : List Batch). TellsBatches schema.fields done.values (map rows_of bs)) (sym same) done.told;
            };
            of_schema = subst (AllByRecursion (IsBatchOf schema)) (sym same) c.loop-rest.invariant.of_schema;
            short = subst (AllByRecursion Short) (sym same) c.loop-rest.invariant.short;
          }
    ]
