use Rattle.std.proofs.Common.{sym, subst}
use Rattle.uploads.specs.Parts.{HasLeft, batches_parts}
use Rattle.uploads.proofs.CallerLemmas.{moved, table_first, id_next, schema_next, batches_left, behind_table, behind_id, behind_schema}
use Rattle.uploads.proofs.parts.parts_of.Goals as goal

pub split_part-requires-2 : goal.split_part-requires-2
split_part-requires-2 c =
    let u = c.requires.0 in
    let is = c.requires.1.0 in
    let first = c.split_part.ensures 1 u.table (behind_table u) (table_first u is c.args.text.now c.requires.1.1) in
    (2, u.id, behind_id u, moved 2 c.split_part.result.1.now (behind_table u) u.id (behind_id u) first.1 (id_next u is))

pub split_part-requires-3 : goal.split_part-requires-3
split_part-requires-3 c =
    let u = c.requires.0 in
    let is = c.requires.1.0 in
    let first = c.split_part.ensures 1 u.table (behind_table u) (table_first u is c.args.text.now c.requires.1.1) in
    let second = c.split_part-2.ensures 2 u.id (behind_id u) (moved 2 c.split_part.result.1.now (behind_table u) u.id (behind_id u) first.1 (id_next u is)) in
    (3, _, behind_schema u, moved 3 c.split_part-2.result.1.now (behind_id u) _ (behind_schema u) second.1 (schema_next u is))

pub returns : goal.returns
returns c = λ u is same.
    let first = c.split_part.ensures 1 u.table (behind_table u) (table_first u is c.args.text.now same) in
    let second = c.split_part-2.ensures 2 u.id (behind_id u) (moved 2 c.split_part.result.1.now (behind_table u) u.id (behind_id u) first.1 (id_next u is)) in
    let third = c.split_part-3.ensures 3 _ (behind_schema u) (moved 3 c.split_part-2.result.1.now (behind_id u) _ (behind_schema u) second.1 (schema_next u is)) in
    record {
      table_is = first.0;
      id_is = second.0;
      schema_is = third.0;
      batches_are = subst (λ l. HasLeft l (batches_parts u)) (sym third.1) (batches_left u is);
    }
