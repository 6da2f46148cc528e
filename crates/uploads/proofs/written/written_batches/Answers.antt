use Rattle.std.proofs.Common.{refl}
use Rattle.header_types.specs.Views.{schema_of}
use Rattle.uploads.proofs.Remade.{none_made, next_rows, next_body, next_smaller, next_made, all_made}
use Rattle.uploads.proofs.written.written_batches.Goals as goal

pub new-left-requires : goal.new-left-requires
new-left-requires c = (_, c.requires.known.2)

pub loop-header-init : goal.loop-header-init
loop-header-init c =
    none_made (schema_of c.args.schema.now) c.args.batches.now c.new-left.result c.new-made.result.items c.requires.known.0 c.new-made.ensures.items c.new-left.ensures
    c.requires.known.1 c.requires.known.2 c.requires.short

pub written_batch-requires : goal.written_batch-requires
written_batch-requires c = record {
  profile = c.requires.profile;
  short = next_body (schema_of c.args.schema.now) c.args.batches.now c.loop-header.made.items c.loop-header.left c.next.new.self c.in-Some.header.now c.in-Some.body.now
      (c.in-Some.header, c.in-Some.body) (refl, refl) c.in-Some.ensures c.loop-header.invariant;
  known = next_rows (schema_of c.args.schema.now) c.args.batches.now c.loop-header.made.items c.loop-header.left c.next.new.self c.in-Some.header.now c.in-Some.body.now
      (c.in-Some.header, c.in-Some.body) (refl, refl) c.in-Some.ensures c.loop-header.invariant;
}

pub loop-header-smaller : goal.loop-header-smaller
loop-header-smaller c =
    next_smaller (schema_of c.args.schema.now) c.args.batches.now c.loop-header.made.items c.loop-header.left c.next.new.self c.in-Some.header.now c.in-Some.body.now
    (c.in-Some.header, c.in-Some.body) (refl, refl) c.in-Some.ensures c.loop-header.invariant

pub loop-header-preserved : goal.loop-header-preserved
loop-header-preserved c =
    next_made (schema_of c.args.schema.now) c.args.batches.now c.loop-header.made.items c.loop-header.left c.next.new.self c.in-Some.header.now c.in-Some.body.now
    (c.in-Some.header, c.in-Some.body) (refl, refl) c.in-Some.ensures c.loop-header.invariant c.in_ok-written_batch.field-0 c.push.new.self.items
    c.in_ok-written_batch.ensures.rows c.in_ok-written_batch.ensures.of_schema c.in_ok-push.ensures.items

pub returns-clause-rows : goal.returns-clause-rows
returns-clause-rows c =
    all_made (schema_of c.args.schema.now) c.args.batches.now c.loop-header.left c.next.new.self c.loop-header.made.items c.loop-header.invariant c.in_default.ensures
