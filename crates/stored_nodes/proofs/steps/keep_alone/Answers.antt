use Rattle.std.specs.Option.{option_map}
use Rattle.node_core.specs.Inputs.{input_of}
use Rattle.stored_nodes.proofs.Leaving.{kept_alone, not_kept}
use Rattle.stored_nodes.proofs.steps.keep_alone.Goals as goal

pub returns-in-Ok : goal.returns-in-Ok
returns-in-Ok g c = λ views has.
    kept_alone c.records_are_due.ensures.planned c.args.node.now views (input_of c.args.input) c.in-Ok.plan c.args.kept.now.records.items c.keep_due-answer.new.kept.records.items
    c.keep_due-answer.new.kept.doubted (option_map (λ due. due.now) c.record.result) c.keep_due-answer.result
    (c.in-Ok.ensures.gives views has) c.record.ensures c.keep_due-answer.ensures.kept

pub returns-in-Err : goal.returns-in-Err
returns-in-Err g c = λ views has.
    not_kept c.records_are_due.ensures.refused c.records_are_due.ensures.taken c.args.node.now views (input_of c.args.input) c.in-Err.refusal c.args.kept.now.records.items
    c.args.kept.now.doubted c.refused.result c.requires (c.in-Err.ensures.gives views has) c.refused.ensures.ok c.refused.ensures.err
