use Rattle.table_versions.proofs.Readying.{ready_more}
use Rattle.table_versions.proofs.ready.Ready.of.Goals as goal

pub loop-value-preserved : goal.loop-value-preserved
loop-value-preserved g c =
    ready_more c.texts_hold_one_list_of_uploads.ensures.both c.args.values.now c.loop-value.value-index c.value-item.result c.loop-value.uploads.items c.push_value.new.uploads.items c.loop-value-test.true
    c.value-item.is c.loop-value.invariant c.in_ok-push_value.ensures
