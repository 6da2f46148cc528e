use Rattle.std.proofs.Common.{List, subst, take_all, arith}
use Rattle.ballots.specs.declared.message.Message.{Message}
use Rattle.folder_report.specs.Values.{FillSlots}
use Rattle.folder_report.proofs.Filling.{fills_more}
use Rattle.folder_report.proofs.values.values_told.Goals as goal

pub loop-message-preserved : goal.loop-message-preserved
loop-message-preserved c = record {
  fill = λ members all only rising.
      fills_more members all c.args.told.now c.loop-message.message-index c.message-item.result c.loop-message.values.items c.take_value.new.values.items c.loop-message-test.true
      c.message-item.is only rising c.in_ok-take_value.ensures.value (c.loop-message.invariant.fill members all only rising);
  few = c.in_ok-take_value.ensures.few c.loop-message.invariant.few;
}

pub returns-clause-values : goal.returns-clause-values
returns-clause-values c = λ members all only rising.
    subst (λ (l : List Message). FillSlots members all l c.loop-message.values.items) (take_all c.loop-message.message-index c.args.told.now (omega arith))
    (c.loop-message.invariant.fill members all only rising)
