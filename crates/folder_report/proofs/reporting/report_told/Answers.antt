use Rattle.std.proofs.Common.{rules, List, map, subst}
use Rattle.ballots.specs.declared.record.Record.{Record}
use Rattle.ballots.specs.declared.value.Value.{Value}
use Rattle.folder_report.specs.Reporting.{TellsTables}
use Rattle.folder_report.proofs.Standing.{served}
use Rattle.folder_report.proofs.reporting.report_told.Goals as goal

pub returns : goal.returns
returns c = λ members tells.
    let all : List (List Record) = map (λ own. own.items) c.args.records.now in
    let values : List Value = c.in_ok-values.values.items in
    record {
      values = values;
      served = served members all c.args.told.now tells values (c.in_ok-values.ensures.values members all tells.only tells.rising);
      count = search rules;
      tables = subst (λ (l : List Value). TellsTables l c.in_ok-tables.tables.items) c.as_slice.ensures.value c.in_ok-tables.ensures;
      slots = c.in_ok-slots.ensures members tells;
    }
