use Rattle.std.proofs.Common.{◌∙◌, ap, Some, rules}
use Rattle.clap.specs.Words.{Rule, rule_of}
use Rattle.command_line.proofs.commands.option.Goals as goal

pub returns-clause-rule : goal.returns-clause-rule
returns-clause-rule c =
    ap rule_of c.help.ensures ∙ ap rule_of c.value_name.ensures ∙ ap (λ (r : Rule). record r { value_names = 1 }) (ap rule_of c.long.ensures)
    ∙ ap (λ (r : Rule). record r { long = Some c.args.name.now; value_names = 1 }) c.new.ensures.rule

pub returns-clause-local : goal.returns-clause-local
returns-clause-local c = search rules steps 300000
