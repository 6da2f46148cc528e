use Rattle.std.proofs.Common.{◌∙◌, ap, true, rules}
use Rattle.clap.specs.Words.{Rule, rule_of}
use Rattle.command_line.proofs.commands.operand.Goals as goal

pub returns-clause-rule : goal.returns-clause-rule
returns-clause-rule c =
    ap rule_of c.help.ensures ∙ ap rule_of c.required.ensures ∙ ap (λ (r : Rule). record r { required = true }) c.new.ensures.rule

pub returns-clause-local : goal.returns-clause-local
returns-clause-local c = search rules steps 300000
