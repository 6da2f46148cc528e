-- A command that is made argument by argument.
use Rattle.std.proofs.Common.{◌≡◌, true, false, ap, ap₂, ◌∙◌}
use Rattle.clap.specs.declared.builder.arg.Arg.{Arg}
use Rattle.clap.specs.declared.builder.command.Command.{Command}
use Rattle.clap.specs.Words.{AddsArg, AddsSubcommand, App, Rule, app_of, rule_of, with_rule, with_subcommand}
use Rattle.clap.proofs.SimpleLemmas.{plain_fields}

-- with one argument more
pub made_more : (old new : Command) (arg : Arg) (a : App) (r : Rule) → app_of old ≡ a → AddsArg old arg new → rule_of arg ≡ r → arg.global ≡ false
    → app_of new ≡ with_rule a r
made_more old new arg a r made adds rule local = adds.shape local ∙ ap₂ with_rule made rule

-- it becomes a command of the program
pub made_subcommand : (old sub new : Command) (a : App) → a.top.is_plain ≡ true → app_of sub ≡ a → AddsSubcommand old sub new
    → app_of new ≡ with_subcommand (app_of old) a.top
made_subcommand old sub new a plain made adds =
    adds.shape (plain_fields sub (ap (λ (b : App). b.top.is_plain) made ∙ plain)).globals
    ∙ ap (λ (b : App). with_subcommand (app_of old) b.top) made
