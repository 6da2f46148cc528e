use Rattle.std.proofs.Common.{ap, map, string_bytes, subst, ◌∙◌}
use Rattle.std.proofs.lemmas.Result.{IfErr-weaker, IfOk-weaker}
use Rattle.clap.specs.Words.{App, FailsBy, fault_of, is_simple, is_simple_and_free, subcommand_of, takes}
use Rattle.command_line.proofs.Calls.{asks_for, call_is_taken, is_free, is_plain}
use Rattle.command_line.proofs.words.parse.Goals as goal

pub returns-clause-taken : goal.returns-clause-taken
returns-clause-taken c =
    IfErr-weaker c.try_get_matches_from.result _ _
    (λ e h call. h (ap (λ (a : App). takes a (map string_bytes c.args.words.now)) c.in_ok-command.ensures ∙ call_is_taken _ call))
    c.try_get_matches_from.ensures.passes

pub returns-clause-asked : goal.returns-clause-asked
returns-clause-asked c =
    let is_ours = c.in_ok-command.ensures in
    IfOk-weaker c.try_get_matches_from.result _ _
    (λ m h.
    asks_for (map string_bytes c.args.words.now) m
    ((h (ap is_simple is_ours ∙ is_plain)).1 ∙ ap (λ (a : App). subcommand_of a (map string_bytes c.args.words.now)) is_ours))
    c.try_get_matches_from.ensures.matches

pub returns-clause-refused : goal.returns-clause-refused
returns-clause-refused c =
    let is_ours = c.in_ok-command.ensures in
    subst (λ (a : App). FailsBy (fault_of a (map string_bytes c.args.words.now)) c.try_get_matches_from.result) is_ours
    (c.try_get_matches_from.ensures.kinds (ap is_simple_and_free is_ours ∙ is_free))
