use Rattle.std.proofs.Common.{sym, drop}
use Rattle.std.proofs.lemmas.List.{take-append-drop}
use Rattle.proto_messages.proofs.CallerLemmas.{on_err}
use Rattle.proto_messages.proofs.length_prefix.move_behind_length.Goals as goal

pub returns-in_err-follows-clause-err : goal.returns-in_err-follows-clause-err
returns-in_err-follows-clause-err c =
    on_err c.from_residual.result (drop c.args.place c.args.out.now.items, sym (take-append-drop c.args.place c.args.out.now.items))
