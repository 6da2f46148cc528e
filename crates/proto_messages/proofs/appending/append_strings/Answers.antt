use Rattle.std.proofs.Common.{[], sym, ◌∙◌, append-nil}
use Rattle.proto_messages.proofs.CallerLemmas.{then_grows, on_err}
use Rattle.proto_messages.proofs.appending.append_strings.Goals as goal

pub returns-in_err-write_bytes-clause-err : goal.returns-in_err-write_bytes-clause-err
returns-in_err-write_bytes-clause-err c =
    on_err c.from_residual.result (then_grows c.args.out.now.items c.loop-string.out.items c.write_bytes.new.out.items _ c.loop-string.invariant.0
    ([], c.in_err-write_bytes.ensures.err ∙ sym (append-nil c.loop-string.out.items)))
