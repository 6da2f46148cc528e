use Rattle.std.proofs.Common.{rules, arith}
use Rattle.std.proofs.lemmas.Grind.{common_steps}
use Rattle.proto_messages.proofs.CallerLemmas.{then_grows, on_err, chains}
use Rattle.proto_wire.proofs.flight.info.FlightInfoProtoMessage.append.Goals as goal

pub returns-in_err-append_int64-2-clause-err : goal.returns-in_err-append_int64-2-clause-err
returns-in_err-append_int64-2-clause-err c =
    on_err c.from_residual-in_err-append_int64-2.result
    (then_grows c.args.out.now.items c.append_bytes.new.out.items _ _ c.in_ok-append_bytes.ensures.ok
    (then_grows c.append_bytes.new.out.items c.append_one.new.out.items _ _ c.in_ok-append_one.ensures.ok
    (then_grows c.append_one.new.out.items c.append_messages.new.out.items _ _ c.in_ok-append_messages.ensures.ok
    (then_grows c.append_messages.new.out.items c.append_int64.new.out.items _ _ c.in_ok-append_int64.ensures.ok c.in_err-append_int64-2.ensures.err))))

pub returns-in_err-append_bool-clause-err : goal.returns-in_err-append_bool-clause-err
returns-in_err-append_bool-clause-err c =
    on_err c.from_residual-in_err-append_bool.result
    (then_grows c.args.out.now.items c.append_bytes.new.out.items _ _ c.in_ok-append_bytes.ensures.ok
    (then_grows c.append_bytes.new.out.items c.append_one.new.out.items _ _ c.in_ok-append_one.ensures.ok
    (then_grows c.append_one.new.out.items c.append_messages.new.out.items _ _ c.in_ok-append_messages.ensures.ok
    (then_grows c.append_messages.new.out.items c.append_int64.new.out.items _ _ c.in_ok-append_int64.ensures.ok
    (then_grows c.append_int64.new.out.items c.append_int64-2.new.out.items _ _ c.in_ok-append_int64-2.ensures.ok c.in_err-append_bool.ensures.err)))))

pub returns-in_err-append_bytes-clause-ok : goal.returns-in_err-append_bytes-clause-ok
returns-in_err-append_bytes-clause-ok c = search rules steps 300000

pub returns-in_err-append_bytes-clause-err : goal.returns-in_err-append_bytes-clause-err
returns-in_err-append_bytes-clause-err c = search rules steps 300000

pub returns-in_err-append_bytes-clause-fits : goal.returns-in_err-append_bytes-clause-fits
returns-in_err-append_bytes-clause-fits c = search rules steps 300000

pub returns-in_err-append_one-clause-ok : goal.returns-in_err-append_one-clause-ok
returns-in_err-append_one-clause-ok c = search rules steps 300000

pub returns-in_err-append_one-clause-err : goal.returns-in_err-append_one-clause-err
returns-in_err-append_one-clause-err c = grind (arith, common_steps) steps 600000

pub returns-in_err-append_one-clause-fits : goal.returns-in_err-append_one-clause-fits
returns-in_err-append_one-clause-fits c = search rules steps 300000

pub returns-in_err-append_messages-clause-ok : goal.returns-in_err-append_messages-clause-ok
returns-in_err-append_messages-clause-ok c = grind (arith, common_steps) steps 600000

pub returns-in_err-append_messages-clause-err : goal.returns-in_err-append_messages-clause-err
returns-in_err-append_messages-clause-err c = grind (arith, common_steps) steps 600000

pub returns-in_err-append_messages-clause-fits : goal.returns-in_err-append_messages-clause-fits
returns-in_err-append_messages-clause-fits c = search rules steps 300000

pub returns-in_err-append_int64-clause-ok : goal.returns-in_err-append_int64-clause-ok
returns-in_err-append_int64-clause-ok c = grind (arith, common_steps) steps 600000

pub returns-in_err-append_int64-clause-err : goal.returns-in_err-append_int64-clause-err
returns-in_err-append_int64-clause-err c = grind (arith, common_steps) steps 600000

pub returns-in_err-append_int64-clause-fits : goal.returns-in_err-append_int64-clause-fits
returns-in_err-append_int64-clause-fits c = grind (arith, common_steps) steps 600000

pub returns-in_err-append_int64-2-clause-ok : goal.returns-in_err-append_int64-2-clause-ok
returns-in_err-append_int64-2-clause-ok c = grind (arith, common_steps) steps 600000

pub returns-in_err-append_int64-2-clause-fits : goal.returns-in_err-append_int64-2-clause-fits
returns-in_err-append_int64-2-clause-fits c = grind (arith, common_steps) steps 600000

pub returns-in_err-append_bool-clause-ok : goal.returns-in_err-append_bool-clause-ok
returns-in_err-append_bool-clause-ok c = grind (arith, common_steps) steps 600000

pub returns-in_err-append_bool-clause-fits : goal.returns-in_err-append_bool-clause-fits
returns-in_err-append_bool-clause-fits c = grind (arith, common_steps) steps 600000

pub returns-clause-ok : goal.returns-clause-ok
returns-clause-ok c = grind (arith, chains) steps 3000000

pub returns-clause-err : goal.returns-clause-err
returns-clause-err c = search rules steps 300000

pub returns-clause-fits : goal.returns-clause-fits
returns-clause-fits c = grind (arith, common_steps) steps 600000
