use Rattle.std.proofs.Common.{rules, w32, w64, FitsSigned, to_z-of_z}
use Rattle.proto_messages.proofs.CallerLemmas.{then_fields, last_fields, then_grows, on_err}
use Rattle.wire_conformance.proofs.sample.NumbersProtoMessage.append.Goals as goal

pub returns-in_err-append_int64-clause-err : goal.returns-in_err-append_int64-clause-err
returns-in_err-append_int64-clause-err c =
    on_err c.from_residual-in_err-append_int64.result
    (then_grows c.args.out.now.items c.append_enum.new.out.items _ _ c.in_ok-append_enum.ensures.ok c.in_err-append_int64.ensures.err)

pub returns-in_err-append_uint64-clause-err : goal.returns-in_err-append_uint64-clause-err
returns-in_err-append_uint64-clause-err c =
    on_err c.from_residual-in_err-append_uint64.result
    (then_grows c.args.out.now.items c.append_enum.new.out.items _ _ c.in_ok-append_enum.ensures.ok
    (then_grows c.append_enum.new.out.items c.append_int64.new.out.items _ _ c.in_ok-append_int64.ensures.ok c.in_err-append_uint64.ensures.err))

pub returns-in_err-append_bool-clause-err : goal.returns-in_err-append_bool-clause-err
returns-in_err-append_bool-clause-err c =
    on_err c.from_residual-in_err-append_bool.result
    (then_grows c.args.out.now.items c.append_enum.new.out.items _ _ c.in_ok-append_enum.ensures.ok
    (then_grows c.append_enum.new.out.items c.append_int64.new.out.items _ _ c.in_ok-append_int64.ensures.ok
    (then_grows c.append_int64.new.out.items c.append_uint64.new.out.items _ _ c.in_ok-append_uint64.ensures.ok c.in_err-append_bool.ensures.err)))

pub returns-clause-ok : goal.returns-clause-ok
returns-clause-ok c =
    let fits_kind : FitsSigned w32 c.args.self.now.kind = search rules in
    let kind = rw (to_z-of_z fits_kind) at c.in_ok-append_enum.ensures.ok in
    let fits_change : FitsSigned w64 c.args.self.now.change = search rules in
    let change = rw (to_z-of_z fits_change) at c.in_ok-append_int64.ensures.ok in
    then_fields c.args.out.now.items c.append_enum.new.out.items _ _ _ kind
    (then_fields c.append_enum.new.out.items c.append_int64.new.out.items _ _ _ change
    (then_fields c.append_int64.new.out.items c.append_uint64.new.out.items _ _ _ c.in_ok-append_uint64.ensures.ok
    (last_fields c.append_uint64.new.out.items c.append_bool.new.out.items _ c.in_ok-append_bool.ensures.ok)))
