use Rattle.std.proofs.Common.{arith, inl}
use Rattle.std.proofs.lemmas.Result.{err_from_is_err_and}
use Rattle.call_reading.proofs.Batches.{grows_left_out, way_left_out}
use Rattle.call_reading.proofs.upload_builder.UploadBuilder.take.Goals as goal

pub returns-in-LeftOut-clause-grows : goal.returns-in-LeftOut-clause-grows
returns-in-LeftOut-clause-grows c =
    grows_left_out c.args.self.now c.give_up.new.self c.args.message.now c.is_within_limit-wanted.result c.in_ok-addition_of.field-0 c.requires c.in-LeftOut.is
    c.in_ok-addition_of.ensures.added c.in_ok-addition_of.ensures.room (λ within. c.is_within_limit-wanted.ensures.1 within) 18446744073709551615 (omega arith) c.give_up.ensures

pub returns-in-LeftOut-clause-on_its_way : goal.returns-in-LeftOut-clause-on_its_way
returns-in-LeftOut-clause-on_its_way c =
    way_left_out c.args.self.now c.give_up.new.self c.args.message.now c.is_within_limit-wanted.result c.in_ok-addition_of.field-0 c.requires c.in-LeftOut.is
    c.in_ok-addition_of.ensures.added c.in_ok-addition_of.ensures.room (λ within. c.is_within_limit-wanted.ensures.1 within) 18446744073709551615 (omega arith) c.give_up.ensures

pub returns-in_err-addition_of-clause-fault : goal.returns-in_err-addition_of-clause-fault
returns-in_err-addition_of-clause-fault c =
    let p = err_from_is_err_and c.from_residual.result c.from_residual.ensures.1 in
    rw (p.1, p.2) (inl c.in_err-addition_of.ensures.fault)
