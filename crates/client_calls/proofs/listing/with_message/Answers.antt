use Rattle.client_calls.proofs.Listed.{is_more, is_without}
use Rattle.client_calls.proofs.listing.with_message.Goals as goal

pub returns-in-Ok-clause-listed : goal.returns-in-Ok-clause-listed
returns-in-Ok-clause-listed c = λ messages told.
    is_more c.args.infos c.in-Ok.info c.args.message.now messages c.with_info.result c.in-Ok.ensures.read told c.with_info.ensures.more c.with_info.ensures.fault

pub returns-in-Err-clause-listed : goal.returns-in-Err-clause-listed
returns-in-Err-clause-listed c = λ messages told.
    is_without messages c.args.message.now c.decode.result c.in-Err.fault c.without_info.result c.in-Err.is c.decode.ensures.only c.without_info.ensures.left
