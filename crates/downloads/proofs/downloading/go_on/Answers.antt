use Rattle.downloads.proofs.Come.{nothing_came, part_came, alone_came}
use Rattle.downloads.proofs.downloading.go_on.Goals as goal

pub returns-in_default-clause-taken : goal.returns-in_default-clause-taken
returns-in_default-clause-taken c = λ messages before fits.
    nothing_came c.messages_are_one.ensures.schema c.messages_are_one.ensures.upload c.args.download messages c.args.message.now before fits
    ((rw c.in_default.is at c.in_ok-said.ensures) fits)

pub returns-in-Some-2-clause-taken : goal.returns-in-Some-2-clause-taken
returns-in-Some-2-clause-taken c = λ messages before fits.
    let told = rw c.in-Some.is at c.in_ok-said.ensures in
    part_came c.messages_are_one.ensures.schema c.messages_are_one.ensures.upload c.args.download messages c.args.message.now before fits
    c.in-Some.said told.0 c.in-Some-2.uploads told.1 (rw c.in-Some-2.is at c.in_ok-uploads.ensures)

pub returns-in-None-clause-taken : goal.returns-in-None-clause-taken
returns-in-None-clause-taken c = λ messages before fits.
    let told = rw c.in-Some.is at c.in_ok-said.ensures in
    alone_came c.messages_are_one.ensures.schema c.messages_are_one.ensures.upload c.args.download messages c.args.message.now before fits
    c.in-Some.said told.0 (rw c.in-None.is at c.in_ok-uploads.ensures)
