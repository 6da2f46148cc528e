use Rattle.header_writing.specs.Written.{FitsPair}
use Rattle.header_writing.proofs.Appending.{pair_put}
use Rattle.header_writing.proofs.layout.put_pair.Goals as goal
use Rattle.std.proofs.Common.{rules}

pub returns-clause-put : goal.returns-clause-put
returns-clause-put c =
    let fits : FitsPair c.args.pair = search rules in
    pair_put c.args.text.now.items c.put_long.new.text.items c.put_long-2.new.text.items c.args.pair fits
    c.in_ok-put_long.ensures.put
    c.in_ok-put_long-2.ensures.put
