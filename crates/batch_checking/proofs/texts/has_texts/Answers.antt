use Rattle.std.specs.List.{range_with_len}
use Rattle.batch_checking.specs.Around.{places_around}
use Rattle.batch_checking.proofs.Rows.{texts_are}
use Rattle.batch_checking.proofs.texts.has_texts.Goals as goal

pub returns-in-Utf8 : goal.returns-in-Utf8
returns-in-Utf8 c =
    let same = texts_are c.args.source.now.layout c.args.source.now.validity.now c.args.source.now.offsets.now c.args.source.now.values.now
    c.args.source.now.length (places_around (range_with_len 0 c.args.rows) c.args.around.now) c.in-Utf8.is c.requires.within in (
      λ yes. same.0 (c.are_texts.ensures.0 yes),
      λ all. c.are_texts.ensures.1 (same.1 all),
    )
