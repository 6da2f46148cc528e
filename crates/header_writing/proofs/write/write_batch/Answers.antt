use Rattle.header_types.specs.HeaderViews.{head_of}
use Rattle.header_writing.proofs.Writers.{in_any_case}
use Rattle.header_writing.proofs.WrittenSizes.{batch_shown, batch_small}
use Rattle.header_writing.proofs.write.write_batch.Goals as goal

pub returns-clause-shown : goal.returns-clause-shown
returns-clause-shown c =
    in_any_case c.extend_from_slice.result (batch_shown
    (head_of c.args.head.now) c.requires.plain c.requires.nodes c.requires.buffers c.in_ok-text.ensures.fits)

pub returns-clause-small : goal.returns-clause-small
returns-clause-small c = in_any_case c.extend_from_slice.result
    (batch_small (head_of c.args.head.now) c.requires.nodes c.requires.buffers)
