-- The upload stands under its own name.
use Rattle.pending_uploads.specs.Keys.{StandsByName}
use Rattle.pending_uploads.proofs.Finding.{stand_with}
use Rattle.pending_uploads.proofs.keys.put_named.Goals as goal

pub returns-clause-stand : goal.returns-clause-stand
returns-clause-stand c =
    stand_with StandsByName c.args.named.now.entries c.put.new.uploads.entries (c.id-name.result, c.args.upload) c.put.result c.put.ensures.put
    c.put.ensures.same
    (record { is_upload = c.as_slice-text.ensures.upload; name = λ upload text. c.id-name.ensures upload text.0 text.1 })
    c.requires.stand
