-- The upload stands under its own hash.
use Rattle.pending_uploads.specs.Keys.{StandsByHash}
use Rattle.pending_uploads.proofs.Finding.{stand_with}
use Rattle.pending_uploads.proofs.keys.put_hashed.Goals as goal

pub returns-clause-stand : goal.returns-clause-stand
returns-clause-stand c =
    stand_with (StandsByHash c.args.hashing.now) c.args.hashed.now.entries c.put.new.uploads.entries (c.hash_of-hash.result, c.args.upload) c.put.result
    c.put.ensures.put c.put.ensures.same
    (record { is_upload = c.as_slice-text.ensures.upload; hash = c.hash_of-hash.ensures })
    c.requires.stand
