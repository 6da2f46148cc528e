use Rattle.std.proofs.Common.{◌∙◌}
use Rattle.run_files.proofs.UploadValues.{id_fits, is_there}
use Rattle.run_files.proofs.upload_values.id_of.Goals as goal

pub returns-clause-only : goal.returns-clause-only
returns-clause-only c = λ id is decoded.
    is_there c.from_hex.result c.ok.result id c.ok.ensures.variant (c.from_hex.ensures ∙ id_fits c.args.digits.now id is decoded)
