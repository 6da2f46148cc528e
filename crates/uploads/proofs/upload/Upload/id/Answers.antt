use Rattle.std.proofs.Common.{sym, ap, ◌∙◌, ℕ, take}
use Rattle.uploads.proofs.Counting.{whole_id}
use Rattle.uploads.proofs.upload.Upload.id.Goals as goal

pub returns : goal.returns
returns c = λ upload is same.
    let parts = c.parts_of-parts.ensures upload is (same ∙ sym c.self.view_is ∙ sym c.as_slice.ensures) in
    c.in-Some.ensures.cases.0 ∙ whole_id c.parts_of-parts.result.id.now upload is parts.id_is
