-- An upload waits on exactly where the tables tell nothing of it.
use Rattle.std.proofs.Common.{refl}
use Rattle.pending_uploads.proofs.Keeping.{told_unknown, told_more}
use Rattle.pending_uploads.proofs.unknown.is_unknown.Goals as goal

pub returns-in-Unknown : goal.returns-in-Unknown
returns-in-Unknown c =
    let is = c.as_slice-text.ensures.upload in
    record {
      is_upload = is;
      tells = λ values uploads uploaded taken are text.
          let told = c.outcome.ensures values uploads uploaded taken are text.0 text.1 in
          ((λ yes. told_unknown c.outcome.result _ told c.in-Unknown.is), (λ nothing. refl));
    }

pub returns-in_default : goal.returns-in_default
returns-in_default c =
    let is = c.as_slice-text.ensures.upload in
    record {
      is_upload = is;
      tells = λ values uploads uploaded taken are text.
          let told = c.outcome.ensures values uploads uploaded taken are text.0 text.1 in
          ((λ no. cc), (λ nothing. absurd (told_more c.outcome.result _ told c.in_default.not-Unknown nothing)));
    }
