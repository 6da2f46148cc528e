use Rattle.std.proofs.Common.{sym, ◌∙◌}
use Rattle.std.specs.Cmp.{unsigned_Decides}
use Rattle.std.proofs.lemmas.Slice.Eq.{slice_eq-Decides}
use Rattle.uploads.proofs.Shown.{all_new}
use Rattle.uploads.proofs.reading.is_schema_text.Goals as goal

pub returns : goal.returns
returns c =
    let same = slice_eq-Decides unsigned_Decides c.as_slice.result.now c.args.bytes.now c.eq.result c.eq.ensures in
    let written = c.as_slice.ensures.value ∙ all_new c.in_ok-written.written.items c.write_schema.new.out.items _ c.in_ok-written.ensures.items c.in_ok-write_schema.ensures.written in (
      λ is. record { profile = c.requires.profile; fits = c.in_ok-write_schema.ensures.fits; is = sym (same.0 is) ∙ written },
      λ are. same.1 (written ∙ sym are.is),
    )
