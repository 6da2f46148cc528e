use Rattle.std.proofs.Common.{subst, List, ℕ, codes}
use Rattle.std.specs.Str.{IsTrimAscii}
use Rattle.std.proofs.lemmas.Bool.Decides.{Decides-eqb}
use Rattle.std.proofs.lemmas.Slice.Eq.{slice_eq-Decides}
use Rattle.schema_words.proofs.Wording.{trimmed_is_one}
use Rattle.schema_words.proofs.reading.is_not_null.Goals as goal

-- src/reading.rt:14:1
pub returns : goal.returns
returns c =
    let decides = slice_eq-Decides Decides-eqb c.trim_ascii.result.now (codes "not null") c.eq.result c.eq.ensures in (
      λ yes. subst (λ (it : List ℕ). IsTrimAscii c.args.mark.now it) (decides.0 yes) c.trim_ascii.ensures.value,
      λ is. decides.1 (trimmed_is_one c.args.mark.now c.trim_ascii.result.now (codes "not null") c.trim_ascii.ensures.value is),
    )
