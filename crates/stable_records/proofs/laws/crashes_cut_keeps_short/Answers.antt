use Rattle.stable_records.specs.Calls.{LeftInKeep}
use Rattle.stable_records.specs.Found.{IsCutShort}
use Rattle.std.proofs.Common.{[], ◌∷◌, ◌++◌}
use Rattle.stable_records.proofs.CallerLemmas.{crashes_begin, crashes_go_on}
use Rattle.stable_records.proofs.CutLemmas.{cut_at_none, cut_earlier, cut_in_keep}
use Rattle.stable_records.proofs.laws.crashes_cut_keeps_short.Goals as goal

pub returns-clause-begins : goal.returns-clause-begins
returns-clause-begins g c = λ store records only.
    crashes_begin g.S.Stable.moment g.S.Stable.finds g.S.Stable.finds_since store (IsCutShort records [])
    (g.met.S.Stable.only_now store) (λ found here. cut_at_none records found (only.nothing_else found here))

pub returns-clause-goes_on : goal.returns-clause-goes_on
returns-clause-goes_on g c = λ old mid new records told last answer only first second.
    crashes_go_on g.S.Stable.moment g.S.Stable.finds_since old mid new (IsCutShort records (told ++ last ∷ []))
    (IsCutShort records told) (LeftInKeep last answer (g.S.Stable.finds mid)) first second
    (cut_earlier records told last) (λ found left. cut_in_keep (g.S.Stable.finds mid) records told last answer found only left)
