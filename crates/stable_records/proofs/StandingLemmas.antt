-- What a store finds, and the keeps that it was told.
use Rattle.std.proofs.Common.{◌≡◌, inl, inr, List, [], ◌∷◌, ◌++◌, map, refl, sym, ap, ◌∙◌, subst, append-nil, Some, Result, Ok, Err, Vec}
use Rattle.std.specs.declared.alloc.Global.{Global}
use Rattle.ballots.specs.declared.record.Record.{Record}
use Rattle.stable_records.specs.declared.fault.StoreFault.{StoreFault}
use Rattle.stable_records.specs.declared.fault.StoreFault.TheVariants.{Device, Damaged, Broken, OutOfMemory}
use Rattle.stable_records.specs.Found.{Found, FindsOnly, IsWith, IsWithOrWithout, FindsNoMore}
use Rattle.stable_records.specs.Calls.{Keeps, Recalls, LeftInKeep}
use Rattle.stable_records.specs.Telling.{Telling, kept, doubted, MayStand, with_keep, with_crash, StandsAfter}
use Rattle.stable_records.proofs.TellingLemmas.{stands_together, all_kept_stands}
use Rattle.stable_records.proofs.CallerLemmas.{some_is}

-- what stands after these keeps is this
abbrev Stands : List Telling → Found → Type 0
Stands tellings found = (records : List Record) × MayStand tellings records × (found ≡ Some records)

-- what is found with the last record behind it stands after one keep more, whichever it was
found_with : (finds : Found → Type 0) (tellings : List Telling) (last : Record) (more : Telling) (found : Found)
    → MayStand (more ∷ []) (last ∷ []) → StandsAfter tellings finds → IsWith last finds found
    → Stands (tellings ++ more ∷ []) found
found_with finds tellings last more found one stands with =
    let before = stands (Some with.0) with.1 in
    let same : with.0 ≡ before.0 = some_is with.0 before.0 before.2 in (
      before.0 ++ last ∷ [],
      stands_together tellings (more ∷ []) before.0 (last ∷ []) before.1 one,
      with.2 ∙ ap (λ l. Some (l ++ last ∷ [])) same,
    )

found_without : (tellings : List Telling) (last : Record) (found : Found) → Stands tellings found
    → Stands (tellings ++ doubted last ∷ []) found
found_without tellings last found stands = (
  stands.0 ++ [],
  stands_together tellings (doubted last ∷ []) stands.0 [] stands.1 (inl refl),
  stands.2 ∙ ap (λ l. Some l) (sym (append-nil stands.0)),
)

found_with_or_without : (finds : Found → Type 0) (tellings : List Telling) (last : Record) (found : Found)
    → StandsAfter tellings finds → IsWithOrWithout last finds found → Stands (tellings ++ doubted last ∷ []) found
found_with_or_without finds tellings last found stands (inl before) = found_without tellings last found (stands found before)
found_with_or_without finds tellings last found stands (inr with) =
    found_with finds tellings last (doubted last) found (inr ([], refl, refl)) stands with

no_more_stands : (old new : Found → Type 0) (tellings : List Telling) → StandsAfter tellings old → FindsNoMore old new
    → StandsAfter tellings new
no_more_stands old new tellings stands no_more found here = stands found (no_more found here)

pub keep_stands : (old new : Found → Type 0) (tellings : List Telling) (last : Record) {T : Type 0} (answer : Result T StoreFault)
    → StandsAfter tellings old → Keeps last answer old new → StandsAfter (with_keep tellings last answer) new
keep_stands old new tellings last (Ok _) stands keeps =
    λ found here. found_with old tellings last (kept last) found ([], refl, refl) stands (keeps.nothing_else found here)
keep_stands old new tellings last (Err Device) stands keeps =
    λ found here. found_with_or_without old tellings last found stands (keeps found here)
keep_stands old new tellings last (Err Damaged) stands keeps = absurd keeps
keep_stands old new tellings last (Err Broken) stands keeps = no_more_stands old new tellings stands keeps.no_more
keep_stands old new tellings last (Err OutOfMemory) stands keeps = no_more_stands old new tellings stands keeps.no_more

pub only_stands : (finds : Found → Type 0) (records : List Record) → FindsOnly finds records
    → StandsAfter (map kept records) finds
only_stands finds records only found here = (records, all_kept_stands records, only.nothing_else found here)

pub recalled_stands : (old : Found → Type 0) (tellings : List Telling) (records : List Record) → StandsAfter tellings old
    → old (Some records) → MayStand tellings records
recalled_stands old tellings records stands here =
    let s = stands (Some records) here in
    let P : List Record → Type 0 = λ l. MayStand tellings l in subst P (sym (some_is records s.0 s.2)) s.1

pub recall_stands : (old new : Found → Type 0) (tellings : List Telling) (answer : Result (Vec Record Global) StoreFault)
    → StandsAfter tellings old → Recalls answer old new → StandsAfter tellings new
recall_stands old new tellings (Ok records) stands recalls =
    λ found here. (records.items, recalled_stands old tellings records.items stands recalls.0, recalls.1.nothing_else found here)
recall_stands old new tellings (Err Device) stands recalls = no_more_stands old new tellings stands recalls
recall_stands old new tellings (Err Damaged) stands recalls = no_more_stands old new tellings stands recalls.1
recall_stands old new tellings (Err Broken) stands recalls = absurd recalls
recall_stands old new tellings (Err OutOfMemory) stands recalls = no_more_stands old new tellings stands recalls

pub left_stands : (old : Found → Type 0) (tellings : List Telling) (last : Record) {T : Type 0} (answer : Result T StoreFault)
    (found : Found) → StandsAfter tellings old → LeftInKeep last answer old found
    → Stands (with_crash tellings last answer) found
left_stands old tellings last (Ok _) found stands left = found_with_or_without old tellings last found stands left
left_stands old tellings last (Err Device) found stands left = found_with_or_without old tellings last found stands left
left_stands old tellings last (Err Damaged) found stands left = absurd left
left_stands old tellings last (Err Broken) found stands left = stands found left
left_stands old tellings last (Err OutOfMemory) found stands left = stands found left
