-- The uploads of values, by those of their bytes.
use Rattle.std.proofs.Common.{◌≡◌, sym, subst, ℕ, ◌≤◌, List, [], ◌∷◌, ◌++◌, map, length, arith}
use Rattle.std.proofs.lemmas.List.{length-map, map-append}
use Rattle.ballots.specs.declared.value.Value.{Value}
use Rattle.ballots.specs.Message.{value_bytes}
use Rattle.table_types.specs.Uploads.{Upload}
use Rattle.table_types.specs.Texts.{AreUploadsOf}
use Rattle.table_versions.specs.Values.{AreUploadsIn}

-- a list of texts holds one list of uploads
abbrev pub AreOne : Type 0
AreOne = (texts : List (List ℕ)) (xs ys : List Upload) → AreUploadsOf texts xs → AreUploadsOf texts ys → xs ≡ ys

-- at most one a text
abbrev pub AreFew : Type 0
AreFew = (texts : List (List ℕ)) (xs : List Upload) → AreUploadsOf texts xs → length xs ≤ length texts

-- two lists end to end hold the uploads of both
abbrev pub AreBoth : Type 0
AreBoth = (first second : List (List ℕ)) (xs ys : List Upload) → AreUploadsOf first xs → AreUploadsOf second ys
    → AreUploadsOf (first ++ second) (xs ++ ys)

pub uploads_both : AreBoth → (xs ys : List Value) (us vs : List Upload) → AreUploadsIn xs us → AreUploadsIn ys vs → AreUploadsIn (xs ++ ys) (us ++ vs)
uploads_both both xs ys us vs first second =
    subst (λ texts. AreUploadsOf texts (us ++ vs)) (sym (map-append value_bytes xs ys))
    (both (map value_bytes xs) (map value_bytes ys) us vs first second)

pub uploads_few : AreFew → (xs : List Value) (us : List Upload) → AreUploadsIn xs us → length us ≤ length xs
uploads_few few xs us are = omega (arith, few (map value_bytes xs) us are, length-map xs value_bytes)
