-- What the calls gave that were made side by side, one for each job.
use Rattle.std.proofs.Common.{◌≡◌, ℕ, ◌<◌, arith, Result, Ok, Err, IfOk, List, length, map, slice_index_or, sym, ap, subst, ◌∙◌}
use Rattle.std.proofs.lemmas.List.{length-map, get_or-map}

-- what holds of a result that there is, and what follows from it
pub if_ok : {V E : Type 0} (P Q : V → Type 0) (r : Result V E) → ((v : V) → P v → Q v) → IfOk r P → IfOk r Q
if_ok P Q (Ok v) then holds = then v holds
if_ok P Q (Err e) then holds = tt

module _ {T E : Type 0} where
  abbrev pub ok : T → Result T E
  ok t = Ok t

  -- what each call gave, where all of them gave something
  pub each_given : (P : T → T → Type 0) (nodes : List T) (results : List (Result T E)) (given : List T) → map ok given ≡ results → length results ≡ length nodes
      → ((i : ℕ) (e : Result T E) → i < length nodes → (job : T) × ((d : T) → slice_index_or nodes i d ≡ job) × IfOk (slice_index_or results i e) (P job))
      → (i : ℕ) (d : T) → i < length nodes → P (slice_index_or nodes i d) (slice_index_or given i d)
  each_given P nodes results given all len each i d within =
      let it = each i (ok d) within in
      let counted : length (map ok given) ≡ length given = length-map given ok in
      let among : i < length given = omega (arith, within, len, counted, ap (λ (rs : List (Result T E)). length rs) all) in
      let is : slice_index_or results i (ok d) ≡ ok (slice_index_or given i d) =
      subst (λ (rs : List (Result T E)). slice_index_or rs i (ok d) ≡ ok (slice_index_or given i d)) all (get_or-map ok given i d (ok d) among) in
      subst (λ (t : T). P t (slice_index_or given i d)) (sym (it.1 d)) (subst (λ (r : Result T E). IfOk r (P it.0)) is it.2)

  -- as many as there are results
  pub as_many : (results : List (Result T E)) (given : List T) (count : ℕ) → map ok given ≡ results → length results ≡ count → length given ≡ count
  as_many results given count all len = sym (length-map given ok) ∙ ap (λ (rs : List (Result T E)). length rs) all ∙ len
