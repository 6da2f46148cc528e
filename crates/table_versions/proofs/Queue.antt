-- Uploads taken one after the other.
use Rattle.std.proofs.Common.{◌≡◌, refl, sym, ap, subst, ◌∙◌, ◌+◌, ◌<◌, ◌≤◌, List, [], ◌∷◌, ◌++◌, length, drop, length-append, append_assoc, arith}
use Rattle.std.specs.List.{AllZip}
use Rattle.std.proofs.lemmas.List.{append-nil}
use Rattle.table_types.specs.Uploads.{Upload}
use Rattle.table_versions.specs.declared.prepared.Prepared.{Prepared}
use Rattle.table_versions.specs.Ledger.{FirstEntries, TableEntries, FrameEntries, IsLedger, IsPrepared}

-- behind those that were taken some of more were, and those that are left are ready
pub record IsLeft (firsts : FirstEntries) (tables : TableEntries) (frames : FrameEntries) (taken more : List Upload) (items : List Prepared) : Type 0 where
  pub done : List Upload
  pub rest : List Upload
  pub split : more ≡ done ++ rest
  pub ledger : IsLedger firsts tables frames (taken ++ done)
  pub ready : AllZip IsPrepared items rest

module _ (firsts : FirstEntries) (tables : TableEntries) (frames : FrameEntries) (taken more : List Upload) where
  pub left_start : (items : List Prepared) → IsLedger firsts tables frames taken → AllZip IsPrepared items more → IsLeft firsts tables frames taken more items
  left_start items ledger ready = record {
    done = [];
    rest = more;
    split = refl;
    ledger = subst (IsLedger firsts tables frames) (sym (append-nil taken)) ledger;
    ready = ready;
  }

  ended : (done rest : List Upload) → more ≡ done ++ rest → IsLedger firsts tables frames (taken ++ done) → AllZip IsPrepared [] rest → IsLedger firsts tables frames (taken ++ more)
  ended done [] split ledger ready =
      subst (λ l. IsLedger firsts tables frames (taken ++ l)) (sym (split ∙ append-nil done)) ledger
  ended done (u ∷ rest) split ledger ready = absurd ready

  pub left_end : IsLeft firsts tables frames taken more [] → IsLedger firsts tables frames (taken ++ more)
  left_end left = ended left.done left.rest left.split left.ledger left.ready

  next_one : (prepared : Prepared) (items : List Prepared) (rest : List Upload) → AllZip IsPrepared (prepared ∷ items) rest
      → (u : Upload) × (others : List Upload) × (rest ≡ u ∷ others) × IsPrepared prepared u × AllZip IsPrepared items others
  next_one prepared items [] ready = absurd ready
  next_one prepared items (u ∷ others) ready = (u, others, refl, ready.0, ready.1)

  pub left_next : (prepared : Prepared) (items : List Prepared) → IsLeft firsts tables frames taken more (prepared ∷ items) → length taken + length more ≤ 1000000
      → (uploads : List Upload) × IsLedger firsts tables frames uploads × (length uploads < 1000000)
  left_next prepared items left few =
      let next = next_one prepared items left.rest left.ready in (
        taken ++ left.done,
        left.ledger,
        omega (
          arith,
          few,
          ap length left.split,
          ap length next.2,
          length-append left.done left.rest,
          length-append taken left.done,
        ),
      )

  pub left_prepared : (prepared : Prepared) (items : List Prepared) → IsLeft firsts tables frames taken more (prepared ∷ items) → (u : Upload) × IsPrepared prepared u
  left_prepared prepared items left =
      let next = next_one prepared items left.rest left.ready in (next.0, next.3)

  pub left_step : (new : FirstEntries) (named : TableEntries) (served : FrameEntries) (prepared : Prepared) (items : List Prepared)
      → ((uploads : List Upload) (u : Upload) → IsLedger firsts tables frames uploads → IsPrepared prepared u → IsLedger new named served (uploads ++ u ∷ []))
      → IsLeft firsts tables frames taken more (prepared ∷ items) → IsLeft new named served taken more items
  left_step new named served prepared items takes left =
      let next = next_one prepared items left.rest left.ready in
      record {
        done = left.done ++ next.0 ∷ [];
        rest = next.1;
        split = left.split ∙ ap (λ l. left.done ++ l) next.2 ∙ sym (append_assoc left.done (next.0 ∷ []) next.1);
        ledger = subst (IsLedger new named served) (append_assoc taken left.done (next.0 ∷ [])) (takes (taken ++ left.done) next.0 left.ledger next.3);
        ready = next.4;
      }

-- a list that is its own rest has nothing
pub no_items : (xs : List Prepared) → xs ≡ drop 1 xs → xs ≡ []
no_items [] same = refl
no_items (x ∷ xs) same = absurd (omega (arith, ap length same))
