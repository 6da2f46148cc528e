-- Values made ready one after the other.
use Rattle.std.proofs.Common.{◌≡◌, refl, sym, ap, subst, ◌∙◌, ℕ, inl, inr, ◌+◌, ◌<◌, ◌≤◌, None, Some, List, [], ◌∷◌, ◌++◌, length, take, get_or}
use Rattle.std.specs.List.{AllZip}
use Rattle.std.proofs.lemmas.List.{append-nil, take_more, take_all}
use Rattle.ballots.specs.declared.value.Value.{Value}
use Rattle.ballots.specs.declared.value.Value.TheVariants as values
use Rattle.table_types.specs.Uploads.{Upload}
use Rattle.table_types.specs.Texts.{IsUploadText}
use Rattle.table_versions.specs.declared.prepared.Prepared.{Prepared}
use Rattle.table_versions.specs.Ledger.{IsPrepared}
use Rattle.table_versions.specs.State.{ReadyState, IsReadyFor}
use Rattle.table_versions.specs.Preparing.{PreparesBytes, PushesBytes, PushesValue, AreReady}
use Rattle.table_versions.proofs.Values.{AreBoth, uploads_both}

zip_both : (xs ys : List Prepared) (us vs : List Upload) → AllZip IsPrepared xs us → AllZip IsPrepared ys vs → AllZip IsPrepared (xs ++ ys) (us ++ vs)
zip_both [] ys [] vs first second = second
zip_both [] ys (u ∷ us) vs first second = absurd first
zip_both (x ∷ xs) ys [] vs first second = absurd first
zip_both (x ∷ xs) ys (u ∷ us) vs first second = (first.0, zip_both xs ys us vs first.1 second)

pub none_ready : AreReady [] []
none_ready = record { uploads = []; are = refl; prepared = tt }

pub ready_push : AreBoth → (values : List Value) (value : Value) (items new : List Prepared) → AreReady values items → PushesValue items new value → AreReady (values ++ value ∷ []) new
ready_push both values value items new ready pushes = record {
  uploads = ready.uploads ++ pushes.added;
  are = uploads_both both values (value ∷ []) ready.uploads pushes.added ready.are pushes.adds;
  prepared = subst (λ l. AllZip IsPrepared l (ready.uploads ++ pushes.added)) (sym pushes.items)
      (zip_both items pushes.more ready.uploads pushes.added ready.prepared pushes.ready);
}

pub pushes_none : (old : List Prepared) (bytes : List ℕ) → PreparesBytes bytes None → PushesBytes old old bytes
pushes_none old bytes none = record {
  added = [];
  more = [];
  adds = inr (λ is. none is.0 is.1.0 is.1.1, refl);
  ready = tt;
  items = sym (append-nil old);
}

pub pushes_some : (old new : List Prepared) (bytes : List ℕ) (prepared : Prepared) → PreparesBytes bytes (Some prepared) → new ≡ old ++ prepared ∷ [] → PushesBytes old new bytes
pushes_some old new bytes prepared is items = record {
  added = is.0 ∷ [];
  more = prepared ∷ [];
  adds = inl (is.0, [], (is.1, is.2), refl, refl);
  ready = (is.3, tt);
  items = items;
}

pub pushes_noop : (IsUploadText [] → ⊥) → (old : List Prepared) → PushesValue old old values.Noop
pushes_noop none old = record {
  added = [];
  more = [];
  adds = inr (none, refl);
  ready = tt;
  items = sym (append-nil old);
}

-- one value more of a list
pub ready_more : AreBoth → (values : List Value) (i : ℕ) (value : Value) (items new : List Prepared) → i < length values → value ≡ get_or values i value → AreReady (take i values) items
    → PushesValue items new value → AreReady (take (i + 1) values) new
ready_more both values i value items new within is ready pushes =
    subst (λ l. AreReady l new) (sym (take_more values i value within ∙ ap (λ v. take i values ++ v ∷ []) (sym is)))
    (ready_push both (take i values) value items new ready pushes)

-- all values of a list
pub ready_all : (values : List Value) (i : ℕ) (ready : ReadyState) → length values ≤ i → AreReady (take i values) ready.uploads → ready.count ≡ length values → IsReadyFor ready values
ready_all values i ready within is count =
    let all : AreReady values ready.uploads = subst (λ l. AreReady l ready.uploads) (take_all i values within) is in
    record {
      uploads = all.uploads;
      are = all.are;
      prepared = all.prepared;
      count_is = count;
    }
