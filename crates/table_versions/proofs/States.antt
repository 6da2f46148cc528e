-- What tables hold of values: of none, of more of them, and as look-ups need it.
use Rattle.std.proofs.Common.{◌≡◌, refl, sym, subst, ◌∙◌, ◌+◌, ◌≤◌, Some, None, Result, Ok, Err, OnErr, IfOk, List, [], ◌++◌, map, length, length-append, arith}
use Rattle.std.specs.List.{AllZip}
use Rattle.ballots.specs.declared.value.Value.{Value}
use Rattle.ballots.specs.Message.{value_bytes}
use Rattle.table_types.specs.Uploads.{Upload}
use Rattle.table_versions.specs.Values.{AreUploadsIn}
use Rattle.table_versions.specs.Ledger.{IsLedger, IsPrepared}
use Rattle.table_versions.specs.State.{TablesState, HasTaken, ReadyState, IsReadyFor, IsSame}
use Rattle.table_versions.proofs.Values.{AreOne, AreFew, AreBoth, uploads_both, uploads_few}

none_is_some : {X : Type 0} (x : X) → None ≡ Some x → ⊥
none_is_some x same = cc

empty_ledger : IsLedger [] [] [] []
empty_ledger = record {
  valid = tt;
  firsts_are = λ id. refl;
  tables_are = λ name. tt;
  numbers_are = λ name table is. absurd (none_is_some table is);
  frames_are = λ name table is. absurd (none_is_some table is);
  names_are = refl;
}

pub nothing_taken : (state : TablesState) → state.firsts ≡ [] → state.tables ≡ [] → state.frames ≡ [] → state.taken ≡ 0 → HasTaken state []
nothing_taken state firsts tables frames taken = record {
  uploads = [];
  are = refl;
  taken_is = taken;
  few = omega arith;
  ledger =
      subst (λ f. IsLedger f state.tables state.frames []) (sym firsts)
      (subst (λ t. IsLedger [] t state.frames []) (sym tables) (subst (λ f. IsLedger [] [] f []) (sym frames) empty_ledger));
}

-- the ledger of the uploads that these values hold
pub ledger_of : AreOne → (state : TablesState) (values : List Value) (uploads : List Upload) → HasTaken state values → AreUploadsIn values uploads
    → IsLedger state.firsts state.tables state.frames uploads
ledger_of one state values uploads taken are =
    subst (IsLedger state.firsts state.tables state.frames) (one (map value_bytes values) taken.uploads uploads taken.are are) taken.ledger

-- more values were taken
pub taken_both : AreBoth → (old new : TablesState) (taken values : List Value) (ready : ReadyState) → HasTaken old taken → IsReadyFor ready values → old.taken + ready.count ≤ 1000000
    → new.taken ≡ old.taken + ready.count
    → ((before more : List Upload) → IsLedger old.firsts old.tables old.frames before → AllZip IsPrepared ready.uploads more → IsLedger new.firsts new.tables new.frames (before ++ more))
    → HasTaken new (taken ++ values)
taken_both both old new taken values ready has is few grown takes = record {
  uploads = has.uploads ++ is.uploads;
  are = uploads_both both taken values has.uploads is.uploads has.are is.are;
  taken_is = omega (arith, grown, has.taken_is, is.count_is, length-append taken values);
  few = omega (arith, few, has.taken_is, is.count_is, length-append taken values);
  ledger = takes has.uploads is.uploads has.ledger is.prepared;
}

-- all that taking what is ready needs
pub can_take : AreFew → (state : TablesState) (taken values : List Value) (ready : ReadyState) → HasTaken state taken → IsReadyFor ready values → state.taken + ready.count ≤ 1000000
    → (before more : List Upload) × IsLedger state.firsts state.tables state.frames before × AllZip IsPrepared ready.uploads more × (length before + length more ≤ 1000000)
can_take at_most state taken values ready has is few = (
  has.uploads,
  is.uploads,
  has.ledger,
  is.prepared,
  omega (arith, few, has.taken_is, is.count_is, uploads_few at_most taken has.uploads has.are, uploads_few at_most values is.uploads is.are),
)

pub same_taken : (old new : TablesState) (values : List Value) → IsSame old new → HasTaken old values → HasTaken new values
same_taken old new values same has = record {
  uploads = has.uploads;
  are = has.are;
  taken_is = same.taken ∙ has.taken_is;
  few = has.few;
  ledger =
      subst (λ f. IsLedger f new.tables new.frames has.uploads) (sym same.firsts)
      (subst (λ t. IsLedger old.firsts t new.frames has.uploads) (sym same.tables)
      (subst (λ f. IsLedger old.firsts old.tables f has.uploads) (sym same.frames) has.ledger));
}

-- ---- results

pub on_err : {T E P Q : Type 0} (r : Result T E) → (P → Q) → OnErr r P → OnErr r Q
on_err (Ok x) more is = tt
on_err (Err e) more is = more is

pub if_ok : {T E : Type 0} (P Q : T → Type 0) (r : Result T E) → ((x : T) → P x → Q x) → IfOk r P → IfOk r Q
if_ok P Q (Ok x) more is = more x is
if_ok P Q (Err e) more is = tt
