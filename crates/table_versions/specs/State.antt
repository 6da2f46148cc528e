-- What a node's tables hold of the values that were taken, and when they take more of them without memory.
use Rattle.std.specs.Prelude.{◌≡◌, ℕ, ◌+◌, ◌≤◌, List, length}
use Rattle.std.specs.List.{AllZip}
use Rattle.ballots.specs.declared.value.Value.{Value}
use Rattle.table_types.specs.Uploads.{Upload}
use Rattle.table_versions.specs.Values.{AreUploadsIn}
use Rattle.table_versions.specs.declared.prepared.Prepared.{Prepared}
use Rattle.table_versions.specs.Ledger.{FirstEntries, TableEntries, FrameEntries, IsLedger, IsPrepared}

-- the most values that are taken
abbrev pub agreed_values_limit : ℕ
agreed_values_limit = 1000000

-- the three maps, how many values were taken, and how many uploads can be taken without memory
pub record TablesState : Type 0 where
  pub firsts : FirstEntries
  pub tables : TableEntries
  pub frames : FrameEntries
  pub taken : ℕ
  pub room : ℕ

-- the tables hold what this list of values makes, and nothing else
pub record HasTaken (state : TablesState) (values : List Value) : Type 0 where
  pub uploads : List Upload
  pub are : AreUploadsIn values uploads
  pub taken_is : state.taken ≡ length values
  pub few : length values ≤ agreed_values_limit
  pub ledger : IsLedger state.firsts state.tables state.frames uploads

-- the tables hold the same, whatever room they have
pub record IsSame (old new : TablesState) : Type 0 where
  pub firsts : new.firsts ≡ old.firsts
  pub tables : new.tables ≡ old.tables
  pub frames : new.frames ≡ old.frames
  pub taken : new.taken ≡ old.taken

-- uploads that are ready to be taken, and of how many values they are
pub record ReadyState : Type 0 where
  pub uploads : List Prepared
  pub count : ℕ

-- those of these values are ready
pub record IsReadyFor (ready : ReadyState) (values : List Value) : Type 0 where
  pub uploads : List Upload
  pub are : AreUploadsIn values uploads
  pub prepared : AllZip IsPrepared ready.uploads uploads
  pub count_is : ready.count ≡ length values

-- the tables take what is ready without memory
pub record CanTake (state : TablesState) (ready : ReadyState) : Type 0 where
  pub room : length ready.uploads ≤ state.room
  pub few : state.taken + ready.count ≤ agreed_values_limit
