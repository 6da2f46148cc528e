-- How far a walk over fields came: a tool of the proofs. What a text shows is defined in `Shown`, and faults in
-- `Faults`.
use Rattle.std.specs.Prelude.{◌≡◌, ◌≤◌, ◌⊎◌, ℕ, ◌+◌, ◌*◌, List, [], ◌∷◌, length}
use Rattle.header_types.specs.declared.fault.MetaFault.{MetaFault}
use Rattle.header_types.specs.declared.fault.MetaFault.TheVariants.{TooManyFields}
use Rattle.header_types.specs.Fields.{Entry, FieldHead, Tree, tree, Forest, no_more, width}
use Rattle.header_types.specs.Slots.{VectorRef}
use Rattle.header_types.specs.Shown.{ShowsEntry, ShowsEntries, ShowsFieldHead, ShowsForest, ShowsPart, ShowsForestPart}
use Rattle.header_types.specs.Limits.{SchemaTotals, add_totals, entries_totals, forest_totals, tree_totals, field_bytes}
use Rattle.header_types.specs.Limits.{forest_depth, IsBeyond}
use Rattle.header_types.specs.Adding.{Adds}
use Rattle.header_reading.specs.Faults.{EntryFault, EntriesFault, FieldFault, ForestFault}

-- all elements of the vector lie in the text
abbrev pub IsInside : List ℕ → VectorRef → ℕ → Type 0
IsInside text vector size = vector.first + vector.count * size ≤ length text

-- the table shows an entry, and its totals were added
pub record PassesEntry (text : List ℕ) (table : ℕ) (old new : SchemaTotals) : Type 0 where
  pub entry : Entry
  pub shown : ShowsEntry text table entry
  pub added : Adds old (entries_totals (entry ∷ [])) new

-- an entry goes beyond what a schema may say
pub record EntryIsBeyond (text : List ℕ) (table : ℕ) (old : SchemaTotals) : Type 0 where
  pub entry : Entry
  pub shown : ShowsEntry text table entry
  pub beyond : IsBeyond (add_totals old (entries_totals (entry ∷ [])))

abbrev pub EntryEnd : List ℕ → ℕ → SchemaTotals → MetaFault → Type 0
EntryEnd text table old fault = EntryFault text table fault ⊎ ((fault ≡ TooManyFields) × EntryIsBeyond text table old)

-- so many entries are shown from the place on, and their totals were added
pub record PassesEntries (text : List ℕ) (first count : ℕ) (old new : SchemaTotals) : Type 0 where
  pub entries : List Entry
  pub shown : ShowsEntries text first entries
  pub all : length entries ≡ count
  pub added : Adds old (entries_totals entries) new

-- some of so many entries go beyond what a schema may say
pub record EntriesAreBeyond (text : List ℕ) (vector : VectorRef) (old : SchemaTotals) : Type 0 where
  pub entries : List Entry
  pub shown : ShowsEntries text vector.first entries
  pub some : length entries ≤ vector.count
  pub beyond : IsBeyond (add_totals old (entries_totals entries))

abbrev pub EntriesEnd : List ℕ → VectorRef → SchemaTotals → MetaFault → Type 0
EntriesEnd text vector old fault = EntriesFault text vector fault
    ⊎ ((fault ≡ TooManyFields) × EntriesAreBeyond text vector old)

-- what a field adds, but for its metadata and those inside it
abbrev pub field_totals : FieldHead → SchemaTotals
field_totals field = record { fields = 1; entries = 0; bytes = field_bytes field }

-- the table shows a field with these fields inside it, and its totals were added, but for those inside
pub record PassesField (text : List ℕ) (table : ℕ) (children : VectorRef) (old new : SchemaTotals) : Type 0 where
  pub field : FieldHead
  pub metadata : VectorRef
  pub entries : List Entry
  pub shown : ShowsFieldHead text table field children metadata
  pub all : length entries ≡ metadata.count
  pub entries_shown : ShowsEntries text metadata.first entries
  pub added : Adds old (tree_totals (tree field entries no_more)) new

-- some of the field goes beyond what a schema may say
pub record TreeIsBeyond (text : List ℕ) (table : ℕ) (old : SchemaTotals) : Type 0 where
  pub part : Tree
  pub shown : ShowsPart text table part
  pub beyond : IsBeyond (add_totals old (tree_totals part))

abbrev pub FieldEnd : List ℕ → ℕ → SchemaTotals → MetaFault → Type 0
FieldEnd text table old fault = FieldFault text table fault ⊎ ((fault ≡ TooManyFields) × TreeIsBeyond text table old)

-- so many fields are shown from the place on, within so many levels, and their totals were added
pub record PassesForest (text : List ℕ) (first count levels : ℕ) (old new : SchemaTotals) : Type 0 where
  pub forest : Forest
  pub shown : ShowsForest text first forest
  pub all : width forest ≡ count
  pub not_deep : forest_depth forest ≤ levels
  pub added : Adds old (forest_totals forest) new

-- some of so many fields go beyond what a schema may say
pub record ForestIsBeyond (text : List ℕ) (vector : VectorRef) (old : SchemaTotals) : Type 0 where
  pub part : Forest
  pub shown : ShowsForestPart text vector.first part
  pub some : width part ≤ vector.count
  pub beyond : IsBeyond (add_totals old (forest_totals part))

abbrev pub ForestEnd : List ℕ → ℕ → VectorRef → SchemaTotals → MetaFault → Type 0
ForestEnd text levels vector old fault =
    ForestFault text levels vector fault ⊎ ((fault ≡ TooManyFields) × ForestIsBeyond text vector old)
