-- Walks over entries, step by step.
use Rattle.std.proofs.Common.{◌≡◌, ◌-◌, ◌≤◌, ◌<◌, inl, inr, ℕ, ◌+◌, ◌*◌, List, []}
use Rattle.std.proofs.Common.{◌∷◌, ◌++◌, length, arith, refl, sym, subst}
use Rattle.std.proofs.lemmas.List.{length-append}
use Rattle.flat_places.specs.Number.{ShowsReference}
use Rattle.header_types.specs.declared.fault.MetaFault.{MetaFault}
use Rattle.header_types.specs.declared.fault.MetaFault.TheVariants.{TooManyFields}
use Rattle.header_types.specs.Fields.{Text, Entry, more}
use Rattle.header_types.specs.Slots.{VectorRef}
use Rattle.header_types.specs.Shown.{ShowsEntry, ShowsEntries}
use Rattle.header_types.specs.Limits.{SchemaTotals, add_totals, entries_totals, entry_bytes}
use Rattle.header_types.specs.Limits.{IsBeyond}
use Rattle.header_reading.specs.Faults.{EntryFault}
use Rattle.header_types.proofs.Beyond.{beyond_more}
use Rattle.header_types.specs.Adding.{Adds, one_entry, text_bytes}
use Rattle.header_reading.specs.Walking.{PassesEntry, EntryEnd, PassesEntries}
use Rattle.header_reading.specs.Walking.{EntriesEnd}

-- ---- one entry

pub entry_passes : (text : List ℕ) (table : ℕ) (key value : Text) (old a b new : SchemaTotals)
    → ShowsEntry text table (key, value)
    → Adds old one_entry a → Adds a (text_bytes (length key)) b → Adds b (text_bytes (length value)) new
    → PassesEntry text table old new
entry_passes text table key value old a b new shown p q r =
    record { entry = (key, value); shown = shown; added = (omega arith, omega arith, omega arith) }

pub entry_fault : (text : List ℕ) (table : ℕ) (old : SchemaTotals) (e : MetaFault) → EntryFault text table e
    → EntryEnd text table old e
entry_fault text table old e fault = inl fault

pub one_too_many : (text : List ℕ) (table : ℕ) (key value : Text) (old : SchemaTotals) (e : MetaFault)
    → ShowsEntry text table (key, value)
    → e ≡ TooManyFields → IsBeyond (add_totals old one_entry) → EntryEnd text table old e
one_too_many text table key value old e shown is beyond =
    inr (
      is,
      record {
        entry = (key, value);
        shown = shown;
        beyond =
            beyond_more (add_totals old one_entry)
            (add_totals old (entries_totals ((key, value) ∷ []))) beyond (omega arith)
            (omega arith) (omega arith);
      },
    )

pub key_too_long : (text : List ℕ) (table : ℕ) (key value : Text) (old a : SchemaTotals) (e : MetaFault)
    → ShowsEntry text table (key, value)
    → Adds old one_entry a → e ≡ TooManyFields → IsBeyond (add_totals a (text_bytes (length key)))
    → EntryEnd text table old e
key_too_long text table key value old a e shown p is beyond =
    inr (
      is,
      record {
        entry = (key, value);
        shown = shown;
        beyond =
            beyond_more (add_totals a (text_bytes (length key)))
            (add_totals old (entries_totals ((key, value) ∷ []))) beyond
            (omega arith) (omega arith) (omega arith);
      },
    )

pub value_too_long : (text : List ℕ) (table : ℕ) (key value : Text) (old a b : SchemaTotals) (e : MetaFault)
    → ShowsEntry text table (key, value)
    → Adds old one_entry a → Adds a (text_bytes (length key)) b → e ≡ TooManyFields
    → IsBeyond (add_totals b (text_bytes (length value))) → EntryEnd text table old e
value_too_long text table key value old a b e shown p q is beyond =
    inr (
      is,
      record {
        entry = (key, value);
        shown = shown;
        beyond =
            beyond_more (add_totals b (text_bytes (length value)))
            (add_totals old (entries_totals ((key, value) ∷ []))) beyond
            (omega arith) (omega arith) (omega arith);
      },
    )

-- ---- entries

entry_bytes_append : (xs ys : List Entry) → entry_bytes (xs ++ ys) ≡ entry_bytes xs + entry_bytes ys
entry_bytes_append [] ys = omega arith
entry_bytes_append (x ∷ xs) ys = let more = entry_bytes_append xs ys in omega arith

pub entries_append : (text : List ℕ) (place : ℕ) (xs : List Entry) (table : ℕ) (entry : Entry)
    → ShowsEntries text place xs
    → ShowsReference text (place + 4 * length xs) table → ShowsEntry text table entry
    → ShowsEntries text place (xs ++ entry ∷ [])
entries_append text place [] table entry shown refers there =
    ((table, subst (λ k. ShowsReference text k table) (omega arith) refers, there), tt)
entries_append text place (x ∷ xs) table entry shown refers there = (
  shown.0,
  entries_append text (place + 4) xs table entry shown.1
      (subst (λ k. ShowsReference text k table) (omega arith) refers) there,
)

pub no_entries : (text : List ℕ) (first : ℕ) (old : SchemaTotals) → PassesEntries text first 0 old old
no_entries text first old = record {
  entries = [];
  shown = tt;
  all = refl;
  added =
      (omega arith, omega arith, omega arith);
}

pub entries_pass : (text : List ℕ) (first i table : ℕ) (old mid new : SchemaTotals) → PassesEntries text first i old mid
    → ShowsReference text (first + 4 * i) table → PassesEntry text table mid new
    → PassesEntries text first (i + 1) old new
entries_pass text first i table old mid new before refers one =
    let bytes = entry_bytes_append before.entries (one.entry ∷ []) in
    let count = length-append before.entries (one.entry ∷ []) in
    let all = before.all in
    let (p, q, r) = before.added in
    let (p', q', r') = one.added in
    record {
      entries = before.entries ++ one.entry ∷ [];
      shown = entries_append text first before.entries table one.entry before.shown
          (subst (λ k. ShowsReference text (first + 4 * k) table) (sym before.all) refers) one.shown;
      all = omega arith;
      added = (omega arith, omega arith, omega arith);
    }

pub entries_end : (text : List ℕ) (vector : VectorRef) (i table : ℕ) (old mid : SchemaTotals) (e : MetaFault)
    → PassesEntries text vector.first i old mid → i < vector.count
    → ShowsReference text (vector.first + 4 * i) table → EntryEnd text table mid e → EntriesEnd text vector old e
entries_end text vector i table old mid e before there refers (inl fault) = inl (i, table, there, refers, fault)
entries_end text vector i table old mid e before there refers (inr (is, one)) =
    let bytes = entry_bytes_append before.entries (one.entry ∷ []) in
    let count = length-append before.entries (one.entry ∷ []) in
    let all = before.all in
    let (p, q, r) = before.added in
    inr (
      is,
      record {
        entries = before.entries ++ one.entry ∷ [];
        shown = entries_append text vector.first before.entries table one.entry before.shown
            (subst (λ k. ShowsReference text (vector.first + 4 * k) table) (sym before.all) refers) one.shown;
        some = omega arith;
        beyond = beyond_more (add_totals mid (entries_totals (one.entry ∷ [])))
            (add_totals old (entries_totals (before.entries ++ one.entry ∷ []))) one.beyond (omega arith) (omega arith)
            (omega arith);
      },
    )
