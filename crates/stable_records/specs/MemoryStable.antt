-- A store in memory as the list of its records (Lamport, "Paxos Made Simple", section 2.5, where such records are
-- kept). Each keep is one step, so the moments are the numbers of records.
use Rattle.std.specs.Prelude.{◌≡◌, ℕ, ◌≤◌, List, length, take, Some}
use Rattle.std.proofs.Common.{arith, ap, ◌∙◌, sym, refl}
use Rattle.std.proofs.lemmas.List.{take_all}
use Rattle.ballots.specs.declared.record.Record.{Record}
use Rattle.stable_records.specs.Found.{Found, FindsOnly}

-- these records are found
abbrev pub HasRecords : List Record → Found → Type 0
HasRecords records found = found ≡ Some records

-- what a crash might have left since the moment when there were `since` records: the first records, as many as there
-- were at some moment from then on
pub record HadRecords (records : List Record) (since : ℕ) (found : Found) : Type 0 where
  pub count : ℕ
  pub from : since ≤ count
  pub upto : count ≤ length records
  pub had : found ≡ Some (take count records)

-- ---- that these are as a store's have to be

-- the records are found, and nothing else
pub finds_records : (records : List Record) → FindsOnly (HasRecords records) records
finds_records records = record { these = refl; nothing_else = λ found here. here }

-- what is found now was had at a moment since any earlier one
pub had_now : (records : List Record) (since : ℕ) (found : Found) → since ≤ length records → HasRecords records found
    → HadRecords records since found
had_now records since found le here = record {
  count = length records;
  from = le;
  upto = omega arith;
  had = here ∙ ap (λ rs. Some rs) (sym (take_all (length records) records (omega arith)));
}

-- and since this moment nothing else was
pub only_had_now : (records : List Record) (found : Found) → HadRecords records (length records) found
    → HasRecords records found
only_had_now records found had = had.had ∙ ap (λ rs. Some rs) (take_all had.count records had.from)
