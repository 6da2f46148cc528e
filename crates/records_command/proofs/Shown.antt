-- What is shown of records that were read.
use Rattle.std.proofs.Common.{◌≡◌, ℕ, List, Option, Result, Ok, Err, inl, inr, subst}
use Rattle.ballots.specs.declared.record.Record.{Record}
use Rattle.disk_records.specs.RecordFile.{FileMeans}
use Rattle.record_sums.specs.Sums.{Fits}
use Rattle.records_command.specs.declared.fault.ShowFault.{ShowFault}
use Rattle.records_command.specs.declared.fault.ShowFault.TheVariants.{Damaged, OutOfMemory, Io}
use Rattle.records_command.specs.Showing.{Shows, ShowsInPart, ShowsRead, WritesPart}

abbrev pub MeansOne : Type 0
MeansOne = (file : List ℕ) (one other : List Record) → FileMeans file one → FileMeans file other → one ≡ other

in_part : (file sums : List ℕ) (records : List Record) (old new : Option (List ℕ)) → FileMeans file records → Fits sums records
    → WritesPart records old new → ShowsInPart file sums old new
in_part file sums records old new means fits part = record {
  records = records;
  means = means;
  fits = fits;
  written = part.written;
  beginning = part.beginning;
  out = part.out;
}

pub shows_read : MeansOne → (file sums : List ℕ) (records : List Record) (result : Result (Unit {0}) ShowFault) (old new : Option (List ℕ))
    → FileMeans file records → ShowsRead sums records result old new → Shows file sums result old new
shows_read one file sums records (Ok done) old new means shown = record {
  records = records;
  means = means;
  fits = shown.0;
  out = shown.1;
}
shows_read one file sums records (Err Damaged) old new means shown =
    (λ whole. shown.0 (subst (Fits sums) (one file whole.0 records whole.1 means) whole.2), shown.1)
shows_read one file sums records (Err OutOfMemory) old new means (inl keeps) = inl keeps
shows_read one file sums records (Err OutOfMemory) old new means (inr part) = inr (in_part file sums records old new means part.0 part.1)
shows_read one file sums records (Err Io) old new means shown = in_part file sums records old new means shown.0 shown.1
