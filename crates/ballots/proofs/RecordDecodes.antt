-- What reading a record gives, in the words of its text.
use Rattle.std.proofs.Common.{◌≡◌, List, ℕ, Result, Ok, Err, refl, sym, subst, ◌∙◌, ◌⊎◌, inl, inr}
use Rattle.std.specs.Prelude.{IfOk, IfErr}
use Rattle.proto_fields.specs.Field.{Field, IsFields}
use Rattle.proto_fields.proofs.Steps.{ok_is, err_is}
use Rattle.proto_fields.proofs.Fronts.{fields_same}
use Rattle.ballots.specs.declared.record.Record.{Record}
use Rattle.ballots.specs.declared.fault.MessageFault.{MessageFault}
use Rattle.ballots.specs.declared.fault.MessageFault.TheVariants.{OutOfMemory}
use Rattle.ballots.specs.Message.{WireStands}
use Rattle.ballots.specs.Record.{record_parts_of, MeansRecord, IsRecordText, IsRecordFault, KeepsUpload}
use Rattle.ballots.specs.MessageReading.{Gives, OfFields, TellsFields}
use Rattle.ballots.specs.RecordReading.{record_at}
use Rattle.ballots.proofs.Steps.{whole_only, whole_fault, whole_memory}
use Rattle.ballots.proofs.RecordBodies.{record_takes, record_again, record_faults}

module _ (text : List ℕ) (fields : List Field) (is : IsFields text fields) where
  means_it : (r : Record) → record_at (record_parts_of fields) ≡ Ok r → IsRecordText text r
  means_it r e = record { fields = fields; encodes = is; means = record_takes (record_parts_of fields) r e }

  stands : (fault : MessageFault) → record_at (record_parts_of fields) ≡ Err fault → IsRecordFault text fault
  stands fault e = inr (inr (fields, is, record_faults (record_parts_of fields) fault e))

module _ (text : List ℕ) where
  pub decodes_read : (returned : Result Record MessageFault) → OfFields text (λ fields. Gives KeepsUpload returned (record_at (record_parts_of fields))) → TellsFields text returned → IfOk returned (IsRecordText text)
  decodes_read (Ok r) meant told = means_it text told.0 told.1 r (meant told.0 told.1)
  decodes_read (Err fault) meant told = tt

  pub decodes_only : (returned : Result Record MessageFault) → OfFields text (λ fields. Gives KeepsUpload returned (record_at (record_parts_of fields)))
      → (r : Record) → IsRecordText text r → (returned ≡ Ok r) ⊎ (returned ≡ Err OutOfMemory)
  decodes_only returned meant r is = whole_only KeepsUpload (record_at (record_parts_of is.fields)) r (record_again (record_parts_of is.fields) r is.means) returned (meant is.fields is.encodes)

  pub decodes_fault : (returned : Result Record MessageFault) → OfFields text (λ fields. Gives KeepsUpload returned (record_at (record_parts_of fields))) → TellsFields text returned → IfErr returned (IsRecordFault text)
  decodes_fault (Ok r) meant told = tt
  decodes_fault (Err fault) meant (inl wire) = inr (inl wire)
  decodes_fault (Err fault) meant (inr told) = whole_fault KeepsUpload (record_at (record_parts_of told.0)) (inl refl) (stands text told.0 told.1) (Err fault) (meant told.0 told.1)

  pub decodes_memory : (returned : Result Record MessageFault) → OfFields text (λ fields. Gives KeepsUpload returned (record_at (record_parts_of fields))) → TellsFields text returned
      → returned ≡ Err OutOfMemory → (r : Record) × IsRecordText text r × KeepsUpload r
  decodes_memory (Ok r) meant told e = absurd cc
  decodes_memory (Err fault) meant (inl wire) e = absurd (not_wire fault wire e)
    where
      not_wire : (fault : MessageFault) → WireStands fault text → ◌≡◌ {A = Result Record MessageFault} (Err fault) (Err OutOfMemory) → ⊥
      not_wire fault wire e = subst (λ (f : MessageFault). WireStands f text) (err_is fault OutOfMemory e) wire
  decodes_memory (Err fault) meant (inr told) e =
      let m = whole_memory KeepsUpload (record_at (record_parts_of told.0)) (Err fault) (meant told.0 told.1) e in
      (m.0, means_it text told.0 told.1 m.0 m.1, m.2)

-- a text means one record at most: both are what the parts of its one list of fields give
pub one_record : (text : List ℕ) (a b : Record) → IsRecordText text a → IsRecordText text b → a ≡ b
one_record text a b first second =
    let same : second.fields ≡ first.fields = fields_same text first.fields second.fields first.encodes second.encodes in
    let means : MeansRecord (record_parts_of first.fields) b = subst (λ (fields : List Field). MeansRecord (record_parts_of fields) b) same second.means in
    ok_is a b (sym (record_again (record_parts_of first.fields) a first.means) ∙ record_again (record_parts_of first.fields) b means)
