-- What reading a message gives, in the words of its text.
use Rattle.std.proofs.Common.{◌≡◌, List, ℕ, Result, Ok, Err, refl, sym, subst, ◌∙◌, ◌⊎◌, inl, inr}
use Rattle.std.specs.Prelude.{IfOk, IfErr}
use Rattle.proto_fields.specs.Field.{Field, IsFields}
use Rattle.proto_fields.proofs.Steps.{ok_is, err_is}
use Rattle.proto_fields.proofs.Fronts.{fields_same}
use Rattle.ballots.specs.declared.message.Message.{Message}
use Rattle.ballots.specs.declared.fault.MessageFault.{MessageFault}
use Rattle.ballots.specs.declared.fault.MessageFault.TheVariants.{OutOfMemory}
use Rattle.ballots.specs.Message.{WireStands, parts_of, Means, IsMessageText, IsFaultOf, HasUpload}
use Rattle.ballots.specs.MessageReading.{Gives, OfFields, TellsFields}
use Rattle.ballots.specs.MessageReading.{message_at}
use Rattle.ballots.proofs.Steps.{whole_only, whole_fault, whole_memory}
use Rattle.ballots.proofs.Bodies.{message_takes, message_again, message_faults}

module _ (text : List ℕ) (fields : List Field) (is : IsFields text fields) where
  means_it : (m : Message) → message_at (parts_of fields) ≡ Ok m → IsMessageText text m
  means_it m e = record { fields = fields; encodes = is; means = message_takes (parts_of fields) m e }

  stands : (fault : MessageFault) → message_at (parts_of fields) ≡ Err fault → IsFaultOf text fault
  stands fault e = inr (inr (fields, is, message_faults (parts_of fields) fault e))

module _ (text : List ℕ) where
  pub decodes_read : (r : Result Message MessageFault) → OfFields text (λ fields. Gives HasUpload r (message_at (parts_of fields))) → TellsFields text r → IfOk r (IsMessageText text)
  decodes_read (Ok m) meant told = means_it text told.0 told.1 m (meant told.0 told.1)
  decodes_read (Err fault) meant told = tt

  pub decodes_only : (r : Result Message MessageFault) → OfFields text (λ fields. Gives HasUpload r (message_at (parts_of fields)))
      → (m : Message) → IsMessageText text m → (r ≡ Ok m) ⊎ (r ≡ Err OutOfMemory)
  decodes_only r meant m is = whole_only HasUpload (message_at (parts_of is.fields)) m (message_again (parts_of is.fields) m is.means) r (meant is.fields is.encodes)

  pub decodes_fault : (r : Result Message MessageFault) → OfFields text (λ fields. Gives HasUpload r (message_at (parts_of fields))) → TellsFields text r → IfErr r (IsFaultOf text)
  decodes_fault (Ok m) meant told = tt
  decodes_fault (Err fault) meant (inl wire) = inr (inl wire)
  decodes_fault (Err fault) meant (inr told) = whole_fault HasUpload (message_at (parts_of told.0)) (inl refl) (stands text told.0 told.1) (Err fault) (meant told.0 told.1)

  pub decodes_memory : (r : Result Message MessageFault) → OfFields text (λ fields. Gives HasUpload r (message_at (parts_of fields))) → TellsFields text r
      → r ≡ Err OutOfMemory → (m : Message) × IsMessageText text m × HasUpload m
  decodes_memory (Ok m) meant told e = absurd cc
  decodes_memory (Err fault) meant (inl wire) e = absurd (not_wire fault wire e)
    where
      not_wire : (fault : MessageFault) → WireStands fault text → ◌≡◌ {A = Result Message MessageFault} (Err fault) (Err OutOfMemory) → ⊥
      not_wire fault wire e = subst (λ (f : MessageFault). WireStands f text) (err_is fault OutOfMemory e) wire
  decodes_memory (Err fault) meant (inr told) e =
      let m = whole_memory HasUpload (message_at (parts_of told.0)) (Err fault) (meant told.0 told.1) e in
      (m.0, means_it text told.0 told.1 m.0 m.1, m.2)

-- a text means one message at most: both are what the parts of its one list of fields give
pub one_message : (text : List ℕ) (a b : Message) → IsMessageText text a → IsMessageText text b → a ≡ b
one_message text a b first second =
    let same : second.fields ≡ first.fields = fields_same text first.fields second.fields first.encodes second.encodes in
    let means : Means (parts_of first.fields) b = subst (λ (fields : List Field). Means (parts_of fields) b) same second.means in
    ok_is a b (sym (message_again (parts_of first.fields) a first.means) ∙ message_again (parts_of first.fields) b means)
