-- Gathering what the fields of a text mean, one field after the other.
use Rattle.std.proofs.Common.{◌≡◌, ℕ, cond, List, [], ◌∷◌, ◌++◌, Option, sym, ap, subst, ◌∙◌, refl, arith}
use Rattle.std.specs.Prelude.{◌==◌}
use Rattle.proto_fields.specs.Field.{Field, FieldsThen, IsFields, BeginsWith}
use Rattle.proto_fields.specs.Meaning.{after, number_in, bytes_in}
use Rattle.proto_fields.proofs.Fronts.{fields_push, fields_same}
use Rattle.proto_fields.proofs.Meanings.{number_meant-push, bytes_meant-push}
use Rattle.ballots.specs.declared.fields.Fields.{Fields}
use Rattle.ballots.specs.declared.message.numbers.TheConstants as in_message
use Rattle.ballots.specs.declared.record.numbers.TheConstants as in_record
use Rattle.ballots.specs.Message.{parts_of}
use Rattle.ballots.specs.Record.{record_parts_of}
use Rattle.ballots.specs.Gathering.{Notes, Gathers, value_of, parts_in, record_parts_in}

-- the text begins with some fields, and this is what they mean
pub record GatheredSoFar (value : ℕ) (text rest : List ℕ) (numbers : List (Option ℕ)) (bytes : Option (List ℕ)) : Type 0 where
  pub fields : List Field
  pub before : FieldsThen text fields rest
  pub gathers : Gathers value numbers bytes fields

-- one field more
pub gathered_more : (value : ℕ) (text mid rest : List ℕ) (old new : List (Option ℕ)) (was now : Option (List ℕ)) (f : Field)
    → GatheredSoFar value text mid old was → BeginsWith mid f rest → Notes old new f
    → now ≡ cond (f.number == value) (after was (bytes_in f.held)) was → GatheredSoFar value text rest new now
gathered_more value text mid rest old new was now f h begins noted e = record {
  fields = h.fields ++ f ∷ [];
  before = fields_push text h.fields mid f rest h.before begins;
  gathers = record {
    numbers_are = λ number within.
        noted number within
        ∙ ap (λ (o : Option ℕ). cond (f.number == number) (after o (number_in f.held)) o) (h.gathers.numbers_are number within)
        ∙ sym (number_meant-push number h.fields f);
    bytes_are =
        e ∙ ap (λ (o : Option (List ℕ)). cond (f.number == value) (after o (bytes_in f.held)) o) h.gathers.bytes_are
        ∙ sym (bytes_meant-push value h.fields f);
  };
}

module _ (value : ℕ) (text rest : List ℕ) (numbers : List (Option ℕ)) (bytes : Option (List ℕ)) (h : GatheredSoFar value text rest numbers bytes) (over : rest ≡ []) where
  pub gathered_whole : IsFields text h.fields
  gathered_whole = subst (FieldsThen text h.fields) over h.before

  -- any list of fields that the text is means the same
  pub gathered_only : (fields : List Field) → IsFields text fields → Gathers value numbers bytes fields
  gathered_only fields is = subst (Gathers value numbers bytes) (sym (fields_same text h.fields fields gathered_whole is)) h.gathers

-- ---- the parts of a message and of a record

pub parts_are : (all : Fields) (fields : List Field) → Gathers in_message.VALUE all.numbers (value_of all) fields → parts_in all ≡ parts_of fields
parts_are all fields h =
    rw (
      h.numbers_are in_message.KIND (omega arith),
      h.numbers_are in_message.SENDER (omega arith),
      h.numbers_are in_message.SLOT (omega arith),
      h.numbers_are in_message.ROUND (omega arith),
      h.numbers_are in_message.NODE (omega arith),
      h.numbers_are in_message.SECOND_ROUND (omega arith),
      h.numbers_are in_message.SECOND_NODE (omega arith),
      h.bytes_are,
    ) refl

pub record_parts_are : (all : Fields) (fields : List Field) → Gathers in_record.VALUE all.numbers (value_of all) fields
    → record_parts_in all ≡ record_parts_of fields
record_parts_are all fields h =
    rw (
      h.numbers_are in_record.KIND (omega arith),
      h.numbers_are in_record.SLOT (omega arith),
      h.numbers_are in_record.ROUND (omega arith),
      h.numbers_are in_record.NODE (omega arith),
      h.bytes_are,
    ) refl
