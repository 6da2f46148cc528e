-- The parts of a message, found by their numbers.
use Rattle.std.proofs.Common.{sym, subst, ℕ, List, None, arith}
use Rattle.proto_fields.specs.Lookup.{TextMeans}
use Rattle.proto_fields.specs.Meaning.{bytes_meant}
use Rattle.proto_messages.specs.Descriptor.{Descriptor, Values, IsMessage}
use Rattle.proto_messages.specs.Canonical.{RisesFrom, Fits, canonical}
use Rattle.proto_wire.specs.Flight.{data_descriptor}
use Rattle.table_types.specs.Served.{data_text}
use Rattle.table_types.specs.Valid.{FitsFrame}
use Rattle.uploads.proofs.CallerLemmas.{message_long}
use Rattle.downloads.specs.MessageParts.{AreParts}

-- what is written is read as what was written
abbrev pub AreMessages : Type 0
AreMessages = (descriptor : Descriptor) (v : Values descriptor) → RisesFrom 0 descriptor → Fits descriptor v → IsMessage descriptor (canonical descriptor v) v

abbrev pub data_values : List ℕ → List ℕ → List ℕ → Values data_descriptor
data_values header metadata body = (None, (header, (metadata, (body, tt))))

pub data_rises : RisesFrom 0 data_descriptor
data_rises = (
  omega arith,
  (omega arith, omega arith),
  (
    omega arith,
    (omega arith, omega arith),
    (omega arith, (omega arith, omega arith), (omega arith, (omega arith, omega arith), tt)),
  ),
  (
    omega arith,
    (omega arith, omega arith),
    (omega arith, (omega arith, omega arith), (omega arith, (omega arith, omega arith), tt)),
  ),
)

pub data_fits : (header metadata body : List ℕ) → FitsFrame (data_text header metadata body) → Fits data_descriptor (data_values header metadata body)
data_fits header metadata body fits =
    let long = message_long header metadata body in
    (tt, (omega (arith, long.0, fits), (omega (arith, long.1, fits), (omega (arith, long.2, fits), tt))))

module _ (written : AreMessages) (message header metadata body : List ℕ) (h : AreParts message header metadata body) where
  data_means : IsMessage data_descriptor message (data_values header metadata body)
  data_means =
      subst (λ (t : List ℕ). IsMessage data_descriptor t (data_values header metadata body)) (sym h.is)
      (written data_descriptor (data_values header metadata body) data_rises
      (data_fits header metadata body (subst (λ (t : List ℕ). FitsFrame t) h.is h.fits)))

  pub header_meant : TextMeans (bytes_meant 2) message header
  unfolding bytes_meant
  header_meant = let m = data_means in record { fields = m.fields; encodes = m.encodes; means = m.means.1.0 }

  pub metadata_meant : TextMeans (bytes_meant 3) message metadata
  unfolding bytes_meant
  metadata_meant = let m = data_means in record { fields = m.fields; encodes = m.encodes; means = m.means.1.1.0 }

  pub body_meant : TextMeans (bytes_meant 1000) message body
  unfolding bytes_meant
  body_meant = let m = data_means in record { fields = m.fields; encodes = m.encodes; means = m.means.1.1.1.0 }
