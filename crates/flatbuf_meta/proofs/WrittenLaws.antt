-- What is written is shown, and differs where headers do.
use Rattle.std.proofs.Common.{◌≡◌, subst}
use Rattle.header_types.specs.Header.{Header, schema_header, batch_header, ShowsHeader}
use Rattle.header_types.proofs.Unique.{headers_are_one}
use Rattle.header_writing.specs.Canonical.{header_text}
use Rattle.header_writing.proofs.WrittenSizes.{schema_shown, batch_shown}
use Rattle.flatbuf_meta.specs.Writable.{IsWritable}

pub written_shown : (x : Header) → IsWritable x → ShowsHeader (header_text x) x
written_shown (schema_header schema) (profile, fits) = schema_shown schema profile fits
written_shown (batch_header head) (plain, few, some, fits) = batch_shown head plain few some fits

pub written_differ : (x y : Header) → IsWritable x → IsWritable y → header_text x ≡ header_text y → x ≡ y
written_differ x y p q same =
    headers_are_one (header_text y) x y (subst (λ text. ShowsHeader text x) same (written_shown x p))
    (written_shown y q)
