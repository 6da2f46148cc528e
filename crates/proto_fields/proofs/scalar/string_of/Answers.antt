use Rattle.std.proofs.Common.{refl, sym, ap, ◌∙◌, inr, Some, rules}
use Rattle.std.proofs.lemmas.Str.{is_utf8-from_IsUtf8}
use Rattle.proto_fields.proofs.scalar.string_of.Goals as goal

pub returns-in_default-from_utf8-clause-fault : goal.returns-in_default-from_utf8-clause-fault
returns-in_default-from_utf8-clause-fault c =
    rw c.in-Bytes.is (inr (inr (refl, refl, (c.in-Bytes.bytes.now, refl, c.in_default-from_utf8.ensures.cases.0))))

pub returns-in_default : goal.returns-in_default
returns-in_default c = search rules steps 300000

pub returns-in_default-from_utf8-clause-read : goal.returns-in_default-from_utf8-clause-read
returns-in_default-from_utf8-clause-read c = search rules steps 300000

pub returns-clause-read : goal.returns-clause-read
returns-clause-read c =
    rw (c.in-Bytes.is, is_utf8-from_IsUtf8 c.in-Bytes.bytes.now c.in-Ok.ensures.cases.1) (ap Some (sym (c.in_ok-from_str.ensures.ok ∙ c.in-Ok.ensures.cases.0)))
