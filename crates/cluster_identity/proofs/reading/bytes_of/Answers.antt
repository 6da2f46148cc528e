use Rattle.std.proofs.Common.{rules, ◌≡◌, ℕ, List, false, true, sym, ◌∙◌}
use Rattle.std.proofs.lemmas.Slice.Eq.{bytes_eq-Decides}
use Rattle.hex.specs.Hex.{encode_lower}
use Rattle.cluster_identity.proofs.Digits.{spelled_again}
use Rattle.cluster_identity.proofs.reading.bytes_of.Goals as goal

pub returns-else-eq-clause-only : goal.returns-else-eq-clause-only
returns-else-eq-clause-only g c = λ bytes h.
    let digits = c.args.digits.now in
    let spelled : List ℕ = c.as_slice.result.now in
    let found : List ℕ = c.in_ok-bytes.bytes in
    let again : spelled ≡ encode_lower found = search rules in
    let same : digits ≡ spelled
    = spelled_again digits g.row.N bytes found spelled c.from_hex.result h c.from_hex.ensures c.in_ok-bytes.ensures.value again in
    let no : true ≡ false = sym ((bytes_eq-Decides c.as_bytes.result.now spelled).1 (c.as_bytes.ensures.value ∙ same)) ∙ sym c.eq.ensures ∙ c.if-eq.false in
    absurd cc
