use Rattle.std.proofs.Common.{rules, ap, ◌∙◌, ◌≡◌, arith}
use Rattle.hex.specs.Hex.{encode_lower}
use Rattle.hex.proofs.HexLemmas.{decode_of-encode_lower}
use Rattle.serde_json.specs.Data.{string}
use Rattle.json_rows.specs.Cells.{TellsBytes}
use Rattle.json_rows.proofs.Texts.{written_weaker}
use Rattle.json_rows.proofs.flat_writing.write_bytes.Goals as goal

pub returns-clause-written : goal.returns-clause-written
returns-clause-written c =
    let bytes = c.args.bytes.now in
    let digits : c.deref.result.now ≡ encode_lower bytes = search rules in
    written_weaker (λ d. d ≡ string c.deref.result.now) (λ d. TellsBytes d bytes) 0 0 c.args.out.now.tokens c.put_text.new.out.tokens
    (λ d is. record { digits = encode_lower bytes; told = is ∙ ap string digits; decoded = decode_of-encode_lower bytes (λ i. omega (arith, c.type_inv.bytes i)) })
    (omega arith) c.in_ok-put_text.ensures.written
