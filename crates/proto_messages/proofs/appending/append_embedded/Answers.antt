use Rattle.std.proofs.Common.{◌+◌, ◌-◌, ◌*◌, ◌++◌, ◌∷◌, [], length, sym, ap, ◌∙◌, arith}
use Rattle.proto_fields.specs.Varint.{varint_text}
use Rattle.proto_messages.specs.Canonical.{canonical}
use Rattle.proto_messages.proofs.Embedding.{length_behind_key, as_one_field, on_ok_then}
use Rattle.proto_messages.proofs.appending.append_embedded.Goals as goal

pub returns-clause-ok : goal.returns-clause-ok
returns-clause-ok g c =
    let key = varint_text (8 * c.args.number + 2) in
    let message = canonical g.M.ProtoMessage.descriptor (g.M.ProtoMessage.values c.args.message.now) in
    let open_key = c.in_ok-append_open_key.ensures.ok in
    let bytes = c.in_ok-append.ensures.ok ∙ ap (λ l. l ++ message) open_key in
    on_ok_then c.set_length.result
    (λ set. set
    ∙ length_behind_key (c.args.out.now.items ++ key) message c.append.new.out.items (c.len-place.result - 1) bytes (omega (arith, c.len-place.ensures, ap length open_key))
    ∙ as_one_field c.args.out.now.items key (varint_text (length message) ++ message))
    c.set_length.ensures.ok
