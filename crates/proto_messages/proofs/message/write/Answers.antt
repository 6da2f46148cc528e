use Rattle.proto_messages.proofs.MessageWriting.{canonical_is_message}
use Rattle.proto_messages.proofs.message.write.Goals as goal

pub returns-in-Ok-clause-means : goal.returns-in-Ok-clause-means
returns-in-Ok-clause-means g c = canonical_is_message g.M.ProtoMessage.descriptor (g.M.ProtoMessage.values c.args.message.now) g.met.M.ProtoMessage.rises c.in-Ok.ensures.fits
