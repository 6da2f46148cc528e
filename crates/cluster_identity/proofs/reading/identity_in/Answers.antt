use Rattle.std.proofs.Common.{◌≡◌, None, Some, sym, ◌∙◌}
use Rattle.serde_json.specs.View.{view}
use Rattle.cluster_identity.proofs.Told.{reads_none, reads_seen}
use Rattle.cluster_identity.proofs.reading.identity_in.Goals as goal

pub returns-in_default-bytes_at : goal.returns-in_default-bytes_at
returns-in_default-bytes_at c = λ members id files told.
    let no : None ≡ Some id = sym c.in_default-bytes_at.is ∙ c.bytes_at.ensures.only id told.named in
    absurd cc

pub returns-in-Some-2 : goal.returns-in-Some-2
returns-in-Some-2 c =
    reads_seen (view c.args.value.now) c.in-Some.members c.in-Some-bytes_at.id c.in-Some-array_at.values.now.items c.deref.result.now c.in-Some-2.files c.in_ok-files.field-0
    c.identity_of.result c.in-Some.ensures c.in-Some-bytes_at.ensures.read c.deref.ensures.value c.in-Some-array_at.ensures c.in-Some-2.is c.in_ok-files.ensures
    c.identity_of.ensures.made c.identity_of.ensures.only

pub returns-in-None : goal.returns-in-None
returns-in-None c = λ members id files told.
    reads_none (view c.args.value.now) c.in-Some-array_at.values.now.items c.deref.result.now c.in_ok-files.field-0 members id files c.deref.ensures.value
    c.in-Some-array_at.ensures c.in-None.is c.in_ok-files.ensures told
