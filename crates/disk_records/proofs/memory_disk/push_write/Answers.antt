use Rattle.std.proofs.Common.{◌≡◌, rules}
use Rattle.disk_records.proofs.memory_disk.push_write.Goals as goal

pub returns-clause-ok : goal.returns-clause-ok
returns-clause-ok c =
    let same : c.in_ok-to_vec.field-0.items ≡ c.args.bytes.now = search rules in
    (c.in_ok-to_vec.field-0, same, c.in_ok-push.ensures.items)
