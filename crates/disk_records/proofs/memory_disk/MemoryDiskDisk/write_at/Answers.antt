use Rattle.std.proofs.Common.{length}
use Rattle.disk_records.specs.Disk.{MayBeTorn}
use Rattle.disk_records.specs.MemoryDisk.{IsCrashed}
use Rattle.disk_records.proofs.MemoryDisks.{rests, may_be_torn, done_where_ok, write_done, write_crash}
use Rattle.disk_records.proofs.memory_disk.MemoryDiskDisk.write_at.Goals as goal

pub returns-then-at-ge-LIMIT-clause-crash : goal.returns-then-at-ge-LIMIT-clause-crash
returns-then-at-ge-LIMIT-clause-crash c =
    let first = c.args.self.now.first.items in
    let calls = c.args.self.now.calls.items in
    rests first calls (MayBeTorn c.args.at (length c.args.bytes.now) (IsCrashed first calls))
    (may_be_torn first calls c.args.at (length c.args.bytes.now))

pub returns-clause-written : goal.returns-clause-written
returns-clause-written c =
    done_where_ok c.ended.result c.push_write-done.result _ c.ended.ensures.ok
    (write_done c.push_write-done.result c.args.self.now.first.items c.args.self.now.calls.items
    c.push_write-done.new.calls.items
    c.args.at c.args.bytes.now c.requires c.push_write-done.ensures.ok)

pub returns-clause-crash : goal.returns-clause-crash
returns-clause-crash c =
    write_crash c.push_write-done.result c.args.self.now.first.items c.args.self.now.calls.items
    c.push_write-done.new.calls.items
    c.args.at c.args.bytes.now c.push_write-done.ensures.ok c.push_write-done.ensures.err
