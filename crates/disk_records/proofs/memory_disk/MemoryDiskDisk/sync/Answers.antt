use Rattle.disk_records.proofs.MemoryDisks.{done_where_ok, sync_same, sync_stands, sync_crash}
use Rattle.disk_records.proofs.memory_disk.MemoryDiskDisk.sync.Goals as goal

pub returns-clause-same : goal.returns-clause-same
returns-clause-same c =
    done_where_ok c.ended.result c.push_sync-done.result _ c.ended.ensures.ok
    (sync_same c.push_sync-done.result c.args.self.now.first.items c.args.self.now.calls.items
    c.push_sync-done.new.calls.items c.push_sync-done.ensures.ok)

pub returns-clause-stands : goal.returns-clause-stands
returns-clause-stands c =
    done_where_ok c.ended.result c.push_sync-done.result _ c.ended.ensures.ok
    (sync_stands c.push_sync-done.result c.args.self.now.first.items c.args.self.now.calls.items
    c.push_sync-done.new.calls.items c.push_sync-done.ensures.ok)

pub returns-clause-crash : goal.returns-clause-crash
returns-clause-crash c =
    sync_crash c.push_sync-done.result c.args.self.now.first.items c.args.self.now.calls.items
    c.push_sync-done.new.calls.items
    c.push_sync-done.ensures.ok c.push_sync-done.ensures.err
