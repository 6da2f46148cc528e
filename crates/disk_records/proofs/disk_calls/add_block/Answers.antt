use Rattle.std.proofs.Common.{ℕ, ◌+◌, List, length, subst}
use Rattle.disk_records.specs.Disk.{IsTorn}
use Rattle.disk_records.specs.DiskCalls.{IsAddedOrNot}
use Rattle.disk_records.proofs.Runs.{goes_on, torn_behind, torn_open}
use Rattle.disk_records.proofs.disk_calls.add_block.Goals as goal

pub returns-clause-crash : goal.returns-clause-crash
returns-clause-crash g c = λ told.
    let old = c.args.disk.now in
    let mid = c.write_synced.new.disk in
    let new = c.write_synced-2.new.disk in
    let content = g.D.Disk.content old in
    let gate = c.args.gate in
    let block = c.args.block.now in
    let within = c.requires.within told in
    let staged = (c.in_ok-write_synced.ensures.written told).bytes in
    goes_on g.D.Disk.moment g.D.Disk.left_since g.D.Disk.may_leave g.met.D.Disk.counts_now old mid new
    (IsTorn (gate + 1) (length block) content) (IsTorn gate 1 (g.D.Disk.content mid)) (IsAddedOrNot content gate block)
    (c.write_synced.ensures.crash told) (c.write_synced-2.ensures.crash told)
    (torn_behind content gate block within)
    (λ file torn. let P : List ℕ → Type 0 = λ l. IsTorn gate 1 l file in torn_open content gate block within file
    (subst P staged torn))
