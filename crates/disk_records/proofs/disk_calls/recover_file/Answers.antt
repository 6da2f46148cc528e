use Rattle.std.proofs.Common.{◌≤◌, length, ap, ◌∙◌, arith}
use Rattle.disk_records.specs.DiskCalls.{GivesAsBefore}
use Rattle.disk_records.proofs.Runs.{goes_on}
use Rattle.disk_records.proofs.Recovering.{recovers_err, gives_the_same, gives_none_too}
use Rattle.disk_records.proofs.disk_calls.recover_file.Goals as goal

pub returns-in_err-read-clause-read : goal.returns-in_err-read-clause-read
returns-in_err-read-clause-read g c = λ told.
    let old = c.args.disk.now in
    let mid = c.synced_bytes.new.disk in
    let synced = c.in_ok-bytes.ensures.read told in
    recovers_err c.from_residual-in_err-read.result c.in_err-read.field-0.0 c.deref.result.now (g.D.Disk.content old)
    (g.D.Disk.content mid) (g.D.Disk.may_leave mid) c.from_residual-in_err-read.ensures.1 c.in_err-read.ensures
    (c.deref.ensures.value ∙ synced.0) synced.1

pub returns-in_err-begin_file-clause-crash : goal.returns-in_err-begin_file-clause-crash
returns-in_err-begin_file-clause-crash g c = λ told.
    let old = c.args.disk.now in
    let mid = c.synced_bytes.new.disk in
    let new = c.begin_file.new.disk in
    let may_leave = g.D.Disk.may_leave old in
    let bytes = ap length (c.in_ok-bytes.ensures.read told).0 in
    let is_short = c.if-len-gt-NEW_FILE_BYTES.false in
    let len = c.len.ensures in
    let short : length (g.D.Disk.content old) ≤ 1 = omega (arith, bytes, is_short, len) in
    goes_on g.D.Disk.moment g.D.Disk.left_since g.D.Disk.may_leave g.met.D.Disk.counts_now old mid new
    may_leave (λ file. length file ≤ 1) (GivesAsBefore may_leave)
    (c.synced_bytes.ensures.crash told) (c.begin_file.ensures.crash told) (gives_the_same may_leave)
    (λ file too. gives_none_too may_leave (g.D.Disk.content old) file (g.met.D.Disk.content_may_stay old told) short
    too)

pub returns-clause-crash : goal.returns-clause-crash
returns-clause-crash g c = λ told.
    let old = c.args.disk.now in
    let mid = c.synced_bytes.new.disk in
    let new = c.begin_file.new.disk in
    let may_leave = g.D.Disk.may_leave old in
    let bytes = ap length (c.in_ok-bytes.ensures.read told).0 in
    let is_short = c.if-len-gt-NEW_FILE_BYTES.false in
    let len = c.len.ensures in
    let short : length (g.D.Disk.content old) ≤ 1 = omega (arith, bytes, is_short, len) in
    goes_on g.D.Disk.moment g.D.Disk.left_since g.D.Disk.may_leave g.met.D.Disk.counts_now old mid new
    may_leave (λ file. length file ≤ 1) (GivesAsBefore may_leave)
    (c.synced_bytes.ensures.crash told) (c.begin_file.ensures.crash told) (gives_the_same may_leave)
    (λ file too. gives_none_too may_leave (g.D.Disk.content old) file (g.met.D.Disk.content_may_stay old told) short
    too)
