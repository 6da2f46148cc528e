use Rattle.std.proofs.Common.{◌≡◌, ℕ, ◌+◌, ◌∙◌, length, subst, arith}
use Rattle.stable_records.specs.Found.{IsWithOrWithout}
use Rattle.disk_records.specs.declared.disk_stable.DiskStable.{DiskStable}
use Rattle.disk_records.specs.DiskCalls.{IsAddedOrNot}
use Rattle.disk_records.specs.Ready.{FoundIn, IsGateOf, stands_of}
use Rattle.disk_records.proofs.Runs.{at_end}
use Rattle.disk_records.proofs.Keeping.{text_of, is_within, with_or_without, record_is_added, file_means, after_stands, next_gate}
use Rattle.disk_records.proofs.Stores.{store_crash, same_place}
use Rattle.disk_records.proofs.disk_stable.DiskStableStable.keep.Goals as goal

pub add_block-requires-clause-place : goal.add_block-requires-clause-place
add_block-requires-clause-place g c = (c.args.self.now.known c.in-Some.gate c.in-Some.is).place

pub add_block-requires-clause-within : goal.add_block-requires-clause-within
add_block-requires-clause-within g c = λ told.
    let old = c.args.self.now.disk in
    is_within (g.D.Disk.content old) (g.D.Disk.may_leave old) c.in-Some.gate
    ((c.args.self.now.known c.in-Some.gate c.in-Some.is).ready told)

pub add_block-requires-clause-stands : goal.add_block-requires-clause-stands
add_block-requires-clause-stands g c = λ told.
    let old = c.args.self.now.disk in
    stands_of (g.D.Disk.content old) (g.D.Disk.may_leave old) c.in-Some.gate
    ((c.args.self.now.known c.in-Some.gate c.in-Some.is).ready told)

pub invariant_of-self-in-Ok-add_block : goal.invariant_of-self-in-Ok-add_block
invariant_of-self-in-Ok-add_block g c = record {
  known = λ place is.
      let old = c.args.self.now.disk in
      let new = c.add_block.new.disk in
      let gate = c.in-Some.gate in
      let block = c.deref.result.now in
      let text = text_of block c.in-Ok.block.items c.args.told.now c.deref.ensures.value c.in-Ok.ensures.bytes
      c.in-Ok.ensures.fits c.in-Ok.ensures.means in
      let len = c.len.ensures in
      let items = c.deref.ensures.len in
      let limit = c.in-Ok-add_block.ensures.limit in
      let long : gate + length block ≡ gate + c.len.result = omega (arith, items, len) in
      let P : ℕ → Type 0 = λ n. IsGateOf g.D.Disk.tells (g.D.Disk.content new) (g.D.Disk.may_leave new) n in
      subst P (long ∙ same_place (gate + c.len.result) place is) (record {
        place = omega (arith, limit);
        ready = λ told.
            next_gate (g.D.Disk.content old) (g.D.Disk.may_leave old) gate
            ((c.args.self.now.known gate c.in-Some.is).ready told)
            c.files_mean_one.ensures.records (g.met.D.Disk.content_may_stay old told) block c.args.told.now text
            (g.D.Disk.content new) (g.D.Disk.may_leave new) (c.in-Ok-add_block.ensures.added told);
      });
}

pub returns-in-Ok-add_block-clause-kept : goal.returns-in-Ok-add_block-clause-kept
returns-in-Ok-add_block-clause-kept g c = λ told.
    let old = c.args.self.now.disk in
    let new = c.add_block.new.disk in
    let gate = c.in-Some.gate in
    let block = c.deref.result.now in
    let text = text_of block c.in-Ok.block.items c.args.told.now c.deref.ensures.value c.in-Ok.ensures.bytes
    c.in-Ok.ensures.fits c.in-Ok.ensures.means in
    record_is_added (g.D.Disk.content old) (g.D.Disk.may_leave old) gate
    ((c.args.self.now.known gate c.in-Some.is).ready told)
    c.files_mean_one.ensures.records (g.met.D.Disk.content_may_stay old told) block c.args.told.now text
    (g.D.Disk.content new) (g.D.Disk.may_leave new) (c.in-Ok-add_block.ensures.added told)
    (g.met.D.Disk.content_may_stay new told)

pub returns-in-Ok-add_block-clause-written : goal.returns-in-Ok-add_block-clause-written
returns-in-Ok-add_block-clause-written g c = λ told records meant.
    let old = c.args.self.now.disk in
    let new = c.add_block.new.disk in
    let gate = c.in-Some.gate in
    let block = c.deref.result.now in
    let text = text_of block c.in-Ok.block.items c.args.told.now c.deref.ensures.value c.in-Ok.ensures.bytes
    c.in-Ok.ensures.fits c.in-Ok.ensures.means in
    let ready = (c.args.self.now.known gate c.in-Some.is).ready told in
    let here = g.met.D.Disk.content_may_stay old told in (
      file_means (g.D.Disk.content old) (g.D.Disk.may_leave old) gate ready c.files_mean_one.ensures.records here block c.args.told.now text
          (g.D.Disk.content new) (g.D.Disk.may_leave new) (c.in-Ok-add_block.ensures.added told) records meant,
      after_stands (g.D.Disk.content old) (g.D.Disk.may_leave old) gate ready c.files_mean_one.ensures.records here block c.args.told.now text
          (g.D.Disk.content new) (g.D.Disk.may_leave new) (c.in-Ok-add_block.ensures.added told),
    )

pub returns-in-Ok-add_block-clause-crash : goal.returns-in-Ok-add_block-clause-crash
returns-in-Ok-add_block-clause-crash g c = λ told.
    let old = c.args.self.now.disk in
    let gate = c.in-Some.gate in
    let block = c.deref.result.now in
    let may_leave = g.D.Disk.may_leave old in
    let text = text_of block c.in-Ok.block.items c.args.told.now c.deref.ensures.value c.in-Ok.ensures.bytes
    c.in-Ok.ensures.fits c.in-Ok.ensures.means in
    store_crash {S = DiskStable g.row.D.Denot g.D.Disk} (λ s. s.disk) g.D.Disk.moment g.D.Disk.left_since
    c.args.self.now _
    (IsAddedOrNot (g.D.Disk.content old) gate block) (IsWithOrWithout c.args.told.now (FoundIn may_leave))
    (c.add_block.ensures.crash told)
    (with_or_without (g.D.Disk.content old) may_leave gate ((c.args.self.now.known gate c.in-Some.is).ready told)
    c.files_mean_one.ensures.records (g.met.D.Disk.content_may_stay old told) block c.args.told.now text)

pub returns-clause-kept : goal.returns-clause-kept
returns-clause-kept g c = λ told found here.
    let old = c.args.self.now.disk in
    let gate = c.in-Some.gate in
    let block = c.deref.result.now in
    let may_leave = g.D.Disk.may_leave old in
    let text = text_of block c.in-Ok.block.items c.args.told.now c.deref.ensures.value c.in-Ok.ensures.bytes
    c.in-Ok.ensures.fits c.in-Ok.ensures.means in
    with_or_without (g.D.Disk.content old) may_leave gate ((c.args.self.now.known gate c.in-Some.is).ready told)
    c.files_mean_one.ensures.records (g.met.D.Disk.content_may_stay old told) block c.args.told.now text here.0
    (at_end g.D.Disk.moment g.D.Disk.left_since g.D.Disk.may_leave g.met.D.Disk.counts_now old c.add_block.new.disk
    (IsAddedOrNot (g.D.Disk.content old) gate block) (c.add_block.ensures.crash told) here.0 here.1) found here.2

pub returns-clause-crash : goal.returns-clause-crash
returns-clause-crash g c = λ told.
    let old = c.args.self.now.disk in
    let gate = c.in-Some.gate in
    let block = c.deref.result.now in
    let may_leave = g.D.Disk.may_leave old in
    let text = text_of block c.in-Ok.block.items c.args.told.now c.deref.ensures.value c.in-Ok.ensures.bytes
    c.in-Ok.ensures.fits c.in-Ok.ensures.means in
    store_crash {S = DiskStable g.row.D.Denot g.D.Disk} (λ s. s.disk) g.D.Disk.moment g.D.Disk.left_since
    c.args.self.now _
    (IsAddedOrNot (g.D.Disk.content old) gate block) (IsWithOrWithout c.args.told.now (FoundIn may_leave))
    (c.add_block.ensures.crash told)
    (with_or_without (g.D.Disk.content old) may_leave gate ((c.args.self.now.known gate c.in-Some.is).ready told)
    c.files_mean_one.ensures.records (g.met.D.Disk.content_may_stay old told) block c.args.told.now text)
