use Rattle.std.proofs.Common.{ℕ, subst}
use Rattle.disk_records.specs.DiskCalls.{GivesAsBefore}
use Rattle.disk_records.specs.Ready.{IsGateOf, finds_alone}
use Rattle.disk_records.proofs.CallerLemmas.{closed_means}
use Rattle.disk_records.proofs.Runs.{at_end}
use Rattle.disk_records.proofs.Stores.{finds_no_more, recalls_fault, damaged_means_nothing, gate_recovered, gate_noted, same_place}
use Rattle.disk_records.proofs.disk_stable.DiskStableStable.recall.Goals as goal

pub invariant_of-self : goal.invariant_of-self
invariant_of-self g c = record {
  known = λ place is.
      let content = g.D.Disk.content c.recover_file.new.disk in
      let may_leave = g.D.Disk.may_leave c.recover_file.new.disk in
      let P : ℕ → Type 0 = λ n. IsGateOf g.D.Disk.tells content may_leave n in
      subst P (same_place c.in-Ok.read.gate place is) (record {
        place = c.in-Ok.ensures.limit;
        ready = λ told. ∣ gate_recovered c.files_mean_one.ensures.records content may_leave c.in-Ok.read.records.items
            c.in-Ok.read.gate (c.in-Ok.ensures.read told).1 ∣₁;
      });
}

pub invariant_of-self-in-Err : goal.invariant_of-self-in-Err
invariant_of-self-in-Err g c = record {
  known = gate_noted g.D.Disk.tells c.in-Err.fault (g.D.Disk.content c.args.self.now.disk)
      (g.D.Disk.content c.recover_file.new.disk)
      (g.D.Disk.may_leave c.args.self.now.disk) (g.D.Disk.may_leave c.recover_file.new.disk) c.args.self.now.gate
      c.note_fault.new.gate
      _ _ c.note_fault.ensures c.in-Err.ensures.read c.args.self.now.known;
}

pub returns-in-Ok-clause-recalled : goal.returns-in-Ok-clause-recalled
returns-in-Ok-clause-recalled g c = λ told.
    let old = c.args.self.now.disk in
    let new = c.recover_file.new.disk in
    let records = c.in-Ok.read.records.items in
    let read = c.in-Ok.ensures.read told in
    let means = closed_means (g.D.Disk.content new) records c.in-Ok.read.gate read.1.closed in (
      (g.D.Disk.content old, g.met.D.Disk.content_may_stay old told, read.0),
      finds_alone (g.D.Disk.content new) (g.D.Disk.may_leave new) records
          (means, λ other also. c.files_mean_one.ensures.records (g.D.Disk.content new) other records also means)
          (g.met.D.Disk.content_may_stay new told) read.1.stands,
    )

pub returns-in-Ok-clause-read : goal.returns-in-Ok-clause-read
returns-in-Ok-clause-read g c = λ told. (c.in-Ok.ensures.read told).0

pub returns-in-Err-clause-recalled : goal.returns-in-Err-clause-recalled
returns-in-Err-clause-recalled g c = λ told.
    let old = c.args.self.now.disk in
    let new = c.recover_file.new.disk in
    recalls_fault c.in-Err.fault (g.D.Disk.content old) (g.D.Disk.content new) (g.D.Disk.may_leave old)
    (g.D.Disk.may_leave new)
    (g.met.D.Disk.content_may_stay old told)
    (finds_no_more (g.D.Disk.may_leave old) (g.D.Disk.may_leave new)
    (at_end g.D.Disk.moment g.D.Disk.left_since g.D.Disk.may_leave g.met.D.Disk.counts_now old new
    (GivesAsBefore (g.D.Disk.may_leave old)) (c.recover_file.ensures.crash told)))
    (c.in-Err.ensures.read told)

pub returns-in-Err-clause-damaged : goal.returns-in-Err-clause-damaged
returns-in-Err-clause-damaged g c = λ told is.
    damaged_means_nothing c.in-Err.fault (g.D.Disk.content c.args.self.now.disk)
    (g.D.Disk.content c.recover_file.new.disk)
    (g.D.Disk.may_leave c.recover_file.new.disk) (c.in-Err.ensures.read told) is
