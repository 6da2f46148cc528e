use Rattle.std.proofs.Common.{◌≡◌, ◌∙◌, sym, rules}
use Rattle.std.specs.Prelude.{IfOk}
use Rattle.std.proofs.lemmas.Result.{IfOk-weaker}
use Rattle.disk_records.specs.declared.memory_disk.Pick.TheVariants.{Written}
use Rattle.disk_records.specs.MemoryDisk.{left_of}
use Rattle.disk_records.specs.MemoryDiskLaws.{all_written}
use Rattle.disk_records.proofs.memory_disk.MemoryDisk.bytes.Goals as goal

pub returns : goal.returns
returns c =
    let left : IfOk c.left_by.result (λ bytes. bytes.items ≡ left_of Written c.args.self.now) = search rules in
    IfOk-weaker c.left_by.result _ _
    (λ bytes is. is ∙ sym (all_written c.args.self.now.first.items c.args.self.now.calls.items)) left
