use Rattle.std.proofs.Common.{◌+◌, ◌<◌, length, arith}
use Rattle.cluster_folder.proofs.Steps.{too_short}
use Rattle.cluster_folder.proofs.gates.next_gate.Goals as goal
use Rattle.cluster_folder.proofs.gates.next_gate.Goals.{then-size-head_bytes-via-then-size-head_bytes, then-size-head_bytes-via-else-size-head_bytes+then-size-head_bytes-2}

pub returns-then-size-head_bytes-clause-goes_on : goal.returns-then-size-head_bytes-clause-goes_on
returns-then-size-head_bytes-clause-goes_on g c = λ told gate l.
    let file = g.D.Disk.content c.args.disk.now in
    let sized = c.requires told in
    let short : length file < c.args.gate + 5 = elim c.then-size-head_bytes.branch [
      | then-size-head_bytes-via-then-size-head_bytes w ↦
          let few = w.if-size-head_bytes.true in omega (arith, sized, few)
      | then-size-head_bytes-via-else-size-head_bytes+then-size-head_bytes-2 w ↦
          let enough = w.if-size-head_bytes.false in
          let few = w.if-size-head_bytes-2.true in
          omega (arith, sized, enough, few)
    ] in
    too_short file c.args.gate gate short l
