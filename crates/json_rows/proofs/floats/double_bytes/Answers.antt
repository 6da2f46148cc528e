use Rattle.std.proofs.Common.{◌≡◌, IfErr}
use Rattle.serde_json.specs.View.{view}
use Rattle.json_rows.specs.declared.fault.CellFault.TheVariants.{OutOfMemory}
use Rattle.json_rows.specs.NonFinites.{double_bits_of}
use Rattle.json_rows.specs.Numbers.{TellsFiniteDouble}
use Rattle.json_rows.proofs.OtherFloats.{finite_told}
use Rattle.json_rows.proofs.floats.double_bytes.Goals as goal

pub returns-in-None-clause-refused : goal.returns-in-None-clause-refused
returns-in-None-clause-refused c = λ bytes told.
    let d = view c.args.value.now in
    finite_told (TellsFiniteDouble d bytes) (IfErr c.finite_double_bytes.result (λ fault. fault ≡ OutOfMemory)) double_bits_of 8 d bytes c.in-None.ensures.none
    (c.finite_double_bytes.ensures.refused bytes) told
