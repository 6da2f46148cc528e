use Rattle.std.proofs.Common.{◌≡◌, IfErr}
use Rattle.json_rows.specs.declared.fault.CellFault.TheVariants.{OutOfMemory}
use Rattle.json_rows.specs.NonFinites.{single_bits_of}
use Rattle.json_rows.specs.Numbers.{TellsFiniteSingle}
use Rattle.json_rows.proofs.OtherFloats.{finite_bits, single_fits}
use Rattle.json_rows.proofs.float_writing.write_single.Goals as goal

pub returns-in-None-clause-refused : goal.returns-in-None-clause-refused
returns-in-None-clause-refused c = λ d told.
    finite_bits (TellsFiniteSingle d) (IfErr c.write_finite_single.result (λ fault. fault ≡ OutOfMemory)) single_bits_of 4 c.in-Some.bits d c.args.bytes.now c.in-Some.ensures.some.0
    c.in-Some.ensures.some.1 single_fits c.in-None.ensures.none (c.write_finite_single.ensures.refused d) told
