use Rattle.std.proofs.Common.{◌≡◌, IfErr}
use Rattle.json_rows.specs.declared.fault.CellFault.TheVariants.{OutOfMemory}
use Rattle.json_rows.specs.NonFinites.{double_bits_of}
use Rattle.json_rows.specs.Numbers.{TellsFiniteDouble}
use Rattle.json_rows.proofs.OtherFloats.{finite_bits, double_fits}
use Rattle.json_rows.proofs.float_writing.write_double.Goals as goal

pub returns-in-None-clause-refused : goal.returns-in-None-clause-refused
returns-in-None-clause-refused c = λ d told.
    finite_bits (TellsFiniteDouble d) (IfErr c.write_finite_double.result (λ fault. fault ≡ OutOfMemory)) double_bits_of 8 c.in-Some.bits d c.args.bytes.now c.in-Some.ensures.some.0
    c.in-Some.ensures.some.1 double_fits c.in-None.ensures.none (c.write_finite_double.ensures.refused d) told
