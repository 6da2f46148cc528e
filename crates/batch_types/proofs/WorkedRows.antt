-- Rows worked out by hand that a batch has room for.
use Rattle.std.proofs.Common.{refl, arith}
use Rattle.std.proofs.lemmas.Int.{ints}
use Rattle.header_types.specs.Profile.{InProfile}
use Rattle.batch_types.specs.Examples.{points_table, points_rows, bare_table, bare_rows, most_rows, no_texts_table, no_texts_rows}
use Rattle.batch_types.specs.Written.{CanBeWritten}

pub points_profile : InProfile points_table
points_profile = record {
  not_deep = omega arith;
  within = record { fields_within = omega arith; entries_within = omega arith; bytes_within = omega arith };
  well_formed = ((tt, tt, ((refl, tt, tt), ((refl, tt, tt), tt))), tt);
}

pub points_can : CanBeWritten points_table points_rows
points_can = record {
  of_schema = (refl, (((refl, (tt, tt))), (tt, tt)), tt);
  few = omega arith;
  few_values = (omega (arith, ints), (omega (arith, ints), (omega (arith, ints), tt)));
  room = ((tt, ((tt, tt), ((tt, tt), tt))), tt);
}

pub bare_profile : InProfile bare_table
bare_profile = record {
  not_deep = omega arith;
  within = record { fields_within = omega arith; entries_within = omega arith; bytes_within = omega arith };
  well_formed = tt;
}

pub bare_can : CanBeWritten bare_table bare_rows
bare_can = record { of_schema = tt; few = omega arith; few_values = tt; room = tt }

pub most_can : CanBeWritten bare_table most_rows
most_can = record { of_schema = tt; few = omega arith; few_values = tt; room = tt }

pub no_texts_profile : InProfile no_texts_table
no_texts_profile = record {
  not_deep = omega arith;
  within = record { fields_within = omega arith; entries_within = omega arith; bytes_within = omega arith };
  well_formed = ((refl, tt, tt), tt);
}

pub no_texts_can : CanBeWritten no_texts_table no_texts_rows
no_texts_can = record { of_schema = (refl, tt, tt); few = omega arith; few_values = (omega (arith, ints), tt); room = ((omega arith, tt), tt) }
