use Rattle.batch_types.proofs.ReadBack.{valid_is, bit_is, sized_is, offset_is, start_is, length_is, offsets_rise}
use Rattle.batch_types.proofs.ReadBack.{bytes_are, elements_are}
use Rattle.batch_types.proofs.WrittenCells.{cell_is}
use Rattle.batch_types.proofs.laws.written_values_are_the_cells.Goals as goal

pub returns-clause-valid : goal.returns-clause-valid
returns-clause-valid c = valid_is c.bits_are_packed_by_eights.ensures

pub returns-clause-bits : goal.returns-clause-bits
returns-clause-bits c = bit_is c.bits_are_packed_by_eights.ensures

pub returns-clause-sized : goal.returns-clause-sized
returns-clause-sized c = sized_is

pub returns-clause-offsets : goal.returns-clause-offsets
returns-clause-offsets c = offset_is

pub returns-clause-starts : goal.returns-clause-starts
returns-clause-starts c = start_is

pub returns-clause-lengths : goal.returns-clause-lengths
returns-clause-lengths c = length_is

pub returns-clause-rising : goal.returns-clause-rising
returns-clause-rising c = offsets_rise

pub returns-clause-sized_by_offsets : goal.returns-clause-sized_by_offsets
returns-clause-sized_by_offsets c = bytes_are

pub returns-clause-elements : goal.returns-clause-elements
returns-clause-elements c = elements_are

pub returns-clause-cells : goal.returns-clause-cells
returns-clause-cells c = cell_is c.bits_are_packed_by_eights.ensures
