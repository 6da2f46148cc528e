-- How far a walk over fields came that checks their columns: a tool of the proofs.
use Rattle.std.specs.Prelude.{ℕ, ◌+◌, ◌≡◌, List}
use Rattle.header_types.specs.declared.header.BatchHead.{BatchHead}
use Rattle.header_types.specs.Fields.{Forest}
use Rattle.batch_types.specs.declared.fault.BatchFault.{BatchFault}
use Rattle.batch_types.specs.Laid.{node_count, buffer_count}
use Rattle.batch_types.specs.LaysOut.{AreSound, HaveFault}
use Rattle.batch_columns.specs.declared.place.Place.{Place}
use Rattle.batch_checking.specs.declared.around.Around.{Around}
use Rattle.batch_checking.specs.Columns.{columns_at, places_in, MayCheck}

-- of the columns of these fields, which begin at the first place, those of all but the rest keep their rules
pub record Came (body : List ℕ) (head : BatchHead) (asked : ℕ) (around : Around) (fields : Forest) (first : Place)
    (rest : Forest) (place : Place) : Type 0 where
  pub may : MayCheck rest head place asked around
  pub nodes : place.node + node_count rest ≡ first.node + node_count fields
  pub buffers : place.buffer + buffer_count rest ≡ first.buffer + buffer_count fields
  pub sound : AreSound body (columns_at rest head place) asked (places_in around)
      → AreSound body (columns_at fields head first) asked (places_in around)
  pub fault : (told : BatchFault) → HaveFault body (columns_at rest head place) asked (places_in around) told
      → HaveFault body (columns_at fields head first) asked (places_in around) told
