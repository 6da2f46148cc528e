-- Which fault is told of which column.
use Rattle.std.proofs.Common.{◌≢◌, inl, inr, refl, sym, ◌∙◌, true≢false, List, ◌∷◌}
use Rattle.batch_types.specs.Cells.{Cell}
use Rattle.batch_types.specs.Shapes.{Shape, Shapes, shape_then}
use Rattle.column_building.specs.declared.fault.CellsFault.{CellsFault}
use Rattle.column_building.specs.declared.fault.CellsFault.TheVariants.{WrongChildren, NotOfField, TooMany, TooLong, OutOfMemory}
use Rattle.column_building.specs.Rows.{CanBeMade, IsTold, IsToldOfFirst}

pub none_of_made : (s : Shape) (held : List Cell) (fault : CellsFault) → CanBeMade s held → IsTold s held fault → fault ≢ OutOfMemory → ⊥
none_of_made s held WrongChildren can told other = true≢false (sym can.whole ∙ told)
none_of_made s held NotOfField can told other = told can.fit
none_of_made s held TooMany can told other = told can.few
none_of_made s held TooLong can told other = told can.room
none_of_made s held OutOfMemory can told other = other refl

pub told_first : (s : Shape) (shapes : Shapes) (held : List Cell) (columns : List (List Cell)) (fault : CellsFault) → (CanBeMade s held → ⊥)
    → IsToldOfFirst (shape_then s shapes) (held ∷ columns) fault → IsTold s held fault
told_first s shapes held columns fault not_made (inl here) = here
told_first s shapes held columns fault not_made (inr later) = absurd (not_made later.0)

pub told_later : (s : Shape) (shapes : Shapes) (held : List Cell) (columns : List (List Cell)) (fault : CellsFault) → CanBeMade s held → fault ≢ OutOfMemory
    → IsToldOfFirst (shape_then s shapes) (held ∷ columns) fault → IsToldOfFirst shapes columns fault
told_later s shapes held columns fault can other (inl here) = absurd (none_of_made s held fault can here other)
told_later s shapes held columns fault can other (inr later) = later.1
