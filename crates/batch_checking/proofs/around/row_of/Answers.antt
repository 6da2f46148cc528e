use Rattle.batch_checking.proofs.Rows.{fixed_stands, fixed_found, list_stands, list_found, list_spread}
use Rattle.batch_checking.proofs.around.row_of.Goals as goal

pub returns-in-FixedSizeList-clause-stands : goal.returns-in-FixedSizeList-clause-stands
returns-in-FixedSizeList-clause-stands c =
    fixed_stands c.args.source.now c.in-FixedSizeList.size c.args.place c.block_around.result c.in-FixedSizeList.is c.block_around.ensures.stands

pub returns-in-FixedSizeList-clause-found : goal.returns-in-FixedSizeList-clause-found
returns-in-FixedSizeList-clause-found c =
    fixed_found c.args.source.now c.in-FixedSizeList.size c.args.place c.block_around.result c.in-FixedSizeList.is c.block_around.ensures.found

pub row_around-requires-clause-spread : goal.row_around-requires-clause-spread
row_around-requires-clause-spread c = list_spread c.args.source.now c.in-List.is c.requires

pub returns-in-List-clause-stands : goal.returns-in-List-clause-stands
returns-in-List-clause-stands c = list_stands c.args.source.now c.args.place c.row_around.result c.in-List.is c.row_around.ensures.some

pub returns-in-List-clause-found : goal.returns-in-List-clause-found
returns-in-List-clause-found c =
    list_found c.args.source.now c.args.place c.row_around.result c.in-List.is c.requires c.row_around.ensures.some c.row_around.ensures.none
