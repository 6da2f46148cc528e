-- Batches worked out by hand from the columnar format: Apache Arrow, "Arrow Columnar Format", "Physical memory layout".
-- They stand beside the definitions, which have to say the same of them.
use Rattle.std.specs.Prelude.{ℕ, pos, true, false, List, [], ◌∷◌, ◌++◌, replicate}
use Rattle.header_types.specs.declared.field_type.BitWidth.TheVariants.{Eight}
use Rattle.header_types.specs.Fields.{DataType, null_type, int_type, utf8_type, bool_type, list_type, fixed_size_list_type}
use Rattle.header_types.specs.Fields.{struct_type, Tree, tree, Forest, no_more, more, SchemaTree}
use Rattle.header_types.specs.Header.{Head}
use Rattle.batch_types.specs.Cells.{Cell, null_cell, bit_cell, bytes_cell, list_cell, tuple_cell, cells_of, Rows}
use Rattle.batch_types.specs.Laid.{Node, Range}

-- ---- short words

abbrev pub field : DataType → Forest → Tree
field type inside = tree (record { name = []; nullable = true; data_type = type }) [] inside

-- a table of one column
abbrev pub table : Tree → SchemaTree
table t = record { fields = more t no_more; metadata = [] }

abbrev pub one_column : List Cell → ℕ → Rows
one_column cells count = record { count = count; columns = cells ∷ [] }

abbrev pub head : ℕ → List Node → List Range → ℕ → Head
head count nodes buffers bytes = record {
  length = pos count;
  nodes = nodes;
  buffers = buffers;
  compressed = false;
  body_length = pos bytes;
}

-- so many zero bytes
abbrev pub zeros : ℕ → List ℕ
zeros n = replicate n 0

-- ---- Int of eight bits: 1, null, 3

abbrev pub int8_table : SchemaTree
int8_table = table (field (int_type Eight true) no_more)

abbrev pub int8_rows : Rows
int8_rows = one_column (bytes_cell (1 ∷ []) ∷ null_cell ∷ bytes_cell (3 ∷ []) ∷ []) 3

abbrev pub int8_head : Head
int8_head = head 3 ((pos 3, pos 1) ∷ []) ((pos 0, pos 1) ∷ (pos 8, pos 3) ∷ []) 16

abbrev pub int8_body : List ℕ
int8_body = 5 ∷ zeros 7 ++ 1 ∷ 0 ∷ 3 ∷ zeros 5

-- ---- List of Utf8: ["a", "bc"] and []. The body that is written first has texts that belong to no list, and offsets
-- that do not begin at 0; the second is the canonical one.

abbrev pub texts_table : SchemaTree
texts_table = table (field list_type (more (field utf8_type no_more) no_more))

abbrev pub texts_rows : Rows
texts_rows =
    one_column (list_cell (cells_of (bytes_cell (97 ∷ []) ∷ bytes_cell (98 ∷ 99 ∷ []) ∷ [])) ∷ list_cell (cells_of []) ∷ []) 2

abbrev pub texts_head : Head
texts_head =
    head 2 ((pos 2, pos 0) ∷ (pos 7, pos 0) ∷ [])
    ((pos 0, pos 0) ∷ (pos 0, pos 12) ∷ (pos 16, pos 0) ∷ (pos 16, pos 32) ∷ (pos 48, pos 5) ∷ []) 56

abbrev pub texts_body : List ℕ
texts_body =
    4 ∷ zeros 3 ++ 6 ∷ zeros 3 ++ 6 ∷ zeros 3 ++ zeros 4 ++ zeros 20 ++ 1 ∷ zeros 3 ++ 3 ∷ zeros 3 ++ 5 ∷ zeros 3
    ++ 97 ∷ 98 ∷ 99 ∷ 122 ∷ 122 ∷ zeros 3

abbrev pub texts_canonical_head : Head
texts_canonical_head =
    head 2 ((pos 2, pos 0) ∷ (pos 2, pos 0) ∷ [])
    ((pos 0, pos 0) ∷ (pos 0, pos 12) ∷ (pos 16, pos 0) ∷ (pos 16, pos 12) ∷ (pos 32, pos 3) ∷ []) 40

abbrev pub texts_canonical_body : List ℕ
texts_canonical_body =
    zeros 4 ++ 2 ∷ zeros 3 ++ 2 ∷ zeros 3 ++ zeros 4 ++ zeros 4 ++ 1 ∷ zeros 3 ++ 3 ∷ zeros 3 ++ zeros 4
    ++ 97 ∷ 98 ∷ 99 ∷ zeros 5

-- ---- Bool: true, null, true, false

abbrev pub bool_table : SchemaTree
bool_table = table (field bool_type no_more)

abbrev pub bool_rows : Rows
bool_rows = one_column (bit_cell true ∷ null_cell ∷ bit_cell true ∷ bit_cell false ∷ []) 4

abbrev pub bool_head : Head
bool_head = head 4 ((pos 4, pos 1) ∷ []) ((pos 0, pos 1) ∷ (pos 8, pos 1) ∷ []) 16

abbrev pub bool_body : List ℕ
bool_body = 13 ∷ zeros 7 ++ 5 ∷ zeros 7

-- ---- FixedSizeList of two Int of eight bits: [1, 2] and null

abbrev pub pairs_table : SchemaTree
pairs_table = table (field (fixed_size_list_type (pos 2)) (more (field (int_type Eight true) no_more) no_more))

abbrev pub pairs_rows : Rows
pairs_rows =
    one_column (list_cell (cells_of (bytes_cell (1 ∷ []) ∷ bytes_cell (2 ∷ []) ∷ [])) ∷ null_cell ∷ []) 2

abbrev pub pairs_head : Head
pairs_head =
    head 2 ((pos 2, pos 1) ∷ (pos 4, pos 0) ∷ []) ((pos 0, pos 1) ∷ (pos 8, pos 0) ∷ (pos 8, pos 4) ∷ []) 16

abbrev pub pairs_body : List ℕ
pairs_body = 1 ∷ zeros 7 ++ 1 ∷ 2 ∷ zeros 6

-- ---- Struct of Int of eight bits and Bool: (1, true) and null

abbrev pub points_table : SchemaTree
points_table =
    table (field struct_type (more (field (int_type Eight true) no_more) (more (field bool_type no_more) no_more)))

abbrev pub points_rows : Rows
points_rows = one_column (tuple_cell (cells_of (bytes_cell (1 ∷ []) ∷ bit_cell true ∷ [])) ∷ null_cell ∷ []) 2

abbrev pub points_head : Head
points_head =
    head 2 ((pos 2, pos 1) ∷ (pos 2, pos 0) ∷ (pos 2, pos 0) ∷ [])
    ((pos 0, pos 1) ∷ (pos 8, pos 0) ∷ (pos 8, pos 2) ∷ (pos 16, pos 0) ∷ (pos 16, pos 1) ∷ []) 24

abbrev pub points_body : List ℕ
points_body = 1 ∷ zeros 7 ++ 1 ∷ zeros 7 ++ 1 ∷ zeros 7

-- ---- five rows of no column

abbrev pub bare_table : SchemaTree
bare_table = record { fields = no_more; metadata = [] }

abbrev pub bare_rows : Rows
bare_rows = record { count = 5; columns = [] }

abbrev pub bare_head : Head
bare_head = head 5 [] [] 0

-- as many rows as a batch may have
abbrev pub most_rows : Rows
most_rows = record { count = 1048576; columns = [] }

abbrev pub most_head : Head
most_head = head 1048576 [] [] 0

-- ---- no row of Utf8, and three rows of nulls

abbrev pub no_texts_table : SchemaTree
no_texts_table = table (field utf8_type no_more)

abbrev pub no_texts_rows : Rows
no_texts_rows = one_column [] 0

abbrev pub no_texts_head : Head
no_texts_head = head 0 ((pos 0, pos 0) ∷ []) ((pos 0, pos 0) ∷ (pos 0, pos 4) ∷ (pos 8, pos 0) ∷ []) 8

abbrev pub nulls_table : SchemaTree
nulls_table = table (field null_type no_more)

abbrev pub nulls_rows : Rows
nulls_rows = one_column (null_cell ∷ null_cell ∷ null_cell ∷ []) 3

abbrev pub nulls_head : Head
nulls_head = head 3 ((pos 3, pos 3) ∷ []) [] 0

-- three of as many nulls as a node may have
abbrev pub crowded_head : Head
crowded_head = head 3 ((pos 16777216, pos 3) ∷ []) [] 0

-- ---- broken ones: a null too many is told of, and offsets 0, 2, 1 fall

abbrev pub miscounted_head : Head
miscounted_head = head 3 ((pos 3, pos 2) ∷ []) ((pos 0, pos 1) ∷ (pos 8, pos 3) ∷ []) 16

abbrev pub falling_head : Head
falling_head = head 2 ((pos 2, pos 0) ∷ []) ((pos 0, pos 0) ∷ (pos 0, pos 12) ∷ (pos 16, pos 2) ∷ []) 24

abbrev pub falling_body : List ℕ
falling_body = zeros 4 ++ 2 ∷ zeros 3 ++ 1 ∷ zeros 3 ++ zeros 4 ++ 97 ∷ 98 ∷ zeros 6

-- ---- one for each other fault, of the table of one column of Int of eight bits, or of Utf8

abbrev pub compressed_head : Head
compressed_head = record { length = pos 3; nodes = []; buffers = []; compressed = true; body_length = pos 0 }

abbrev pub long_head : Head
long_head = head 1048577 [] [] 0

-- a node of one value too many
abbrev pub heavy_head : Head
heavy_head = head 3 ((pos 16777217, pos 1) ∷ []) [] 0

abbrev pub nodeless_head : Head
nodeless_head = head 3 [] [] 0

abbrev pub bufferless_head : Head
bufferless_head = head 3 ((pos 3, pos 1) ∷ []) [] 0

-- a byte more than the body has; a column whose data are a byte short
abbrev pub bodiless_head : Head
bodiless_head = head 3 ((pos 3, pos 1) ∷ []) ((pos 0, pos 1) ∷ (pos 8, pos 3) ∷ []) 17

abbrev pub cut_head : Head
cut_head = head 3 ((pos 3, pos 1) ∷ []) ((pos 0, pos 1) ∷ (pos 8, pos 2) ∷ []) 16

-- three rows of two values
abbrev pub short_head : Head
short_head = head 3 ((pos 2, pos 1) ∷ []) ((pos 0, pos 1) ∷ (pos 8, pos 3) ∷ []) 16

-- a byte that begins no character
abbrev pub garbled_head : Head
garbled_head = head 1 ((pos 1, pos 0) ∷ []) ((pos 0, pos 0) ∷ (pos 0, pos 8) ∷ (pos 8, pos 1) ∷ []) 16

abbrev pub garbled_body : List ℕ
garbled_body = zeros 4 ++ 1 ∷ zeros 3 ++ 255 ∷ zeros 7
