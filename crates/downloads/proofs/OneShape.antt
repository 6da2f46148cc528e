-- Schemas of one shape: their batches are written alike.
use Rattle.std.proofs.Common.{◌≡◌, refl, sym, ap, ap₂, subst, ◌∙◌, ℕ, pos, ◌≤ℤ◌, List, [], ◌∷◌, ◌++◌, map, length, false}
use Rattle.std.specs.List.{AllByRecursion, flat_map}
use Rattle.header_types.specs.Fields.{Tree, tree, Forest, no_more, more, SchemaTree}
use Rattle.header_types.specs.Header.{Head, batch_header}
use Rattle.header_types.specs.SameShape.{bare_tree, bare_forest, SameShape}
use Rattle.header_writing.specs.Canonical.{header_text}
use Rattle.batch_types.specs.Cells.{Rows}
use Rattle.batch_types.specs.Layouts.{layout_of}
use Rattle.batch_types.specs.LaysOut.{values_limit}
use Rattle.batch_types.specs.Shapes.{Shapes, shape, shape_then, shape_of, shapes_of}
use Rattle.batch_types.specs.Typed.{AreColumnsOfRows}
use Rattle.batch_types.specs.Canonical.{columns_parts, body_with, ranges_from, canonical_body}
use Rattle.batch_types.specs.Written.{CanBeWritten, HaveRooms}
use Rattle.table_types.specs.Uploads.{Upload, head_text}
use Rattle.table_types.specs.Served.{data_text, batch_message, messages_of, upload_messages, schema_message}
use Rattle.table_types.specs.Tables.{Version}
use Rattle.table_types.specs.Answers.{answer_messages}
use Rattle.table_types.specs.Valid.{IsUpload}
use Rattle.downloads.specs.Downloads.{as_upload, served_messages, served_of, downloaded_of, IsServed, IsOfVersion, IsServedVersion, IsDownload}

mutual
  tree_shape : (t : Tree) → shape_of (bare_tree t) ≡ shape_of t
  tree_shape (tree field entries inner) = ap (λ (s : Shapes). shape (layout_of field.data_type) s) (forest_shape inner)

  forest_shape : (f : Forest) → shapes_of (bare_forest f) ≡ shapes_of f
  forest_shape no_more = refl
  forest_shape (more t rest) = ap₂ (λ s ss. shape_then s ss) (tree_shape t) (forest_shape rest)

shapes_are : (x y : SchemaTree) → SameShape x y → shapes_of x.fields ≡ shapes_of y.fields
shapes_are x y same = sym (forest_shape x.fields) ∙ ap (λ (f : Forest). shapes_of f) same ∙ forest_shape y.fields

-- ---- one batch

abbrev head_in : Shapes → Rows → Head
head_in shapes rows = record {
  length = pos rows.count;
  nodes = (columns_parts shapes rows.columns).nodes;
  buffers = ranges_from 0 (columns_parts shapes rows.columns).buffers;
  compressed = false;
  body_length = pos (length (body_with (columns_parts shapes rows.columns).buffers));
}

heads_are : (x y : SchemaTree) (rows : Rows) → SameShape x y → head_text x rows ≡ head_text y rows
heads_are x y rows same = ap (λ (s : Shapes). header_text (batch_header (head_in s rows))) (shapes_are x y same)

bodies_are : (x y : SchemaTree) (rows : Rows) → SameShape x y → canonical_body x rows ≡ canonical_body y rows
bodies_are x y rows same = ap (λ (s : Shapes). body_with (columns_parts s rows.columns).buffers) (shapes_are x y same)

can_be_written : (x y : SchemaTree) (rows : Rows) → SameShape x y → CanBeWritten x rows → CanBeWritten y rows
can_be_written x y rows same h =
    let shapes = shapes_are x y same in
    record {
      of_schema = subst (λ (s : Shapes). AreColumnsOfRows rows.count s rows.columns) shapes h.of_schema;
      few = h.few;
      few_values = subst (λ (s : Shapes). AllByRecursion (λ node. node.0 ≤ℤ pos values_limit) (columns_parts s rows.columns).nodes) shapes h.few_values;
      room = subst (λ (s : Shapes). HaveRooms s rows.columns) shapes h.room;
    }

-- ---- one upload

module _ (schema : SchemaTree) (upload : Upload) (same : SameShape upload.schema schema) where
  message_is : (rows : Rows) → batch_message upload rows ≡ batch_message (as_upload schema (served_of upload)) rows
  message_is rows =
      ap (λ (head : List ℕ). data_text head upload.id (canonical_body upload.schema rows)) (heads_are upload.schema schema rows same)
      ∙ ap (λ (body : List ℕ). data_text (head_text schema rows) upload.id body) (bodies_are upload.schema schema rows same)

  batches_are : (batches : List Rows) → map (batch_message upload) batches ≡ map (batch_message (as_upload schema (served_of upload))) batches
  batches_are [] = refl
  batches_are (rows ∷ batches) = ap₂ (λ m ms. m ∷ ms) (message_is rows) (batches_are batches)

  messages_are : (batches : List Rows) → messages_of upload batches ≡ messages_of (as_upload schema (served_of upload)) batches
  messages_are [] = refl
  messages_are (rows ∷ batches) = batches_are (rows ∷ batches)

  served_are : upload_messages upload ≡ served_messages schema (served_of upload)
  served_are = messages_are upload.batches

  all_written : (batches : List Rows) → AllByRecursion (CanBeWritten upload.schema) batches → AllByRecursion (CanBeWritten schema) batches
  all_written [] h = tt
  all_written (rows ∷ batches) h = (can_be_written upload.schema schema rows same h.0, all_written batches h.1)

  is_served : IsUpload upload → IsServed schema (served_of upload)
  is_served h = record { named = h.named; batches_written = all_written upload.batches h.batches_written }

-- ---- all of them

all_messages : (schema : SchemaTree) (uploads : List Upload) → AllByRecursion (IsOfVersion schema) uploads
    → flat_map upload_messages uploads ≡ flat_map (served_messages schema) (map served_of uploads)
all_messages schema [] h = refl
all_messages schema (upload ∷ uploads) h =
    ap₂ (λ m ms. m ++ ms) (served_are schema upload h.0.1) (all_messages schema uploads h.1)

all_served : (schema : SchemaTree) (uploads : List Upload) → AllByRecursion (IsOfVersion schema) uploads → AllByRecursion (IsServed schema) (map served_of uploads)
all_served schema [] h = tt
all_served schema (upload ∷ uploads) h = (is_served schema upload h.0.1 h.0.0, all_served schema uploads h.1)

pub version_downloads : (version : Version) → IsServedVersion version → IsDownload (answer_messages version) (downloaded_of version)
version_downloads version h = record {
  messages_are = ap (λ (ms : List (List ℕ)). schema_message version.schema ∷ ms) (all_messages version.schema version.uploads h.each);
  profile = h.profile;
  schema_fits = h.schema_fits;
  each = all_served version.schema version.uploads h.each;
  ids_differ = h.ids_differ;
}
