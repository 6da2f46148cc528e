use Rattle.std.proofs.Common.{◌≡◌, true, false, refl}
use Rattle.std.specs.Option.{option_map}
use Rattle.header_types.specs.declared.fault.MetaFault.{MetaFault}
use Rattle.header_reading.specs.Faults.{FieldFault}
use Rattle.header_reading.specs.VectorRefs.{vector_ref_of}
use Rattle.header_reading.specs.FieldRefView.{field_view}
use Rattle.header_reading.proofs.SlotFacts.{handed_on}
use Rattle.header_reading.proofs.FieldFacts.{data_type_fault, dictionary_fault, children_fault, metadata_fault}
use Rattle.header_reading.proofs.FieldFacts.{wrong_children, field_shown}
use Rattle.header_reading.proofs.field.field_in.Goals as goal

pub returns-in_err-no_dictionary-clause-fault : goal.returns-in_err-no_dictionary-clause-fault
returns-in_err-no_dictionary-clause-fault c =
    let e : MetaFault = c.in_err-no_dictionary.field-0.0 in
    handed_on (FieldFault c.args.table.now.buf c.args.table.now.place) c.from_residual-in_err-no_dictionary.result e
    c.from_residual-in_err-no_dictionary.ensures.1
    (dictionary_fault c.args.table.now.buf c.args.table.now.place e c.in_err-no_dictionary.ensures.fault)

pub returns-in_err-children-clause-fault : goal.returns-in_err-children-clause-fault
returns-in_err-children-clause-fault c =
    let e : MetaFault = c.in_err-children.field-0.0 in
    handed_on (FieldFault c.args.table.now.buf c.args.table.now.place) c.from_residual-in_err-children.result e
    c.from_residual-in_err-children.ensures.1
    (children_fault c.args.table.now.buf c.args.table.now.place e c.in_err-children.ensures.fault)

pub returns-in_err-metadata-clause-fault : goal.returns-in_err-metadata-clause-fault
returns-in_err-metadata-clause-fault c =
    let e : MetaFault = c.in_err-metadata.field-0.0 in
    handed_on (FieldFault c.args.table.now.buf c.args.table.now.place) c.from_residual-in_err-metadata.result e
    c.from_residual-in_err-metadata.ensures.1
    (metadata_fault c.args.table.now.buf c.args.table.now.place e c.in_err-metadata.ensures.fault)

pub returns-in_err-data_type-clause-fault : goal.returns-in_err-data_type-clause-fault
returns-in_err-data_type-clause-fault c =
    let e : MetaFault = c.in_err-data_type.field-0.0 in
    handed_on (FieldFault c.args.table.now.buf c.args.table.now.place) c.from_residual-in_err-data_type.result e
    c.from_residual-in_err-data_type.ensures.1
    (data_type_fault c.args.table.now.buf c.args.table.now.place e c.in_err-data_type.ensures.fault)

pub returns-then-not-allows_children-clause-fault : goal.returns-then-not-allows_children-clause-fault
returns-then-not-allows_children-clause-fault c =
    wrong_children c.args.table.now.buf c.args.table.now.place c.in_ok-data_type.data_type.type_id
    c.in_ok-data_type.data_type.ty (option_map (λ bytes. bytes.now) c.in_ok-data_type.data_type.timezone)
    (vector_ref_of c.in_ok-children.children)
    c.in_ok-data_type.ensures.type_id c.in_ok-data_type.ensures.read c.in_ok-children.ensures.read
    (λ allowed. let no : false ≡ true = c.if-not-allows_children.ensures.1 allowed in cc)

pub returns-clause-read : goal.returns-clause-read
returns-clause-read c =
    let name = c.in_ok-name.ensures.read in
    field_shown c.args.table.now.buf c.args.table.now.place
    (field_view record {
      name = c.in_ok-name.name;
      nullable = _;
      ty = c.in_ok-data_type.data_type.ty;
      timezone = c.in_ok-data_type.data_type.timezone;
      children = c.in_ok-children.children;
      metadata = c.in_ok-metadata.metadata;
    })
    name.0 c.in_ok-nullable.field-0 c.in_ok-data_type.data_type.type_id c.in_ok-data_type.data_type.ty
    (option_map (λ bytes. bytes.now) c.in_ok-data_type.data_type.timezone) (vector_ref_of c.in_ok-children.children)
    (vector_ref_of c.in_ok-metadata.metadata)
    name.1 name.2 c.in_ok-nullable.ensures.read refl c.in_ok-data_type.ensures.type_id refl
    c.in_ok-data_type.ensures.read
    c.in_ok-no_dictionary.ensures.read c.in_ok-children.ensures.read
    (c.if-not-allows_children.ensures.0 refl) c.in_ok-metadata.ensures.read
