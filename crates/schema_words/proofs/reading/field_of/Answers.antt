use Rattle.std.proofs.Common.{subst, Option, MatchOption, List, ℕ, Bool, arith}
use Rattle.std.specs.Str.{IsTrimAscii}
use Rattle.header_types.specs.declared.field_type.Ty.{Ty}
use Rattle.header_types.specs.Fields.{DataType}
use Rattle.header_types.specs.Views.{data_type_of}
use Rattle.schema_words.specs.Spelling.{SpellsType}
use Rattle.schema_words.proofs.Gathering.{field_made}
use Rattle.schema_words.proofs.Wording.{cut_at, unsaid}
use Rattle.schema_words.proofs.reading.field_of.Goals as goal

-- src/reading.rt:43:1
pub returns-in_default-type_of : goal.returns-in_default-type_of
returns-in_default-type_of c =
    let cut = cut_at 58 c.args.part.now c.split_once.result c.split_once.ensures.cases (omega arith) (c.in-Some.name, c.in-Some.said) c.in-Some.is in
    unsaid c.args.part.now c.trim_ascii.result.now
    (subst (λ (it : List ℕ). IsTrimAscii it c.trim_ascii.result.now) cut.2 c.trim_ascii.ensures.value)
    c.in_default-type_of.ensures

-- src/reading.rt:43:1
pub returns : goal.returns
returns c =
    let cut = cut_at 58 c.args.part.now c.split_once.result c.split_once.ensures.cases (omega arith) (c.in-Some.name, c.in-Some.said) c.in-Some.is in
    let told : SpellsType c.trim_ascii.result.now (data_type_of c.in-Some-type_of.ty) c.in-Some-type_of.nullable =
    subst (λ (it : Option (Ty × Bool)). MatchOption it ((t : DataType) (nullable : Bool) → SpellsType c.trim_ascii.result.now t nullable → ⊥)
    (λ told. SpellsType c.trim_ascii.result.now (data_type_of told.0) told.1))
    c.in-Some-type_of.is c.type_of.ensures in (
      record { name = c.trim_ascii-2.result.now; nullable = c.in-Some-type_of.nullable; data_type = data_type_of c.in-Some-type_of.ty },
      record {
        has_colon = cut.0;
        name = subst (λ (it : List ℕ). IsTrimAscii it c.trim_ascii-2.result.now) cut.1 c.trim_ascii-2.ensures.value;
        said = c.trim_ascii.result.now;
        behind = subst (λ (it : List ℕ). IsTrimAscii it c.trim_ascii.result.now) cut.2 c.trim_ascii.ensures.value;
        type_said = told;
      },
      field_made _ c.trim_ascii-2.result.now c.in_ok-from_str.ensures.ok c.new-2.ensures.items c.new.ensures.items,
    )
