use Rattle.std.proofs.Common.{◌≡◌, ◌≢◌, ap, subst, ◌∙◌, Option, MatchOption, Some, List, ℕ, codes, arith}
use Rattle.std.specs.Str.{IsTrimAscii}
use Rattle.header_types.specs.declared.field_type.Ty.{Ty}
use Rattle.header_types.specs.Fields.{DataType}
use Rattle.header_types.specs.Views.{data_type_of}
use Rattle.schema_words.specs.Spelling.{plain_words}
use Rattle.schema_words.proofs.Wording.{cut_at, untyped}
use Rattle.schema_words.proofs.reading.type_of.Goals as goal

-- src/reading.rt:21:1
pub returns-in-Some-plain_type-2 : goal.returns-in-Some-plain_type-2
returns-in-Some-plain_type-2 c =
    let cut = cut_at 32 c.args.said.now c.split_once.result c.split_once.ensures.cases (omega arith) (c.in-Some.words, c.in-Some.mark) c.in-Some.is in
    let named : plain_words (data_type_of c.in-Some-plain_type-2.ty) ≡ Some c.in-Some.words.now =
    subst (λ (it : Option Ty). MatchOption it ((t : DataType) → plain_words t ≢ Some c.in-Some.words.now) (λ ty. plain_words (data_type_of ty) ≡ Some c.in-Some.words.now))
    c.in-Some-plain_type-2.is c.plain_type-in-Some.ensures in (
      cut.0,
      named ∙ ap (λ w. Some w) cut.1,
      subst (λ (it : List ℕ). IsTrimAscii it (codes "not null")) cut.2 (c.is_not_null.ensures.0 c.if-is_not_null.true),
    )

-- src/reading.rt:21:1
pub returns-in-None-plain_type-2 : goal.returns-in-None-plain_type-2
returns-in-None-plain_type-2 c =
    let cut = cut_at 32 c.args.said.now c.split_once.result c.split_once.ensures.cases (omega arith) (c.in-Some.words, c.in-Some.mark) c.in-Some.is in
    untyped c.args.said.now c.in-Some.words.now cut.0 cut.1
    (subst (λ (it : Option Ty). MatchOption it ((t : DataType) → plain_words t ≢ Some c.in-Some.words.now) (λ ty. plain_words (data_type_of ty) ≡ Some c.in-Some.words.now))
    c.in-None-plain_type-2.is c.plain_type-in-Some.ensures)
