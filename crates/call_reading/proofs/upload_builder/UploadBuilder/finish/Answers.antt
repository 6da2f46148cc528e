use Rattle.std.proofs.Common.{arith, refl, ap, subst, inl, inr, ◌∙◌}
use Rattle.header_types.specs.Views.{schema_of}
use Rattle.table_types.specs.Uploads.{upload_text}
use Rattle.table_types.specs.Valid.{IsUpload}
use Rattle.uploads.specs.Making.{IsSmall, AreRefused}
use Rattle.call_reading.proofs.Batches.{made_is, none_made}
use Rattle.call_reading.proofs.upload_builder.UploadBuilder.finish.Goals as goal

pub returns-then-self-gt-SIZE_LIMIT : goal.returns-then-self-gt-SIZE_LIMIT
returns-then-self-gt-SIZE_LIMIT c = λ upload holds.
    inl (none_made c.args.self.now upload holds c.requires (omega (arith, c.if-self-gt-SIZE_LIMIT.true)), refl)

pub returns-in-Ok : goal.returns-in-Ok
returns-in-Ok c = λ upload holds.
    let is = made_is c.args.self.now upload holds (omega (arith, c.if-self-gt-SIZE_LIMIT.false)) c.deref.result.now c.deref-2.result.now c.deref.ensures c.deref-2.ensures.value in
    (subst IsUpload is c.in-Ok.ensures.upload, c.in-Ok.ensures.text ∙ ap upload_text is)

pub returns-in-Err-TooLarge : goal.returns-in-Err-TooLarge
returns-in-Err-TooLarge c = λ upload holds.
    let is = made_is c.args.self.now upload holds (omega (arith, c.if-self-gt-SIZE_LIMIT.false)) c.deref.result.now c.deref-2.result.now c.deref.ensures c.deref-2.ensures.value in
    let fault =
    subst (λ f. AreRefused c.deref.result.now c.args.self.now.id (schema_of c.args.self.now.schema) c.deref-2.result.now f) c.in-Err-TooLarge.field-0-is
    c.in-Err-TooLarge.ensures.fault in
    inl (subst (λ u. ¬ IsSmall u) is fault.3, refl)

pub returns-in-Err-OutOfMemory : goal.returns-in-Err-OutOfMemory
returns-in-Err-OutOfMemory c = λ upload holds.
    let is = made_is c.args.self.now upload holds (omega (arith, c.if-self-gt-SIZE_LIMIT.false)) c.deref.result.now c.deref-2.result.now c.deref.ensures c.deref-2.ensures.value in
    let made =
    subst (λ f. AreRefused c.deref.result.now c.args.self.now.id (schema_of c.args.self.now.schema) c.deref-2.result.now f) c.in-Err-OutOfMemory.field-0-is
    c.in-Err-OutOfMemory.ensures.fault in
    inr (subst (λ u. IsSmall u) is made.small, refl)
