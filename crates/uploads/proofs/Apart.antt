-- Of the same parts one fault stands at most.
use Rattle.std.proofs.Common.{◌≡◌, refl, arith, ℕ, ◌<◌, ◌≤◌, List, length}
use Rattle.header_types.specs.Fields.{SchemaTree}
use Rattle.batch_columns.specs.declared.batch.Batch.{Batch}
use Rattle.table_types.specs.Valid.{batches_limit}
use Rattle.uploads.specs.Making.{AreRefused}
use Rattle.uploads.specs.declared.upload_fault.UploadFault.{UploadFault}
use Rattle.uploads.specs.declared.upload_fault.UploadFault.TheVariants.{BadTable, TooManyBatches, ShapeDiffers, TooLarge, OutOfMemory}

many_and_few : {x y : UploadFault} (batches : List Batch) → batches_limit < length batches → length batches ≤ batches_limit → x ≡ y
many_and_few batches many few = absurd (omega (arith, many, few))

pub apart : (t i : List ℕ) (s : SchemaTree) (bs : List Batch) (x y : UploadFault) → AreRefused t i s bs x → AreRefused t i s bs y → x ≡ y
apart t i s bs BadTable BadTable x y = refl
apart t i s bs BadTable TooManyBatches x y = absurd (x y.0)
apart t i s bs BadTable ShapeDiffers x y = absurd (x y.0)
apart t i s bs BadTable TooLarge x y = absurd (x y.0)
apart t i s bs BadTable OutOfMemory x y = absurd (x y.named)
apart t i s bs TooManyBatches BadTable x y = absurd (y x.0)
apart t i s bs TooManyBatches TooManyBatches x y = refl
apart t i s bs TooManyBatches ShapeDiffers x y = many_and_few bs x.1 y.1
apart t i s bs TooManyBatches TooLarge x y = many_and_few bs x.1 y.1
apart t i s bs TooManyBatches OutOfMemory x y = many_and_few bs x.1 y.few
apart t i s bs ShapeDiffers BadTable x y = absurd (y x.0)
apart t i s bs ShapeDiffers TooManyBatches x y = many_and_few bs y.1 x.1
apart t i s bs ShapeDiffers ShapeDiffers x y = refl
apart t i s bs ShapeDiffers TooLarge x y = absurd (x.2 (y.2))
apart t i s bs ShapeDiffers OutOfMemory x y = absurd (x.2 (y.of_schema))
apart t i s bs TooLarge BadTable x y = absurd (y x.0)
apart t i s bs TooLarge TooManyBatches x y = many_and_few bs y.1 x.1
apart t i s bs TooLarge ShapeDiffers x y = absurd (y.2 (x.2))
apart t i s bs TooLarge TooLarge x y = refl
apart t i s bs TooLarge OutOfMemory x y = absurd (x.3 y.small)
apart t i s bs OutOfMemory BadTable x y = absurd (y x.named)
apart t i s bs OutOfMemory TooManyBatches x y = many_and_few bs y.1 x.few
apart t i s bs OutOfMemory ShapeDiffers x y = absurd (y.2 (x.of_schema))
apart t i s bs OutOfMemory TooLarge x y = absurd (y.3 x.small)
apart t i s bs OutOfMemory OutOfMemory x y = refl
