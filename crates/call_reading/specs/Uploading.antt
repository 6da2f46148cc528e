-- What the parts of reading an upload give: tools of the contracts of private functions.
use Rattle.std.specs.Prelude.{◌≡◌, ◌⊎◌, ◌≤◌, ℕ, Bool, true, false, List, ◌++◌, length, Result, Ok, Err}
use Rattle.std.specs.List.{AllByRecursion}
use Rattle.header_types.specs.Views.{schema_of}
use Rattle.proto_wire.specs.Flight.{data_descriptor}
use Rattle.table_types.specs.Served.{in_frame}
use Rattle.table_types.specs.Uploads.{Upload}
use Rattle.table_types.specs.Valid.{FitsFrame}
use Rattle.call_protocol.specs.declared.method.Method.TheVariants as methods
use Rattle.call_protocol.specs.declared.refusal.CallRefusal.{CallRefusal}
use Rattle.call_protocol.specs.declared.refusal.CallRefusal.TheVariants as refusals
use Rattle.call_protocol.specs.Texts.{messages_text, end_text}
use Rattle.call_reading.specs.declared.upload_builder.UploadBuilder.{UploadBuilder}
use Rattle.call_reading.specs.Requests.{puts, Brings}
use Rattle.call_reading.specs.Faults.{MeansAtFault, OpeningFault, FurtherFault, FrameBreaks, BreaksMessages}
use Rattle.call_reading.specs.Builder.{Holds, IsOpened, OpensSome, AddsWithin, Grows}
use Rattle.call_reading.specs.Reading.{AsksFor}

-- the first message, or why there is no such
abbrev pub ReadsOpening : Result UploadBuilder CallRefusal → List ℕ → List ℕ → Type 0
ReadsOpening (Ok i) here after =
    (message : List ℕ) × (here ≡ in_frame message ++ after) × FitsFrame message × IsOpened message i
ReadsOpening (Err refusal) here after =
    FrameBreaks here after refusal
    ⊎ ((here ≡ end_text ++ after) × (refusal ≡ refusals.NoSchema))
    ⊎ ((message : List ℕ) × (here ≡ in_frame message ++ after) × FitsFrame message
    × (MeansAtFault data_descriptor OpeningFault message refusal ⊎ (OpensSome message × (refusal ≡ refusals.OutOfMemory))))

-- a further message, or the end, or why neither
abbrev pub ReadsFurther : ℕ → UploadBuilder → UploadBuilder → Result Bool CallRefusal → List ℕ → List ℕ → Type 0
ReadsFurther left old new (Ok true) here after =
    (message : List ℕ) × (here ≡ in_frame message ++ after) × FitsFrame message × Grows message old new × (1 ≤ left)
ReadsFurther left old new (Ok false) here after = (here ≡ end_text ++ after) × (new ≡ old)
ReadsFurther left old new (Err refusal) here after =
    FrameBreaks here after refusal
    ⊎ ((message : List ℕ) × (here ≡ in_frame message ++ after) × FitsFrame message
    × (((left ≡ 0) × (refusal ≡ refusals.MessageCount))
    ⊎ MeansAtFault data_descriptor (FurtherFault (schema_of old.schema) old.count) message refusal
    ⊎ ((1 ≤ left) × AddsWithin (schema_of old.schema) old.count message × (refusal ≡ refusals.OutOfMemory))))

-- so many messages came, which bring an upload that is on its way, and this is left
pub record HasTaken (count : ℕ) (i : UploadBuilder) (here now : List ℕ) : Type 0 where
  pub messages : List (List ℕ)
  pub parts : here ≡ messages_text messages ++ now
  pub fit : AllByRecursion FitsFrame messages
  pub count_is : length messages ≡ count
  pub upload : Upload
  pub brings : Brings messages upload
  pub holds : Holds i upload

-- the whole of it
abbrev pub ReadsUpload : Result (List ℕ) CallRefusal → List ℕ → List ℕ → Type 0
ReadsUpload (Ok text) here after = AsksFor (puts text) here after
ReadsUpload (Err refusal) here after = BreaksMessages methods.DoPut here after refusal
