-- What is served was put: each upload of a version is that of a value which its node was told, and all that was put before.
use Rattle.std.proofs.Common.{◌≡◌, ℕ, ◌+◌, ◌*◌, ◌≤◌, not, Bool, false, true≢false, cond, ne_eqb, List, [], ◌∷◌, ◌++◌, length, take, map, Some, slice_get, sym, ap, subst, ◌∙◌, arith, length-append, length-take}
use Rattle.std.proofs.lemmas.Option.{slice_get_within}
use Rattle.ballots.specs.declared.value.Value.{Value}
use Rattle.ballots.specs.declared.value.Value.TheVariants.{Noop, Upload as UploadValue}
use Rattle.ballots.specs.Message.{value_bytes}
use Rattle.proto_fields.specs.Field.{Field, Bytes, is_default, field_text, fields_text, present}
use Rattle.proto_fields.specs.Varint.{varint_text}
use Rattle.proto_fields.specs.Scalar.{TypeBytes}
use Rattle.proto_messages.specs.Descriptor.{One, Messages, NoMore}
use Rattle.proto_messages.specs.Canonical.{canonical_fields}
use Rattle.lawful_histories.specs.Lawful.{IsLawful}
use Rattle.table_types.specs.Uploads.{Upload, upload_text, batch_descriptor, schema_text, batch_values}
use Rattle.table_types.specs.Valid.{IsUpload}
use Rattle.histories.specs.Event as event
use Rattle.histories.specs.EventResult as results
use Rattle.histories.specs.History.{Step, History}
use Rattle.histories.specs.Following.{UpOrDown, IsUp, IsDown, at_first, Follows}
use Rattle.safe_histories.specs.Learning.{Runs, heard_since_restart, HasTables}
use Rattle.safe_histories.specs.Safe.{IsStep, ServedWasPut}
use Rattle.safe_histories.proofs.Lists.{In, in_from_contains, at_from_in, in_map, at_taken}
use Rattle.safe_histories.proofs.Texts.{are_of_texts}
use Rattle.safe_histories.proofs.Versions.{in_version}
use Rattle.safe_histories.proofs.Heard.{calls_of, ChoiceLaws, LearnerLaws, learned_is_prefix}
use Rattle.safe_histories.proofs.Restarts.{step_of}
use Rattle.safe_histories.proofs.Running.{Agrees}
use Rattle.safe_histories.proofs.Seats.{AllAgree, step_agrees, agree_at_first}
use Rattle.safe_histories.proofs.Steps.{Reached, reach}
use Rattle.safe_histories.proofs.Served.{get_is_served}
use Rattle.safe_histories.proofs.Putting.{Each, ValueFrom, ToldFrom, SeatFrom}
use Rattle.safe_histories.proofs.Planning.{ProposerLaws, EachAsked, prefix_from}
use Rattle.safe_histories.proofs.Handing.{WasPut, AllPut, step_put, put_at_first}

-- ---- no upload is encoded by no bytes

first_text : (bytes : List ℕ) (rest : List Field) → 1 ≤ length bytes
    → length bytes ≤ length (fields_text (present (record { number = 1; held = Bytes bytes } ∷ []) ++ rest))
first_text bytes rest some =
    let field : Field = record { number = 1; held = Bytes bytes } in
    let is : is_default field.held ≡ false = ne_eqb (length bytes) 0 (λ none. absurd (omega (arith, some, none))) in
    let there : present (field ∷ []) ≡ field ∷ [] = ap (λ (b : Bool). cond (not b) (field ∷ []) []) is in
    let key = varint_text (8 * 1 + 2) in
    let size = varint_text (length bytes) in
    let long = length-append (field_text field) (fields_text rest) in
    let held = length-append key (size ++ bytes) in
    let whole = length-append size bytes in
    subst (λ (fields : List Field). length bytes ≤ length (fields_text (fields ++ rest))) (sym there) (omega (arith, long, held, whole))

pub upload_is_some : (upload : Upload) → IsUpload upload → upload_text upload ≡ [] → ⊥
upload_is_some upload is none =
    let some : 1 ≤ length upload.table = is.table_named.some in
    let rest : List Field = canonical_fields (One 2 TypeBytes (One 3 TypeBytes (Messages 4 batch_descriptor NoMore)))
    (upload.id, (schema_text upload.schema, (map (batch_values upload.schema) upload.batches, tt))) in
    let long : length upload.table ≤ length (upload_text upload) = first_text upload.table rest some in
    absurd (omega (arith, some, long, ap length none))

-- ---- a value that is an upload

value_put : (T : List ℕ → Type 0) (upload : Upload) (value : Value) → IsUpload upload → value_bytes value ≡ upload_text upload → ValueFrom T value
    → T (upload_text upload)
value_put T upload Noop is same from = absurd (upload_is_some upload is (sym same))
value_put T upload (UploadValue text) is same from = subst T same from

-- ---- a node that serves

told_from : (history : History) (T : List ℕ → Type 0) (done : List Step) (node : ℕ) (seat : UpOrDown) → Agrees history.sent done node seat → Runs node done
    → SeatFrom T seat → Each (ToldFrom T) (calls_of (heard_since_restart history.sent done node))
told_from history T done node (IsUp views) agrees runs from = subst (Each (ToldFrom T)) agrees.1 from.learner_calls
told_from history T done node (IsDown records due) agrees runs from = absurd (true≢false (sym agrees ∙ runs))

module _ (history : History) (follows : Follows history) (lawful : IsLawful history.config.members history.sent) (laws : ChoiceLaws) (learner : LearnerLaws)
    (proposer : ProposerLaws) (each : EachAsked) where
  -- each step has what stands, and it was put
  abbrev Stands : List Step → (ℕ → UpOrDown) → ℕ → Type 0
  Stands done seats next = AllAgree history.sent done history.config.members done seats × AllPut proposer learner each history.config history.sent done seats next

  put_at : (place : ℕ) (step : Step) → slice_get history.steps place ≡ Some step → Reached history.config history.sent Stands (take place history.steps) step
  put_at place step is =
      reach history.config history.sent Stands
      (λ done seats after next x recovered holds one. (
        step_agrees history.sent done history.config next recovered seats after x holds.0 one,
        step_put proposer learner each history.config history.sent done seats after next x recovered holds.1 one,
      ))
      follows.seats [] at_first 0 history.steps follows.recovered
      (agree_at_first history.sent history.config.members, put_at_first proposer learner each history.config history.sent) follows.reached place step is

  -- what a node that served was told was put
  served_told : (place node version : ℕ) (table bytes : List ℕ) → IsStep history.steps place (event.Get node table version) (results.Answer bytes)
      → Each (ToldFrom (WasPut (take place history.steps))) (calls_of (heard_since_restart history.sent (take place history.steps) node))
  served_told place node version table bytes is =
      let done = take place history.steps in
      let at = put_at place (step_of (event.Get node table version) (results.Answer bytes)) is in
      let serving = get_is_served history.config history.sent lawful laws learner done at.next at.recovered at.seats at.after node version table bytes at.holds.0 at.follows in
      told_from history (WasPut done) done node (at.seats node) (at.holds.0 node serving.0) serving.1 (at.holds.1.0 node)

  upload_put : (done : List Step) (node : ℕ) (uploads : List Upload) (upload : Upload)
      → Each (ToldFrom (WasPut done)) (calls_of (heard_since_restart history.sent done node))
      → HasTables history.config.members history.sent done node uploads → In uploads upload → WasPut done (upload_text upload)
  upload_put done node uploads upload told has there =
      let of_text = are_of_texts (map value_bytes has.values) uploads upload has.are there in
      let by = in_map value_bytes has.values (upload_text upload) of_text.1 in
      let at = at_from_in has.values by.0 by.1 in
      let prefix = learned_is_prefix history.config.members history.sent lawful laws learner done node has.values has.prefix in
      value_put (WasPut done) upload by.0 of_text.0 by.2
      (prefix_from (WasPut done) learner history.config.members (calls_of (heard_since_restart history.sent done node)) has.values at.0 by.0 told prefix at.1)

  pub were_put : ServedWasPut history
  were_put place k version table y uploads found upload is has found_is contains =
      let done = take place history.steps in
      let there = in_version table version uploads found upload found_is (in_from_contains found.uploads upload contains) in
      let put = upload_put done k uploads upload (served_told place k version table y is) has there in
      let within = slice_get_within done put.0 (step_of (event.Put put.1 (upload_text upload)) results.Done) put.2 in
      let most = length-take place history.steps in
      (put.0, put.1, omega (arith, within, most), at_taken place put.0 history.steps (step_of (event.Put put.1 (upload_text upload)) results.Done) put.2)
