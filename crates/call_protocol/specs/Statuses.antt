-- With which status and text each refusal ends a call: gRPC, "Status codes and their use in gRPC"; the texts are this
-- service's own.
use Rattle.std.specs.Prelude.{ℕ, List, [], ◌∷◌, codes}
use Rattle.grpc_frames.specs.Frame.{frame_text}
use Rattle.grpc_frames.specs.declared.fault.FrameFault.{FrameFault}
use Rattle.grpc_frames.specs.declared.fault.FrameFault.TheVariants as frames
use Rattle.proto_fields.specs.declared.fault.WireFault.{WireFault}
use Rattle.proto_fields.specs.declared.fault.WireFault.TheVariants as wires
use Rattle.header_types.specs.declared.fault.MetaFault.{MetaFault}
use Rattle.header_types.specs.declared.fault.MetaFault.TheVariants as metas
use Rattle.batch_types.specs.declared.fault.BatchFault.{BatchFault}
use Rattle.batch_types.specs.declared.fault.BatchFault.TheVariants as batches
use Rattle.call_protocol.specs.declared.back_fault.BackFault.{BackFault}
use Rattle.call_protocol.specs.declared.back_fault.BackFault.TheVariants as backs
use Rattle.call_protocol.specs.declared.status.Status.{Status}
use Rattle.call_protocol.specs.declared.status.Status.TheVariants as statuses
use Rattle.call_protocol.specs.declared.refusal.CallRefusal.{CallRefusal}
use Rattle.call_protocol.specs.declared.refusal.CallRefusal.TheVariants as refusals

-- the numbers of the statuses
abbrev pub code_of : Status → ℕ
code_of statuses.Ok = 0
code_of statuses.InvalidArgument = 3
code_of statuses.NotFound = 5
code_of statuses.AlreadyExists = 6
code_of statuses.ResourceExhausted = 8
code_of statuses.FailedPrecondition = 9
code_of statuses.Unimplemented = 12
code_of statuses.Internal = 13
code_of statuses.Unavailable = 14

-- ---- the status of each refusal

abbrev pub frame_status : FrameFault → Status
frame_status frames.Truncated = statuses.InvalidArgument
frame_status frames.BadFlag = statuses.InvalidArgument
frame_status frames.TooLong = statuses.InvalidArgument
frame_status frames.Compressed = statuses.Unimplemented
frame_status frames.Io = statuses.Internal
frame_status frames.OutOfMemory = statuses.ResourceExhausted

abbrev pub wire_status : WireFault → Status
wire_status wires.OutOfMemory = statuses.ResourceExhausted
wire_status wires.BadVarint = statuses.InvalidArgument
wire_status wires.BadKey = statuses.InvalidArgument
wire_status wires.BadWireType = statuses.InvalidArgument
wire_status wires.CutShort = statuses.InvalidArgument
wire_status wires.NotUtf8 = statuses.InvalidArgument

abbrev pub meta_status : MetaFault → Status
meta_status (metas.Unsupported type_id) = statuses.Unimplemented
meta_status metas.Dictionary = statuses.Unimplemented
meta_status metas.OutOfMemory = statuses.ResourceExhausted
meta_status metas.OutOfBounds = statuses.InvalidArgument
meta_status metas.Version = statuses.InvalidArgument
meta_status metas.Endianness = statuses.InvalidArgument
meta_status metas.TooDeep = statuses.InvalidArgument
meta_status metas.TooManyFields = statuses.InvalidArgument
meta_status metas.NotUtf8 = statuses.InvalidArgument
meta_status metas.BadHeader = statuses.InvalidArgument

abbrev pub batch_status : BatchFault → Status
batch_status batches.Compressed = statuses.Unimplemented
batch_status batches.OutOfMemory = statuses.ResourceExhausted
batch_status batches.TooManyRows = statuses.InvalidArgument
batch_status batches.NodeCount = statuses.InvalidArgument
batch_status batches.BufferCount = statuses.InvalidArgument
batch_status batches.BufferRange = statuses.InvalidArgument
batch_status batches.NullCount = statuses.InvalidArgument
batch_status batches.OffsetsFall = statuses.InvalidArgument
batch_status batches.ChildShort = statuses.InvalidArgument
batch_status batches.NotUtf8 = statuses.InvalidArgument

abbrev pub back_status : BackFault → Status
back_status backs.Unavailable = statuses.Unavailable
back_status backs.Down = statuses.Unavailable
back_status backs.NoTable = statuses.NotFound
back_status backs.SlotsSpent = statuses.ResourceExhausted
back_status backs.RoundsSpent = statuses.ResourceExhausted
back_status backs.JournalFull = statuses.ResourceExhausted
back_status backs.OutOfMemory = statuses.ResourceExhausted
back_status backs.Store = statuses.Internal

abbrev pub status_of : CallRefusal → Status
status_of (refusals.Frame fault) = frame_status fault
status_of (refusals.Wire fault) = wire_status fault
status_of (refusals.Meta fault) = meta_status fault
status_of (refusals.Batch fault) = batch_status fault
status_of (refusals.Back fault) = back_status fault
status_of refusals.EndPayload = statuses.InvalidArgument
status_of refusals.NoEnd = statuses.InvalidArgument
status_of refusals.BadPath = statuses.InvalidArgument
status_of refusals.MessageCount = statuses.InvalidArgument
status_of refusals.BadDescriptor = statuses.InvalidArgument
status_of refusals.BadTicket = statuses.InvalidArgument
status_of refusals.NoSchema = statuses.InvalidArgument
status_of refusals.SecondSchema = statuses.InvalidArgument
status_of refusals.NoCall = statuses.Unimplemented
status_of refusals.CmdDescriptor = statuses.Unimplemented
status_of refusals.Criteria = statuses.Unimplemented
status_of refusals.TooManyBatches = statuses.ResourceExhausted
status_of refusals.TooLarge = statuses.ResourceExhausted
status_of refusals.OutOfMemory = statuses.ResourceExhausted
status_of refusals.SchemaMismatch = statuses.FailedPrecondition
status_of refusals.Conflict = statuses.AlreadyExists
status_of refusals.Undecided = statuses.Unavailable

-- ---- the text of each refusal

abbrev pub frame_name : FrameFault → List ℕ
frame_name frames.Truncated = codes "Truncated"
frame_name frames.BadFlag = codes "BadFlag"
frame_name frames.Compressed = codes "Compressed"
frame_name frames.TooLong = codes "TooLong"
frame_name frames.Io = codes "Io"
frame_name frames.OutOfMemory = codes "OutOfMemory"

abbrev pub wire_name : WireFault → List ℕ
wire_name wires.BadVarint = codes "BadVarint"
wire_name wires.BadKey = codes "BadKey"
wire_name wires.BadWireType = codes "BadWireType"
wire_name wires.CutShort = codes "CutShort"
wire_name wires.NotUtf8 = codes "NotUtf8"
wire_name wires.OutOfMemory = codes "OutOfMemory"

abbrev pub meta_name : MetaFault → List ℕ
meta_name metas.OutOfBounds = codes "OutOfBounds"
meta_name metas.Version = codes "Version"
meta_name metas.Endianness = codes "Endianness"
meta_name (metas.Unsupported type_id) = codes "Unsupported"
meta_name metas.Dictionary = codes "Dictionary"
meta_name metas.TooDeep = codes "TooDeep"
meta_name metas.TooManyFields = codes "TooManyFields"
meta_name metas.NotUtf8 = codes "NotUtf8"
meta_name metas.BadHeader = codes "BadHeader"
meta_name metas.OutOfMemory = codes "OutOfMemory"

abbrev pub batch_name : BatchFault → List ℕ
batch_name batches.Compressed = codes "Compressed"
batch_name batches.TooManyRows = codes "TooManyRows"
batch_name batches.NodeCount = codes "NodeCount"
batch_name batches.BufferCount = codes "BufferCount"
batch_name batches.BufferRange = codes "BufferRange"
batch_name batches.NullCount = codes "NullCount"
batch_name batches.OffsetsFall = codes "OffsetsFall"
batch_name batches.ChildShort = codes "ChildShort"
batch_name batches.NotUtf8 = codes "NotUtf8"
batch_name batches.OutOfMemory = codes "OutOfMemory"

abbrev pub back_name : BackFault → List ℕ
back_name backs.Unavailable = codes "Unavailable"
back_name backs.NoTable = codes "NoTable"
back_name backs.Down = codes "Down"
back_name backs.SlotsSpent = codes "SlotsSpent"
back_name backs.RoundsSpent = codes "RoundsSpent"
back_name backs.JournalFull = codes "JournalFull"
back_name backs.Store = codes "Store"
back_name backs.OutOfMemory = codes "OutOfMemory"

abbrev pub name_of : CallRefusal → List ℕ
name_of (refusals.Frame fault) = frame_name fault
name_of refusals.EndPayload = codes "BadFlag"
name_of refusals.NoEnd = codes "NoEnd"
name_of refusals.BadPath = codes "BadPath"
name_of refusals.NoCall = codes "NoCall"
name_of refusals.MessageCount = codes "MessageCount"
name_of (refusals.Wire fault) = wire_name fault
name_of refusals.BadDescriptor = codes "BadDescriptor"
name_of refusals.CmdDescriptor = codes "CmdDescriptor"
name_of refusals.Criteria = codes "Criteria"
name_of refusals.BadTicket = codes "BadTicket"
name_of refusals.NoSchema = codes "NoSchema"
name_of (refusals.Meta fault) = meta_name fault
name_of refusals.SecondSchema = codes "BadHeader"
name_of (refusals.Batch fault) = batch_name fault
name_of refusals.TooManyBatches = codes "TooManyBatches"
name_of refusals.TooLarge = codes "TooLarge"
name_of refusals.SchemaMismatch = codes "SchemaMismatch"
name_of refusals.Conflict = codes "Conflict"
name_of refusals.Undecided = codes "Unavailable"
name_of (refusals.Back fault) = back_name fault
name_of refusals.OutOfMemory = codes "OutOfMemory"

-- ---- trailers

-- the frame that ends a call: a status, and a text
abbrev pub trailer_text : ℕ → List ℕ → List ℕ
trailer_text code text = frame_text (record { flag = 128; payload = code ∷ text })

-- that of a call that was answered has no text
abbrev pub ok_trailer : List ℕ
ok_trailer = trailer_text 0 []

abbrev pub refusal_trailer : CallRefusal → List ℕ
refusal_trailer refusal = trailer_text (code_of (status_of refusal)) (name_of refusal)
