-- How a call and its answer stand in bytes. A request is headers, messages and an end, an answer messages and trailers:
-- gRPC over HTTP2, "Requests" (Request → Request-Headers *Length-Prefixed-Message EOS) and "Responses". That the path and the
-- trailers stand in frames of their own, and not in HTTP2's headers, is this service's own.
use Rattle.std.specs.Prelude.{ℕ, List, [], ◌++◌}
use Rattle.std.specs.List.{flat_map}
use Rattle.grpc_frames.specs.Frame.{frame_text}
use Rattle.table_types.specs.Served.{in_frame}
use Rattle.call_protocol.specs.Statuses.{ok_trailer}

-- the messages, each in its frame
abbrev pub messages_text : List (List ℕ) → List ℕ
messages_text messages = flat_map in_frame messages

-- the frame behind the last message of a request
abbrev pub end_text : List ℕ
end_text = frame_text (record { flag = 128; payload = [] })

abbrev pub call_text : List ℕ → List (List ℕ) → List ℕ
call_text path messages = in_frame path ++ messages_text messages ++ end_text

abbrev pub answer_text : List (List ℕ) → List ℕ
answer_text messages = messages_text messages ++ ok_trailer
