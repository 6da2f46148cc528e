use Rattle.std.proofs.Common.{◌++◌, ◌∙◌, append_assoc}
use Rattle.table_types.specs.Served.{in_frame}
use Rattle.call_protocol.specs.Methods.{path_text}
use Rattle.call_protocol.specs.Texts.{messages_text, end_text}
use Rattle.call_reading.specs.Requests.{method_of}
use Rattle.call_reading.proofs.laws.calls_have_an_end.Goals as goal

pub returns : goal.returns
returns c = λ text rest request h.
    let before = in_frame (path_text (method_of request)) ++ messages_text h.messages in
    (before, h.parts ∙ append_assoc before end_text rest)
