use Rattle.std.proofs.Common.{◌++◌, length, arith}
use Rattle.table_types.specs.Answers.{answer_of}
use Rattle.call_protocol.specs.Statuses.{ok_trailer}
use Rattle.request_laws.proofs.Versions.{made_can, is_answer}
use Rattle.request_laws.proofs.laws.versions_can_be_got.Goals as goal

pub returns-clause-held : goal.returns-clause-held
returns-clause-held c state values uploads table number version took are stands = (
  record {
    table = table;
    number = number;
    taken = c.values_hold_one_list_of_uploads.ensures.valid values uploads are;
    is = stands;
  },
  omega (arith, c.values_hold_one_list_of_uploads.ensures.few values uploads are, took.few),
)

pub returns-clause-served : goal.returns-clause-served
returns-clause-served c version uploads made =
    (made_can c.shapes_are_without_metadata.ensures.apart c.uploads_count_once.ensures.apart c.tables_have_one_shape.ensures.shape version uploads made).served

pub returns-clause-answered : goal.returns-clause-answered
returns-clause-answered c version uploads rest made few =
    is_answer version (length uploads) rest
    (made_can c.shapes_are_without_metadata.ensures.apart c.uploads_count_once.ensures.apart c.tables_have_one_shape.ensures.shape version uploads made)
    few

pub returns-clause-given : goal.returns-clause-given
returns-clause-given c version uploads rest left result made few got =
    let can =
    made_can c.shapes_are_without_metadata.ensures.apart c.uploads_count_once.ensures.apart c.tables_have_one_shape.ensures.shape version uploads made in
    c.versions_are_given.ensures version (answer_of version ++ ok_trailer ++ rest) rest left result can.served
    (is_answer version (length uploads) rest can few) got
