use Rattle.histories.proofs.OneSeat.{OneSeatLaws, one_given, one_left, one_led}
use Rattle.histories.proofs.laws.steps_are_one.Goals as goal

pub returns-clause-given : goal.returns-clause-given
returns-clause-given c = λ config sent next recovered old new other event x y able also_able gives also.
    let laws : OneSeatLaws = record {
      due = record {
        prefix = c.prefixes_are_one.ensures.prefix;
        tick = c.due_is_one.ensures.tick;
        part = c.due_is_one.ensures.body;
        uploads = c.texts_hold_one_list_of_uploads.ensures.one;
        encoding = c.uploads_have_one_encoding.ensures;
      };
      tick_record = c.due_is_one.ensures.tick_record;
      message_record = c.due_is_one.ensures.message_record;
    } in
    one_given laws config sent next recovered old event x y new other able also_able gives also

pub returns-clause-left : goal.returns-clause-left
returns-clause-left c = λ config sent next recovered old new other event x gives also.
    let laws : OneSeatLaws = record {
      due = record {
        prefix = c.prefixes_are_one.ensures.prefix;
        tick = c.due_is_one.ensures.tick;
        part = c.due_is_one.ensures.body;
        uploads = c.texts_hold_one_list_of_uploads.ensures.one;
        encoding = c.uploads_have_one_encoding.ensures;
      };
      tick_record = c.due_is_one.ensures.tick_record;
      message_record = c.due_is_one.ensures.message_record;
    } in
    one_left laws config sent next recovered old event x new other gives also

pub returns-clause-entries : goal.returns-clause-entries
returns-clause-entries c = λ config old new other entry.
    let laws : OneSeatLaws = record {
      due = record {
        prefix = c.prefixes_are_one.ensures.prefix;
        tick = c.due_is_one.ensures.tick;
        part = c.due_is_one.ensures.body;
        uploads = c.texts_hold_one_list_of_uploads.ensures.one;
        encoding = c.uploads_have_one_encoding.ensures;
      };
      tick_record = c.due_is_one.ensures.tick_record;
      message_record = c.due_is_one.ensures.message_record;
    } in
    one_led laws config old entry new other
