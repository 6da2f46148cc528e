use Rattle.histories.proofs.OneSeat.{OneSeatLaws, one_kept}
use Rattle.histories.proofs.laws.kept_records_are_one.Goals as goal

pub returns : goal.returns
returns c =
    let laws : OneSeatLaws = record {
      due = record {
        prefix = c.prefixes_are_one.ensures.prefix;
        tick = c.due_is_one.ensures.tick;
        part = c.due_is_one.ensures.body;
        uploads = c.texts_hold_one_list_of_uploads.ensures.one;
        encoding = c.uploads_have_one_encoding.ensures;
      };
      tick_record = c.due_is_one.ensures.tick_record;
      message_record = c.due_is_one.ensures.message_record;
    } in
    one_kept laws
