use Rattle.histories.proofs.OneDue.{OneDueLaws, one_due}
use Rattle.histories.proofs.laws.due_is_one.Goals as goal

pub returns : goal.returns
returns c =
    let laws : OneDueLaws = record {
      prefix = c.prefixes_are_one.ensures.prefix;
      tick = c.due_is_one.ensures.tick;
      part = c.due_is_one.ensures.body;
      uploads = c.texts_hold_one_list_of_uploads.ensures.one;
      encoding = c.uploads_have_one_encoding.ensures;
    } in
    one_due laws
