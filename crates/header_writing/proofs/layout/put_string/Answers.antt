use Rattle.std.proofs.Common.{ℕ, List, ◌++◌, ap, ◌∙◌}
use Rattle.header_writing.proofs.Appending.{string_put}
use Rattle.header_writing.proofs.layout.put_string.Goals as goal

pub returns : goal.returns
returns c = record {
  put =
      string_put c.args.text.now.items c.pad.new.text.items c.refer.new.text.items c.put_word.new.text.items
      c.extend_from_slice.new.self.items
      c.push.new.self.items c.args.string.now c.args.from c.requires.within c.in_ok-pad.ensures.padded
      c.refer.ensures.set c.in_ok-put_word.ensures.put
      (c.in_ok-extend_from_slice.ensures.items
      ∙ ap (λ (l : List ℕ). c.put_word.new.text.items ++ l) c.as_bytes.ensures.value)
      c.in_ok-push.ensures.items;
}
