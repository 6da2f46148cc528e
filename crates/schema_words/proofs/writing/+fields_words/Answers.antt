use Rattle.std.proofs.Common.{◌∙◌, ◌++◌, ap, sym, map, string_bytes}
use Rattle.header_types.specs.FieldView.{field_head_of}
use Rattle.header_types.specs.Views.{forest_of, tree_of}
use Rattle.header_types.proofs.FieldTrees.{tree_out}
use Rattle.schema_words.specs.Spelling.{forest_words, head_words, tree_words}
use Rattle.schema_words.proofs.Gathering.{words_pushed}
use Rattle.schema_words.proofs.writing.+fields_words.Goals as goal

pub loop-index-preserved : goal.loop-index-preserved
loop-index-preserved t c =
    words_pushed c.args.fields.now c.loop-index.index c.index-fields-index.result
    (string_bytes c.loop-index.words) (string_bytes c.push_str.new.self) (string_bytes c.push_str-in-loop-index.new.self) (string_bytes c.in_ok-own.own)
    c.loop-index-test.true c.index-fields-index.is c.loop-index.invariant
    (c.in_ok-push_str.ensures.bytes ∙ ap (λ w. string_bytes c.loop-index.words ++ w) c.comma_before.ensures)
    (c.in_ok-own.ensures ∙ ap (λ i. head_words (field_head_of c.index-fields-index.result) i) (c.deref-in-loop-index.ensures ∙ c.in_ok-inside.ensures
    ∙ ap (λ fields. forest_words (forest_of (map tree_of fields))) c.deref.ensures.value)
    ∙ ap tree_words (sym (tree_out c.index-fields-index.result)))
    (c.in_ok-push_str-2.ensures.bytes ∙ ap (λ w. string_bytes c.push_str.new.self ++ w) c.deref-in-loop-index-2.ensures)
