-- Each stands under its own name.
use Rattle.std.proofs.Common.{◌∙◌, sym, subst, nat_eq}
use Rattle.std.specs.Cmp.Lexicographic.{pointwise, nat_list_eq_equiv}
use Rattle.table_types.specs.Texts.{IsTextOf}
use Rattle.pending_uploads.specs.Keys.{StandsByName}
use Rattle.pending_uploads.proofs.Finding.{value_from_lookup, lookup_from_value}
use Rattle.pending_uploads.proofs.keys.is_named.Goals as goal

pub returns : goal.returns
returns c =
    let of = c.as_slice-text.ensures.upload in (
      λ yes. value_from_lookup (pointwise nat_eq c.id-name.result) c.args.upload.now c.args.named.now.entries (c.has.ensures.has.0 yes),
      λ among.
          c.has.ensures.has.1
          (lookup_from_value (pointwise nat_eq) nat_list_eq_equiv StandsByName c.id-name.result c.args.upload.now
          (λ entry is same. is.name of.0 (subst (λ text. IsTextOf text of.0) (sym same) of.1) ∙ sym (c.id-name.ensures of.0 of.1.0 of.1.1))
          c.args.named.now.entries c.requires c.has.ensures.unique among),
    )
