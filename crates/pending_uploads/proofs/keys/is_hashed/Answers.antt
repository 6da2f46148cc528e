-- Each stands under its own hash.
use Rattle.std.proofs.Common.{◌∙◌, sym, ap, nat_eq}
use Rattle.std.specs.Cmp.{nat_eq_equiv}
use Rattle.pending_uploads.specs.Keys.{StandsByHash, hash_of}
use Rattle.pending_uploads.proofs.Finding.{value_from_lookup, lookup_from_value}
use Rattle.pending_uploads.proofs.keys.is_hashed.Goals as goal

pub returns : goal.returns
returns c = (
  λ yes. value_from_lookup (nat_eq c.hash_of-hash.result) c.args.upload.now c.args.hashed.now.entries (c.has.ensures.has.0 yes),
  λ among.
      c.has.ensures.has.1
      (lookup_from_value nat_eq nat_eq_equiv (StandsByHash c.args.hashing.now) c.hash_of-hash.result c.args.upload.now
      (λ entry is same. is.hash ∙ ap (hash_of c.args.hashing.now) same ∙ sym c.hash_of-hash.ensures) c.args.hashed.now.entries c.requires
      c.has.ensures.unique among),
)
