use Rattle.std.proofs.Common.{refl}
use Rattle.table_versions.proofs.placing.add_version.Goals as goal

pub returns-clause-adds : goal.returns-clause-adds
returns-clause-adds c = λ old there. record {
  place = c.grow_table-place.result;
  grows = c.grow_table-place.ensures.grows old there;
  serves = c.put_frames.ensures.puts;
  names = c.grow_table-place.ensures.names;
  version_is = refl;
}

pub grow_table-place-requires : goal.grow_table-place-requires
grow_table-place-requires c = c.requires.there
