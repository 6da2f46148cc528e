use Rattle.header_types.proofs.Profiled.{in_profile}
use Rattle.header_types.proofs.laws.shown_schemas_are_in_profile.Goals as goal

pub returns : goal.returns
returns c = in_profile
