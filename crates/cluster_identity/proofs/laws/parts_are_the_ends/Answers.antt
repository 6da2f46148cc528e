use Rattle.cluster_identity.proofs.Parts.{begins, ends, few, many}
use Rattle.cluster_identity.proofs.laws.parts_are_the_ends.Goals as goal

pub returns-clause-first : goal.returns-clause-first
returns-clause-first c = begins

pub returns-clause-last : goal.returns-clause-last
returns-clause-last c = ends

pub returns-clause-all : goal.returns-clause-all
returns-clause-all c = few

pub returns-clause-most : goal.returns-clause-most
returns-clause-most c = many
