use Rattle.length_conformance.proofs.drawn.+field_of.Given as goal

abbrev pub decreases-field_of : goal.decreases-field_of
decreases-field_of l = l.depth
