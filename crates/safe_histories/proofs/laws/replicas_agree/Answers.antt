use Rattle.safe_histories.proofs.laws.replicas_agree.Goals as goal

pub returns-clause-safe : goal.returns-clause-safe
returns-clause-safe c history follows =
    c.what_follows_is_safe.ensures history follows (c.what_follows_is_lawful.ensures history follows)
