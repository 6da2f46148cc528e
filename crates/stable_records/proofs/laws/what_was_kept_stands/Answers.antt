use Rattle.stable_records.proofs.TellingLemmas.{kept_stands, standing_was_told, stands_apart, stands_together, all_kept_is, last_doubted_is}
use Rattle.stable_records.proofs.laws.what_was_kept_stands.Goals as goal

pub returns-clause-kept : goal.returns-clause-kept
returns-clause-kept c = kept_stands

pub returns-clause-told : goal.returns-clause-told
returns-clause-told c = standing_was_told

pub returns-clause-in_order : goal.returns-clause-in_order
returns-clause-in_order c = stands_apart

pub returns-clause-together : goal.returns-clause-together
returns-clause-together c = stands_together

pub returns-clause-all_kept : goal.returns-clause-all_kept
returns-clause-all_kept c = all_kept_is

pub returns-clause-last_doubted : goal.returns-clause-last_doubted
returns-clause-last_doubted c = last_doubted_is
