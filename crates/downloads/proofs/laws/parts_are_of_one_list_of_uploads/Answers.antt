use Rattle.downloads.proofs.Grouping.{grouped_once, all_texts}
use Rattle.downloads.proofs.laws.parts_are_of_one_list_of_uploads.Goals as goal

pub returns-clause-texts : goal.returns-clause-texts
returns-clause-texts c schema uploads = all_texts schema uploads

pub returns-clause-one : goal.returns-clause-one
returns-clause-one c uploads others change others_change same = grouped_once uploads others change others_change same
