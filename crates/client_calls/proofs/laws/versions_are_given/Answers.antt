use Rattle.client_calls.proofs.Served.{is_given}
use Rattle.client_calls.proofs.laws.versions_are_given.Goals as goal

pub returns : goal.returns
returns c version text rest left result served answer got =
    is_given c.answers_are_one.ensures.answer c.answers_are_one.ensures.apart c.downloads_are_one.ensures version
    (c.versions_are_downloads.ensures version served) text rest answer result left got
