use Rattle.downloads.proofs.OneDownload.{one_download}
use Rattle.downloads.proofs.laws.downloads_are_one.Goals as goal

pub returns : goal.returns
returns c = one_download c.messages_are_one.ensures.schema c.messages_are_one.ensures.upload
