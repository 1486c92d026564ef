-- `eventfile::reads_back` meets its contract: the claims about every record and every file that can be written.
use Rattle.eventfile.proofs.WriteLaws.{read-written, file-back}
use Rattle.eventfile.proofs.reads_back.Goals as goal

pub returns : goal.returns
returns c = (read-written, file-back)
