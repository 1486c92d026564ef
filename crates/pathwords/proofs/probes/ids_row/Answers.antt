use Rattle.cells.proofs.MakerLaws.{ids-made}
use Rattle.pathwords.proofs.probes.ids_row.Goals as goal

pub returns : goal.returns
returns c =
    ids-made _ c.id_word.ensures c.id_word-2.ensures
    c.id_word-3.ensures c.id_word-4.ensures
