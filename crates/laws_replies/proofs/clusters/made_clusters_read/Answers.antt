use Rattle.laws_replies.proofs.Made.{made}
use Rattle.laws_replies.proofs.clusters.made_clusters_read.Goals as goal

pub returns : goal.returns
returns c = made c.text_is_finished.ensures c.written_texts_read_back.ensures
