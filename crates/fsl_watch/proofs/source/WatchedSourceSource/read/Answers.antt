use Rattle.fsl_watch.proofs.source.WatchedSourceSource.read.Goals as goal

pub returns-clause-tells : goal.returns-clause-tells
returns-clause-tells g c = rw (← c.self.view_is, c.tell.ensures.count) c.tell.ensures.tells
