use Rattle.std.proofs.Common.{List, sym, subst}
use Rattle.fsl_serve.specs.declared.work.Work.{Work}
use Rattle.fossil.specs.Serving.{AreWithin}
use Rattle.fossil.proofs.worked.finished.Goals as goal

pub due_of-due-requires-clause-within : goal.due_of-due-requires-clause-within
due_of-due-requires-clause-within g c = subst (λ (works : List Work). AreWithin 65536 works) (sym c.as_slice.ensures.value) c.requires.within
