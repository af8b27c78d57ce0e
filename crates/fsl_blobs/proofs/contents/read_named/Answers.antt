use Rattle.std.proofs.Common.{ap, ◌∙◌}
use Rattle.fsl_name.specs.Name.{name_of}
use Rattle.fsl_blobs.proofs.ContentLemmas.{read-right, read-wrong, not-damaged}
use Rattle.fsl_blobs.proofs.contents.read_named.Goals as goal

pub returns-then-eq-clause-read : goal.returns-then-eq-clause-read
returns-then-eq-clause-read g c =
    read-right (g.D.Disk.state c.args.disk.now) c.args.journal.now c.args.spot.at c.args.spot.size c.args.name c.in-Ok.text c.of-found.result c.requires.stored c.in-Ok.ensures.sized
    (c.of-found.ensures.value ∙ ap name_of c.bytes-in-Ok.ensures) c.in-Ok.ensures.held c.eq.result c.eq.ensures c.if-eq.true

pub returns-else-eq-clause-fault : goal.returns-else-eq-clause-fault
returns-else-eq-clause-fault g c = (
  read-wrong (g.D.Disk.state c.args.disk.now) c.args.journal.now c.args.spot.at c.args.spot.size c.args.name c.in-Ok.text c.of-found.result c.requires.stored c.in-Ok.ensures.sized
      (c.of-found.ensures.value ∙ ap name_of c.bytes-in-Ok.ensures) c.in-Ok.ensures.held c.eq.result c.eq.ensures c.if-eq.false,
  c.in-Ok.ensures.count,
)

pub returns-then-eq-clause-memory : goal.returns-then-eq-clause-memory
returns-then-eq-clause-memory g c = λ p. ((c.in-Ok.ensures.memory (p.content, p.pending, p.sized)).0, tt)

pub returns-else-eq-clause-memory : goal.returns-else-eq-clause-memory
returns-else-eq-clause-memory g c = λ p.
    not-damaged _ c.args.name c.in-Ok.text c.of-found.result p.content (c.of-found.ensures.value ∙ ap name_of c.bytes-in-Ok.ensures) p.named (c.in-Ok.ensures.pending p.content p.pending p.sized) c.eq.result c.eq.ensures c.if-eq.false
