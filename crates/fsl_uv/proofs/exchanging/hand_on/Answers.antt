use Rattle.std.proofs.Common.{◌∙◌}
use Rattle.fsl_uv.specs.Syncing.{given}
use Rattle.fsl_uv.proofs.Exchanges.{given-reads}
use Rattle.fsl_uv.proofs.exchanging.hand_on.Goals as goal

pub take-sent-requires-clause-reads : goal.take-sent-requires-clause-reads
take-sent-requires-clause-reads g c =
    let here = c.args.here.now.seen in
    (given here.map c.requires.reads.0, given-reads here.log.records here.map c.requires.reads.0 c.bytes.result.now c.is_store.ensures.map (c.bytes.ensures ∙ c.in-Ok.ensures c.requires.reads.0 c.requires.reads.1))

pub returns-in-Ok : goal.returns-in-Ok
returns-in-Ok g c = λ cards is.
    let here = c.args.here.now.seen in
    c.take-sent.ensures (given here.map cards) (given-reads here.log.records here.map cards c.bytes.result.now c.is_store.ensures.map (c.bytes.ensures ∙ c.in-Ok.ensures cards is))
