use Rattle.std.proofs.Common.{◌∙◌, ℕ, subst}
use Rattle.std.specs.Prelude.{Result}
use Rattle.fsl_uv.specs.declared.SyncFault.{SyncFault}
use Rattle.fsl_uv.specs.Syncing.{peer_answer}
use Rattle.fsl_uv.specs.Exchanging.{Takes}
use Rattle.fsl_uv.proofs.Exchanges.{answer-reads, synced-all, synced-half, synced-none}
use Rattle.fsl_uv.proofs.exchanging.sync.Goals as goal

pub take-received-requires-clause-reads : goal.take-received-requires-clause-reads
take-received-requires-clause-reads g c =
    let here = c.args.here.now.seen in
    let there = c.args.there.now.seen in
    (peer_answer here.map there.map, answer-reads here.log.records there.log.records here.map there.map c.bytes-message.result.now c.is_store.ensures.map c.is_store-2.ensures.map (c.bytes-message.ensures ∙ c.in-Ok.ensures))

pub hand_on-sent-requires-clause-reads : goal.hand_on-sent-requires-clause-reads
hand_on-sent-requires-clause-reads g c =
    let here = c.args.here.now.seen in
    let there = c.args.there.now.seen in
    (peer_answer here.map there.map, answer-reads here.log.records there.log.records here.map there.map c.bytes-message.result.now c.is_store.ensures.map c.is_store-2.ensures.map (c.bytes-message.ensures ∙ c.in-Ok.ensures))

pub returns-in-Ok-sent : goal.returns-in-Ok-sent
returns-in-Ok-sent g c =
    let here = c.args.here.now.seen in
    let there = c.args.there.now.seen in
    let first = c.take-received.ensures (peer_answer here.map there.map)
    (answer-reads here.log.records there.log.records here.map there.map c.bytes-message.result.now c.is_store.ensures.map c.is_store-2.ensures.map (c.bytes-message.ensures ∙ c.in-Ok.ensures)) in
    let second = c.hand_on-sent.ensures (peer_answer here.map there.map)
    (answer-reads here.log.records there.log.records here.map there.map c.bytes-message.result.now c.is_store.ensures.map c.is_store-2.ensures.map (c.bytes-message.ensures ∙ c.in-Ok.ensures)) in
    synced-all g.D.Disk.state g.P.Disk.state c.args.here.now c.take-received.new.store c.args.there.now c.hand_on-sent.new.there c.take-received.result c.hand_on-sent.result first second
    c.in-Ok-received.received c.in-Ok-sent.sent c.in-Ok-received.is c.in-Ok-sent.is

pub returns-in-Err-sent : goal.returns-in-Err-sent
returns-in-Err-sent g c =
    let here = c.args.here.now.seen in
    let there = c.args.there.now.seen in
    let first = c.take-received.ensures (peer_answer here.map there.map)
    (answer-reads here.log.records there.log.records here.map there.map c.bytes-message.result.now c.is_store.ensures.map c.is_store-2.ensures.map (c.bytes-message.ensures ∙ c.in-Ok.ensures)) in
    let second = c.hand_on-sent.ensures (peer_answer here.map there.map)
    (answer-reads here.log.records there.log.records here.map there.map c.bytes-message.result.now c.is_store.ensures.map c.is_store-2.ensures.map (c.bytes-message.ensures ∙ c.in-Ok.ensures)) in
    synced-half g.D.Disk.state g.P.Disk.state c.args.here.now c.take-received.new.store c.args.there.now c.hand_on-sent.new.there c.take-received.result c.hand_on-sent.result first second
    c.in-Ok-received.received c.in-Err-sent.fault c.in-Ok-received.is c.in-Err-sent.is

pub returns-in-Err : goal.returns-in-Err
returns-in-Err g c =
    let here = c.args.here.now.seen in
    let there = c.args.there.now.seen in
    let first = c.take-received.ensures (peer_answer here.map there.map)
    (answer-reads here.log.records there.log.records here.map there.map c.bytes-message.result.now c.is_store.ensures.map c.is_store-2.ensures.map (c.bytes-message.ensures ∙ c.in-Ok.ensures)) in
    synced-none g.D.Disk.state g.P.Disk.state c.args.here.now c.take-received.new.store c.args.there.now c.in-Err.fault
    (subst (λ (r : Result ℕ SyncFault). Takes g.D.Disk.state c.args.here.now (peer_answer here.map there.map) r c.take-received.new.store) c.in-Err.is first)
