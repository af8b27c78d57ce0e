use Rattle.std.proofs.Common.{◌∙◌, ◌++◌, map, ap, arith, sym}
use Rattle.std.proofs.lemmas.List.{append-nil, take_all}
use Rattle.fsl_journal.proofs.Grouping.{noted_on}
use Rattle.fsl_journal.proofs.Ends.{no_success}
use Rattle.fsl_journal.proofs.found.note_records.Goals as goal

pub loop-record-init : goal.loop-record-init
loop-record-init c = sym (append-nil (map (λ s. s.value) c.args.kept.now.items))

pub loop-record-preserved : goal.loop-record-preserved
loop-record-preserved c =
    noted_on (λ s. s.value) c.loop-record.kept.items c.push.new.self.items c.of.result c.record-item.result c.in_ok-push.ensures.items c.of.ensures (map (λ s. s.value) c.args.kept.now.items) c.args.group.now c.loop-record.record-index c.loop-record-test.true c.record-item.is c.loop-record.invariant

pub returns-in_err-push : goal.returns-in_err-push
returns-in_err-push c = no_success c.from_residual.result _ c.from_residual.ensures.1 _

pub returns : goal.returns
returns c = c.loop-record.invariant ∙ ap (λ l. map (λ s. s.value) c.args.kept.now.items ++ l) (take_all c.loop-record.record-index c.args.group.now (omega arith))
