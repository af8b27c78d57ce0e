use Rattle.std.proofs.Common.{◌∙◌, ◌++◌, get_or, map, ap, arith, sym}
use Rattle.std.proofs.lemmas.List.{append-nil, take_all}
use Rattle.fsl_journal.proofs.Appended.{get_or_any}
use Rattle.fsl_journal.proofs.Grouping.{noted_on}
use Rattle.fsl_journal.proofs.Ends.{no_success}
use Rattle.fsl_journal.proofs.found.note_places.Goals as goal

pub loop-place-init : goal.loop-place-init
loop-place-init c = sym (append-nil (map (λ s. s.value) c.args.kept.now.items))

pub loop-place-preserved : goal.loop-place-preserved
loop-place-preserved c =
    noted_on (λ s. s.value) c.loop-place.kept.items c.push.new.self.items c.of.result (get_or c.args.places.now c.loop-place.place-index 0) c.in_ok-push.ensures.items c.of.ensures (map (λ s. s.value) c.args.kept.now.items) c.args.places.now c.loop-place.place-index c.loop-place-test.true
    (get_or_any c.args.places.now c.loop-place.place-index 0 _ c.loop-place-test.true) c.loop-place.invariant

pub returns-in_err-push : goal.returns-in_err-push
returns-in_err-push c = no_success c.from_residual.result _ c.from_residual.ensures.1 _

pub returns : goal.returns
returns c = c.loop-place.invariant ∙ ap (λ l. map (λ s. s.value) c.args.kept.now.items ++ l) (take_all c.loop-place.place-index c.args.places.now (omega arith))
