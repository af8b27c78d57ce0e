use Rattle.std.proofs.Common.{◌+◌, ◌++◌, ◌∷◌, [], ◌∙◌, List, ℕ, length, take, ap, sym, arith, append_assoc}
use Rattle.std.proofs.lemmas.List.{append-nil, take_all}
use Rattle.fsl_record.specs.Records.{records_bytes}
use Rattle.fsl_journal.specs.Places.{content_place, content_places}
use Rattle.fsl_journal.proofs.Ends.{no_success}
use Rattle.fsl_journal.proofs.Lengths.{bytes_step, bytes_front, places_step}
use Rattle.fsl_journal.proofs.places.add_places.Goals as goal

pub loop-entry-init : goal.loop-entry-init
loop-entry-init c = (omega arith, sym (append-nil c.args.places.now.items))

pub place_of-requires : goal.place_of-requires
place_of-requires c =
    let k = c.loop-entry.entry-index in
    let step = bytes_step c.args.records.now k c.entry-item.result c.loop-entry-test.true c.entry-item.is in record {
      size = c.length_of-size.ensures;
      fits = omega (arith, c.loop-entry.invariant.0, step, bytes_front c.args.records.now (k + 1), c.requires.fits, c.length_of-size.ensures);
    }

pub overflow_add-at : goal.overflow_add-at
overflow_add-at c =
    let k = c.loop-entry.entry-index in
    let step = bytes_step c.args.records.now k c.entry-item.result c.loop-entry-test.true c.entry-item.is in
    omega (arith, c.loop-entry.invariant.0, step, bytes_front c.args.records.now (k + 1), c.requires.fits, c.length_of-size.ensures)

pub loop-entry-preserved : goal.loop-entry-preserved
loop-entry-preserved c =
    let k = c.loop-entry.entry-index in
    let records = c.args.records.now in
    let step = bytes_step records k c.entry-item.result c.loop-entry-test.true c.entry-item.is in (
      omega (arith, c.loop-entry.invariant.0, step, c.length_of-size.ensures),
      c.in_ok-push.ensures.items
          ∙ (λ i. c.loop-entry.invariant.1 i ++ (c.place_of.ensures ∙ ap (λ (n : ℕ). content_place n c.entry-item.result) c.loop-entry.invariant.0) i ∷ [])
          ∙ append_assoc c.args.places.now.items (content_places c.args.start (take k records)) (content_place (c.args.start + length (records_bytes (take k records))) c.entry-item.result ∷ [])
          ∙ ap (λ (l : List ℕ). c.args.places.now.items ++ l) (sym (places_step c.args.start records k c.entry-item.result c.loop-entry-test.true c.entry-item.is)),
    )

pub returns-in_err-push : goal.returns-in_err-push
returns-in_err-push c = record { ok = no_success c.from_residual.result _ c.from_residual.ensures.1 _ }

pub returns : goal.returns
returns c = record { ok = c.loop-entry.invariant.1 ∙ ap (λ l. c.args.places.now.items ++ content_places c.args.start l) (take_all c.loop-entry.entry-index c.args.records.now (omega arith)) }
