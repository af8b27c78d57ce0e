use Rattle.std.proofs.Common.{◌≡◌, List, [], sym, subst, ◌∙◌, arith}
use Rattle.std.proofs.lemmas.List.{nil_from_length}
use Rattle.fossil.specs.declared.reading.message.MessageFile.{MessageFile}
use Rattle.fossil.specs.Arrivals.{none_taken}
use Rattle.fossil.specs.Ingest.{fresh}
use Rattle.fossil.proofs.GatherLemmas.{AreGathered, gathered_more, all_gathered}
use Rattle.fossil.proofs.reading.gathering.gather.Goals as goal

pub loop-file-init : goal.loop-file-init
loop-file-init c =
    subst (λ (left : List MessageFile). AreGathered c.args.files left c.args.set.now) (sym (c.into_iter-file-iterator.ensures.into_iter_gives.0 ∙ c.into_vec-file-items.ensures))
    (record { taken = none_taken fresh; goes_on = λ result h. h; state = c.requires })

pub loop-file-preserved : goal.loop-file-preserved
loop-file-preserved c =
    gathered_more c.args.files c.loop-file.file-iterator.rest.items c.next.new.self.rest.items c.in-Some.file c.loop-file.set c.arrive.new.self c.loop-file.invariant c.in-Some.ensures.steps.0 c.in_default.field-0
    c.in_default.ensures

pub returns : goal.returns
returns c =
    let left = c.loop-file.file-iterator.rest in
    let none : left.items ≡ [] = nil_from_length left.items (omega (arith, left.ok.0, c.in-None.ensures.steps.0)) in
    all_gathered c.args.files left.items c.loop-file.set c.loop-file.invariant none
