use Rattle.std.proofs.Common.{◌≡◌, List, [], sym, subst, refl, ◌∙◌, arith}
use Rattle.std.proofs.lemmas.List.{nil_from_length}
use Rattle.fossil.specs.declared.reading.message.MessageFile.{MessageFile}
use Rattle.fossil.proofs.ArrivalLemmas.{AreTaken, before_all, one_taken, one_refused, all_taken}
use Rattle.fossil.proofs.reading.arrivals.arrive_counted.Goals as goal

pub loop-file-init : goal.loop-file-init
loop-file-init g c =
    let same : c.into_iter-file-iterator.result.rest.items ≡ c.args.files = c.into_iter-file-iterator.ensures.into_iter_gives.0 ∙ c.into_vec-file-items.ensures in
    record {
      taken =
          subst (λ (left : List MessageFile). AreTaken c.args.receipt.now c.args.repo.now.seen.state c.args.files left c.args.repo.now.seen.state c.empty-text.result) (sym same)
          (before_all c.args.receipt.now c.args.repo.now.seen.state c.args.files c.empty-text.result c.requires.runs c.empty-text.ensures);
      disk = refl;
    }

pub loop-file-preserved : goal.loop-file-preserved
loop-file-preserved g c = record {
  taken =
      one_taken c.args.receipt.now c.args.repo.now.seen.state c.loop-file.repo.seen.state c.arrive_one.new.repo.seen.state c.args.files c.loop-file.file-iterator.rest.items c.next.new.self.rest.items c.loop-file.text c.in-Some.file
      c.loop-file.invariant.taken c.in-Some.ensures.steps.0 c.arrive_one.new.text c.in_ok-refused.field-0 c.in_ok-refused.ensures.come c.in_default.is;
  disk = c.arrive_one.ensures.disk ∙ c.loop-file.invariant.disk;
}

pub arrive_one-requires : goal.arrive_one-requires
arrive_one-requires g c = record { runs = c.loop-file.invariant.taken.alike.runs }

pub returns-in-Some-2-clause-arrived : goal.returns-in-Some-2-clause-arrived
returns-in-Some-2-clause-arrived g c =
    one_refused c.args.receipt.now c.args.repo.now.seen.state c.loop-file.repo.seen.state c.arrive_one.new.repo.seen.state c.args.files c.loop-file.file-iterator.rest.items c.next.new.self.rest.items c.loop-file.text c.in-Some.file
    c.loop-file.invariant.taken c.in-Some.ensures.steps.0 c.arrive_one.new.text c.in_ok-refused.field-0 c.in_ok-refused.ensures.come c.in-Some-2.refused c.in-Some-2.is

pub returns-clause-arrived : goal.returns-clause-arrived
returns-clause-arrived g c =
    let left = c.loop-file.file-iterator.rest in
    let none : left.items ≡ [] = nil_from_length left.items (omega (arith, left.ok.0, c.in-None.ensures.steps.0)) in
    all_taken c.args.receipt.now c.args.repo.now.seen.state c.loop-file.repo.seen.state c.args.files left.items c.loop-file.text c.loop-file.invariant.taken none
