use Rattle.std.proofs.Common.{rules, ◌≡◌, ◌∷◌, [], arith}
use Rattle.std.proofs.lemmas.List.{nil_from_length}
use Rattle.fsl_uv.proofs.ApplyLemmas.{none-left, next-taken, rest-good}
use Rattle.fsl_uv.proofs.applying.take_files.Goals as goal

pub returns-clause-held : goal.returns-clause-held
returns-clause-held c =
    let left = c.loop-card.card-iterator.rest in
    let none : left.items ≡ [] = nil_from_length left.items (omega (arith, left.ok.0, c.in-None.ensures.steps.0)) in
    none-left c.args.held.now c.loop-card.held c.args.cards.items left.items c.loop-card.invariant.ahead.maps none c.loop-card.invariant.rises

pub returns-in_err-take_card-clause-undo : goal.returns-in_err-take_card-clause-undo
returns-in_err-take_card-clause-undo c = λ first n h. c.take_card.ensures.undo first n (c.loop-card.invariant.undo first n h)

pub loop-card-preserved : goal.loop-card-preserved
loop-card-preserved c =
    let is : c.loop-card.card-iterator.rest.items ≡ c.in-Some.card ∷ c.next.new.self.rest.items = search rules in
    let taken = c.in_ok-take_card.ensures.taken in
    record {
      ahead = next-taken c.args.journal.now c.loop-card.journal c.take_card.new.journal c.args.held.now c.loop-card.held c.take_card.new.held c.args.cards.items c.loop-card.card-iterator.rest.items
          c.next.new.self.rest.items c.in-Some.card c.loop-card.invariant.ahead is taken;
      runs = taken.runs;
      stable = taken.stable;
      as_many = taken.as_many;
      rises = taken.rises;
      undo = λ first n h. c.take_card.ensures.undo first n (c.loop-card.invariant.undo first n h);
      good = rest-good c.loop-card.card-iterator.rest.items c.next.new.self.rest.items c.in-Some.card is c.loop-card.invariant.good;
    }
