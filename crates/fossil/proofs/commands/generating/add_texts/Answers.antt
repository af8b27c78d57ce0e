use Rattle.std.proofs.Common.{◌≡◌, [], ◌∙◌, arith}
use Rattle.std.proofs.lemmas.List.{nil_from_length}
use Rattle.fossil.proofs.GenLemmas.{way_begun, way_on, way_ended}
use Rattle.fossil.proofs.commands.generating.add_texts.Goals as goal

pub loop-text-init : goal.loop-text-init
loop-text-init g c =
    let same : c.into_iter-text-iterator.result.rest.items ≡ c.args.texts = c.into_iter-text-iterator.ensures.into_iter_gives.0 ∙ c.into_vec-text-items.ensures in
    record {
      added = way_begun c.args.texts c.into_iter-text-iterator.result.rest.items c.args.tables.now same;
      rising = c.requires.rising;
      noted = c.requires.noted;
    }

pub loop-text-preserved : goal.loop-text-preserved
loop-text-preserved g c = record {
  added =
      way_on c.args.texts c.loop-text.text-iterator.rest.items c.next.new.self.rest.items c.in-Some.text c.args.tables.now c.loop-text.tables c.add_text.new.tables c.loop-text.invariant.added
      c.in-Some.ensures.steps.0 c.in_ok-add_text.ensures.added;
  rising = c.in_ok-add_text.ensures.rising;
  noted = c.in_ok-add_text.ensures.noted;
}

pub returns-clause-added : goal.returns-clause-added
returns-clause-added g c =
    let left = c.loop-text.text-iterator.rest in
    let none : left.items ≡ [] = nil_from_length left.items (omega (arith, left.ok.0, c.in-None.ensures.steps.0)) in
    way_ended c.args.texts left.items c.args.tables.now c.loop-text.tables c.loop-text.invariant.added none
