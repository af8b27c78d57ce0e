use Rattle.fossil.proofs.GenLemmas.{summed_by}
use Rattle.fossil.proofs.commands.generating.summed.Goals as goal

pub returns : goal.returns
returns c = summed_by c.args.texts c.args.tables.now c.add_texts.new.tables c.summary.result c.requires.fresh c.requires.plain c.in_ok-add_texts.ensures.added c.summary.ensures
