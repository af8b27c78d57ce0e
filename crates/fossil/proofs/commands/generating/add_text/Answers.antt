use Rattle.std.proofs.Common.{false, true, sym, ap, ◌∙◌}
use Rattle.fsl_name.specs.Name.{name_of}
use Rattle.fossil.proofs.GenLemmas.{there_is, old_text}
use Rattle.fossil.proofs.commands.generating.add_text.Goals as goal

pub returns-then-contains_key-clause-added : goal.returns-then-contains_key-clause-added
returns-then-contains_key-clause-added g c =
    old_text c.args.text.now c.of-name.result c.args.tables.now (c.of-name.ensures.value ∙ ap name_of c.bytes.ensures)
    (there_is c.of-name.result c.args.tables.now.items c.args.notes.now.entries true c.requires.noted (sym c.contains_key.ensures ∙ c.if-contains_key.true))

pub add_new-requires : goal.add_new-requires
add_new-requires g c = record {
  named = c.of-name.ensures.value ∙ ap name_of c.bytes.ensures;
  absent = there_is c.of-name.result c.args.tables.now.items c.args.notes.now.entries false c.requires.noted (sym c.contains_key.ensures ∙ c.if-contains_key.false);
  rising = c.requires.rising;
  noted = c.requires.noted;
}
