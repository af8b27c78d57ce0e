use Rattle.std.proofs.Common.{◌≡◌, map}
use Rattle.std.specs.BTreeMap.{IsOrdered}
use Rattle.fsl_order.specs.Names.{bytes_cmp}
use Rattle.fsl_query.specs.Summary.{entry_of}
use Rattle.fossil.proofs.GenLemmas.{IsOnWay}
use Rattle.fossil.proofs.commands.generating.add_texts.Given as goal

abbrev pub invariant-loop-text : goal.invariant-loop-text
invariant-loop-text g l = record {
  added : IsOnWay l.fn.texts l.text-iterator.rest.items l.fn.tables l.tables;
  rising : IsOrdered bytes_cmp l.notes;
  noted : l.notes.entries ≡ map entry_of l.tables.items;
}
