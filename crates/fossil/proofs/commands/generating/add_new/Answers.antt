use Rattle.std.proofs.Common.{ℕ, false, List, refl, subst}
use Rattle.fsl_artifact.specs.Kind.{IsKind}
use Rattle.fossil.proofs.GenLemmas.{new_text, new_note}
use Rattle.fossil.proofs.commands.generating.add_new.Goals as goal

pub add-requires : goal.add-requires
add-requires g c = record { absent = c.requires.absent; kind = (c.bytes.result.now, c.in_ok-artifact.ensures) }

pub returns-clause-added : goal.returns-clause-added
returns-clause-added g c =
    new_text c.args.text.now c.args.tables.now c.add.new.self (record { name = c.args.name; private = false; artifact = c.in_ok-artifact.artifact }) c.requires.absent
    (record { name = c.requires.named; private = refl; kind = subst (λ (bytes : List ℕ). IsKind bytes c.in_ok-artifact.artifact) c.bytes.ensures c.in_ok-artifact.ensures }) c.in_ok-back.ensures.items c.in_ok-back.ensures.fields

pub returns-clause-noted : goal.returns-clause-noted
returns-clause-noted g c =
    new_note (record { name = c.args.name; private = false; artifact = c.in_ok-artifact.artifact }) c.args.tables.now.items c.add.new.self.items c.note_of-note.result c.args.notes.now.entries c.insert.new.self.entries
    c.requires.noted c.requires.rising c.note_of-note.ensures c.in_ok-insert.ensures.entries c.in_ok-back.ensures.items
