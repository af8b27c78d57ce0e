use Rattle.std.proofs.Common.{◌≡◌, ◌∷◌, [], sym, subst}
use Rattle.fsl_uv.specs.declared.Card.{Card}
use Rattle.fsl_uv.specs.Applying.{IsTaken}
use Rattle.fsl_uv.specs.Stores.{log_with}
use Rattle.fsl_uv.specs.Syncing.{stored, with_entry}
use Rattle.fsl_uv.proofs.ApplyLemmas.{both-ok, file-taken}
use Rattle.fsl_uv.proofs.applying.take_card.Goals as goal

pub returns-in-File-clause-taken : goal.returns-in-File-clause-taken
returns-in-File-clause-taken c =
    both-ok c.take_in.result
    (c.take_in.new.journal ≡ log_with c.args.journal.now (stored c.args.held.now (c.in-File.entry ∷ [])))
    (c.take_in.new.held ≡ with_entry c.args.held.now c.in-File.entry)
    (IsTaken c.args.journal.now c.args.held.now c.args.card c.take_in.new.journal c.take_in.new.held)
    (λ p q. subst (λ (k : Card). IsTaken c.args.journal.now c.args.held.now k c.take_in.new.journal c.take_in.new.held) (sym c.in-File.is)
    (file-taken c.args.journal.now c.args.held.now c.in-File.entry c.requires.rises c.requires.stable c.take_in.new.journal c.take_in.new.held c.requires.runs c.requires.as_many p q))
    c.take_in.ensures.journal c.take_in.ensures.held
