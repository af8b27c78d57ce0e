use Rattle.std.proofs.Common.{refl, sym, ◌∙◌}
use Rattle.std.proofs.lemmas.List.{length-map}
use Rattle.fsl_journal.specs.Reading.{records_of, places_of}
use Rattle.fsl_journal.proofs.Appended.{sound_fresh}
use Rattle.fsl_journal.proofs.journal.Journal.resumed.Goals as goal

pub invariant_of-result : goal.invariant_of-result
invariant_of-result c =
    sound_fresh _ (records_of c.args.found) (places_of c.args.found) refl refl c.empty.ensures c.new.ensures.items (c.len-stable.ensures ∙ c.args.found.records.ok.0 ∙ sym (length-map c.args.found.records.items (λ s. s.value))) c.requires.fit c.requires.place c.requires.header c.requires.as_many c.requires.inside
