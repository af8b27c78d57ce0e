use Rattle.fsl_forms.specs.Writing.{IsWikiText, wiki_cards}
use Rattle.fsl_forms.proofs.WikiAgain.{wiki_again}
use Rattle.fsl_grammar.proofs.SealingLemmas.{sealed}
use Rattle.fsl_forms.proofs.wiki.Wiki.write.Goals as goal

pub returns : goal.returns
returns c =
    let v = c.args.self.now in
    let made = c.in_ok-write_cards.ensures in
    let text : IsWikiText c.finish.new.lines v = sealed _ _ _ (wiki_cards v) c.empty-lines.ensures made.1 c.in_ok-finish.ensures.ok in
    record { written = text; read = wiki_again v (rw c.items.ensures at c.know_refs.ensures) made.0 c.know_length.ensures c.requires c.finish.new.lines text }
