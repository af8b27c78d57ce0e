use Rattle.fsl_forms.specs.Writing.{IsForumText, forum_cards}
use Rattle.fsl_forms.proofs.ForumAgain.{forum_again}
use Rattle.fsl_grammar.proofs.SealingLemmas.{sealed}
use Rattle.fsl_forms.proofs.forum.Forum.write.Goals as goal

pub returns : goal.returns
returns c =
    let v = c.args.self.now in
    let made = c.in_ok-write_cards.ensures in
    let text : IsForumText c.finish.new.lines v = sealed _ _ _ (forum_cards v) c.empty-lines.ensures made.1 c.in_ok-finish.ensures.ok in
    record { written = text; read = forum_again v c.know_name.ensures c.know_name-2.ensures c.know_name-3.ensures made.0 c.know_length.ensures c.requires c.finish.new.lines text }
