-- What each kind is written as reads back as the value.
use Rattle.std.proofs.Common.{◌++◌}
use Rattle.std.specs.Prelude.{option_to_list}
use Rattle.fsl_grammar.specs.declared.TagCard.{TagCard}
use Rattle.fsl_name.specs.Name.{IsName}
use Rattle.fsl_name.specs.Ref.{IsRef}
use Rattle.fsl_forms.specs.Writing.{targets}
use Rattle.fsl_forms.proofs.AttachmentAgain.{attachment_again}
use Rattle.fsl_forms.proofs.ClusterAgain.{cluster_again}
use Rattle.fsl_forms.proofs.ControlAgain.{control_again}
use Rattle.fsl_forms.proofs.ForumAgain.{forum_again}
use Rattle.fsl_grammar.proofs.NameLists.{each_holds, front_holds, rest_holds}
use Rattle.fsl_forms.proofs.TechnoteAgain.{technote_again}
use Rattle.fsl_forms.proofs.TicketAgain.{ticket_again}
use Rattle.fsl_forms.proofs.WikiAgain.{wiki_again}
use Rattle.fsl_forms.specs.Writing.{AreReadBack}

pub read_back : AreReadBack
read_back = record {
  cluster = λ c text named w made. cluster_again c named w text made;
  control = λ c text named moment w made. control_again c (each_holds IsRef (λ (t : TagCard). option_to_list t.target) c.tags named) moment w text made;
  wiki = λ w text named moment long written made. wiki_again w named moment long written text made;
  ticket = λ t text named moment w made. ticket_again t named moment w text made;
  attachment = λ a text named moment w made. attachment_again a named moment w text made;
  technote = λ n text id named moment timed long w made.
      technote_again n id (front_holds IsRef n.parents (targets n.tags) named) (each_holds IsRef (λ (t : TagCard). option_to_list t.target) n.tags (rest_holds IsRef n.parents (targets n.tags) named)) moment timed long w text made;
  forum = λ f text named moment long w made.
      let two = front_holds IsName (option_to_list f.root ++ option_to_list f.reply) (option_to_list f.prior) named in
      forum_again f (front_holds IsName (option_to_list f.root) (option_to_list f.reply) two) (rest_holds IsName (option_to_list f.root) (option_to_list f.reply) two)
      (rest_holds IsName (option_to_list f.root ++ option_to_list f.reply) (option_to_list f.prior) named) moment long w text made;
}
