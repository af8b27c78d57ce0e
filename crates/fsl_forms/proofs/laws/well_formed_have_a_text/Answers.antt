use Rattle.std.proofs.Common.{refl}
use Rattle.fsl_card.specs.Writing.{sealed_text}
use Rattle.fsl_forms.specs.Writing.{attachment_cards, cluster_cards, control_cards, forum_cards, technote_cards, ticket_cards, wiki_cards}
use Rattle.fsl_forms.proofs.Exact.{attachment_written, cluster_written, control_written, forum_written, technote_written, ticket_written, wiki_written}
use Rattle.fsl_forms.proofs.ReadBack.{read_back}
use Rattle.fsl_forms.proofs.laws.well_formed_have_a_text.Goals as goal

pub returns : goal.returns
returns c = record {
  cluster = λ v named. (
    λ w. let text = sealed_text (cluster_cards v) in (text, read_back.cluster v text named w refl),
    λ t. cluster_written t.1.0 t.1.1.each v t.1.1.ordered t.1.2,
  );
  control = λ v named moment. (
    λ w. let text = sealed_text (control_cards v) in (text, read_back.control v text named moment w refl),
    λ t. control_written t.1.0 t.1.1.each v t.1.2,
  );
  wiki = λ v named moment long. (
    λ w. let text = sealed_text (wiki_cards v) in (text, read_back.wiki v text named moment long w refl),
    λ t. wiki_written t.1.0 t.1.1.each v t.1.2,
  );
  ticket = λ v named moment. (
    λ w. let text = sealed_text (ticket_cards v) in (text, read_back.ticket v text named moment w refl),
    λ t. ticket_written t.1.0 t.1.1.each v t.1.2,
  );
  attachment = λ v named moment. (
    λ w. let text = sealed_text (attachment_cards v) in (text, read_back.attachment v text named moment w refl),
    λ t. attachment_written t.1.0 t.1.1.each v t.1.2,
  );
  technote = λ v id named moment timed long. (
    λ w. let text = sealed_text (technote_cards v) in (text, read_back.technote v text id named moment timed long w refl),
    λ t. technote_written t.1.0 t.1.1.each v t.1.2,
  );
  forum = λ v named moment long. (
    λ w. let text = sealed_text (forum_cards v) in (text, read_back.forum v text named moment long w refl),
    λ t. forum_written t.1.0 t.1.1.each v t.1.2,
  );
}
