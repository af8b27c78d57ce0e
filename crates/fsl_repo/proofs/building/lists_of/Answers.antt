use Rattle.std.proofs.Common.{◌≡◌, ap, ◌∙◌, ◌++◌, take, []}
use Rattle.std.specs.Prelude.{◌||◌, if◌then◌else◌}
use Rattle.std.specs.List.{list_any}
use Rattle.std.specs.Option.{option_map}
use Rattle.fsl_order.specs.Rows.{ascending}
use Rattle.fsl_blobs.specs.Fold.{contents}
use Rattle.fsl_cluster.specs.Clusters as clusters
use Rattle.fsl_answer.specs.Contents as reply
use Rattle.fsl_answer.specs.Refusals.{is_push}
use Rattle.fsl_repo.specs.Replies.{placed_in}
use Rattle.fsl_repo.specs.Sending.{seen_by, told, told_public, told_private}
use Rattle.fsl_repo.proofs.Sendings.{codes_are}
use Rattle.fsl_repo.proofs.building.lists_of.Goals as goal

pub returns : goal.returns
returns c =
    let blobs = c.args.blobs.now in
    let facts = c.args.table.now.facts in
    let ask = c.args.ask.now in
    let s = seen_by blobs facts in
    let config = c.config.result.now in
    let free = clusters.unclustered facts in
    let message : c.cards-message.result.now ≡ ask.message = c.cards-message.ensures in
    let private : c.sends_private-private.result ≡ reply.sends_private ask.message ask.caps =
    c.sends_private-private.ensures ∙ ap (λ m. reply.sends_private m ask.caps) message in
    let clone : c.first_clone-clone.result ≡ reply.first_clone ask.message = c.first_clone-clone.ensures ∙ ap reply.first_clone message in
    let all : c.asks_names.result ≡ reply.asks_names (reply.first_clone ask.message) = c.asks_names.ensures ∙ ap reply.asks_names clone in
    let pull : c.has_pull.result ≡ list_any reply.is_pull ask.message = c.has_pull.ensures ∙ ap (list_any reply.is_pull) message in
    let push : c.has_push.result ≡ list_any is_push ask.message = c.has_push.ensures ∙ ap (list_any is_push) message in
    let notices = c.in_ok-first_notices.ensures ∙ ap (take 100) c.items.ensures in
    let codes =
    c.codes_of.ensures ∙ ap (option_map (λ numbers. (config.server, config.project))) clone
    ∙ codes_are (contents blobs.records).config config c.config.ensures (reply.first_clone ask.message) in
    let igots =
    c.in_ok-told_names.ensures
    ∙ (λ i. told (told_public (placed_in blobs.records) free (all i) (pull i)) (told_private (placed_in blobs.records) (private i) (pull i || all i))) in
    let gimmes = c.in_ok-asked_for.ensures ∙ ap (λ b. if b then ascending (s.wants ++ s.announced) else []) push in
    λ i. record {
      notices = notices i;
      codes = codes i;
      igots = igots i;
      gimmes = gimmes i;
      files = c.args.files;
      sequel = c.args.sequel;
    }
