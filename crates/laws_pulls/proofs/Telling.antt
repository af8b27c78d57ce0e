-- Reports by what they look at: the held artifacts, the configured fields and the shunned names.
use Rattle.std.specs.Prelude.{◌≡◌, ℕ, Bool, true, false, List, map, flat_map, Result, Ok, Err}
use Rattle.std.proofs.Common.{refl, sym}
use Rattle.std.specs.Option.{option_map_or}
use Rattle.std.specs.FinMap as map_of
use Rattle.std.specs.FinSet as set
use Rattle.fsl_blobs.specs.Fold.{Contents}
use Rattle.fsl_blobs.specs.Held.{matching, found}
use Rattle.fsl_cluster.specs.Clusters as clusters
use Rattle.fsl_timeline.specs.Timeline.{timeline}
use Rattle.fsl_cross.specs.declared.Item.{Item}
use Rattle.fsl_cross.specs.Facts.{cluster_fact}
use Rattle.fsl_cross.specs.Checkins.{branch, tip}
use Rattle.fsl_cross.specs.Tables.{tables}
use Rattle.fsl_repo.specs.Machine.{configured}
use Rattle.fsl_words.specs.declared.Question.{Question}
use Rattle.fsl_words.specs.declared.Question.TheVariants.{Cat, Receipt, Timeline, Leaves, Tags, Tip, Files, Wiki, Ticket, Thread, Phantoms, Info, Branches, Pages, Tickets, Threads}
use Rattle.fsl_query.specs.declared.Refused.{Refused}
use Rattle.fsl_query.specs.declared.Refused.TheVariants as refused
use Rattle.fsl_query.specs.Listings.{branches_report, pages_report, tickets_report}
use Rattle.fsl_query.specs.Reports.{report, by_found, timeline_report, leaves_report, tags_report, files_report, wiki_report, ticket_of_prefix, thread_of_prefix, threads_told, phantoms_report}
use Rattle.laws_pulls.specs.Shown.{is_of_file}
use Rattle.laws_pulls.proofs.Gaining.{not_true}

module _ (a b : Contents) (held : a.held ≡ b.held) (fields : configured a ≡ configured b) (shunned : a.shunned ≡ b.shunned) (items : List Item) where
  pub same_report : (question : Question) → is_of_file question ≡ false → report a items question ≡ report b items question
  same_report (Cat prefix) e =
      λ i. by_found prefix (λ name. option_map_or (λ h. Ok h.bytes) (map_of.get (held i) name) (Err (refused.NoArtifact prefix))) (found (matching (held i) prefix))
  same_report (Receipt prefix) e = not_true (sym e)
  same_report (Timeline count) e = λ i. Ok (timeline_report (tables (fields i) items).timeline count)
  same_report Leaves e = λ i. Ok (leaves_report (branch items) (tables (fields i) items).leaves)
  same_report (Tags prefix) e = λ i. by_found prefix (λ name. Ok (tags_report (tables (fields i) items).tags name)) (found (matching (held i) prefix))
  same_report (Tip symbol) e = refl
  same_report (Files prefix) e = λ i. by_found prefix (files_report (tables (fields i) items).files) (found (matching (held i) prefix))
  same_report (Wiki title) e = λ i. wiki_report (tables (fields i) items).pages title
  same_report (Ticket prefix) e = λ i. ticket_of_prefix (tables (fields i) items) prefix
  same_report (Thread prefix) e = λ i. thread_of_prefix (tables (fields i) items) prefix
  same_report Phantoms e = λ i. Ok (phantoms_report (clusters.wants (map cluster_fact items) (set.items (shunned i))))
  same_report Info e = not_true (sym e)
  same_report Branches e = λ i. Ok (branches_report (branch items) (timeline (tables (fields i) items).timeline))
  same_report Pages e = λ i. Ok (pages_report (tables (fields i) items).pages)
  same_report (Tickets asked) e = λ i. tickets_report (tables (fields i) items).fields asked (tables (fields i) items).tickets
  same_report Threads e = λ i. Ok (threads_told (tables (fields i) items))
