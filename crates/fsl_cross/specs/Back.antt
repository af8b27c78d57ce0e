-- What changes of all tables lead back from.
use Rattle.std.specs.Prelude.{◌≡◌, ℕ, ◌≤◌, List, [], true, length, get_or, filter_map, map}
use Rattle.fsl_order.specs.TableState.{TableState, IsAsBefore}
use Rattle.fsl_table.specs.Contents.{Contents}
use Rattle.fsl_table.specs.Exact.{pair_cmp}
use Rattle.fsl_table.specs.Undo.{undone, CanUndo, IsAsGood}
use Rattle.fsl_table.specs.declared.key.Pair.{Pair}
use Rattle.fsl_table.specs.declared.step.Step.{Step}
use Rattle.fsl_links.specs.declared.Fact as links
use Rattle.fsl_tags.specs.declared.Fact as tags
use Rattle.fsl_leaves.specs.declared.Fact as leaves
use Rattle.fsl_files.specs.declared.Fact as files
use Rattle.fsl_timeline.specs.declared.Row.{Row}
use Rattle.fsl_wiki.specs.declared.Fact as wiki
use Rattle.fsl_ticket.specs.Seen as ticket
use Rattle.fsl_forum.specs.declared.Fact as forum
use Rattle.fsl_cluster.specs.declared.Fact as cluster
use Rattle.fsl_cross.specs.declared.Item.{Item}
use Rattle.fsl_cross.specs.declared.history.History.{History}
use Rattle.fsl_cross.specs.declared.contents.Contents as contents
use Rattle.fsl_cross.specs.declared.attached.Attached.{Attached}
use Rattle.fsl_cross.specs.declared.derived.Derived.{Derived}
use Rattle.fsl_cross.specs.declared.undos.HistoryUndos.{HistoryUndos}
use Rattle.fsl_cross.specs.declared.undos.ContentsUndos.{ContentsUndos}
use Rattle.fsl_cross.specs.declared.undos.AttachedUndos.{AttachedUndos}
use Rattle.fsl_cross.specs.declared.undos.Undos.{Undos}
use Rattle.fsl_cross.specs.declared.undos.What.{What}
use Rattle.fsl_cross.specs.declared.undos.What.TheVariants.{Added, Published}
use Rattle.fsl_cross.specs.Attached.{target_pair, change_pair, ArePairs, TakesBack}
use Rattle.fsl_cross.specs.Built.{IsAttachedOf}
use Rattle.fsl_cross.specs.Checkins.{links_facts, tags_facts}
use Rattle.fsl_cross.specs.Marks.{private_at}
use Rattle.fsl_cross.specs.Tables.{Seen, without, leaves_facts, files_facts, pages_facts, ticket_facts, forum_facts, cluster_facts, timeline_rows}
use Rattle.fsl_cross.specs.Trails.{Leads, TicketsLead, Led, TicketsLed, Logged, CanGoBack, WentBack, CanTicketsGoBack, TicketsWentBack}

-- ---- changes while an artifact comes

-- what led to the old tables of parentage, tags and leaves now leads to the new ones
pub record IsHistoryLed (old : History) (us : HistoryUndos) (new : History) (vs : HistoryUndos) : Type 0 where
  pub links : Led old.links us.links new.links vs.links
  pub tags : Led old.tags us.tags new.tags vs.tags
  pub leaves : Led old.leaves us.leaves new.leaves vs.leaves

-- so does what takes the pairs of attachments back
pub record IsAttachedLed (old : Attached) (us : AttachedUndos) (new : Attached) (vs : AttachedUndos) : Type 0 where
  pub targets : Logged old.targets us.targets new.targets vs.targets
  pub changes : Logged old.changes us.changes new.changes vs.changes

-- so do those of the tables of files, pages, tickets, posts and clusters
pub record AreContentsLed (old : contents.Contents) (us : ContentsUndos) (new : contents.Contents) (vs : ContentsUndos) : Type 0 where
  pub files : Led old.files us.files new.files vs.files
  pub pages : Led old.pages us.pages new.pages vs.pages
  pub tickets : TicketsLed old.tickets us.tickets new.tickets vs.tickets
  pub threads : Led old.threads us.threads new.threads vs.threads
  pub clusters : Led old.clusters us.clusters new.clusters vs.clusters

-- so do those of all tables
pub record AllLed (old : Derived) (us : Undos) (new : Derived) (vs : Undos) : Type 0 where
  pub history : IsHistoryLed old.history us.history new.history vs.history
  pub contents : AreContentsLed old.contents us.contents new.contents vs.contents
  pub attached : IsAttachedLed old.attached us.attached new.attached vs.attached
  pub timeline : Led old.timeline us.timeline new.timeline vs.timeline

-- ---- changes that are taken back

-- the changes led from some tables of parentage, tags and leaves to these
pub record CanHistoryGoBack (us : HistoryUndos) (now : History) : Type 0 where
  pub links : CanGoBack us.links now.links
  pub tags : CanGoBack us.tags now.tags
  pub leaves : CanGoBack us.leaves now.leaves

-- whichever they led from, the new ones are as good
pub record HistoryWentBack (us : HistoryUndos) (now new : History) : Type 0 where
  pub links : WentBack us.links now.links new.links
  pub tags : WentBack us.tags now.tags new.tags
  pub leaves : WentBack us.leaves now.leaves new.leaves

-- the logs of pairs find their memory
pub record CanAttachedGoBack (us : AttachedUndos) (now : Attached) : Type 0 where
  pub targets : CanUndo pair_cmp us.targets now.targets
  pub changes : CanUndo pair_cmp us.changes now.changes

-- the new tables of pairs are as good as what the logs leave
pub record AttachedWentBack (us : AttachedUndos) (now new : Attached) : Type 0 where
  pub targets : IsAsGood (undone pair_cmp us.targets now.targets) new.targets
  pub changes : IsAsGood (undone pair_cmp us.changes now.changes) new.changes

-- ---- the tables inside of what is seen

-- the room of one table
abbrev pub room : Seen → ℕ → List ℕ
room s i = get_or s.spare i []

abbrev pub links_in : Seen → TableState links.Fact
links_in s = record { facts = links_facts s.items; spare = room s 0 }

abbrev pub tags_in : Seen → TableState tags.Fact
tags_in s = record { facts = tags_facts s.items; spare = room s 1 }

abbrev pub leaves_in : Seen → TableState leaves.Fact
leaves_in s = record { facts = leaves_facts s.items; spare = room s 2 }

abbrev pub files_in : Seen → TableState files.Fact
files_in s = record { facts = files_facts s.items; spare = room s 3 }

abbrev pub timeline_in : Seen → TableState Row
timeline_in s = record { facts = timeline_rows s.items; spare = room s 4 }

abbrev pub pages_in : Seen → TableState wiki.Fact
pages_in s = record { facts = pages_facts s.items; spare = room s 5 }

abbrev pub tickets_in : Seen → ticket.Seen
tickets_in s = record { fields = s.fields; facts = ticket_facts s.items; spare = room s 6 }

abbrev pub threads_in : Seen → TableState forum.Fact
threads_in s = record { facts = forum_facts s.items; spare = room s 7 }

abbrev pub clusters_in : Seen → TableState cluster.Fact
clusters_in s = record { facts = cluster_facts s.items; spare = room s 8 }

-- the tables are as good as those seen
pub record AreAsSeen (s : Seen) (d : Derived) : Type 0 where
  pub links : IsAsBefore (links_in s) d.history.links
  pub tags : IsAsBefore (tags_in s) d.history.tags
  pub leaves : IsAsBefore (leaves_in s) d.history.leaves
  pub files : IsAsBefore (files_in s) d.contents.files
  pub timeline : IsAsBefore (timeline_in s) d.timeline
  pub pages : IsAsBefore (pages_in s) d.contents.pages
  pub tickets : ticket.IsAsBefore (tickets_in s) d.contents.tickets
  pub threads : IsAsBefore (threads_in s) d.contents.threads
  pub clusters : IsAsBefore (clusters_in s) d.contents.clusters
  pub attached : IsAttachedOf s.items d.attached
  pub targets_room : get_or (room s 9) 0 0 ≤ d.attached.targets.spare
  pub changes_room : get_or (room s 9) 1 0 ≤ d.attached.changes.spare

-- ten lists, of which the last has two numbers
pub record IsWhole (s : Seen) : Type 0 where
  pub tables : length s.spare ≡ 10
  pub pairs : length (room s 9) ≡ 2

-- the items before a change
abbrev pub unmade : What → List ℕ → List Item → List Item
unmade Added n items = without n items
unmade Published n items = map (private_at n true) items

-- ---- all changes

-- the changes led from some tables of files, pages, tickets, posts and clusters to these
pub record CanContentsGoBack (us : ContentsUndos) (now : contents.Contents) : Type 0 where
  pub files : CanGoBack us.files now.files
  pub pages : CanGoBack us.pages now.pages
  pub tickets : CanTicketsGoBack us.tickets now.tickets
  pub threads : CanGoBack us.threads now.threads
  pub clusters : CanGoBack us.clusters now.clusters

-- whichever they led from, the new ones are as good
pub record ContentsWentBack (us : ContentsUndos) (now new : contents.Contents) : Type 0 where
  pub files : WentBack us.files now.files new.files
  pub pages : WentBack us.pages now.pages new.pages
  pub tickets : TicketsWentBack us.tickets now.tickets new.tickets
  pub threads : WentBack us.threads now.threads new.threads
  pub clusters : WentBack us.clusters now.clusters new.clusters

pub record CanGoBackAll (us : Undos) (now : Derived) : Type 0 where
  pub history : CanHistoryGoBack us.history now.history
  pub contents : CanContentsGoBack us.contents now.contents
  pub attached : CanAttachedGoBack us.attached now.attached
  pub timeline : CanGoBack us.timeline now.timeline

pub record AllWentBack (us : Undos) (now new : Derived) : Type 0 where
  pub history : HistoryWentBack us.history now.history new.history
  pub contents : ContentsWentBack us.contents now.contents new.contents
  pub attached : AttachedWentBack us.attached now.attached new.attached
  pub timeline : WentBack us.timeline now.timeline new.timeline

-- the log of pairs takes each table that is as good as the one after back to the one before
abbrev pub TakesPairsBack : List (Step Pair (Unit {0})) → List Pair → ℕ → List Pair → ℕ → Type 0
TakesPairsBack log before room_before after room_after =
    (now : Contents Pair (Unit {0})) → ArePairs after now.entries → room_after ≤ now.spare → TakesBack log before room_before now

-- what is kept of a change leads from the tables before it to those after it
pub record IsBack (what : What) (n : List ℕ) (us : Undos) (before after : Seen) : Type 0 where
  pub fields : before.fields ≡ after.fields
  pub items : before.items ≡ unmade what n after.items
  pub whole : IsWhole before
  pub links : Leads (links_in before) us.history.links (links_in after)
  pub tags : Leads (tags_in before) us.history.tags (tags_in after)
  pub leaves : Leads (leaves_in before) us.history.leaves (leaves_in after)
  pub files : Leads (files_in before) us.contents.files (files_in after)
  pub timeline : Leads (timeline_in before) us.timeline (timeline_in after)
  pub pages : Leads (pages_in before) us.contents.pages (pages_in after)
  pub tickets : TicketsLead (tickets_in before) us.contents.tickets (tickets_in after)
  pub threads : Leads (threads_in before) us.contents.threads (threads_in after)
  pub clusters : Leads (clusters_in before) us.contents.clusters (clusters_in after)
  pub targets : TakesPairsBack us.attached.targets (filter_map target_pair before.items) (get_or (room before 9) 0 0) (filter_map target_pair after.items) (get_or (room after 9) 0 0)
  pub changes : TakesPairsBack us.attached.changes (filter_map change_pair before.items) (get_or (room before 9) 1 0) (filter_map change_pair after.items) (get_or (room after 9) 1 0)
