-- What is kept of a change of all tables, and what stands where memory was wanting.
use Rattle.std.proofs.Common.{◌≡◌, ℕ, ◌≤◌, List, [], refl, sym, ◌∙◌, subst, arith}
use Rattle.std.specs.Prelude.{filter_map, Result, Ok, Err, OnErr}
use Rattle.fsl_order.specs.TableState.{TableState, Change}
use Rattle.fsl_table.specs.Exact.{pair_cmp}
use Rattle.fsl_table.specs.Undo.{Undoes, undone}
use Rattle.fsl_table.proofs.Steps.{undoes-none}
use Rattle.fsl_table.proofs.Trails.{at_most-self}
use Rattle.fsl_ticket.specs.Seen as ticket
use Rattle.fsl_ticket.specs.declared.Fact.{Fact}
use Rattle.fsl_cross.specs.declared.Item.{Item}
use Rattle.fsl_cross.specs.declared.derived.Derived.{Derived}
use Rattle.fsl_cross.specs.declared.undos.Undos.{Undos}
use Rattle.fsl_cross.specs.declared.undos.What.{What}
use Rattle.fsl_cross.specs.Attached.{ArePairs, target_pair, change_pair}
use Rattle.fsl_cross.specs.Back.{IsBack, AreAsSeen, AllLed, CanGoBackAll, AllWentBack, unmade, links_in, tags_in, leaves_in, files_in, timeline_in, pages_in, tickets_in, threads_in, clusters_in}
use Rattle.fsl_cross.specs.Built.{AreTablesOf}
use Rattle.fsl_cross.specs.Checkins.{links_facts, tags_facts}
use Rattle.fsl_cross.specs.Fresh.{AreNone}
use Rattle.fsl_cross.specs.Tables.{Seen, leaves_facts, files_facts, pages_facts, ticket_facts, forum_facts, cluster_facts, timeline_rows}
use Rattle.fsl_cross.specs.Trails.{Leads, Led, TicketsLead, TicketsLed}
use Rattle.fsl_cross.proofs.Paired.{takes_back}
use Rattle.fsl_cross.proofs.Seeing.{seen_of, whole-seen}
use Rattle.fsl_cross.proofs.Trailing.{leads-later, tickets-later}

pub always_err : {X E P : Type 0} (r : Result X E) → P → OnErr r P
always_err (Ok x) p = tt
always_err (Err e) p = p

-- what led from nothing leads from the table that was seen
from : {F : Type 0} (was now : TableState F) (us vs : List (Change F)) (facts : List F) → us ≡ [] → was.facts ≡ facts → Led was us now vs → Leads (record { facts = facts; spare = was.spare }) vs now
from was now us vs facts none is led =
    led (record { facts = facts; spare = was.spare }) (subst (λ l. Leads (record { facts = facts; spare = was.spare }) l was) (sym none) (record { facts = is; spare = at_most-self was.spare }))

-- a table is as good as what is seen of it
to : {F : Type 0} (first now : TableState F) (us : List (Change F)) (facts : List F) → now.facts ≡ facts → Leads first us now → Leads first us (record { facts = facts; spare = now.spare })
to first now us facts is lead = leads-later first us now (record { facts = facts; spare = now.spare }) lead (record { facts = sym is; spare = at_most-self now.spare })

tickets-from : (was now : ticket.Seen) (us vs : List ticket.Change) (fields : List (List ℕ)) (facts : List Fact) → us ≡ [] → was.fields ≡ fields → was.facts ≡ facts → TicketsLed was us now vs → TicketsLead (record { fields = fields; facts = facts; spare = was.spare }) vs now
tickets-from was now us vs fields facts none same is led =
    led (record { fields = fields; facts = facts; spare = was.spare }) (subst (λ l. TicketsLead (record { fields = fields; facts = facts; spare = was.spare }) l was) (sym none) (record { fields = same; facts = is; spare = at_most-self was.spare }))

tickets-to : (first now : ticket.Seen) (us : List ticket.Change) (fields : List (List ℕ)) (facts : List Fact) → now.fields ≡ fields → now.facts ≡ facts → TicketsLead first us now → TicketsLead first us (record { fields = fields; facts = facts; spare = now.spare })
tickets-to first now us fields facts same is lead = tickets-later first us now (record { fields = fields; facts = facts; spare = now.spare }) lead (record { fields = sym same; facts = sym is; spare = at_most-self now.spare })

module _ (fields : List (List ℕ)) (i0 : List Item) (d0 d1 : Derived) (u0 u1 : Undos) (a0 : AreTablesOf fields i0 d0) (none : AreNone u0) (led : AllLed d0 u0 d1 u1) where
  abbrev s0 : Seen
  s0 = seen_of fields i0 d0

  links-led : Leads (links_in s0) u1.history.links d1.history.links
  links-led = from d0.history.links d1.history.links u0.history.links u1.history.links (links_facts i0) none.links a0.history.links led.history.links

  tags-led : Leads (tags_in s0) u1.history.tags d1.history.tags
  tags-led = from d0.history.tags d1.history.tags u0.history.tags u1.history.tags (tags_facts i0) none.tags a0.history.tags led.history.tags

  leaves-led : Leads (leaves_in s0) u1.history.leaves d1.history.leaves
  leaves-led = from d0.history.leaves d1.history.leaves u0.history.leaves u1.history.leaves (leaves_facts i0) none.leaves a0.history.leaves led.history.leaves

  files-led : Leads (files_in s0) u1.contents.files d1.contents.files
  files-led = from d0.contents.files d1.contents.files u0.contents.files u1.contents.files (files_facts i0) none.files a0.contents.files led.contents.files

  timeline-led : Leads (timeline_in s0) u1.timeline d1.timeline
  timeline-led = from d0.timeline d1.timeline u0.timeline u1.timeline (timeline_rows i0) none.timeline a0.timeline led.timeline

  pages-led : Leads (pages_in s0) u1.contents.pages d1.contents.pages
  pages-led = from d0.contents.pages d1.contents.pages u0.contents.pages u1.contents.pages (pages_facts i0) none.pages a0.contents.pages led.contents.pages

  threads-led : Leads (threads_in s0) u1.contents.threads d1.contents.threads
  threads-led = from d0.contents.threads d1.contents.threads u0.contents.threads u1.contents.threads (forum_facts i0) none.threads a0.contents.threads led.contents.threads

  clusters-led : Leads (clusters_in s0) u1.contents.clusters d1.contents.clusters
  clusters-led = from d0.contents.clusters d1.contents.clusters u0.contents.clusters u1.contents.clusters (cluster_facts i0) none.clusters a0.contents.clusters led.contents.clusters

  tickets-led : TicketsLead (tickets_in s0) u1.contents.tickets d1.contents.tickets
  tickets-led = tickets-from d0.contents.tickets d1.contents.tickets u0.contents.tickets u1.contents.tickets fields (ticket_facts i0) none.tickets a0.contents.configured a0.contents.tickets led.contents.tickets

  targets-led : Undoes pair_cmp u1.attached.targets d1.attached.targets d0.attached.targets
  targets-led = led.attached.targets d0.attached.targets (undoes-none pair_cmp u0.attached.targets d0.attached.targets none.targets)

  changes-led : Undoes pair_cmp u1.attached.changes d1.attached.changes d0.attached.changes
  changes-led = led.attached.changes d0.attached.changes (undoes-none pair_cmp u0.attached.changes d0.attached.changes none.changes)

  -- what is kept leads from the tables before to those after
  pub is-back : (what : What) (n : List ℕ) (i1 : List Item) → AreTablesOf fields i1 d1 → i0 ≡ unmade what n i1 → IsBack what n u1 s0 (seen_of fields i1 d1)
  is-back what n i1 a1 same = record {
    fields = refl;
    items = same;
    whole = whole-seen fields i0 d0;
    links = to (links_in s0) d1.history.links u1.history.links (links_facts i1) a1.history.links links-led;
    tags = to (tags_in s0) d1.history.tags u1.history.tags (tags_facts i1) a1.history.tags tags-led;
    leaves = to (leaves_in s0) d1.history.leaves u1.history.leaves (leaves_facts i1) a1.history.leaves leaves-led;
    files = to (files_in s0) d1.contents.files u1.contents.files (files_facts i1) a1.contents.files files-led;
    timeline = to (timeline_in s0) d1.timeline u1.timeline (timeline_rows i1) a1.timeline timeline-led;
    pages = to (pages_in s0) d1.contents.pages u1.contents.pages (pages_facts i1) a1.contents.pages pages-led;
    threads = to (threads_in s0) d1.contents.threads u1.contents.threads (forum_facts i1) a1.contents.threads threads-led;
    clusters = to (clusters_in s0) d1.contents.clusters u1.contents.clusters (cluster_facts i1) a1.contents.clusters clusters-led;
    tickets = tickets-to (tickets_in s0) d1.contents.tickets u1.contents.tickets fields (ticket_facts i1) a1.contents.configured a1.contents.tickets tickets-led;
    targets = λ now are room. takes_back u1.attached.targets (filter_map target_pair i0) (filter_map target_pair i1) d0.attached.targets d1.attached.targets now a0.attached.targets a1.attached.targets are room targets-led;
    changes = λ now are room. takes_back u1.attached.changes (filter_map change_pair i0) (filter_map change_pair i1) d0.attached.changes d1.attached.changes now a0.attached.changes a1.attached.changes are room changes-led;
  }

  -- what is kept can be taken back at once ..
  pub can-fail : CanGoBackAll u1 d1
  can-fail = record {
    history = record { links = (links_in s0, links-led); tags = (tags_in s0, tags-led); leaves = (leaves_in s0, leaves-led) };
    contents = record {
      files = (files_in s0, files-led);
      pages = (pages_in s0, pages-led);
      tickets = (tickets_in s0, tickets-led);
      threads = (threads_in s0, threads-led);
      clusters = (clusters_in s0, clusters-led);
    };
    attached = record { targets = targets-led.possible; changes = changes-led.possible };
    timeline = (timeline_in s0, timeline-led);
  }

  -- .. and leaves the tables before
  pub went-failed : (d2 : Derived) → AllWentBack u1 d1 d2 → AreAsSeen s0 d2
  went-failed d2 went = record {
    links = went.history.links (links_in s0) links-led;
    tags = went.history.tags (tags_in s0) tags-led;
    leaves = went.history.leaves (leaves_in s0) leaves-led;
    files = went.contents.files (files_in s0) files-led;
    timeline = went.timeline (timeline_in s0) timeline-led;
    pages = went.contents.pages (pages_in s0) pages-led;
    tickets = went.contents.tickets (tickets_in s0) tickets-led;
    threads = went.contents.threads (threads_in s0) threads-led;
    clusters = went.contents.clusters (clusters_in s0) clusters-led;
    attached = record {
      targets = subst (ArePairs (filter_map target_pair i0)) (sym (went.attached.targets.entries ∙ targets-led.back.entries)) a0.attached.targets;
      changes = subst (ArePairs (filter_map change_pair i0)) (sym (went.attached.changes.entries ∙ changes-led.back.entries)) a0.attached.changes;
    };
    targets_room = at_least d0.attached.targets.spare (undone pair_cmp u1.attached.targets d1.attached.targets).spare d2.attached.targets.spare targets-led.back.spare went.attached.targets.spare;
    changes_room = at_least d0.attached.changes.spare (undone pair_cmp u1.attached.changes d1.attached.changes).spare d2.attached.changes.spare changes-led.back.spare went.attached.changes.spare;
  }
    where
      at_least : (a b c : ℕ) → a ≤ b → b ≤ c → a ≤ c
      at_least a b c p q = omega (arith, p, q)
