-- A change of all tables that is taken back.
use Rattle.std.proofs.Common.{◌≡◌, ℕ, ◌≤◌, true, false, cond, Bool, List, [], ◌∷◌, All, map, refl, sym, subst, arith}
use Rattle.std.specs.Prelude.{filter_map, get_or}
use Rattle.std.specs.Str.{bytes_eq}
use Rattle.std.specs.List.Sorted.{IsStrictlySortedBy}
use Rattle.std.proofs.lemmas.List.Elements.{All-nil, All-cons, All-head, All-tail}
use Rattle.fsl_order.specs.Names.{bytes_cmp}
use Rattle.fsl_table.specs.Exact.{pair_cmp}
use Rattle.fsl_table.specs.Undo.{undone}
use Rattle.fsl_cross.specs.declared.Item.{Item}
use Rattle.fsl_cross.specs.declared.derived.Derived.{Derived}
use Rattle.fsl_cross.specs.declared.undos.Undos.{Undos}
use Rattle.fsl_cross.specs.declared.undos.What.{What}
use Rattle.fsl_cross.specs.declared.undos.What.TheVariants.{Added, Published}
use Rattle.fsl_cross.specs.Attached.{ArePairs, target_pair, change_pair}
use Rattle.fsl_cross.specs.Back.{IsBack, AreAsSeen, CanGoBackAll, AllWentBack, unmade, room, links_in, tags_in, leaves_in, files_in, timeline_in, pages_in, tickets_in, threads_in, clusters_in}
use Rattle.fsl_cross.specs.Marks.{private_at}
use Rattle.fsl_cross.specs.Tables.{Seen, IsItem}
use Rattle.fsl_cross.proofs.Moved.{item_name}
use Rattle.fsl_cross.proofs.Trailing.{leads-later, tickets-later}
use Rattle.fsl_cross.proofs.Without.{rising-without, kinds-without}

-- ---- the items

pub names-private : (n : List ℕ) (private : Bool) (items : List Item) → map item_name (map (private_at n private) items) ≡ map item_name items
names-private n private [] = refl
names-private n private (item ∷ items) =
    λ i. elim (bytes_eq item.name n) as (λ b. (cond b (record item { private = private }) item).name ≡ item.name) [ true ↦ refl | false ↦ refl ] i ∷ names-private n private items i

pub kinds-private : (n : List ℕ) (private : Bool) (items : List Item) → All IsItem items → All IsItem (map (private_at n private) items)
kinds-private n private [] all = All-nil IsItem
kinds-private n private (item ∷ items) all =
    All-cons IsItem (private_at n private item) (map (private_at n private) items)
    (elim (bytes_eq item.name n) as (λ b. IsItem (cond b (record item { private = private }) item)) [ true ↦ All-head IsItem item items all | false ↦ All-head IsItem item items all ])
    (kinds-private n private items (All-tail IsItem item items all))

pub rising-unmade : (what : What) (n : List ℕ) (items : List Item) → IsStrictlySortedBy bytes_cmp (map item_name items) → IsStrictlySortedBy bytes_cmp (map item_name (unmade what n items))
rising-unmade Added n items h = rising-without n items h
rising-unmade Published n items h = subst (IsStrictlySortedBy bytes_cmp) (sym (names-private n true items)) h

pub kinds-unmade : (what : What) (n : List ℕ) (items : List Item) → All IsItem items → All IsItem (unmade what n items)
kinds-unmade Added n items h = kinds-without n items h
kinds-unmade Published n items h = kinds-private n true items h

-- ---- the tables

-- what is kept of a change can be taken back from each state that is as good as the one after it ..
pub can-go-back : (what : What) (n : List ℕ) (us : Undos) (before after : Seen) (d : Derived) → IsBack what n us before after → AreAsSeen after d → CanGoBackAll us d
can-go-back what n us before after d back seen = record {
  history = record {
    links = (links_in before, leads-later (links_in before) us.history.links (links_in after) d.history.links back.links seen.links);
    tags = (tags_in before, leads-later (tags_in before) us.history.tags (tags_in after) d.history.tags back.tags seen.tags);
    leaves = (leaves_in before, leads-later (leaves_in before) us.history.leaves (leaves_in after) d.history.leaves back.leaves seen.leaves);
  };
  contents = record {
    files = (files_in before, leads-later (files_in before) us.contents.files (files_in after) d.contents.files back.files seen.files);
    pages = (pages_in before, leads-later (pages_in before) us.contents.pages (pages_in after) d.contents.pages back.pages seen.pages);
    clusters = (clusters_in before, leads-later (clusters_in before) us.contents.clusters (clusters_in after) d.contents.clusters back.clusters seen.clusters);
    tickets = (tickets_in before, tickets-later (tickets_in before) us.contents.tickets (tickets_in after) d.contents.tickets back.tickets seen.tickets);
    threads = (threads_in before, leads-later (threads_in before) us.contents.threads (threads_in after) d.contents.threads back.threads seen.threads);
  };
  attached = record {
    targets = (back.targets d.attached.targets seen.attached.targets seen.targets_room).can;
    changes = (back.changes d.attached.changes seen.attached.changes seen.changes_room).can;
  };
  timeline = (timeline_in before, leads-later (timeline_in before) us.timeline (timeline_in after) d.timeline back.timeline seen.timeline);
}

-- .. which leaves the state before
pub went-back : (what : What) (n : List ℕ) (us : Undos) (before after : Seen) (d new : Derived) → IsBack what n us before after → AreAsSeen after d → AllWentBack us d new → AreAsSeen before new
went-back what n us before after d new back seen went =
    let targets = back.targets d.attached.targets seen.attached.targets seen.targets_room in
    let changes = back.changes d.attached.changes seen.attached.changes seen.changes_room in
    record {
      links = went.history.links (links_in before) (leads-later (links_in before) us.history.links (links_in after) d.history.links back.links seen.links);
      tags = went.history.tags (tags_in before) (leads-later (tags_in before) us.history.tags (tags_in after) d.history.tags back.tags seen.tags);
      leaves = went.history.leaves (leaves_in before) (leads-later (leaves_in before) us.history.leaves (leaves_in after) d.history.leaves back.leaves seen.leaves);
      files = went.contents.files (files_in before) (leads-later (files_in before) us.contents.files (files_in after) d.contents.files back.files seen.files);
      timeline = went.timeline (timeline_in before) (leads-later (timeline_in before) us.timeline (timeline_in after) d.timeline back.timeline seen.timeline);
      pages = went.contents.pages (pages_in before) (leads-later (pages_in before) us.contents.pages (pages_in after) d.contents.pages back.pages seen.pages);
      tickets = went.contents.tickets (tickets_in before) (tickets-later (tickets_in before) us.contents.tickets (tickets_in after) d.contents.tickets back.tickets seen.tickets);
      threads = went.contents.threads (threads_in before) (leads-later (threads_in before) us.contents.threads (threads_in after) d.contents.threads back.threads seen.threads);
      clusters = went.contents.clusters (clusters_in before) (leads-later (clusters_in before) us.contents.clusters (clusters_in after) d.contents.clusters back.clusters seen.clusters);
      attached = record {
        targets = subst (ArePairs (filter_map target_pair before.items)) (sym went.attached.targets.entries) targets.pairs;
        changes = subst (ArePairs (filter_map change_pair before.items)) (sym went.attached.changes.entries) changes.pairs;
      };
      targets_room = at_least (get_or (room before 9) 0 0) (undone pair_cmp us.attached.targets d.attached.targets).spare new.attached.targets.spare targets.spare went.attached.targets.spare;
      changes_room = at_least (get_or (room before 9) 1 0) (undone pair_cmp us.attached.changes d.attached.changes).spare new.attached.changes.spare changes.spare went.attached.changes.spare;
    }
  where
    at_least : (a b c : ℕ) → a ≤ b → b ≤ c → a ≤ c
    at_least a b c p q = omega (arith, p, q)
