-- The tables inside of all tables, and the room that they have to spare.
use Rattle.std.proofs.Common.{◌≡◌, ℕ, ◌≤◌, zero, suc, List, [], ◌∷◌, All, map, length, get_or, refl, ◌∙◌, subst, arith}
use Rattle.std.specs.List.Sorted.{IsStrictlySortedBy}
use Rattle.fsl_order.specs.Names.{bytes_cmp}
use Rattle.fsl_order.specs.TableState.{AreAtMost}
use Rattle.fsl_table.specs.Trail.{AreAllAtMost}
use Rattle.fsl_table.proofs.Trails.{all_at_most-self}
use Rattle.fsl_cross.specs.declared.Item.{Item}
use Rattle.fsl_cross.specs.declared.derived.Derived.{Derived}
use Rattle.fsl_cross.specs.Built.{AreTablesOf, IsAttachedOf, spare_of}
use Rattle.fsl_cross.specs.Checkins.{links_facts, tags_facts}
use Rattle.fsl_cross.specs.Tables.{Seen, IsItem, leaves_facts, files_facts, pages_facts, ticket_facts, forum_facts, cluster_facts, timeline_rows}
use Rattle.fsl_cross.specs.Tables as tables
use Rattle.fsl_cross.specs.Back.{room, AreAsSeen, IsWhole}

pub room-at_most : (xss yss : List (List ℕ)) → AreAllAtMost xss yss → (i : ℕ) → AreAtMost (get_or xss i []) (get_or yss i [])
room-at_most [] [] h i = tt
room-at_most (xs ∷ xss) (ys ∷ yss) h zero = h.0
room-at_most (xs ∷ xss) (ys ∷ yss) h (suc i) = room-at_most xss yss h.1 i
room-at_most [] (ys ∷ yss) h i = absurd h
room-at_most (xs ∷ xss) [] h i = absurd h

pair-at_most : (xs : List ℕ) (a b : ℕ) → AreAtMost xs (a ∷ b ∷ []) → (get_or xs 0 0 ≤ a) × (get_or xs 1 0 ≤ b)
pair-at_most [] a b h = absurd h
pair-at_most (x ∷ []) a b h = absurd h.1
pair-at_most (x ∷ y ∷ []) a b h = (h.0, h.1.0)
pair-at_most (x ∷ y ∷ z ∷ xs) a b h = absurd h.1.1

pair-back : (xs : List ℕ) (a b : ℕ) → length xs ≡ 2 → get_or xs 0 0 ≤ a → get_or xs 1 0 ≤ b → AreAtMost xs (a ∷ b ∷ [])
pair-back [] a b n p q = absurd (omega (arith, n))
pair-back (x ∷ []) a b n p q = absurd (omega (arith, n))
pair-back (x ∷ y ∷ []) a b n p q = (p, (q, tt))
pair-back (x ∷ y ∷ z ∷ xs) a b n p q = absurd (omega (arith, n))

ten-back : (xss : List (List ℕ)) (y0 y1 y2 y3 y4 y5 y6 y7 y8 y9 : List ℕ) → length xss ≡ 10 → AreAtMost (get_or xss 0 []) y0 → AreAtMost (get_or xss 1 []) y1 → AreAtMost (get_or xss 2 []) y2 → AreAtMost (get_or xss 3 []) y3
    → AreAtMost (get_or xss 4 []) y4 → AreAtMost (get_or xss 5 []) y5 → AreAtMost (get_or xss 6 []) y6 → AreAtMost (get_or xss 7 []) y7 → AreAtMost (get_or xss 8 []) y8 → AreAtMost (get_or xss 9 []) y9
    → AreAllAtMost xss (y0 ∷ y1 ∷ y2 ∷ y3 ∷ y4 ∷ y5 ∷ y6 ∷ y7 ∷ y8 ∷ y9 ∷ [])
ten-back (a ∷ b ∷ c ∷ d ∷ e ∷ f ∷ g ∷ h ∷ i ∷ j ∷ []) y0 y1 y2 y3 y4 y5 y6 y7 y8 y9 n p0 p1 p2 p3 p4 p5 p6 p7 p8 p9 = (p0, (p1, (p2, (p3, (p4, (p5, (p6, (p7, (p8, (p9, tt))))))))))
ten-back [] y0 y1 y2 y3 y4 y5 y6 y7 y8 y9 n p0 p1 p2 p3 p4 p5 p6 p7 p8 p9 = absurd (omega (arith, n))
ten-back (a ∷ []) y0 y1 y2 y3 y4 y5 y6 y7 y8 y9 n p0 p1 p2 p3 p4 p5 p6 p7 p8 p9 = absurd (omega (arith, n))
ten-back (a ∷ b ∷ []) y0 y1 y2 y3 y4 y5 y6 y7 y8 y9 n p0 p1 p2 p3 p4 p5 p6 p7 p8 p9 = absurd (omega (arith, n))
ten-back (a ∷ b ∷ c ∷ []) y0 y1 y2 y3 y4 y5 y6 y7 y8 y9 n p0 p1 p2 p3 p4 p5 p6 p7 p8 p9 = absurd (omega (arith, n))
ten-back (a ∷ b ∷ c ∷ d ∷ []) y0 y1 y2 y3 y4 y5 y6 y7 y8 y9 n p0 p1 p2 p3 p4 p5 p6 p7 p8 p9 = absurd (omega (arith, n))
ten-back (a ∷ b ∷ c ∷ d ∷ e ∷ []) y0 y1 y2 y3 y4 y5 y6 y7 y8 y9 n p0 p1 p2 p3 p4 p5 p6 p7 p8 p9 = absurd (omega (arith, n))
ten-back (a ∷ b ∷ c ∷ d ∷ e ∷ f ∷ []) y0 y1 y2 y3 y4 y5 y6 y7 y8 y9 n p0 p1 p2 p3 p4 p5 p6 p7 p8 p9 = absurd (omega (arith, n))
ten-back (a ∷ b ∷ c ∷ d ∷ e ∷ f ∷ g ∷ []) y0 y1 y2 y3 y4 y5 y6 y7 y8 y9 n p0 p1 p2 p3 p4 p5 p6 p7 p8 p9 = absurd (omega (arith, n))
ten-back (a ∷ b ∷ c ∷ d ∷ e ∷ f ∷ g ∷ h ∷ []) y0 y1 y2 y3 y4 y5 y6 y7 y8 y9 n p0 p1 p2 p3 p4 p5 p6 p7 p8 p9 = absurd (omega (arith, n))
ten-back (a ∷ b ∷ c ∷ d ∷ e ∷ f ∷ g ∷ h ∷ i ∷ []) y0 y1 y2 y3 y4 y5 y6 y7 y8 y9 n p0 p1 p2 p3 p4 p5 p6 p7 p8 p9 = absurd (omega (arith, n))
ten-back (a ∷ b ∷ c ∷ d ∷ e ∷ f ∷ g ∷ h ∷ i ∷ j ∷ k ∷ more) y0 y1 y2 y3 y4 y5 y6 y7 y8 y9 n p0 p1 p2 p3 p4 p5 p6 p7 p8 p9 = absurd (omega (arith, n))

-- what is seen of tables
abbrev pub seen_of : List (List ℕ) → List Item → Derived → Seen
seen_of fields items d = record { fields = fields; items = items; spare = spare_of d }

pub whole-seen : (fields : List (List ℕ)) (items : List Item) (d : Derived) → IsWhole (seen_of fields items d)
whole-seen fields items d = record { tables = refl; pairs = refl }

-- tables that are as before are as good as those that were seen
pub as-seen : (s : Seen) (fields : List (List ℕ)) (items : List Item) (d : Derived) → AreTablesOf fields items d → tables.IsAsBefore s (seen_of fields items d) → AreAsSeen s d
as-seen s fields items d are as_ =
    let two = pair-at_most (room s 9) d.attached.targets.spare d.attached.changes.spare (room-at_most s.spare (spare_of d) as_.spare 9) in
    record {
      links = record { facts = subst (λ l. d.history.links.facts ≡ links_facts l) as_.items are.history.links; spare = room-at_most s.spare (spare_of d) as_.spare 0 };
      tags = record { facts = subst (λ l. d.history.tags.facts ≡ tags_facts l) as_.items are.history.tags; spare = room-at_most s.spare (spare_of d) as_.spare 1 };
      leaves = record { facts = subst (λ l. d.history.leaves.facts ≡ leaves_facts l) as_.items are.history.leaves; spare = room-at_most s.spare (spare_of d) as_.spare 2 };
      files = record { facts = subst (λ l. d.contents.files.facts ≡ files_facts l) as_.items are.contents.files; spare = room-at_most s.spare (spare_of d) as_.spare 3 };
      timeline = record { facts = subst (λ l. d.timeline.facts ≡ timeline_rows l) as_.items are.timeline; spare = room-at_most s.spare (spare_of d) as_.spare 4 };
      pages = record { facts = subst (λ l. d.contents.pages.facts ≡ pages_facts l) as_.items are.contents.pages; spare = room-at_most s.spare (spare_of d) as_.spare 5 };
      tickets = record {
        fields = are.contents.configured ∙ as_.fields;
        facts = subst (λ l. d.contents.tickets.facts ≡ ticket_facts l) as_.items are.contents.tickets;
        spare = room-at_most s.spare (spare_of d) as_.spare 6;
      };
      threads = record { facts = subst (λ l. d.contents.threads.facts ≡ forum_facts l) as_.items are.contents.threads; spare = room-at_most s.spare (spare_of d) as_.spare 7 };
      clusters = record { facts = subst (λ l. d.contents.clusters.facts ≡ cluster_facts l) as_.items are.contents.clusters; spare = room-at_most s.spare (spare_of d) as_.spare 8 };
      attached = subst (λ l. IsAttachedOf l d.attached) as_.items are.attached;
      targets_room = two.0;
      changes_room = two.1;
    }

-- tables that are as good as those that were seen hold what those held ..
pub seen-tables : (s : Seen) (d : Derived) → AreAsSeen s d → IsStrictlySortedBy bytes_cmp (map (λ (i : Item). i.name) s.items) → All IsItem s.items → AreTablesOf s.fields s.items d
seen-tables s d are rising kinds = record {
  rising = rising;
  kinds = kinds;
  history = record { links = are.links.facts; tags = are.tags.facts; leaves = are.leaves.facts };
  contents = record {
    files = are.files.facts;
    pages = are.pages.facts;
    configured = are.tickets.fields;
    tickets = are.tickets.facts;
    threads = are.threads.facts;
    clusters = are.clusters.facts;
  };
  timeline = are.timeline.facts;
  attached = are.attached;
}

-- .. and are as before
pub seen-before : (s : Seen) (fields : List (List ℕ)) (items : List Item) (d : Derived) → IsWhole s → AreAsSeen s d → fields ≡ s.fields → items ≡ s.items → tables.IsAsBefore s (seen_of fields items d)
seen-before s fields items d whole are same_fields same_items = record {
  fields = same_fields;
  items = same_items;
  spare =
      ten-back s.spare d.history.links.spare d.history.tags.spare d.history.leaves.spare d.contents.files.spare d.timeline.spare d.contents.pages.spare d.contents.tickets.spare d.contents.threads.spare d.contents.clusters.spare
      (d.attached.targets.spare ∷ d.attached.changes.spare ∷ []) whole.tables are.links.spare are.tags.spare are.leaves.spare are.files.spare are.timeline.spare are.pages.spare are.tickets.spare are.threads.spare are.clusters.spare
      (pair-back (room s 9) d.attached.targets.spare d.attached.changes.spare whole.pairs are.targets_room are.changes_room);
}

-- where nothing but the list of items was touched, and that is the same
pub seen-same : (fields : List (List ℕ)) (items now : List Item) (d : Derived) → now ≡ items → tables.IsAsBefore (seen_of fields items d) (seen_of fields now d)
seen-same fields items now d same = record { fields = refl; items = same; spare = all_at_most-self (spare_of d) }

pub seen-itself : (s : Seen) → tables.IsAsBefore s s
seen-itself s = record { fields = refl; items = refl; spare = all_at_most-self s.spare }
