-- Several changes of one table, the first one first, and what they tell of its rows.
use Rattle.std.specs.Prelude.{ℕ, List, [], ◌∷◌}
use Rattle.std.specs.List.{AllByRecursion}
use Rattle.fsl_order.specs.TableState.{TableState, IsAsBefore}
use Rattle.fsl_order.specs.TableState as held
use Rattle.fsl_order.specs.Rows.{ListsChanged}
use Rattle.fsl_table.specs.Contents.{Contents}
use Rattle.fsl_table.specs.Exact.{pair_cmp}
use Rattle.fsl_table.specs.Undo.{Undoes}
use Rattle.fsl_table.specs.declared.key.Pair.{Pair}
use Rattle.fsl_table.specs.declared.step.Step.{Step}
use Rattle.fsl_links.specs.declared.Fact as links
use Rattle.fsl_links.specs.Links.{links_row}
use Rattle.fsl_tags.specs.declared.Fact as tags
use Rattle.fsl_ticket.specs.Seen as ticket
use Rattle.fsl_wiki.specs.declared.Fact as wiki
use Rattle.fsl_wiki.specs.Pages.{pages_row}
use Rattle.fsl_forum.specs.declared.Fact as forum
use Rattle.fsl_forum.specs.Threads.{threads_row}
use Rattle.fsl_tags.specs.Tags.{tags_row}

-- the changes lead from a state to another: what stood before each is as good as what stood then
abbrev pub LeadsBy : {S U : Type 0} → (S → S → Type 0) → (U → S) → (U → S) → S → List U → S → Type 0
LeadsBy IsGood before after first [] now = IsGood first now
LeadsBy IsGood before after first (u ∷ us) now = IsGood first (before u) × LeadsBy IsGood before after (after u) us now

-- changes that lead to the old state are now some that lead to the new one
abbrev pub LeadsOn : {S U : Type 0} → (S → S → Type 0) → (U → S) → (U → S) → S → List U → S → List U → Type 0
LeadsOn {S = S} IsGood before after old us new vs = (first : S) → LeadsBy IsGood before after first us old → LeadsBy IsGood before after first vs new

-- .. of a table of facts
abbrev pub Leads : {F : Type 0} → TableState F → List (held.Change F) → TableState F → Type 0
Leads first us now = LeadsBy IsAsBefore (λ u. u.before) (λ u. u.after) first us now

abbrev pub Led : {F : Type 0} → TableState F → List (held.Change F) → TableState F → List (held.Change F) → Type 0
Led old us new vs = LeadsOn IsAsBefore (λ u. u.before) (λ u. u.after) old us new vs

-- a log that takes a table of pairs back from the old state is now one that does so from the new one
abbrev pub Logged : Contents Pair (Unit {0}) → List (Step Pair (Unit {0})) → Contents Pair (Unit {0}) → List (Step Pair (Unit {0})) → Type 0
Logged old log new more = (before : Contents Pair (Unit {0})) → Undoes pair_cmp log old before → Undoes pair_cmp more new before

-- .. of the table of tickets
abbrev pub TicketsLead : ticket.Seen → List ticket.Change → ticket.Seen → Type 0
TicketsLead first us now = LeadsBy ticket.IsAsBefore (λ u. u.before) (λ u. u.after) first us now

abbrev pub TicketsLed : ticket.Seen → List ticket.Change → ticket.Seen → List ticket.Change → Type 0
TicketsLed old us new vs = LeadsOn ticket.IsAsBefore (λ u. u.before) (λ u. u.after) old us new vs

-- each change tells the names whose rows it changed
abbrev pub AreTold : {F Row : Type 0} → (List F → List ℕ → Row) → List (held.Change F) → Type 0
AreTold row us = AllByRecursion (λ u. ListsChanged (row u.before.facts) (row u.after.facts) u.changed) us

abbrev pub LinksTold : List (held.Change links.Fact) → Type 0
LinksTold us = AreTold links_row us

abbrev pub PagesTold : List (held.Change wiki.Fact) → Type 0
PagesTold us = AreTold pages_row us

abbrev pub ThreadsTold : List (held.Change forum.Fact) → Type 0
ThreadsTold us = AreTold threads_row us

abbrev pub TagsTold : List (held.Change tags.Fact) → Type 0
TagsTold us = AreTold tags_row us

-- the changes lead from some table to this one
abbrev pub CanGoBack : {F : Type 0} → List (held.Change F) → TableState F → Type 0
CanGoBack {F = F} us now = (first : TableState F) × Leads first us now

-- whichever table they led from, the new one is as good
abbrev pub WentBack : {F : Type 0} → List (held.Change F) → TableState F → TableState F → Type 0
WentBack {F = F} us now new = (first : TableState F) → Leads first us now → IsAsBefore first new

abbrev pub CanTicketsGoBack : List ticket.Change → ticket.Seen → Type 0
CanTicketsGoBack us now = (first : ticket.Seen) × TicketsLead first us now

abbrev pub TicketsWentBack : List ticket.Change → ticket.Seen → ticket.Seen → Type 0
TicketsWentBack us now new = (first : ticket.Seen) → TicketsLead first us now → ticket.IsAsBefore first new
