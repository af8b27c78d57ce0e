-- Technotes and posts that have no row.
use Rattle.std.specs.Prelude.{◌≡◌, ℕ, List, Bool, true, false, not, ◌&&◌, Some, is_none, map}
use Rattle.std.specs.Option.{option_eq, option_map_or}
use Rattle.std.specs.Str.{bytes_eq}
use Rattle.fsl_order.specs.Names.{has}
use Rattle.fsl_order.specs.Rows.{named}
use Rattle.fsl_artifact.specs.declared.Artifact.{Artifact}
use Rattle.fsl_artifact.specs.declared.Artifact.TheVariants as kind
use Rattle.fsl_wiki.specs.declared.Fact as wiki
use Rattle.fsl_wiki.specs.Pages as pages
use Rattle.fsl_forum.specs.declared.Fact as forum
use Rattle.fsl_forum.specs.Threads as threads
use Rattle.fsl_timeline.specs.declared.Row.{Row}
use Rattle.fsl_cross.specs.declared.Item.{Item}
use Rattle.fsl_cross.specs.Tables.{pages_facts, forum_facts}
use Rattle.fsl_cross.specs.Mixed.{GoesOn, rows_mixed, pushed}

-- whether an artifact is a technote that isn't the current one of its id, or a post that isn't valid
abbrev pub is_rowless : List wiki.Fact → List forum.Fact → List ℕ → Artifact → Bool
is_rowless ps fs name (kind.Technote t) = not (option_eq bytes_eq (pages.note ps t.id) (Some name))
is_rowless ps fs name (kind.Forum f) = is_none (threads.place fs name)
is_rowless ps fs name _ = false

-- whether a name is that of another artifact than the new one, which is so
abbrev pub is_gone : List Item → List ℕ → List ℕ → Bool
is_gone items n q =
    not (bytes_eq q n) && option_map_or (λ item. is_rowless (pages_facts items) (forum_facts items) q item.artifact) (named (λ item. item.name) items q) false

-- whether there is a row of a name
abbrev pub has_row : List Row → List ℕ → Bool
has_row rows q = has (map (λ r. r.name) rows) q

-- each of some names that is so has a row
abbrev pub AreShown : List Item → List ℕ → List (List ℕ) → List Row → Type 0
AreShown items n names rows = (q : List ℕ) → has names q ≡ true → is_gone items n q ≡ true → has_row rows q ≡ true

-- each of some names that is so has its new row, which is none
abbrev pub RowsGone : List Item → List ℕ → List (List ℕ) → List Row → List Row → Type 0
RowsGone items n names before now = GoesOn (rows_mixed items n) (pushed (is_gone items n) names) before now

-- other names than this have a row where they had one
abbrev pub OthersShown : List ℕ → List Row → List Row → Type 0
OthersShown name before now = (q : List ℕ) → bytes_eq q name ≡ false → has_row now q ≡ has_row before q
