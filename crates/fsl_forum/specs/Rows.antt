-- The row of a name by the tables, and those that differ from what was noted.
use Rattle.std.specs.Prelude.{◌≡◌, ℕ, List, [], ◌∷◌, Bool, true, false, ◌&&◌, cond, Option, Some, None, filter_map, map, option_map, option_and_then}
use Rattle.std.specs.BTreeMap.{insert_entry}
use Rattle.std.specs.List.{AllByRecursion}
use Rattle.std.specs.Str.{bytes_eq}
use Rattle.fsl_order.specs.Names.{bytes_cmp, dated_cmp, has}
use Rattle.fsl_order.specs.Rows.{keyed}
use Rattle.fsl_table.specs.Contents.{value_at}
use Rattle.fsl_forum.specs.declared.Fact.{Fact}
use Rattle.fsl_forum.specs.declared.Post.{Post}
use Rattle.fsl_forum.specs.declared.PostKind.{PostKind}
use Rattle.fsl_forum.specs.declared.PostKind.TheVariants.{Start, Edit, Reply}
use Rattle.fsl_forum.specs.declared.rows.Noted.{Noted}
use Rattle.fsl_forum.specs.Held.{AreOf, Ends, Nodes, Pairs, fact_of, facts_of}
use Rattle.fsl_forum.specs.Kept.{place_by}
use Rattle.fsl_forum.specs.Threads.{kind, post, shown}

abbrev pub Row : Type 0
Row = Option (List ℕ × PostKind)

-- the row of a post by the end of its chain
abbrev pub row_by : Option (List ℕ) → Fact → Row
row_by end f = option_map (λ root. (root, kind f)) (place_by end f)

-- the row of a name by the posts and the ends
abbrev pub row_in : Nodes → Ends → List ℕ → Row
row_in posts ends x = option_and_then (λ n. row_by (value_at bytes_cmp x ends) (fact_of (x, n))) (value_at bytes_cmp x posts)

-- the thread of a row
abbrev pub place_of : Row → Option (List ℕ)
place_of row = option_map (λ r. r.0) row

abbrev pub same_kind : PostKind → PostKind → Bool
same_kind Start Start = true
same_kind Edit Edit = true
same_kind Reply Reply = true
same_kind Start Edit = false
same_kind Start Reply = false
same_kind Edit Start = false
same_kind Edit Reply = false
same_kind Reply Start = false
same_kind Reply Edit = false

-- whether two rows are one
abbrev pub same_row : Row → Row → Bool
same_row None None = true
same_row None (Some s) = false
same_row (Some r) None = false
same_row (Some r) (Some s) = bytes_eq r.0 s.0 && same_kind r.1 s.1

-- a name with its row
abbrev pub noted_in : (List ℕ → Row) → List ℕ → Noted
noted_in rows x = record { name = x; row = rows x }

-- from whatever thread each name had, the noted one came from that of its noted row into that of its row; and the noted ones did
abbrev pub IsMoved : (List ℕ → Row) → Noted → Pairs → Pairs → Type 0
IsMoved rows n old new =
    (first : List ℕ → Option (List ℕ)) → AreOf first old → first n.name ≡ place_of n.row → AreOf (λ x. cond (bytes_eq x n.name) (place_of (rows x)) (first x)) new

abbrev pub AreAllMoved : (List ℕ → Row) → List Noted → Pairs → Pairs → Type 0
AreAllMoved rows ns old new =
    (first : List ℕ → Option (List ℕ)) → AreOf first old → AllByRecursion (λ n. first n.name ≡ place_of n.row) ns
    → AreOf (λ x. cond (has (map (λ n. n.name) ns) x) (place_of (rows x)) (first x)) new

-- the name, where its row isn't the one that was noted
abbrev pub if_other : (List ℕ → Row) → Noted → List (List ℕ)
if_other rows n = cond (same_row n.row (rows n.name)) [] (n.name ∷ [])

-- the names whose rows aren't those that were noted
abbrev pub differing : (List ℕ → Row) → List Noted → List (List ℕ)
differing rows [] = []
differing rows (n ∷ ns) = cond (same_row n.row (rows n.name)) (differing rows ns) (n.name ∷ differing rows ns)

-- posts by date and name, with one more where it is there
abbrev pub with_post : Option Fact → List ((ℕ × List ℕ) × Post) → List ((ℕ × List ℕ) × Post)
with_post None es = es
with_post (Some f) es = insert_entry dated_cmp es (f.date, f.name) (shown f)

-- the posts of some names, by date and name
abbrev pub by_date : Nodes → List (List ℕ) → List ((ℕ × List ℕ) × Fact)
by_date es names = keyed dated_cmp (λ f. (f.date, f.name)) (filter_map (post (facts_of es)) names)
