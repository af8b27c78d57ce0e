use Rattle.std.proofs.Common.{◌≡◌, ◌∙◌, ◌∷◌, ◌++◌, [], List, map, refl, sym, ap, subst}
use Rattle.std.proofs.lemmas.List.{append_assoc, append-nil}
use Rattle.fsl_order.specs.Rows.{by_name, AreDistinct}
use Rattle.fsl_order.specs.Names.{bytes_cmp, has}
use Rattle.fsl_table.specs.Contents.{value_at}
use Rattle.fsl_name.proofs.RowsBuilt.{by_name-again}
use Rattle.fsl_table.proofs.Facts.{absent-entry, absent_before, facts_with, distinct_rear}
use Rattle.fsl_timeline.specs.declared.Row.{Row}
use Rattle.fsl_timeline.specs.Kept.{entry_of, row_of, rows_in, rows_of, with_row}
use Rattle.fsl_timeline.proofs.Canonical.{kept_none}
use Rattle.fsl_timeline.proofs.rows.put_all.Goals as goal

pub loop-row-init : goal.loop-row-init
loop-row-init g c = (
  [],
  append-nil c.into_vec-left.result.items ∙ c.into_vec-left.ensures,
  ap rows_of c.requires.no_rows,
  kept_none (rows_in c.args.maps.now) c.requires.no_rows c.requires.no_places,
)

whole : (left rest done all : List Row) (x : Row) → left ≡ rest ++ x ∷ [] → left ++ done ≡ all → rest ++ x ∷ done ≡ all
whole left rest done all x cut is = sym (append_assoc rest (x ∷ []) done) ∙ ap (λ l. l ++ done) (sym cut) ∙ is

behind : (left rest done all : List Row) (x : Row) → left ≡ rest ++ x ∷ [] → left ++ done ≡ all → AreDistinct (map (λ f. f.name) all) → AreDistinct (map (λ f. f.name) (x ∷ done))
behind left rest done all x cut is d = distinct_rear (λ f. f.name) rest (x ∷ done) (subst (λ l. AreDistinct (map (λ f. f.name) l)) (sym (whole left rest done all x cut is)) d)

pub put_row-requires-clause-absent : goal.put_row-requires-clause-absent
put_row-requires-clause-absent g c =
    let before = c.loop-row.invariant in
    let f = c.in-Some.row in
    let d = behind c.loop-row.left.items c.pop.new.self.items before.0 c.args.all f c.in-Some.ensures.items before.1 c.requires.distinct in
    ap (λ r. value_at bytes_cmp f.name r.rows.entries) c.begin.ensures.held
    ∙ absent-entry row_of (λ f. f.name) (λ e. refl) c.loop-row.maps.rows.held.entries f.name (ap (λ l. has (map (λ f. f.name) l) f.name) before.2 ∙ absent_before (λ f. f.name) f before.0 d)

pub loop-row-preserved : goal.loop-row-preserved
loop-row-preserved g c =
    let before = c.loop-row.invariant in
    let f = c.in-Some.row in
    let d = behind c.loop-row.left.items c.pop.new.self.items before.0 c.args.all f c.in-Some.ensures.items before.1 c.requires.distinct in (
      f ∷ before.0,
      whole c.loop-row.left.items c.pop.new.self.items before.0 c.args.all f c.in-Some.ensures.items before.1,
      ap rows_of c.in-Ok.ensures.entries ∙ ap (λ r. rows_of (with_row f r.rows.entries)) c.begin.ensures.held
          ∙ facts_with row_of (λ f. f.name) (λ e. refl) f.name (entry_of f) c.loop-row.maps.rows.held.entries before.3.ordered
          ∙ ap (λ l. by_name (λ f. f.name) (f ∷ l)) before.2 ∙ by_name-again (λ f. f.name) f before.0 d,
      c.in-Ok.ensures.kept,
    )
