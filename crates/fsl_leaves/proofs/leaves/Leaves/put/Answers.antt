use Rattle.std.proofs.Common.{◌≡◌, ◌∙◌, ◌∷◌, List, ℕ, None, false, map, refl, sym, ap, subst}
use Rattle.fsl_order.specs.Names.{bytes_cmp, has}
use Rattle.fsl_order.specs.Rows.{by_name}
use Rattle.fsl_order.specs.TableState.{TableState}
use Rattle.fsl_table.specs.Contents.{value_at, with_entry}
use Rattle.fsl_table.proofs.Facts.{absent-entry, facts_with}
use Rattle.fsl_leaves.specs.declared.Fact.{Fact}
use Rattle.fsl_leaves.specs.Kept.{IsKept, Rows, fact_of, facts_of, held_of, rows_of}
use Rattle.fsl_leaves.specs.declared.line.Line.{Line}
use Rattle.fsl_leaves.proofs.leaves.Leaves.put.Goals as goal

absent_is : (r : Rows) (h : TableState Fact) (name : List ℕ) → held_of r ≡ h → has (map (λ f. f.name) h.facts) name ≡ false → value_at bytes_cmp name r.facts.entries ≡ None
absent_is r h name is absent = absent-entry fact_of (λ f. f.name) (λ e. refl) r.facts.entries name (ap (λ h. has (map (λ f. f.name) h.facts) name) is ∙ absent)

pub put_listed-requires-clause-kept : goal.put_listed-requires-clause-kept
put_listed-requires-clause-kept g c = subst IsKept (sym c.begin.ensures.rows) c.self.invariant

pub put_listed-requires-clause-absent : goal.put_listed-requires-clause-absent
put_listed-requires-clause-absent g c = λ new.
    ap (λ r. value_at bytes_cmp c.args.fact.name r.facts.entries) c.begin.ensures.rows
    ∙ absent_is (rows_of c.self.inside.maps) c.args.self.now c.args.fact.name c.self.view_is (c.requires.absent new)

pub returns-in-Ok-clause-facts : goal.returns-in-Ok-clause-facts
returns-in-Ok-clause-facts g c =
    let line : Line = record { parents = c.args.fact.parents; branch = c.args.fact.branch } in
    ap (λ r. facts_of r.facts.entries) c.ways.ensures.rows ∙ ap facts_of c.in-Ok.ensures.entries
    ∙ ap (λ r. facts_of (with_entry bytes_cmp c.args.fact.name line r.facts.entries)) c.begin.ensures.rows
    ∙ facts_with fact_of (λ f. f.name) (λ e. refl) c.args.fact.name line c.self.inside.maps.facts.held.entries c.self.invariant.ordered
    ∙ ap (λ h. by_name (λ f. f.name) (c.args.fact ∷ h.facts)) c.self.view_is
