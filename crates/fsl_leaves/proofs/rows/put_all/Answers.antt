use Rattle.std.proofs.Common.{◌≡◌, ◌∙◌, ◌∷◌, ◌++◌, [], List, map, refl, sym, ap, subst}
use Rattle.std.proofs.lemmas.List.{append_assoc, append-nil}
use Rattle.fsl_order.specs.Rows.{by_name, AreDistinct}
use Rattle.fsl_order.specs.Names.{has}
use Rattle.fsl_name.proofs.RowsBuilt.{by_name-again}
use Rattle.fsl_table.proofs.Facts.{absent-entry, absent_before, facts_with, distinct_rear}
use Rattle.fsl_leaves.specs.declared.Fact.{Fact}
use Rattle.fsl_leaves.specs.Kept.{fact_of, facts_of, rows_of}
use Rattle.fsl_leaves.proofs.Canonical.{kept_none}
use Rattle.fsl_leaves.proofs.rows.put_all.Goals as goal

pub loop-fact-init : goal.loop-fact-init
loop-fact-init g c = (
  [],
  append-nil c.into_vec-left.result.items ∙ c.into_vec-left.ensures,
  ap facts_of c.requires.no_facts,
  kept_none (rows_of c.args.maps.now) c.requires.no_facts c.requires.no_children c.requires.no_leaves,
)

whole : (left rest done all : List Fact) (x : Fact) → left ≡ rest ++ x ∷ [] → left ++ done ≡ all → rest ++ x ∷ done ≡ all
whole left rest done all x cut is = sym (append_assoc rest (x ∷ []) done) ∙ ap (λ l. l ++ done) (sym cut) ∙ is

behind : (left rest done all : List Fact) (x : Fact) → left ≡ rest ++ x ∷ [] → left ++ done ≡ all → AreDistinct (map (λ f. f.name) all) → AreDistinct (map (λ f. f.name) (x ∷ done))
behind left rest done all x cut is d = distinct_rear (λ f. f.name) rest (x ∷ done) (subst (λ l. AreDistinct (map (λ f. f.name) l)) (sym (whole left rest done all x cut is)) d)

pub put_new-requires-clause-absent : goal.put_new-requires-clause-absent
put_new-requires-clause-absent g c =
    let before = c.loop-fact.invariant in
    let f = c.in-Some.fact in
    let d = behind c.loop-fact.left.items c.pop.new.self.items before.0 c.args.all f c.in-Some.ensures.items before.1 c.requires.distinct in
    absent-entry fact_of (λ f. f.name) (λ e. refl) c.loop-fact.maps.facts.held.entries f.name (ap (λ l. has (map (λ f. f.name) l) f.name) before.2 ∙ absent_before (λ f. f.name) f before.0 d)

pub loop-fact-preserved : goal.loop-fact-preserved
loop-fact-preserved g c =
    let before = c.loop-fact.invariant in
    let f = c.in-Some.fact in
    let d = behind c.loop-fact.left.items c.pop.new.self.items before.0 c.args.all f c.in-Some.ensures.items before.1 c.requires.distinct in (
      f ∷ before.0,
      whole c.loop-fact.left.items c.pop.new.self.items before.0 c.args.all f c.in-Some.ensures.items before.1,
      ap facts_of c.in-Ok.ensures.entries
          ∙ facts_with fact_of (λ f. f.name) (λ e. refl) f.name (record { parents = f.parents; branch = f.branch }) c.loop-fact.maps.facts.held.entries before.3.ordered
          ∙ ap (λ l. by_name (λ f. f.name) (f ∷ l)) before.2 ∙ by_name-again (λ f. f.name) f before.0 d,
      c.in-Ok.ensures.kept,
    )
