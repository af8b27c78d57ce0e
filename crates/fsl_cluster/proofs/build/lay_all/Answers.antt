use Rattle.std.proofs.Common.{◌≡◌, ◌∙◌, ◌∷◌, ◌++◌, [], List, None, map, refl, sym, ap, subst}
use Rattle.std.specs.List.Sorted.{IsStrictlySortedBy}
use Rattle.std.specs.Map.{keys_of}
use Rattle.std.proofs.lemmas.List.{append_assoc, append-nil}
use Rattle.fsl_order.specs.Rows.{by_name, AreDistinct}
use Rattle.fsl_order.specs.Names.{bytes_cmp, has}
use Rattle.fsl_name.proofs.RowsBuilt.{by_name-again}
use Rattle.fsl_table.specs.Contents.{value_at, with_entry}
use Rattle.fsl_table.proofs.Facts.{absent-entry, absent_before, facts_with, distinct_rear}
use Rattle.fsl_cluster.specs.declared.Fact.{Fact}
use Rattle.fsl_cluster.specs.Kept.{Entries, fact_of, facts_of, entry_of}
use Rattle.fsl_cluster.proofs.build.lay_all.Goals as goal

pub loop-fact-init : goal.loop-fact-init
loop-fact-init g c = (
  [],
  append-nil c.args.facts.items,
  ap facts_of c.requires.none,
  c.requires.laid,
  refl,
  refl,
)

whole : (left rest done all : List Fact) (x : Fact) → left ≡ rest ++ x ∷ [] → left ++ done ≡ all → rest ++ x ∷ done ≡ all
whole left rest done all x cut is = sym (append_assoc rest (x ∷ []) done) ∙ ap (λ l. l ++ done) (sym cut) ∙ is

behind : (left rest done all : List Fact) (x : Fact) → left ≡ rest ++ x ∷ [] → left ++ done ≡ all → AreDistinct (map (λ f. f.name) all) → AreDistinct (map (λ f. f.name) (x ∷ done))
behind left rest done all x cut is d = distinct_rear (λ f. f.name) rest (x ∷ done) (subst (λ l. AreDistinct (map (λ f. f.name) l)) (sym (whole left rest done all x cut is)) d)

pub lay-requires-clause-laid : goal.lay-requires-clause-laid
lay-requires-clause-laid g c = c.loop-fact.invariant.3

absent : (es : Entries) (done : List Fact) (f : Fact) → facts_of es ≡ by_name (λ f. f.name) done → AreDistinct (map (λ f. f.name) (f ∷ done)) → value_at bytes_cmp f.name es ≡ None
absent es done f are d =
    absent-entry fact_of (λ f. f.name) (λ e. refl) es f.name (ap (λ l. has (map (λ f. f.name) l) f.name) are ∙ absent_before (λ f. f.name) f done d)

pub lay-requires-clause-absent : goal.lay-requires-clause-absent
lay-requires-clause-absent g c =
    let before = c.loop-fact.invariant in
    let f = c.in-Some.fact in
    absent c.loop-fact.tables.facts.entries before.0 f before.2
    (behind c.loop-fact.left.items c.pop.new.self.items before.0 c.args.facts.items f c.in-Some.ensures.items before.1 c.requires.distinct)

put_in : (es after : Entries) (done : List Fact) (f : Fact) → facts_of es ≡ by_name (λ f. f.name) done → AreDistinct (map (λ f. f.name) (f ∷ done))
    → IsStrictlySortedBy bytes_cmp (keys_of es) → after ≡ with_entry bytes_cmp f.name (entry_of f) es → facts_of after ≡ by_name (λ f. f.name) (f ∷ done)
put_in es after done f are d ordered is =
    ap facts_of is ∙ facts_with fact_of (λ f. f.name) (λ e. refl) f.name (entry_of f) es ordered
    ∙ (λ i. by_name (λ f. f.name) (f ∷ are i)) ∙ by_name-again (λ f. f.name) f done d

pub loop-fact-preserved : goal.loop-fact-preserved
loop-fact-preserved g c =
    let before = c.loop-fact.invariant in
    let f = c.in-Some.fact in
    let d = behind c.loop-fact.left.items c.pop.new.self.items before.0 c.args.facts.items f c.in-Some.ensures.items before.1 c.requires.distinct in (
      f ∷ before.0,
      whole c.loop-fact.left.items c.pop.new.self.items before.0 c.args.facts.items f c.in-Some.ensures.items before.1,
      put_in c.loop-fact.tables.facts.entries c.lay.new.tables.facts.entries before.0 f before.2 d before.3.ordered c.in_ok-lay.ensures.entries,
      c.in_ok-lay.ensures.laid,
      c.lay.ensures.unclustered ∙ before.4,
      c.lay.ensures.missing ∙ before.5,
    )
