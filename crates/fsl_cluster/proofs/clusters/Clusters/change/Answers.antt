use Rattle.std.proofs.Common.{◌≡◌, ◌∙◌, ◌∷◌, List, ℕ, Option, Some, None, true, false, map, is_some, option_map, refl, sym, ap, arith}
use Rattle.fsl_order.specs.Names.{bytes_cmp, has}
use Rattle.fsl_order.specs.Rows.{by_name, named}
use Rattle.fsl_table.specs.Contents.{value_at, with_entry}
use Rattle.fsl_table.proofs.Facts.{has-facts, named-facts, facts_with}
use Rattle.fsl_cluster.specs.declared.Fact.{Fact}
use Rattle.fsl_cluster.specs.declared.entry.Entry.{Entry}
use Rattle.fsl_cluster.specs.Kept.{entry_of, fact_of, facts_of, publishes}
use Rattle.fsl_cluster.proofs.Publishing.{publishing}
use Rattle.fsl_cluster.proofs.clusters.Clusters.change.Goals as goal

pub put_over-requires-clause-there : goal.put_over-requires-clause-there
put_over-requires-clause-there g c =
    ap (λ t. is_some (value_at bytes_cmp c.args.fact.name t.facts.entries)) c.begin.ensures.held
    ∙ sym (has-facts fact_of (λ f. f.name) (λ e. refl) c.self.inside.maps.facts.held.entries c.args.fact.name) ∙ ap (λ h. has (map (λ f. f.name) h.facts) c.args.fact.name) c.self.view_is ∙ c.requires.there

pub returns-in-Ok-clause-facts : goal.returns-in-Ok-clause-facts
returns-in-Ok-clause-facts g c =
    ap (λ t. facts_of t.facts.entries) c.ways.ensures.held ∙ ap facts_of c.in-Ok.ensures.entries
    ∙ ap (λ t. facts_of (with_entry bytes_cmp c.args.fact.name (entry_of c.args.fact) t.facts.entries)) c.begin.ensures.held
    ∙ facts_with fact_of (λ f. f.name) (λ e. refl) c.args.fact.name (entry_of c.args.fact) c.self.inside.maps.facts.held.entries c.self.invariant.laid.ordered
    ∙ ap (λ h. by_name (λ f. f.name) (c.args.fact ∷ h.facts)) c.self.view_is

-- what a fact says that is there
entry_is : (q : List ℕ) (o : Option Entry) (f : Fact) → option_map (λ v. fact_of (q, v)) o ≡ Some f → o ≡ Some (entry_of f)
entry_is q None f h = cc
entry_is q (Some v) f h = ap (option_map entry_of) h

is_published : (es : List (List ℕ × Entry)) (h : List Fact) (f : Fact) → facts_of es ≡ h → named (λ f. f.name) h f.name ≡ Some (record f { private = true }) → f.private ≡ false
    → publishes (value_at bytes_cmp f.name es) (entry_of f) ≡ true
is_published es h f is was public =
    publishing (value_at bytes_cmp f.name es) (entry_of f)
    (entry_is f.name (value_at bytes_cmp f.name es) (record f { private = true }) (sym (named-facts fact_of (λ f. f.name) (λ e. refl) es f.name) ∙ ap (λ l. named (λ f. f.name) l f.name) is ∙ was))
    public

pub returns-in-Ok-clause-cost : goal.returns-in-Ok-clause-cost
returns-in-Ok-clause-cost g c = λ was public.
    let p = ap (λ t. publishes (value_at bytes_cmp c.args.fact.name t.facts.entries) (entry_of c.args.fact)) c.begin.ensures.held
    ∙ is_published c.self.inside.maps.facts.held.entries c.args.self.now.facts c.args.fact (ap (λ h. h.facts) c.self.view_is) was public in
    let cost = c.in-Ok.ensures.cost p in
    omega (arith, cost)

pub returns-in-Err-clause-cost : goal.returns-in-Err-clause-cost
returns-in-Err-clause-cost g c = λ was public.
    let p = ap (λ t. publishes (value_at bytes_cmp c.args.fact.name t.facts.entries) (entry_of c.args.fact)) c.begin.ensures.held
    ∙ is_published c.self.inside.maps.facts.held.entries c.args.self.now.facts c.args.fact (ap (λ h. h.facts) c.self.view_is) was public in
    let cost = c.in-Err.ensures.cost p in
    let back = c.in-Err.ensures.back p in
    omega (arith, cost, back, c.begin.ensures.back, c.turn_back.ensures.cost)
