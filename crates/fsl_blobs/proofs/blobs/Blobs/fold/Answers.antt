use Rattle.std.proofs.Common.{◌≡◌, ◌<◌, ◌∷◌, [], List, ℕ, length, Some, sym, ap, subst, ◌∙◌, rules, arith}
use Rattle.std.specs.Prelude.{slice_get}
use Rattle.std.specs.FinSet as set
use Rattle.std.proofs.lemmas.List.{nil_from_length}
use Rattle.fsl_blobs.specs.Seen.{Seen}
use Rattle.fsl_blobs.proofs.Folding.{folded-first, folded-more, folded-all, writable, is_there}
use Rattle.fsl_blobs.proofs.blobs.Blobs.fold.Goals as goal

pub loop-entry-init : goal.loop-entry-init
loop-entry-init c =
    let split : c.args.entries ≡ c.in-Some.first ∷ c.into_iter-entry-iterator.result.rest.items = search rules in
    folded-first c.args.entries c.items-starts.result.now (ap length c.items-starts.ensures ∙ c.requires.places) c.requires.records c.in-Some.first c.into_iter-entry-iterator.result.rest.items
    c.start_at.result c.in_ok-blobs.blobs split c.start_at.ensures c.in_ok-blobs.ensures

pub start_at-at-requires : goal.start_at-at-requires
start_at-at-requires c =
    subst (λ (n : ℕ). n < length c.items-starts.result.now) (sym c.read.ensures)
    (is_there c.args.entries c.items-starts.result.now (ap length c.items-starts.ensures ∙ c.requires.places) c.loop-entry.blobs c.loop-entry.entry-iterator.rest.items c.loop-entry.invariant c.in-Some-entry.entry _ c.in-Some-entry.ensures.steps.0)

pub apply-requires : goal.apply-requires
apply-requires c = record {
  fit = writable c.args.entries c.items-starts.result.now (ap length c.items-starts.ensures ∙ c.requires.places) c.loop-entry.blobs c.loop-entry.entry-iterator.rest.items c.loop-entry.invariant c.in-Some-entry.entry _ c.in-Some-entry.ensures.steps.0;
}

pub loop-entry-preserved : goal.loop-entry-preserved
loop-entry-preserved c =
    folded-more c.args.entries c.items-starts.result.now (ap length c.items-starts.ensures ∙ c.requires.places) c.loop-entry.blobs c.loop-entry.entry-iterator.rest.items c.loop-entry.invariant c.apply.new.self c.start_at-at.result c.in-Some-entry.entry _
    c.in-Some-entry.ensures.steps.0 c.in_ok-apply.ensures.ok (ap (slice_get c.items-starts.result.now) (sym c.read.ensures) ∙ c.start_at-at.ensures)

pub returns : goal.returns
returns c =
    let left = c.loop-entry.entry-iterator.rest in
    let none : left.items ≡ [] = nil_from_length left.items (omega (arith, left.ok.0, c.in-None.ensures.steps.0)) in
    folded-all c.args.entries c.items-starts.result.now (ap length c.items-starts.ensures ∙ c.requires.places) c.loop-entry.blobs left.items c.loop-entry.invariant none
    ∙ ap (λ (ns : List ℕ). record { records = c.args.entries; starts = ns; announced = set.empty; cached = [] }) c.items-starts.ensures
