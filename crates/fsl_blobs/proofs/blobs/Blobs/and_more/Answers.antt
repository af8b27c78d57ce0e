use Rattle.std.proofs.Common.{◌≡◌, ◌<◌, ◌-◌, [], ℕ, length, sym, ap, subst, ◌∙◌, arith}
use Rattle.std.specs.Prelude.{slice_get, Some}
use Rattle.std.proofs.lemmas.List.{nil_from_length}
use Rattle.fsl_blobs.proofs.Folding.{more-none, more-count, more-writable, more-there, more-all, more-on}
use Rattle.fsl_blobs.proofs.blobs.Blobs.and_more.Goals as goal

pub start_at-at-requires : goal.start_at-at-requires
start_at-at-requires c =
    let many = ap length c.items-starts.ensures ∙ c.requires.places in
    let inv = c.loop-entry.invariant in
    let left = c.loop-entry.entry-iterator.rest.items in
    omega (
      arith,
      c.read.ensures,
      c.read-before.ensures,
      more-count c.args.entries c.items-starts.result.now many c.args.self c.loop-entry.blobs c.requires.quiet left inv,
      more-there c.args.entries c.items-starts.result.now many c.args.self c.loop-entry.blobs c.requires.quiet left inv c.in-Some.entry _ c.in-Some.ensures.steps.0,
    )

pub apply-requires : goal.apply-requires
apply-requires c = record {
  fit = more-writable c.args.entries c.items-starts.result.now (ap length c.items-starts.ensures ∙ c.requires.places) c.args.self c.loop-entry.blobs c.requires.quiet c.loop-entry.entry-iterator.rest.items c.loop-entry.invariant c.in-Some.entry _ c.in-Some.ensures.steps.0;
}

pub loop-entry-preserved : goal.loop-entry-preserved
loop-entry-preserved c =
    let many = ap length c.items-starts.ensures ∙ c.requires.places in
    let inv = c.loop-entry.invariant in
    let left = c.loop-entry.entry-iterator.rest.items in
    let count : c.read.result - c.read-before.result ≡ length inv.taken =
    omega (arith, c.read.ensures, c.read-before.ensures, more-count c.args.entries c.items-starts.result.now many c.args.self c.loop-entry.blobs c.requires.quiet left inv) in
    more-on c.args.entries c.items-starts.result.now many c.args.self c.loop-entry.blobs c.requires.quiet left inv c.apply.new.self c.start_at-at.result c.in-Some.entry _ c.in-Some.ensures.steps.0 c.in_ok-apply.ensures.ok
    (ap (slice_get c.items-starts.result.now) (sym count) ∙ c.start_at-at.ensures)
