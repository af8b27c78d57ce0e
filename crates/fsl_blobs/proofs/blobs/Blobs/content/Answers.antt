use Rattle.std.proofs.Common.{List, ℕ, Option, refl, ap, subst, ◌∙◌}
use Rattle.std.specs.Prelude.{IfSome, Contains}
use Rattle.fsl_blobs.specs.Seen.{Seen, IsBounded}
use Rattle.fsl_blobs.proofs.ContentLemmas.{none-held, none-uncommitted, stored, pending, bounded-left, bounded-more, given-cached, given-read, cached-read, true-read, true-left, not-absent, failed, never-absent, quiet-same}
use Rattle.fsl_blobs.proofs.blobs.Blobs.content.Goals as goal

pub returns-in_default-clause-absent : goal.returns-in_default-clause-absent
returns-in_default-clause-absent g c = ((λ _. none-held _ _ _ _ _ _ c.self.invariant.kept c.self.invariant.from c.args.self.now (ap (λ (b : Seen). b.records) c.self.view_is) (ap (λ (b : Seen). b.starts) c.self.view_is) c.args.name c.in_default.ensures), (λ _. refl))

pub returns-in_default-clause-fault : goal.returns-in_default-clause-fault
returns-in_default-clause-fault g c = (none-held _ _ _ _ _ _ c.self.invariant.kept c.self.invariant.from c.args.self.now (ap (λ (b : Seen). b.records) c.self.view_is) (ap (λ (b : Seen). b.starts) c.self.view_is) c.args.name c.in_default.ensures, refl)

pub returns-in_default-clause-kept : goal.returns-in_default-clause-kept
returns-in_default-clause-kept g c = λ m all. all

pub returns-in_default-clause-quiet : goal.returns-in_default-clause-quiet
returns-in_default-clause-quiet g c = quiet-same (g.D.Disk.state c.args.disk.now)

pub returns-in_default-clause-belongs : goal.returns-in_default-clause-belongs
returns-in_default-clause-belongs g c = c.requires.belongs

pub invariant_of-self : goal.invariant_of-self
invariant_of-self g c = record {
  kept = c.self.invariant.kept;
  from = c.self.invariant.from;
  as_many = c.self.invariant.as_many;
  cached = λ e there. c.self.invariant.cached e (c.recalled.ensures.kept e there);
  bounded = bounded-left c.self.inside.cache.entries c.recalled.new.cache _ c.self.invariant.bounded c.recalled.ensures.kept c.recalled.ensures.few c.recalled.ensures.cap c.self.invariant.cap;
  cap = c.recalled.ensures.cap ∙ c.self.invariant.cap;
  ordered = c.self.invariant.ordered;
  sum = c.self.invariant.sum;
  small = c.self.invariant.small;
}

pub returns-in-Ok-Some-clause-bytes : goal.returns-in-Ok-Some-clause-bytes
returns-in-Ok-Some-clause-bytes g c =
    given-cached _ _ _ _ _ _ c.self.invariant.kept c.self.invariant.from c.args.self.now (ap (λ (b : Seen). b.records) c.self.view_is) (ap (λ (b : Seen). b.starts) c.self.view_is) c.args.name c.in-Some.spot c.in-Some.ensures (g.D.Disk.state c.args.disk.now) c.self.inside.cache.entries c.self.invariant.cached (ap (λ (b : Seen). b.cached) c.self.view_is) c.in-Ok-Some.text
    (subst (λ (o : Option (List ℕ)). IfSome o (λ text. Contains c.self.inside.cache.entries (c.in-Some.spot.place, text))) c.in-Ok-Some.field-0-is c.in-Ok-Some.ensures.found)

pub returns-in-Ok-Some-clause-absent : goal.returns-in-Ok-Some-clause-absent
returns-in-Ok-Some-clause-absent g c = not-absent _ _ _ _ _ _ c.self.invariant.kept c.self.invariant.from c.args.self.now (ap (λ (b : Seen). b.records) c.self.view_is) (ap (λ (b : Seen). b.starts) c.self.view_is) c.args.name c.in-Some.spot c.in-Some.ensures _ (λ e. cc)

pub returns-in-Ok-Some-clause-value : goal.returns-in-Ok-Some-clause-value
returns-in-Ok-Some-clause-value g c = λ i. record (c.self.view_is i) { cached = c.recalled.new.cache.entries }

pub returns-in-Ok-Some-clause-kept : goal.returns-in-Ok-Some-clause-kept
returns-in-Ok-Some-clause-kept g c = λ m all. true-left _ _ _ _ _ _ c.self.invariant.kept c.self.invariant.from c.args.self.now (ap (λ (b : Seen). b.records) c.self.view_is) (ap (λ (b : Seen). b.starts) c.self.view_is) c.args.name c.self.inside.cache.entries c.recalled.new.cache.entries (ap (λ (b : Seen). b.cached) c.self.view_is) c.recalled.ensures.kept all

pub returns-in-Ok-Some-clause-quiet : goal.returns-in-Ok-Some-clause-quiet
returns-in-Ok-Some-clause-quiet g c = quiet-same (g.D.Disk.state c.args.disk.now)

pub returns-in-Ok-Some-clause-belongs : goal.returns-in-Ok-Some-clause-belongs
returns-in-Ok-Some-clause-belongs g c = c.requires.belongs

pub invariant_of-self-in-Err : goal.invariant_of-self-in-Err
invariant_of-self-in-Err g c = record {
  kept = c.self.invariant.kept;
  from = c.self.invariant.from;
  as_many = c.self.invariant.as_many;
  cached = λ e there. c.self.invariant.cached e (c.recalled.ensures.kept e there);
  bounded = bounded-left c.self.inside.cache.entries c.recalled.new.cache _ c.self.invariant.bounded c.recalled.ensures.kept c.recalled.ensures.few c.recalled.ensures.cap c.self.invariant.cap;
  cap = c.recalled.ensures.cap ∙ c.self.invariant.cap;
  ordered = c.self.invariant.ordered;
  sum = c.self.invariant.sum;
  small = c.self.invariant.small;
}

pub returns-in-Err-clause-absent : goal.returns-in-Err-clause-absent
returns-in-Err-clause-absent g c = not-absent _ _ _ _ _ _ c.self.invariant.kept c.self.invariant.from c.args.self.now (ap (λ (b : Seen). b.records) c.self.view_is) (ap (λ (b : Seen). b.starts) c.self.view_is) c.args.name c.in-Some.spot c.in-Some.ensures _ (λ e. cc)

pub returns-in-Err-clause-value : goal.returns-in-Err-clause-value
returns-in-Err-clause-value g c = λ i. record (c.self.view_is i) { cached = c.recalled.new.cache.entries }

pub returns-in-Err-clause-kept : goal.returns-in-Err-clause-kept
returns-in-Err-clause-kept g c = λ m all. true-left _ _ _ _ _ _ c.self.invariant.kept c.self.invariant.from c.args.self.now (ap (λ (b : Seen). b.records) c.self.view_is) (ap (λ (b : Seen). b.starts) c.self.view_is) c.args.name c.self.inside.cache.entries c.recalled.new.cache.entries (ap (λ (b : Seen). b.cached) c.self.view_is) c.recalled.ensures.kept all

pub returns-in-Err-clause-quiet : goal.returns-in-Err-clause-quiet
returns-in-Err-clause-quiet g c = quiet-same (g.D.Disk.state c.args.disk.now)

pub returns-in-Err-clause-belongs : goal.returns-in-Err-clause-belongs
returns-in-Err-clause-belongs g c = c.requires.belongs

pub read_named-requires-clause-belongs : goal.read_named-requires-clause-belongs
read_named-requires-clause-belongs g c = c.requires.belongs

pub read_named-requires-clause-stored : goal.read_named-requires-clause-stored
read_named-requires-clause-stored g c = stored _ _ _ _ _ _ c.self.invariant.kept c.self.invariant.from c.args.self.now (ap (λ (b : Seen). b.records) c.self.view_is) (ap (λ (b : Seen). b.starts) c.self.view_is) c.args.name c.in-Some.spot c.in-Some.ensures c.args.journal.now c.requires.same

pub invariant_of-self-in-Ok : goal.invariant_of-self-in-Ok
invariant_of-self-in-Ok g c = record {
  kept = c.self.invariant.kept;
  from = c.self.invariant.from;
  as_many = c.self.invariant.as_many;
  cached = cached-read _ _ _ _ _ _ c.self.invariant.kept c.self.invariant.from c.args.self.now (ap (λ (b : Seen). b.records) c.self.view_is) (ap (λ (b : Seen). b.starts) c.self.view_is) c.args.name c.in-Some.spot c.in-Some.ensures (g.D.Disk.state c.args.disk.now) c.args.journal.now c.requires.same c.in-Ok.text c.in-Ok.ensures.read
      c.recalled.new.cache.entries c.keep.new.cache.entries (λ e there. c.self.invariant.cached e (c.recalled.ensures.kept e there)) c.keep.ensures.kept;
  bounded = bounded-more c.recalled.new.cache.entries c.keep.new.cache c.in-Some.spot.place c.in-Ok.text _
      (bounded-left c.self.inside.cache.entries c.recalled.new.cache _ c.self.invariant.bounded c.recalled.ensures.kept c.recalled.ensures.few c.recalled.ensures.cap c.self.invariant.cap) c.keep.ensures.kept c.know_bound.ensures c.keep.ensures.cap (c.recalled.ensures.cap ∙ c.self.invariant.cap);
  cap = c.keep.ensures.cap ∙ c.recalled.ensures.cap ∙ c.self.invariant.cap;
  ordered = c.self.invariant.ordered;
  sum = c.self.invariant.sum;
  small = c.self.invariant.small;
}

pub invariant_of-self-in-Err-read_named : goal.invariant_of-self-in-Err-read_named
invariant_of-self-in-Err-read_named g c = record {
  kept = c.self.invariant.kept;
  from = c.self.invariant.from;
  as_many = c.self.invariant.as_many;
  cached = λ e there. c.self.invariant.cached e (c.recalled.ensures.kept e there);
  bounded = bounded-left c.self.inside.cache.entries c.recalled.new.cache _ c.self.invariant.bounded c.recalled.ensures.kept c.recalled.ensures.few c.recalled.ensures.cap c.self.invariant.cap;
  cap = c.recalled.ensures.cap ∙ c.self.invariant.cap;
  ordered = c.self.invariant.ordered;
  sum = c.self.invariant.sum;
  small = c.self.invariant.small;
}

pub returns-in-Ok-clause-bytes : goal.returns-in-Ok-clause-bytes
returns-in-Ok-clause-bytes g c = given-read _ _ _ _ _ _ c.self.invariant.kept c.self.invariant.from c.args.self.now (ap (λ (b : Seen). b.records) c.self.view_is) (ap (λ (b : Seen). b.starts) c.self.view_is) c.args.name c.in-Some.spot c.in-Some.ensures (g.D.Disk.state c.args.disk.now) c.args.journal.now c.requires.same c.in-Ok.text c.in-Ok.ensures.read

pub returns-in-Ok-clause-absent : goal.returns-in-Ok-clause-absent
returns-in-Ok-clause-absent g c = not-absent _ _ _ _ _ _ c.self.invariant.kept c.self.invariant.from c.args.self.now (ap (λ (b : Seen). b.records) c.self.view_is) (ap (λ (b : Seen). b.starts) c.self.view_is) c.args.name c.in-Some.spot c.in-Some.ensures _ (λ e. cc)

pub returns-in-Ok-clause-count : goal.returns-in-Ok-clause-count
returns-in-Ok-clause-count g c = c.in-Ok.ensures.count

pub returns-in-Ok-clause-value : goal.returns-in-Ok-clause-value
returns-in-Ok-clause-value g c = λ i. record (c.self.view_is i) { cached = c.keep.new.cache.entries }

pub returns-in-Ok-clause-kept : goal.returns-in-Ok-clause-kept
returns-in-Ok-clause-kept g c = λ m all.
    true-read _ _ _ _ _ _ c.self.invariant.kept c.self.invariant.from c.args.self.now (ap (λ (b : Seen). b.records) c.self.view_is) (ap (λ (b : Seen). b.starts) c.self.view_is) c.args.name c.in-Some.spot c.in-Some.ensures (g.D.Disk.state c.args.disk.now) c.args.journal.now c.requires.same c.in-Ok.text c.in-Ok.ensures.read
    c.recalled.new.cache.entries c.keep.new.cache.entries c.keep.ensures.kept m (true-left _ _ _ _ _ _ c.self.invariant.kept c.self.invariant.from c.args.self.now (ap (λ (b : Seen). b.records) c.self.view_is) (ap (λ (b : Seen). b.starts) c.self.view_is) c.args.name c.self.inside.cache.entries c.recalled.new.cache.entries (ap (λ (b : Seen). b.cached) c.self.view_is) c.recalled.ensures.kept all)

pub returns-in-Ok-clause-quiet : goal.returns-in-Ok-clause-quiet
returns-in-Ok-clause-quiet g c = c.read_named.ensures.quiet

pub returns-in-Ok-clause-belongs : goal.returns-in-Ok-clause-belongs
returns-in-Ok-clause-belongs g c = c.read_named.ensures.belongs

pub returns-in-Err-read_named-clause-absent : goal.returns-in-Err-read_named-clause-absent
returns-in-Err-read_named-clause-absent g c =
    not-absent _ _ _ _ _ _ c.self.invariant.kept c.self.invariant.from c.args.self.now (ap (λ (b : Seen). b.records) c.self.view_is) (ap (λ (b : Seen). b.starts) c.self.view_is) c.args.name c.in-Some.spot c.in-Some.ensures _ (never-absent c.args.name c.in-Some.spot.size (g.D.Disk.state c.args.disk.now) (g.D.Disk.state c.read_named.new.disk) c.in-Err-read_named.fault c.in-Err-read_named.ensures.fault)

pub returns-in-Err-read_named-clause-fault : goal.returns-in-Err-read_named-clause-fault
returns-in-Err-read_named-clause-fault g c =
    failed _ _ _ _ _ _ c.self.invariant.kept c.self.invariant.from c.args.self.now (ap (λ (b : Seen). b.records) c.self.view_is) (ap (λ (b : Seen). b.starts) c.self.view_is) c.args.name c.in-Some.spot c.in-Some.ensures (g.D.Disk.state c.args.disk.now) (g.D.Disk.state c.read_named.new.disk) c.in-Err-read_named.fault c.in-Err-read_named.ensures.fault

pub returns-in-Err-read_named-clause-value : goal.returns-in-Err-read_named-clause-value
returns-in-Err-read_named-clause-value g c = λ i. record (c.self.view_is i) { cached = c.recalled.new.cache.entries }

pub returns-in-Err-read_named-clause-kept : goal.returns-in-Err-read_named-clause-kept
returns-in-Err-read_named-clause-kept g c = λ m all. true-left _ _ _ _ _ _ c.self.invariant.kept c.self.invariant.from c.args.self.now (ap (λ (b : Seen). b.records) c.self.view_is) (ap (λ (b : Seen). b.starts) c.self.view_is) c.args.name c.self.inside.cache.entries c.recalled.new.cache.entries (ap (λ (b : Seen). b.cached) c.self.view_is) c.recalled.ensures.kept all

pub returns-in-Err-read_named-clause-quiet : goal.returns-in-Err-read_named-clause-quiet
returns-in-Err-read_named-clause-quiet g c = c.read_named.ensures.quiet

pub returns-in-Err-read_named-clause-belongs : goal.returns-in-Err-read_named-clause-belongs
returns-in-Err-read_named-clause-belongs g c = c.read_named.ensures.belongs

pub returns-in_default-clause-bounded : goal.returns-in_default-clause-bounded
returns-in_default-clause-bounded g c = subst IsBounded (ap (λ (b : Seen). b.cached) c.self.view_is) c.self.invariant.bounded

pub returns-in_default-clause-memory : goal.returns-in_default-clause-memory
returns-in_default-clause-memory g c = none-uncommitted _ c.args.journal.now c.args.self.now c.args.name (none-held _ _ _ _ _ _ c.self.invariant.kept c.self.invariant.from c.args.self.now (ap (λ (b : Seen). b.records) c.self.view_is) (ap (λ (b : Seen). b.starts) c.self.view_is) c.args.name c.in_default.ensures)

pub returns-in-Ok-Some-clause-bounded : goal.returns-in-Ok-Some-clause-bounded
returns-in-Ok-Some-clause-bounded g c = bounded-left c.self.inside.cache.entries c.recalled.new.cache _ c.self.invariant.bounded c.recalled.ensures.kept c.recalled.ensures.few c.recalled.ensures.cap c.self.invariant.cap

pub returns-in-Err-clause-bounded : goal.returns-in-Err-clause-bounded
returns-in-Err-clause-bounded g c = bounded-left c.self.inside.cache.entries c.recalled.new.cache _ c.self.invariant.bounded c.recalled.ensures.kept c.recalled.ensures.few c.recalled.ensures.cap c.self.invariant.cap

pub returns-in-Err-read_named-clause-bounded : goal.returns-in-Err-read_named-clause-bounded
returns-in-Err-read_named-clause-bounded g c = bounded-left c.self.inside.cache.entries c.recalled.new.cache _ c.self.invariant.bounded c.recalled.ensures.kept c.recalled.ensures.few c.recalled.ensures.cap c.self.invariant.cap

pub returns-in-Ok-clause-bounded : goal.returns-in-Ok-clause-bounded
returns-in-Ok-clause-bounded g c = bounded-more c.recalled.new.cache.entries c.keep.new.cache c.in-Some.spot.place c.in-Ok.text _
    (bounded-left c.self.inside.cache.entries c.recalled.new.cache _ c.self.invariant.bounded c.recalled.ensures.kept c.recalled.ensures.few c.recalled.ensures.cap c.self.invariant.cap) c.keep.ensures.kept c.know_bound.ensures c.keep.ensures.cap (c.recalled.ensures.cap ∙ c.self.invariant.cap)

pub returns-in-Ok-Some-clause-memory : goal.returns-in-Ok-Some-clause-memory
returns-in-Ok-Some-clause-memory g c = λ _. (refl, tt)

pub returns-in-Err-clause-memory : goal.returns-in-Err-clause-memory
returns-in-Err-clause-memory g c = λ _. (refl, refl)

pub returns-in-Ok-clause-memory : goal.returns-in-Ok-clause-memory
returns-in-Ok-clause-memory g c = λ un. ((c.read_named.ensures.memory (pending _ _ _ _ _ _ c.self.invariant.kept c.self.invariant.from c.args.self.now (ap (λ (b : Seen). b.records) c.self.view_is) (ap (λ (b : Seen). b.starts) c.self.view_is) c.args.name c.in-Some.spot c.in-Some.ensures c.args.journal.now c.requires.same un)).0, tt)

pub returns-in-Err-read_named-clause-memory : goal.returns-in-Err-read_named-clause-memory
returns-in-Err-read_named-clause-memory g c = λ un. c.in-Err-read_named.ensures.memory (pending _ _ _ _ _ _ c.self.invariant.kept c.self.invariant.from c.args.self.now (ap (λ (b : Seen). b.records) c.self.view_is) (ap (λ (b : Seen). b.starts) c.self.view_is) c.args.name c.in-Some.spot c.in-Some.ensures c.args.journal.now c.requires.same un)
