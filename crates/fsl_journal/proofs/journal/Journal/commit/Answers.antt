use Rattle.std.proofs.Common.{◌≡◌, ℕ, ◌<◌, ◌^◌, List, length, Some, None, Ok, refl, sym, ◌∙◌, ap, subst, arith, rules}
use Rattle.std.proofs.lemmas.List.{drop_all}
use Rattle.fsl_disk.specs.Disk.{IsModelled, LeavesOnly}
use Rattle.fsl_record.specs.Records.{records_bytes}
use Rattle.fsl_journal.specs.Commit.{body_of, CarriesGroup}
use Rattle.fsl_journal.specs.File.{IsFileOf}
use Rattle.fsl_journal.specs.Inside.{records_of, places_of, log_of}
use Rattle.fsl_journal.specs.Journal.{Belongs, mark_after, WritesGroup}
use Rattle.fsl_journal.specs.Places.{content_places}
use Rattle.fsl_journal.specs.Log.{Log, BeforeOrAll}
use Rattle.fsl_journal.proofs.Belonging.{belongs_ends, commit_moments, belongs_stopped, belongs_committed, all_durable, same_moments, settled_durable}
use Rattle.fsl_journal.proofs.Gate.{length-body}
use Rattle.fsl_journal.proofs.Pending.{records_count, places_count, pending_group, committed_inside, idle_mark, busy_mark, idle_place, busy_place, not_all, not_idle, stopped_log}
use Rattle.fsl_journal.proofs.journal.Journal.commit.Goals as goal

pub returns-in-Some : goal.returns-in-Some
returns-in-Some g c =
    let stopped : c.args.self.now.stopped ≡ Some c.in-Some.faults = sym (ap (λ (l : Log). l.stopped) c.self.view_is) ∙ c.in-Some.is in record {
      belongs = c.requires;
      ok = tt;
      fault = (stopped, refl);
      keeps = record { tells = refl; model = refl };
      later = omega arith;
      nothing = λ runs all. absurd (cc);
      idle = λ idle. refl;
      any_moment = same_moments c.args.self.now (g.D.Disk.state c.args.disk.now) c.requires (λ model f left. g.met.D.Disk.only_now c.args.disk.now f model left);
      durable = tt;
      written = tt;
    }

pub returns-then-self-count : goal.returns-then-self-count
returns-then-self-count g c =
    let s0 = g.D.Disk.state c.args.disk.now in
    let runs : c.args.self.now.stopped ≡ None = sym (ap (λ (l : Log). l.stopped) c.self.view_is) ∙ c.in_default.is in
    let all : c.args.self.now.stable ≡ length c.args.self.now.records = sym (ap (λ (l : Log). l.stable) c.self.view_is) ∙ c.if-self-count.true ∙ c.count-count.ensures in record {
      belongs = c.requires;
      ok = record { runs = runs; all = c.count-count.ensures; records = refl; places = refl; mark = sym (idle_mark c.args.self.now all); place = sym (idle_place c.args.self.now all); stable = all; goes_on = runs; faults = refl };
      fault = tt;
      keeps = record { tells = refl; model = refl };
      later = omega arith;
      nothing = λ _ _. ap Ok c.count-count.ensures;
      idle = λ idle. refl;
      any_moment = same_moments c.args.self.now s0 c.requires (λ model f left. g.met.D.Disk.only_now c.args.disk.now f model left);
      written = λ other. absurd (other all);
      durable = settled_durable c.args.self.now s0 c.requires runs all;
    }

pub write_commit-requires : goal.write_commit-requires
write_commit-requires g c = record {
  header = omega (arith, c.self.invariant.header);
  fits = c.self.invariant.place;
  ends =
      belongs_ends (log_of c.self.inside) (g.D.Disk.state c.args.disk.now)
      (subst (λ (log : Log). Belongs log (g.D.Disk.state c.args.disk.now)) (sym c.self.view_is) c.requires) c.in_default.is;
}

pub returns-in-Ok : goal.returns-in-Ok
returns-in-Ok g c =
    let s0 = g.D.Disk.state c.args.disk.now in
    let s1 = g.D.Disk.state c.write_commit.new.disk in
    let j = c.self.inside in
    let bytes = c.bytes-bytes.result.now in
    let belongs = subst (λ (log : Log). Belongs log s0) (sym c.self.view_is) c.requires in
    let fits : length c.self.inside.pending < 2 ^ 64 = omega (arith, ap length c.bytes-bytes.ensures, length-body bytes, c.in-Ok.ensures.fits) in
    let group = pending_group j c.self.invariant fits (not_all j c.args.self.now c.count-count.result c.self.view_is c.count-count.ensures c.if-self-count.false) in
    let is = ap body_of (c.bytes-bytes.ensures ∙ c.self.invariant.pending) in
    let mark_is = c.carried_mark-self-inside.ensures in
    let runs : c.args.self.now.stopped ≡ None = sym (ap (λ (l : Log). l.stopped) c.self.view_is) ∙ c.in_default.is in
    let other : c.args.self.now.stable ≡ length c.args.self.now.records → ⊥ = λ all. c.if-self-count.false (ap (λ (l : Log). l.stable) c.self.view_is ∙ all ∙ sym c.count-count.ensures) in record {
      belongs =
          belongs_committed (log_of j) s0 (body_of bytes) belongs c.in_default.is c.self.invariant.fit group is s1 _ refl refl
          (c.count-count.ensures ∙ sym (ap (λ (l : Log). length l.records) c.self.view_is)) mark_is (omega (arith, length-body bytes)) c.in-Ok.ensures.keeps c.in-Ok.ensures.contents c.in-Ok.ensures.durable c.self.invariant.inside c.self.invariant.behind;
      ok = record {
        runs = runs;
        all = c.count-count.ensures;
        records = ap (λ (l : Log). l.records) c.self.view_is;
        places = ap (λ (l : Log). l.places) c.self.view_is;
        mark = mark_is ∙ sym (busy_mark (log_of j) (λ all. other (ap (λ (l : Log). l.stable) (sym c.self.view_is) ∙ all ∙ ap (λ (l : Log). length l.records) c.self.view_is))) ∙ ap mark_after c.self.view_is;
        place = busy_place j c.args.self.now _ c.self.view_is other (omega (arith, ap length (c.bytes-bytes.ensures ∙ c.self.invariant.pending)));
        stable = c.count-count.ensures;
        goes_on = c.in_default.is;
        faults = c.in-Ok.ensures.cause.same;
      };
      fault = tt;
      keeps = c.in-Ok.ensures.keeps;
      later = c.in-Ok.ensures.cause.later;
      nothing = λ _ all. absurd (other all);
      idle = not_idle _ _ _ runs other;
      any_moment =
          subst (λ (log : Log). IsModelled s0 → LeavesOnly s0 s1 (BeforeOrAll log)) c.self.view_is
          (commit_moments (log_of j) s0 (body_of bytes) belongs c.in_default.is c.self.invariant.fit group is s1 c.in-Ok.ensures.any_moment);
      durable =
          subst (λ (log : Log). IsModelled s0 → (f : List ℕ) → s1.images f → IsFileOf f log.records) c.self.view_is
          (all_durable (log_of j) s0 (body_of bytes) belongs c.in_default.is c.self.invariant.fit group is s1 c.in-Ok.ensures.durable);
      written =
          subst (λ (log : Log). WritesGroup log s0 s1) c.self.view_is
          (λ _. subst (λ (b : List ℕ). CarriesGroup j.mark j.place b s0 s1) (c.bytes-bytes.ensures ∙ c.self.invariant.pending) c.in-Ok.ensures.contents);
    }

pub returns-in-Err : goal.returns-in-Err
returns-in-Err g c =
    let s0 = g.D.Disk.state c.args.disk.now in
    let s1 = g.D.Disk.state c.write_commit.new.disk in
    let j = c.self.inside in
    let bytes = c.bytes-bytes.result.now in
    let belongs = subst (λ (log : Log). Belongs log s0) (sym c.self.view_is) c.requires in
    let fits : length c.self.inside.pending < 2 ^ 64 = search rules in
    let group = pending_group j c.self.invariant fits (not_all j c.args.self.now c.count-count.result c.self.view_is c.count-count.ensures c.if-self-count.false) in
    let is = ap body_of (c.bytes-bytes.ensures ∙ c.self.invariant.pending) in
    let runs : c.args.self.now.stopped ≡ None = sym (ap (λ (l : Log). l.stopped) c.self.view_is) ∙ c.in_default.is in
    let other : c.args.self.now.stable ≡ length c.args.self.now.records → ⊥ = λ all. c.if-self-count.false (ap (λ (l : Log). l.stable) c.self.view_is ∙ all ∙ sym c.count-count.ensures) in record {
      belongs = belongs_stopped (log_of j) s0 (body_of bytes) belongs c.in_default.is c.self.invariant.fit group is s1 _ c.faults.result refl c.in-Err.ensures.keeps c.in-Err.ensures.any_moment (λ held model told. g.met.D.Disk.reads_as_image c.write_commit.new.disk held model told) c.self.invariant.inside;
      ok = tt;
      fault = (runs, stopped_log (log_of j) c.args.self.now c.faults.result s1.faults c.self.view_is c.faults.ensures, c.in-Err.ensures.cause.failed);
      keeps = c.in-Err.ensures.keeps;
      later = c.in-Err.ensures.cause.later;
      nothing = λ _ all. absurd (other all);
      idle = not_idle _ _ _ runs other;
      any_moment =
          subst (λ (log : Log). IsModelled s0 → LeavesOnly s0 s1 (BeforeOrAll log)) c.self.view_is
          (commit_moments (log_of j) s0 (body_of bytes) belongs c.in_default.is c.self.invariant.fit group is s1 c.in-Err.ensures.any_moment);
      durable = tt;
      written = tt;
    }

pub invariant_of-self-in-Err : goal.invariant_of-self-in-Err
invariant_of-self-in-Err g c =
    let sound = c.self.invariant in
    record { fit = sound.fit; some = sound.some; stable = sound.stable; pending = sound.pending; starts = sound.starts; each_start = sound.each_start; place = sound.place; header = sound.header; as_many = sound.as_many; inside = sound.inside; behind = sound.behind }

pub overflow_add-self : goal.overflow_add-self
overflow_add-self g c = omega (arith, length-body c.bytes-bytes.result.now, c.in-Ok.ensures.fits)

pub overflow_add-self-in-Ok : goal.overflow_add-self-in-Ok
overflow_add-self-in-Ok g c = omega (arith, length-body c.bytes-bytes.result.now, c.in-Ok.ensures.fits)

pub invariant_of-self : goal.invariant_of-self
invariant_of-self g c =
    let j = c.self.inside in
    let total = records_count j c.self.invariant in
    let count : c.count-count.result ≡ length (records_of j) = c.count-count.ensures ∙ sym (ap (λ (l : Log). length l.records) c.self.view_is) in
    record {
      fit = c.self.invariant.fit;
      some = omega (arith, count, total, c.self.invariant.some, c.self.invariant.stable);
      stable = omega (arith, count, total);
      pending = c.truncate.ensures ∙ sym (ap records_bytes (drop_all c.count-count.result (records_of j) (omega (arith, count))));
      starts = omega (arith, ap length c.clear.ensures.items, count, total);
      each_start = λ k below. absurd (omega (arith, below, ap length c.clear.ensures.items));
      place = omega (arith, c.in-Ok.ensures.fits, length-body c.bytes-bytes.result.now);
      header = omega (arith, c.self.invariant.header);
      as_many = c.self.invariant.as_many;
      inside = λ at content has.
          committed_inside j c.self.invariant c.count-count.result _ count (omega (arith, ap length (c.bytes-bytes.ensures ∙ c.self.invariant.pending))) at content has;
      behind =
          drop_all c.count-count.result (places_of j) (omega (arith, count, places_count j c.self.invariant))
          ∙ sym (ap (content_places _) (drop_all c.count-count.result (records_of j) (omega (arith, count))));
    }
