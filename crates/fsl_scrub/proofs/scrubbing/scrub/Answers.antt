use Rattle.std.proofs.Common.{◌≡◌, ◌<◌, List, Some, ap, inl, inr, map, refl, subst, sym, ◌∙◌, arith, rules}
use Rattle.std.specs.Prelude.{◌^◌}
use Rattle.fsl_disk.specs.Disk.{LeavesOnly, Only, IsModelled, Told}
use Rattle.fsl_disk.proofs.Moments.{keeps_on, modelled_after, quiet_call}
use Rattle.fsl_journal.specs.Log.{WhereEmpty}
use Rattle.fsl_blobs.specs.declared.Placed.{Placed}
use Rattle.fsl_blobs.proofs.ContentLemmas.{quiet-same}
use Rattle.fsl_record.specs.declared.Record.{Record}
use Rattle.std.proofs.lemmas.List.{nil_from_length}
use Rattle.fsl_scrub.specs.Closing.{IsOfLength, IsOfWriting, ScrubFailed, UnopenedOr, WasEmpty, WritesWhole}
use Rattle.fsl_scrub.specs.Scrubbed.{file_text, scrubbed}
use Rattle.fsl_scrub.specs.declared.faults.ScrubFault.{ScrubFault}
use Rattle.fsl_scrub.specs.declared.faults.ScrubFault.TheVariants as scrub_fault
use Rattle.fsl_scrub.proofs.ClosingLemmas.{count_held, count_shuns, group_scrubbed, look_moments, look_on, of_writing, scrub_failed}
use Rattle.fsl_scrub.proofs.FoldLemmas.{file_stands, scrubbed_are_records, text_stands}
use Rattle.fsl_scrub.proofs.Ends.{error_with, no_answer, no_success, same_fault}
use Rattle.fsl_scrub.proofs.ReadLemmas.{leaves_none}
use Rattle.fsl_scrub.proofs.WrittenLemmas.{all_same, text_size, where_honest, written_are_records}
use Rattle.fsl_scrub.proofs.scrubbing.scrub.Goals as goal

pub returns-in_err-len : goal.returns-in_err-len
returns-in_err-len g c =
    let s = c.args.repo.now.seen.state in
    let all = scrubbed s.records in
    let s0 = g.P.Disk.state c.args.spare.now in
    let s1 = g.P.Disk.state c.len.new.self in
    let quiet = quiet_call s0 s1 c.len.ensures.call c.len.ensures.contents in
    let moments = look_moments all s0 s1 quiet (λ model f left. g.met.P.Disk.only_now c.args.spare.now f model left) in
    let r = c.from_residual.result in
    let is = c.from_residual.ensures.1 in
    record {
      scrubbed = no_answer r _ is _;
      begun = inr (error_with r scrub_fault.Disk is (λ (f : ScrubFault). IsOfLength f s0 s1) c.in_err-len.ensures.cause.failed, quiet, refl);
      empty = no_success r _ is _;
      untouched = λ held told some. quiet;
      unread = λ held told some. refl;
      contents = no_success r _ is _;
      stands = no_success r _ is _;
      durable = no_success r _ is _;
      any_moment = λ _. moments;
      other = (all, all_same s.honest all, record { contents = no_success r _ is _; stands = no_success r _ is _; durable = no_success r _ is _; moments = moments });
      fault = same_fault r scrub_fault.Disk is (λ (f : ScrubFault). ScrubFailed f s s s0 s1) (inr (c.in_err-len.ensures.cause.failed, refl));
      count = no_success r _ is _;
      keeps = c.len.ensures.call.keeps;
      same = no_success r _ is _;
      state = leaves_none s;
      items = refl;
      loaded = refl;
      log = refl;
      quiet = quiet-same (g.D.Disk.state c.args.repo.now.disk);
    }

pub returns-then-len-ne0 : goal.returns-then-len-ne0
returns-then-len-ne0 g c =
    let s = c.args.repo.now.seen.state in
    let all = scrubbed s.records in
    let s0 = g.P.Disk.state c.args.spare.now in
    let s1 = g.P.Disk.state c.len.new.self in
    let quiet = quiet_call s0 s1 c.len.ensures.call c.len.ensures.contents in
    let moments = look_moments all s0 s1 quiet (λ model f left. g.met.P.Disk.only_now c.args.spare.now f model left) in
    record {
      scrubbed = tt;
      begun = inr ((omega arith, c.in_ok-len.ensures.answer.1, c.in_ok-len.ensures.cause.same), quiet, refl);
      empty = tt;
      untouched = λ held told some. quiet;
      unread = λ held told some. refl;
      contents = tt;
      stands = tt;
      durable = tt;
      any_moment = λ _. moments;
      other = (all, all_same s.honest all, record { contents = tt; stands = tt; durable = tt; moments = moments });
      fault = (omega arith, c.in_ok-len.ensures.answer.1, quiet, (refl, c.in_ok-len.ensures.cause.same));
      count = tt;
      keeps = c.len.ensures.call.keeps;
      same = tt;
      state = leaves_none s;
      items = refl;
      loaded = refl;
      log = refl;
      quiet = quiet-same (g.D.Disk.state c.args.repo.now.disk);
    }

pub returns-in_err-names : goal.returns-in_err-names
returns-in_err-names g c =
    let s = c.args.repo.now.seen.state in
    let all = scrubbed s.records in
    let s0 = g.P.Disk.state c.args.spare.now in
    let s1 = g.P.Disk.state c.len.new.self in
    let quiet = quiet_call s0 s1 c.len.ensures.call c.len.ensures.contents in
    let moments = look_moments all s0 s1 quiet (λ model f left. g.met.P.Disk.only_now c.args.spare.now f model left) in
    let r = c.from_residual-in_err-names.result in
    let is = c.from_residual-in_err-names.ensures.1 in
    let empty : WasEmpty s0 = λ held told. nil_from_length held (omega (arith, c.in_ok-len.ensures.answer.1 held told)) in
    record {
      scrubbed = no_answer r _ is _;
      begun = inl (empty, same_fault r scrub_fault.Memory is IsOfWriting tt);
      empty = no_success r _ is _;
      untouched = λ held told some. absurd (some (empty held told));
      unread = λ held told some. absurd (some (empty held told));
      contents = no_success r _ is _;
      stands = no_success r _ is _;
      durable = no_success r _ is _;
      any_moment = λ _. moments;
      other = (all, all_same s.honest all, record { contents = no_success r _ is _; stands = no_success r _ is _; durable = no_success r _ is _; moments = moments });
      fault = same_fault r scrub_fault.Memory is (λ (f : ScrubFault). ScrubFailed f s s s0 s1) (refl, c.in_ok-len.ensures.cause.same);
      count = no_success r _ is _;
      keeps = c.len.ensures.call.keeps;
      same = no_success r _ is _;
      state = leaves_none s;
      items = refl;
      loaded = refl;
      log = refl;
      quiet = quiet-same (g.D.Disk.state c.args.repo.now.disk);
    }

pub returns-in_err-shuns : goal.returns-in_err-shuns
returns-in_err-shuns g c =
    let s = c.args.repo.now.seen.state in
    let all = scrubbed s.records in
    let s0 = g.P.Disk.state c.args.spare.now in
    let s1 = g.P.Disk.state c.len.new.self in
    let quiet = quiet_call s0 s1 c.len.ensures.call c.len.ensures.contents in
    let moments = look_moments all s0 s1 quiet (λ model f left. g.met.P.Disk.only_now c.args.spare.now f model left) in
    let r = c.from_residual-in_err-shuns.result in
    let is = c.from_residual-in_err-shuns.ensures.1 in
    let empty : WasEmpty s0 = λ held told. nil_from_length held (omega (arith, c.in_ok-len.ensures.answer.1 held told)) in
    record {
      scrubbed = no_answer r _ is _;
      begun = inl (empty, same_fault r scrub_fault.Memory is IsOfWriting tt);
      empty = no_success r _ is _;
      untouched = λ held told some. absurd (some (empty held told));
      unread = λ held told some. absurd (some (empty held told));
      contents = no_success r _ is _;
      stands = no_success r _ is _;
      durable = no_success r _ is _;
      any_moment = λ _. moments;
      other = (all, all_same s.honest all, record { contents = no_success r _ is _; stands = no_success r _ is _; durable = no_success r _ is _; moments = moments });
      fault = same_fault r scrub_fault.Memory is (λ (f : ScrubFault). ScrubFailed f s s s0 s1) (refl, c.in_ok-len.ensures.cause.same);
      count = no_success r _ is _;
      keeps = c.len.ensures.call.keeps;
      same = no_success r _ is _;
      state = leaves_none s;
      items = refl;
      loaded = refl;
      log = refl;
      quiet = quiet-same (g.D.Disk.state c.args.repo.now.disk);
    }

pub write_file-requires : goal.write_file-requires
write_file-requires g c = λ held told. nil_from_length held (omega (arith, c.in_ok-len.ensures.answer.1 held (sym c.len.ensures.contents ∙ told)))

pub returns-in_err-end : goal.returns-in_err-end
returns-in_err-end g c =
    let s = c.args.repo.now.seen.state in
    let all = scrubbed s.records in
    let s0 = g.P.Disk.state c.args.spare.now in
    let s1 = g.P.Disk.state c.len.new.self in
    let s2 = g.P.Disk.state c.write_file.new.spare in
    let r = c.from_residual-in_err-end.result in
    let is = c.from_residual-in_err-end.ensures.1 in
    let group = group_scrubbed s.records c.items.result.now c.items-2.result.now (ap (map (λ (p : Placed). (p.place, p.name))) c.items.ensures ∙ c.in_ok-names.ensures) (c.items-2.ensures ∙ c.in_ok-shuns.ensures) in
    let whole = subst (λ (l : List Record). WritesWhole s l s1 s2 c.write_file.result) group c.write_file.ensures.writes in
    let done = rw c.in_err-end.was at whole in
    let w = done.2 in
    let reads = rw c.in_err-end.was at c.write_file.ensures.reads in
    let moments = look_on done.0 s0 s1 (quiet_call s0 s1 c.len.ensures.call c.len.ensures.contents) (λ model f left. g.met.P.Disk.only_now c.args.spare.now f model left) s2 w.moments in
    let empty : WasEmpty s0 = λ held told. nil_from_length held (omega (arith, c.in_ok-len.ensures.answer.1 held told)) in
    record {
      scrubbed = no_answer r _ is _;
      begun = inl (empty, same_fault r _ is IsOfWriting (of_writing _));
      empty = no_success r _ is _;
      untouched = λ held told some. absurd (some (empty held told));
      unread = λ held told some. absurd (some (empty held told));
      contents = no_success r _ is _;
      stands = no_success r _ is _;
      durable = no_success r _ is _;
      any_moment = where_honest s all done.0 (λ (l : List Record). WhereEmpty s0 (LeavesOnly s0 s2 (UnopenedOr l))) done.1 moments;
      other = (done.0, done.1, record { contents = no_success r _ is _; stands = no_success r _ is _; durable = no_success r _ is _; moments = moments });
      fault = same_fault r _ is (λ (f : ScrubFault). ScrubFailed f s c.write_file.new.repo.seen.state s0 s2) (scrub_failed _ s c.write_file.new.repo.seen.state s0 s1 s2 c.in_ok-len.ensures.cause.same reads.failed w.failed);
      count = no_success r _ is _;
      keeps = keeps_on s0 s1 s2 c.len.ensures.call.keeps w.keeps;
      same = no_success r _ is _;
      state = reads.state;
      items = reads.items;
      loaded = reads.loaded;
      log = reads.log;
      quiet = reads.quiet;
    }

pub returns : goal.returns
returns g c =
    let s = c.args.repo.now.seen.state in
    let all = scrubbed s.records in
    let s0 = g.P.Disk.state c.args.spare.now in
    let s1 = g.P.Disk.state c.len.new.self in
    let s2 = g.P.Disk.state c.write_file.new.spare in
    let group = group_scrubbed s.records c.items.result.now c.items-2.result.now (ap (map (λ (p : Placed). (p.place, p.name))) c.items.ensures ∙ c.in_ok-names.ensures) (c.items-2.ensures ∙ c.in_ok-shuns.ensures) in
    let whole = subst (λ (l : List Record). WritesWhole s l s1 s2 c.write_file.result) group c.write_file.ensures.writes in
    let done = rw c.in_ok-end.was at whole in
    let w = done.2 in
    let reads = rw c.in_ok-end.was at c.write_file.ensures.reads in
    let moments = look_on done.0 s0 s1 (quiet_call s0 s1 c.len.ensures.call c.len.ensures.contents) (λ model f left. g.met.P.Disk.only_now c.args.spare.now f model left) s2 w.moments in
    let small : c.in_ok-end.end < 2 ^ 64 = search rules in
    let are = c.is_whole.ensures.seen.records in
    let len = w.len ∙ text_size s.honest all done.0 done.1 in
    let contents : Told s0 (λ _. s2.contents ≡ Some (file_text done.0)) = λ held told. w.contents held (c.len.ensures.contents ∙ told) in
    let durable : IsModelled s0 → Only (file_text done.0) s2.images = λ modelled. w.durable (modelled_after s0 s1 c.len.ensures.call.keeps modelled) in
    let empty : WasEmpty s0 = λ held told. nil_from_length held (omega (arith, c.in_ok-len.ensures.answer.1 held told)) in
    record {
      scrubbed = record { blobs = count_held s.records c.items-3.result.now (ap (map (λ (p : Placed). (p.place, p.name))) c.items-3.ensures ∙ c.in_ok-names.ensures); shuns = count_shuns s.records c.items-4.result.now (c.items-4.ensures ∙ c.in_ok-shuns.ensures); len = len };
      begun = inl (empty, tt);
      empty = empty;
      untouched = λ held told some. absurd (some (empty held told));
      unread = λ held told some. absurd (some (empty held told));
      contents = where_honest s all done.0 (λ (l : List Record). Told s0 (λ _. s2.contents ≡ Some (file_text l))) done.1 contents;
      stands = file_stands s.records c.in_ok-end.end are len small;
      durable = where_honest s all done.0 (λ (l : List Record). IsModelled s0 → Only (file_text l) s2.images) done.1 durable;
      any_moment = where_honest s all done.0 (λ (l : List Record). WhereEmpty s0 (LeavesOnly s0 s2 (UnopenedOr l))) done.1 moments;
      other = (done.0, done.1, record { contents = contents; stands = text_stands done.0 c.in_ok-end.end (written_are_records s.honest all done.0 (scrubbed_are_records s.records are) done.1) w.len small; durable = durable; moments = moments });
      fault = tt;
      count = w.same ∙ c.in_ok-len.ensures.cause.same;
      keeps = keeps_on s0 s1 s2 c.len.ensures.call.keeps w.keeps;
      same = reads.same;
      state = reads.state;
      items = reads.items;
      loaded = reads.loaded;
      log = reads.log;
      quiet = reads.quiet;
    }
