use Rattle.std.proofs.Common.{inl, ◌∙◌, sym, ap, subst, arith, List}
use Rattle.fsl_disk.proofs.Moments.{quiet_call, quiet_on, quiet_moments}
use Rattle.fsl_order.specs.Causes.{Rose}
use Rattle.fsl_record.specs.declared.Record.{Record}
use Rattle.fsl_journal.specs.File.{IsFileOf}
use Rattle.fsl_journal.specs.Log.{Log, IsBetween, StandsBetween}
use Rattle.fsl_journal.specs.Places.{AreNumbered, IsPlacedFile}
use Rattle.fsl_journal.specs.Reading.{records_of, places_of}
use Rattle.fsl_journal.proofs.Ends.{no_answer, no_success, same_fault}
use Rattle.fsl_journal.proofs.Standing.{numbered_length}
use Rattle.fsl_journal.proofs.Grouping.{of_before}
use Rattle.fsl_journal.proofs.Opening.{LoadRun, placed_inside, all_keeps, is_loaded, records_between, load_moments, cut_held, belongs_loaded, loaded_durable, load_failed, load_stays, not_refused, harmless_moments, harmless_quiet, spared}
use Rattle.fsl_journal.proofs.journal.Journal.load_into.Goals as goal

pub returns-in_err-sync : goal.returns-in_err-sync
returns-in_err-sync g c =
    let r = c.from_residual.result in
    let is = c.from_residual.ensures.1 in
    let s0 = g.D.Disk.state c.args.disk.now in
    let s1 = g.D.Disk.state c.sync.new.self in
    let quiet = quiet_call s0 s1 c.sync.ensures.call c.sync.ensures.contents in record {
      loaded = no_answer r _ is _;
      places = no_answer r _ is _;
      sound = no_success r _ is _;
      numbered = no_answer r _ is _;
      stands = no_answer r _ is _;
      cut = no_answer r _ is _;
      belongs = no_answer r _ is _;
      count = no_success r _ is _;
      fault = same_fault r _ is _ c.in_err-sync.ensures.cause.failed;
      keeps = c.sync.ensures.call.keeps;
      refused = λ held told at fails. quiet;
      any_moment = λ modelled low high between. quiet_moments s0 s1 (StandsBetween low high) quiet modelled.model (λ f left. g.met.D.Disk.only_now c.args.disk.now f modelled.model left) between;
      harmless = λ modelled. harmless_quiet s0 s1 quiet modelled (λ f left. g.met.D.Disk.only_now c.args.disk.now f modelled.model left);
      spared = inl c.sync.ensures.contents;
      between = no_answer r _ is _;
      durable = no_answer r _ is _;
      stays = same_fault r _ is _ (λ at other. absurd (cc));
    }

pub returns-in_err-found : goal.returns-in_err-found
returns-in_err-found g c =
    let r = c.from_residual-in_err-found.result in
    let is = c.from_residual-in_err-found.ensures.1 in
    let s0 = g.D.Disk.state c.args.disk.now in
    let s1 = g.D.Disk.state c.sync.new.self in
    let s2 = g.D.Disk.state c.read_file.new.disk in
    let quiet = quiet_on s0 s1 s2 (quiet_call s0 s1 c.sync.ensures.call c.sync.ensures.contents) c.read_file.ensures.quiet in
    let failed = load_failed c.in_err-found.field-0.0 s0 s1 s2 quiet c.sync.ensures.contents c.in_ok-sync.ensures.cause.same c.in_err-found.ensures.fault in record {
      loaded = no_answer r _ is _;
      places = no_answer r _ is _;
      sound = no_success r _ is _;
      numbered = no_answer r _ is _;
      stands = no_answer r _ is _;
      cut = no_answer r _ is _;
      belongs = no_answer r _ is _;
      count = no_success r _ is _;
      fault = same_fault r _ is _ failed;
      keeps = quiet.keeps;
      refused = λ held told at fails. quiet;
      any_moment = λ modelled low high between. quiet_moments s0 s2 (StandsBetween low high) quiet modelled.model (λ f left. g.met.D.Disk.only_now c.args.disk.now f modelled.model left) between;
      harmless = λ modelled. harmless_quiet s0 s2 quiet modelled (λ f left. g.met.D.Disk.only_now c.args.disk.now f modelled.model left);
      spared = inl quiet.contents;
      between = no_answer r _ is _;
      durable = no_answer r _ is _;
      stays = same_fault r _ is _ (load_stays c.in_err-found.field-0.0 s0 s2 failed (λ held model told. g.met.D.Disk.reads_as_image c.args.disk.now held model told));
    }

pub resumed-requires : goal.resumed-requires
resumed-requires g c =
    let found = c.in_ok-found.found in
    let file = c.in_ok-found.ensures.ok in record {
      fit = file.2.log.file.fit;
      place = omega (arith, c.in_ok-found.ensures.inside, c.in_ok-found.ensures.len.0);
      header = omega (arith, file.2.log.at);
      as_many = numbered_length (records_of found) (places_of found) file.2.placed.numbered;
      inside = λ at content has. placed_inside (records_of found) (places_of found) found.place file.0 file.2.inside file.2.placed at content has;
    }

pub returns-in-Err : goal.returns-in-Err
returns-in-Err g c =
    let s0 = g.D.Disk.state c.args.disk.now in
    let s1 = g.D.Disk.state c.sync.new.self in
    let s2 = g.D.Disk.state c.read_file.new.disk in
    let s3 = g.D.Disk.state c.cut_behind.new.disk in
    let found = c.in_ok-found.found in
    let records = records_of found in
    let places = places_of found in
    let read = c.in_ok-found.ensures.ok in
    let file = read.0 in
    let run : LoadRun s0 s1 s2 s3 file records places found.mark found.place = record {
      sync = c.sync.ensures.call;
      same = c.sync.ensures.contents;
      durable = c.in_ok-sync.ensures.durable;
      quiet = c.read_file.ensures.quiet;
      read = read.1;
      log = read.2.log;
      placed = read.2.placed;
      cut = c.cut_behind.ensures.call;
    } in record {
      loaded = tt;
      places = tt;
      sound = tt;
      numbered = tt;
      stands = tt;
      cut = tt;
      belongs = tt;
      count = tt;
      fault = subst (λ n. Rose n s3.faults) (c.in_ok-found.ensures.count ∙ c.in_ok-sync.ensures.cause.same) c.in-Err.ensures.cause.failed;
      keeps = all_keeps s0 s1 s2 s3 file records places found.mark found.place run;
      refused = λ held told. not_refused _ records found.mark found.place file held run.log (read.1 held (c.sync.ensures.contents ∙ told));
      any_moment = λ modelled.
          load_moments s0 s1 s2 s3 file records places found.mark found.place run modelled
          (λ held told. g.met.D.Disk.reads_as_image c.args.disk.now held modelled.model told) (λ f left. g.met.D.Disk.only_now c.args.disk.now f modelled.model left);
      harmless = λ modelled. harmless_moments s0 s1 s2 s3 file records places found.mark found.place run modelled (λ f left. g.met.D.Disk.only_now c.args.disk.now f modelled.model left);
      spared = spared s0 s1 s2 s3 file records places found.mark found.place run (λ held model told. g.met.D.Disk.reads_as_image c.cut_behind.new.disk held model told);
      between = tt;
      durable = tt;
      stays = λ at other. absurd (cc);
    }

pub returns-in-Ok : goal.returns-in-Ok
returns-in-Ok g c =
    let s0 = g.D.Disk.state c.args.disk.now in
    let s1 = g.D.Disk.state c.sync.new.self in
    let s2 = g.D.Disk.state c.read_file.new.disk in
    let s3 = g.D.Disk.state c.cut_behind.new.disk in
    let found = c.in_ok-found.found in
    let records = records_of found in
    let places = places_of found in
    let read = c.in_ok-found.ensures.ok in
    let file = read.0 in
    let taken = c.in_ok-found.ensures.taken in
    let all = g.T.Taker.taken c.read_file.new.taker in
    let starts = g.T.Taker.starts c.read_file.new.taker in
    let journal = c.resumed.result in
    let run : LoadRun s0 s1 s2 s3 file records places found.mark found.place = record {
      sync = c.sync.ensures.call;
      same = c.sync.ensures.contents;
      durable = c.in_ok-sync.ensures.durable;
      quiet = c.read_file.ensures.quiet;
      read = read.1;
      log = read.2.log;
      placed = read.2.placed;
      cut = c.cut_behind.ensures.call;
    } in record {
      loaded = is_loaded journal records all places found.mark found.place c.resumed.ensures taken.records run.log.file.fit;
      places = (
        ap (λ (l : Log). l.places) c.resumed.ensures ∙ sym taken.places,
        subst (λ (rs : List Record). AreNumbered rs starts) (sym taken.records) (subst (AreNumbered records) (sym taken.places) run.placed.numbered),
      );
      sound = c.in_ok-found.ensures.sound;
      numbered = of_before s0 s1 _ c.sync.ensures.contents (
        file,
        read.1,
        subst (λ (rs : List Record). IsPlacedFile file rs starts) (sym taken.records) (subst (IsPlacedFile file records) (sym taken.places) read.2.numbered),
      );
      stands = of_before s0 s1 _ c.sync.ensures.contents (file, read.1, subst (λ (rs : List Record). IsFileOf file rs) (sym taken.records) run.log.file);
      cut = cut_held s0 s1 s2 s3 file records places found.mark found.place run journal c.resumed.ensures c.in-Ok.ensures.cut;
      belongs = belongs_loaded s0 s1 s2 s3 file records places found.mark found.place run journal c.resumed.ensures c.in-Ok.ensures.cut;
      count = c.in-Ok.ensures.cause.same ∙ c.in_ok-found.ensures.count ∙ c.in_ok-sync.ensures.cause.same;
      fault = tt;
      keeps = all_keeps s0 s1 s2 s3 file records places found.mark found.place run;
      refused = λ held told. not_refused _ records found.mark found.place file held run.log (read.1 held (c.sync.ensures.contents ∙ told));
      any_moment = λ modelled.
          load_moments s0 s1 s2 s3 file records places found.mark found.place run modelled
          (λ held told. g.met.D.Disk.reads_as_image c.args.disk.now held modelled.model told) (λ f left. g.met.D.Disk.only_now c.args.disk.now f modelled.model left);
      harmless = λ modelled. harmless_moments s0 s1 s2 s3 file records places found.mark found.place run modelled (λ f left. g.met.D.Disk.only_now c.args.disk.now f modelled.model left);
      spared = spared s0 s1 s2 s3 file records places found.mark found.place run (λ held model told. g.met.D.Disk.reads_as_image c.cut_behind.new.disk held model told);
      between = λ modelled low high between.
          subst (λ (rs : List Record). IsBetween low high rs) (sym taken.records)
          (records_between s0 s1 s2 s3 file records places found.mark found.place run modelled (λ held told. g.met.D.Disk.reads_as_image c.args.disk.now held modelled.model told) low high between);
      durable = λ modelled f left. subst (λ (rs : List Record). IsFileOf f rs) (sym taken.records) (loaded_durable s0 s1 s2 s3 file records places found.mark found.place run modelled f left);
      stays = tt;
    }
