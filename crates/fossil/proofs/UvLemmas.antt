-- What the commands of unversioned files did.
use Rattle.std.proofs.Common.{◌≡◌, ◌≢◌, ◌⊎◌, inl, inr, ℕ, ◌+◌, ◌<◌, ◌≤◌, ◌^◌, Bool, true, false, List, [], ◌∷◌, ◌++◌, length, take, map, Option, Some, None, Result, Ok, Err, IfOk, IsTrue, refl, sym, ap, subst, ◌∙◌, arith, length-append, codes}
use Rattle.std.specs.Prelude.{nat_lt, is_some, decimal, if◌then◌else◌}
use Rattle.std.proofs.Math.Nat.{eq-or-lt_of_le}
use Rattle.std.proofs.lemmas.List.{append-nil}
use Rattle.std.specs.Io.KnownBytes.{IsAtEnd}
use Rattle.fsl_order.specs.Causes.{Rose}
use Rattle.fsl_order.specs.Maps.{value_at}
use Rattle.fsl_text.specs.Escapes.{escape}
use Rattle.fsl_text.specs.declared.memory.Memory.{Memory}
use Rattle.fsl_outside.specs.Streams.{SourceState}
use Rattle.fsl_record.specs.declared.Record.{Record}
use Rattle.fsl_disk.specs.Disk.{DiskState, IsModelled, Told, Keeps, LeavesOnly}
use Rattle.fsl_journal.specs.File.{IsFileOf}
use Rattle.fsl_journal.specs.Log.{Log, BeforeOrAll}
use Rattle.fsl_journal.specs.Journal.{Belongs, Committed, CommitFailed, IsSpared, OfBytes}
use Rattle.fsl_journal.specs.declared.CommitFault.{CommitFault}
use Rattle.fsl_journal.specs.declared.CommitFault.TheVariants as commit_fault
use Rattle.fsl_journal.specs.declared.LoadFault.{LoadFault}
use Rattle.fsl_journal.specs.declared.LoadFault.TheVariants as load_fault
use Rattle.fsl_journal.proofs.Unique.{one_file}
use Rattle.fsl_uv.specs.declared.Entry.{Entry}
use Rattle.fsl_uv.specs.declared.Put.{Put}
use Rattle.fsl_uv.specs.declared.Put.TheVariants as put_is
use Rattle.fsl_uv.specs.declared.UvFault.{UvFault}
use Rattle.fsl_uv.specs.declared.UvFault.TheVariants as uv_fault
use Rattle.fsl_uv.specs.declared.UvLoadFault.{UvLoadFault}
use Rattle.fsl_uv.specs.declared.UvLoadFault.TheVariants as uv_load_fault
use Rattle.fsl_uv.specs.Entries.{Version, content}
use Rattle.fsl_uv.specs.Maps.{is_over, total}
use Rattle.fsl_uv.specs.Syncing.{is_kept, with_entry}
use Rattle.fsl_uv.specs.Stores as stores
use Rattle.fsl_uv.specs.Stores.{Seen, Whole, IsStore, IsUv, IsNoEntry, IsSettled, OpenFailed, IsCutAtMost, blob_of, running_put, unless_stopped, after_put}
use Rattle.fsl_uv.specs.Reports as report
use Rattle.fsl_uv.specs.Reports.{Said, Done, says, file_in, list_done, cat_done, put_done, add_done, remove_done, not_unversioned}
use Rattle.fsl_uv.proofs.OneMap.{records_read_one_way}
use Rattle.fsl_words.specs.declared.Command.{Command}
use Rattle.fsl_words.specs.declared.Command.TheVariants as command_of
use Rattle.fsl_words.specs.declared.Unversioned.{Unversioned}
use Rattle.fsl_words.specs.declared.Unversioned.TheVariants as uv
use Rattle.fsl_repo.specs.Whole.{is_modelled}
use Rattle.fossil.specs.Due.{Due, IsNotLoadedDue}
use Rattle.fossil.specs.declared.answers.fault.Fault.{Fault}
use Rattle.fossil.specs.declared.answers.fault.Fault.TheVariants as fault_is
use Rattle.fossil.specs.Printed.{Printed, too_long}
use Rattle.fossil.specs.Unversioned.{said_printed}
use Rattle.fossil.specs.UvUses.{uv_use}
use Rattle.fossil.specs.Uses.{command_opens, command_meets}
use Rattle.fossil.specs.UvCalls.{loaded_store, IsNoStoreDue, IsPutAnswer, IsPutDone, HasPut, putting, IsPutDue, IsToldAs}
use Rattle.fossil.specs.Outcome.{Outcome, with_commit, uv_outcome, IsUvOf, IsUvOutcome, IsLoaded, IsSaidOutcome}
use Rattle.fossil.specs.Run.{Input, IsInputSteady, Clock, File, Agrees, reads, TakesMoment, TakesOne, IsTimed, IsJust}
use Rattle.fossil.specs.Acts.{ActsBy, HasActed, IsTimedBy, IsCaused, IsOpened, IsUnopened, IsNotLoaded, IsInput, KeepsContents, KeepsUnreadable}
use Rattle.fossil.proofs.InputLemmas.{some_bytes}
use Rattle.fossil.proofs.FileLemmas.{both, Loads, agrees, loaded_left, loaded_touches, loaded_durable}
use Rattle.fossil.proofs.LoadLemmas.{KeepsBetween, opened, images_kept, same_contents, spared_contents}
use Rattle.fossil.proofs.CommitLemmas.{idle_just}
use Rattle.fossil.proofs.ActLemmas.{still, none_due, not_loaded_acted}
use Rattle.fossil.proofs.AppendLemmas.{IsPlain, IsAppended, memory_acted, idle_acted, IsSettledOn}

abbrev Map : Type 0
Map = List (List ℕ × Version)

abbrev asks : Unversioned → Option Command
asks asked = Some (command_of.Unversioned asked)

-- ---- which commands load a file

pub add_loads : (path : List ℕ) → Loads (asks (uv.Add path))
add_loads path = record { opened = refl; begun = λ begun. cc; old = λ old bytes are. are; refused = λ bytes refused. refused; fails = λ honest read moment bytes at fails. inl (at, fails, refl); alone = refl; due = λ read bytes due. (due.0.1.0, due.0.1.1) }

pub remove_loads : (path : List ℕ) → Loads (asks (uv.Remove path))
remove_loads path = record { opened = refl; begun = λ begun. cc; old = λ old bytes are. are; refused = λ bytes refused. refused; fails = λ honest read moment bytes at fails. inl (at, fails, refl); alone = refl; due = λ read bytes due. (due.1.0, due.1.1) }

pub list_loads : Loads (asks uv.List)
list_loads = record { opened = refl; begun = λ begun. cc; old = λ old bytes are. are; refused = λ bytes refused. refused; fails = λ honest read moment bytes at fails. inl (at, fails, refl); alone = refl; due = λ read bytes due. absurd due }

pub cat_loads : (path : List ℕ) → Loads (asks (uv.Cat path))
cat_loads path = record { opened = refl; begun = λ begun. cc; old = λ old bytes are. are; refused = λ bytes refused. refused; fails = λ honest read moment bytes at fails. inl (at, fails, refl); alone = refl; due = λ read bytes due. absurd due }

pub putting_loads : (path : List ℕ) (bytes : Option (List ℕ)) → Loads (asks (putting path bytes))
putting_loads path (Some content) = add_loads path
putting_loads path None = remove_loads path

-- ---- a file that was opened as a store

pub store_opened : {D : Type 0} (file left : DiskState) (s : Whole D) → stores.IsOpened file left s.seen → IsStore left s.seen → KeepsBetween file left → Keeps file left → IsOpened file left (loaded_store s)
store_opened file left s is store between keeps = opened file left s.seen.log s.seen.log.records is.loaded is.stands store.belongs (loaded_store s) refl refl refl between keeps is.faults

-- ---- a file that wasn't

cut_contents : (file left : DiskState) → IsCutAtMost file left → KeepsContents file left
cut_contents file left cut = by cut.contents
  where
    by : ((left.contents ≡ file.contents) ⊎ ((records : List Record) × (place : ℕ) × OfBytes file (λ bytes. IsFileOf bytes records)
        × Told file (λ held. left.contents ≡ Some (take (place + 1) held)) × Told left (λ held. IsFileOf held records))) → KeepsContents file left
    by (inl same) = same_contents file left same
    by (inr cut) = λ bytes told old are held left_told.
        let same : cut.0 ≡ old = one_file bytes cut.0 old (subst (λ (b : List ℕ). IsFileOf b cut.0) (cut.2.1 bytes told) cut.2.2) are in
        subst (λ (rs : List Record). IsFileOf held rs) same (cut.4 held left_told)

-- ---- a file whose Blobs aren't all entries

module _ (asked : Unversioned) (loads : Loads (asks asked)) (entry : (honest : Bool) (read : List ℕ) (moment : ℕ) (bytes : List ℕ) (name : List ℕ) (records : List Record) → IsFileOf bytes records → IsNoEntry records name
    → IsSaidOutcome honest (asks asked) read moment bytes (uv_outcome (says (not_unversioned name)))) (unasked : (read bytes : List ℕ) (records : List Record) (name : List ℕ) → IsFileOf bytes records → IsNoEntry records name → TakesMoment (asks asked) read bytes → ⊥)
    (source : SourceState) (clock : Option (List ℕ)) (file left : DiskState) (file_reads : (held : List ℕ) → IsTrue left.is_model → left.contents ≡ Some held → left.images held) (spared : IsSpared file left) (unreadable : KeepsUnreadable file left) (between : KeepsBetween file left) (keeps : Keeps file left) where
  abbrev input : Input
  input = record { before = source; after = source }

  abbrev Acted : Due → Type 0
  Acted result = HasActed (asks asked) input (still clock) (both file left) result

  unopened : (fault : LoadFault) → IsNotLoaded fault file left → (fault ≢ load_fault.Disk → KeepsContents file left) → (fault ≢ load_fault.Disk → left.faults ≡ file.faults) → IsUnopened file left fault
  unopened fault cause contents faults = record { cause = cause; contents = contents; faults = faults; modelled = spared_contents file left spared; unreadable = unreadable; any_moment = images_kept file left between; keeps = keeps }

  loaded_acted : (fault : LoadFault) (result : Due) → IsUnopened file left fault → IsNotLoadedDue fault result → Acted result
  loaded_acted fault result un is = not_loaded_acted (asks asked) loads source clock file left file_reads fault result un is

  memory : (result : Due) → IsCutAtMost file left → result ≡ Err fault_is.Memory → Acted result
  memory result cut is = loaded_acted load_fault.Memory result (unopened load_fault.Memory tt (λ other. cut_contents file left cut) (λ other. cut.faults)) is

  no_entry : (name : List ℕ) → OpenFailed (uv_load_fault.NotEntry name) file left → Acted (Ok (said_printed (not_unversioned name)))
  no_entry name failed =
      let read = some_bytes source.left in
      let o = uv_outcome (says (not_unversioned name)) in
      let bytes = failed.2.0 in (
        read.0,
        0,
        bytes,
        o,
        record {
          input_told = read.1;
          file_told = agrees file.contents bytes failed.2.1;
          outcome = entry (is_modelled file) read.0 0 bytes name failed.1 failed.2.2 failed.3;
          answer = refl;
          plain = omega arith;
          cause = tt;
          end = λ z. absurd (cc);
          contents = loaded_left (asks asked) loads file left bytes o 3 (λ done. absurd (cc)) (cut_contents file left failed.0);
          touches = loaded_touches (asks asked) loads file left bytes o unreadable (images_kept file left between) keeps;
          durable = λ last. loaded_durable (asks asked) loads file left bytes o refl failed.1 failed.2.2 failed.4;
          trimmed = λ last. absurd (cc);
          spared = λ nine begun. absurd (loads.begun begun);
          steady = λ other. failed.0.faults;
          input_steady = λ other. refl;
        },
        none_due (asks asked) clock true read.0 0 bytes (unasked read.0 bytes failed.1 name failed.2.2 failed.3),
      )

  pub no_store_acted : (fault : UvLoadFault) (result : Due) → OpenFailed fault file left → IsNoStoreDue fault result → Acted result
  no_store_acted uv_load_fault.Disk result failed is = loaded_acted load_fault.Disk result (unopened load_fault.Disk failed (λ other. absurd (other refl)) (λ other. absurd (other refl))) is
  no_store_acted (uv_load_fault.NotRepository at) result failed is =
      loaded_acted (load_fault.NotRepository at) result (unopened (load_fault.NotRepository at) failed.2 (λ other. same_contents file left failed.0.contents) (λ other. failed.0.faults)) is
  no_store_acted (uv_load_fault.NotEntry name) result failed (inl is) = subst Acted (sym is) (no_entry name failed)
  no_store_acted (uv_load_fault.NotEntry name) result failed (inr is) = memory result failed.0 is
  no_store_acted uv_load_fault.Memory result failed is = memory result failed is

-- ---- outcomes by records

pub no_entry_of : (does : Map → Done) (bytes : List ℕ) (name : List ℕ) (records : List Record) → IsFileOf bytes records → IsNoEntry records name → IsLoaded (IsUvOf does) bytes (uv_outcome (says (not_unversioned name)))
no_entry_of does bytes name records is entry = inr (records, is, (says (not_unversioned name), inl (name, entry, refl), refl))

pub done_of : (does : Map → Done) (bytes : List ℕ) (records : List Record) (m : Map) (d : Done) → does m ≡ d → IsFileOf bytes records → IsUv records m → IsLoaded (IsUvOf does) bytes (uv_outcome d)
done_of does bytes records m d same is map_is = inr (records, is, (d, inr (m, map_is, sym same), refl))

-- records with a Blob that is no entry have no map
pub no_map : (bytes : List ℕ) (records other : List Record) (name : List ℕ) (m : Map) → IsFileOf bytes records → IsNoEntry records name → IsFileOf bytes other → IsUv other m → ⊥
no_map bytes records other name m is entry other_is map_is =
    records_read_one_way.not_both records m name (subst (λ (rs : List Record). IsUv rs m) (one_file bytes other records other_is is) map_is) entry

-- ---- what is only told

said_plain : (said : Said) → IsPlain (said_printed said) []
said_plain (report.printed text) = inl refl
said_plain (report.refused text) = inr (refl, refl)

module _ (asked : Unversioned) (input : Input) (clock : Clock) (bytes : List ℕ) where
  pub told_appended : {D : Type 0} (s : Whole D) (read : List ℕ) (moment : ℕ) (said : Said) (answer : Printed) → answer ≡ said_printed said → Agrees input.before.left read
      → (IsFileOf bytes s.seen.log.records → (honest : Bool) → IsSaidOutcome honest (asks asked) read moment bytes (uv_outcome (says said)))
      → (IsFileOf bytes s.seen.log.records → IsTimed (asks asked) clock true read moment bytes) → ((said_printed said).status ≡ 0 → IsTrue (reads (asks asked)) → IsAtEnd input.after.left) → IsInputSteady input
      → IsAppended (asks asked) input clock bytes (loaded_store s) (loaded_store s) answer
  told_appended s read moment said answer is told outcome timed end input_steady = record {
    read = read;
    moment = moment;
    appended = [];
    told = told;
    outcome = λ file honest. subst (λ (a : Printed). IsSaidOutcome honest (asks asked) read moment bytes (with_commit a [])) (sym is) (outcome file honest);
    timed = timed;
    plain = subst (λ (a : Printed). IsPlain a []) (sym is) (said_plain said);
    records = sym (append-nil s.seen.log.records);
    stable = refl;
    end = λ z reads_it. end (sym (ap (λ (a : Printed). a.status) is) ∙ z) reads_it;
    input_steady = input_steady;
  }

-- ---- what is put in

abbrev size_of : Entry → ℕ
size_of e = length (content e.bytes)

module _ (s after : Seen) (e : Entry) (answer : Printed) where
  abbrev Came : Done → Type 0
  Came d = IsPutDone s after answer d

  abbrev due : Bool → Bool → Bool → Result Put UvFault
  due large kept over =
      if large then Err (uv_fault.TooLarge (size_of e)) else if kept then Ok put_is.Kept else if over then Err (uv_fault.Full (total (with_entry s.map e)) (length (with_entry s.map e))) else Ok put_is.Stored

  abbrev done : Bool → Bool → Bool → Done
  done large kept over =
      if large then says (report.refused (codes "too large " ++ escape e.path ++ 32 ∷ decimal (size_of e)))
      else if kept then says (report.printed (codes "kept " ++ escape e.path ++ 10 ∷ []))
      else if over then says (report.refused (codes "full"))
      else record { said = report.printed (codes "stored " ++ escape e.path ++ 10 ∷ []); here = e ∷ []; there = [] }

  untouched : (d : Done) → answer ≡ said_printed d.said → d.here ≡ [] → after ≡ s → Came d
  untouched d is none left = record {
    said = is;
    records = ap (λ (x : Seen). x.log.records) left ∙ sym (append-nil s.log.records) ∙ ap (λ (es : List Entry). s.log.records ++ map blob_of es) (sym none);
    stable = ap (λ (x : Seen). x.log.stable) left;
    stopped = ap (λ (x : Seen). x.log.stopped) left;
  }

  came : (large kept over : Bool) → IsPutAnswer e.path (due large kept over) answer → after ≡ after_put s e (due large kept over) → Came (done large kept over)
  came true kept over is left = untouched (done true kept over) is refl left
  came false true over is left = untouched (done false true over) is refl left
  came false false true is left = untouched (done false false true) is refl left
  came false false false is left = record {
    said = is;
    records = ap (λ (x : Seen). x.log.records) left;
    stable = ap (λ (x : Seen). x.log.stable) left;
    stopped = ap (λ (x : Seen). x.log.stopped) left;
  }

  pub has_put : (result : Result Put UvFault) → s.log.stopped ≡ None → stores.IsPut s e result after → IsPutAnswer e.path result answer → HasPut e s after answer
  has_put result runs (inl put) is =
      let same : result ≡ running_put s.map e = put.0 ∙ ap (λ (o : Option ℕ). unless_stopped o (running_put s.map e)) runs in
      came (nat_lt 16711680 (size_of e)) (is_kept s.map e) (is_over (with_entry s.map e))
      (subst (λ (r : Result Put UvFault). IsPutAnswer e.path r answer) same is) (subst (λ (r : Result Put UvFault). after ≡ after_put s e r) same put.1)
  has_put result runs (inr want) is = absurd (subst (λ (r : Result Put UvFault). IsPutAnswer e.path r answer) want.0 is)

-- what was answered of it, if anything
pub put_told : (s after : Seen) (e : Entry) (result : Result Put UvFault) (told : Result Printed Memory) → s.log.stopped ≡ None → stores.IsPut s e result after → IfOk told (IsPutAnswer e.path result) → IfOk told (HasPut e s after)
put_told s after e result (Ok answer) runs put is = has_put s after e answer result runs put is
put_told s after e result (Err fault) runs put is = tt

plain_by : (e : Entry) (large kept over : Bool) (many : ℕ) → IsPlain (said_printed (if large then says (report.refused (codes "too large " ++ escape e.path ++ 32 ∷ decimal many))
    else if kept then says (report.printed (codes "kept " ++ escape e.path ++ 10 ∷ []))
    else if over then says (report.refused (codes "full"))
    else record { said = report.printed (codes "stored " ++ escape e.path ++ 10 ∷ []); here = e ∷ []; there = [] }).said)
    (map blob_of (if large then says (report.refused (codes "too large " ++ escape e.path ++ 32 ∷ decimal many))
    else if kept then says (report.printed (codes "kept " ++ escape e.path ++ 10 ∷ []))
    else if over then says (report.refused (codes "full"))
    else record { said = report.printed (codes "stored " ++ escape e.path ++ 10 ∷ []); here = e ∷ []; there = [] }).here)
plain_by e true kept over many = inr (refl, refl)
plain_by e false true over many = inl refl
plain_by e false false true many = inr (refl, refl)
plain_by e false false false many = inl refl

put_plain : (m : Map) (e : Entry) → IsPlain (said_printed (put_done m e).said) (map blob_of (put_done m e).here)
put_plain m e = plain_by e (nat_lt 16711680 (size_of e)) (is_kept m e) (is_over (with_entry m e)) (size_of e)

-- ---- an entry that is put in

not_long : (path : List ℕ) (m : Map) (moment : ℕ) (read : List ℕ) → nat_lt (2 ^ 27) (length read) ≡ false → add_done m path moment read ≡ put_done m (record { path = path; moment = moment; bytes = Some read })
not_long path m moment read short =
    ap (λ (long : Bool). if long then says (report.refused (codes "input too long")) else put_done m (record { path = path; moment = moment; bytes = Some read })) short

there : (path : List ℕ) (m : Map) (moment : ℕ) (o : Option (List ℕ)) → file_in (value_at m path) ≡ o → IsTrue (is_some o) → remove_done m path moment ≡ put_done m (record { path = path; moment = moment; bytes = None })
there path m moment None e some = absurd (cc)
there path m moment (Some held) e some = rw (e) refl

module _ {D : Type 0} (before mid : Whole D) (input : Input) (clock : Clock) (bytes : List ℕ) (answer : Printed) (map_is : IsUv before.seen.log.records before.seen.map) where
  -- of a path, a moment and a content or none
  appended_of : (path : List ℕ) (moment : ℕ) (held : Option (List ℕ)) → IsPutDue path held before.seen.map input → TakesOne clock moment → HasPut (record { path = path; moment = moment; bytes = held }) before.seen mid.seen answer
      → IsAppended (asks (putting path held)) input clock bytes (loaded_store before) (loaded_store mid) answer
  appended_of path moment (Some content) due asked has =
      let d = put_done before.seen.map (record { path = path; moment = moment; bytes = Some content }) in
      record {
        read = content;
        moment = moment;
        appended = map blob_of d.here;
        told = due.0;
        outcome = λ file honest. subst (λ (a : Printed). IsLoaded (IsUvOf (λ m. add_done m path moment content)) bytes (with_commit a (map blob_of d.here))) (sym has.said)
            (done_of (λ m. add_done m path moment content) bytes before.seen.log.records before.seen.map d (not_long path before.seen.map moment content due.2) file map_is);
        timed = λ file. inl (((before.seen.map, (before.seen.log.records, file, map_is)), due.2), asked);
        plain = subst (λ (a : Printed). IsPlain a (map blob_of d.here)) (sym has.said) (put_plain before.seen.map (record { path = path; moment = moment; bytes = Some content }));
        records = has.records;
        stable = has.stable;
        end = λ z reads_it. due.1;
        input_steady = due.3;
      }
  appended_of path moment None due asked has =
      let d = put_done before.seen.map (record { path = path; moment = moment; bytes = None }) in
      let read = some_bytes input.before.left in
      record {
        read = read.0;
        moment = moment;
        appended = map blob_of d.here;
        told = read.1;
        outcome = λ file honest. subst (λ (a : Printed). IsLoaded (IsUvOf (λ m. remove_done m path moment)) bytes (with_commit a (map blob_of d.here))) (sym has.said)
            (done_of (λ m. remove_done m path moment) bytes before.seen.log.records before.seen.map d (there path before.seen.map moment (file_in (value_at before.seen.map path)) refl due.1) file map_is);
        timed = λ file. inl ((before.seen.map, (before.seen.log.records, file, map_is), due.1), asked);
        plain = subst (λ (a : Printed). IsPlain a (map blob_of d.here)) (sym has.said) (put_plain before.seen.map (record { path = path; moment = moment; bytes = None }));
        records = has.records;
        stable = has.stable;
        end = λ z reads_it. absurd (cc);
        input_steady = due.0;
      }

  pub put_appended : (e : Entry) → IsPutDue e.path e.bytes before.seen.map input → TakesOne clock e.moment → HasPut e before.seen mid.seen answer
      → IsAppended (asks (putting e.path e.bytes)) input clock bytes (loaded_store before) (loaded_store mid) answer
  put_appended e due asked has = appended_of e.path e.moment e.bytes due asked has

-- behind an entry that is due no read has failed
pub put_steady : (path : List ℕ) (held : Option (List ℕ)) (m : Map) (given : Input) → IsPutDue path held m given → IsInputSteady given
put_steady path (Some content) m given due = due.3
put_steady path None m given due = due.0

-- the moment of an entry that is due was taken
pub put_timed : {D : Type 0} (before : Whole D) (given : Input) (clock : Clock) (bytes : List ℕ) (answered : Bool) (path : List ℕ) (moment : ℕ) (held : Option (List ℕ)) → IsUv before.seen.log.records before.seen.map → IsFileOf bytes before.seen.log.records
    → IsPutDue path held before.seen.map given → TakesOne clock moment → (read : List ℕ) × Agrees given.before.left read × IsTimed (asks (putting path held)) clock answered read moment bytes
put_timed before given clock bytes answered path moment (Some content) map_is file due asked = (content, due.0, inl (((before.seen.map, (before.seen.log.records, file, map_is)), due.2), asked))
put_timed before given clock bytes answered path moment None map_is file due asked =
    let read = some_bytes given.before.left in (read.0, read.1, inl ((before.seen.map, (before.seen.log.records, file, map_is), due.1), asked))

-- ---- what is committed

-- a commit that fails had something to write
pub was_due : (old mid : Log) (more : List Record) (fault : CommitFault) (result : Result ℕ CommitFault) → result ≡ Err fault → old.stable ≡ length old.records → mid.records ≡ old.records ++ more → mid.stable ≡ old.stable → mid.stopped ≡ None
    → (IsSettled mid → result ≡ Ok (length mid.records)) → mid.stable < length mid.records
was_due old mid more fault result is settled records stable runs nothing = due (eq-or-lt_of_le most)
  where
    most : mid.stable ≤ length mid.records
    most = omega (arith, settled, stable, ap length records, length-append old.records more)

    due : (mid.stable ≡ length mid.records) ⊎ (mid.stable < length mid.records) → mid.stable < length mid.records
    due (inl all) = absurd (let e = nothing (runs, all) in cc)
    due (inr less) = less

pub commit_rose : (fault : CommitFault) (old new : Log) (before after : DiskState) → old.stopped ≡ None → CommitFailed fault old new before after → Rose before.faults after.faults
commit_rose (commit_fault.Stopped faults) old new before after runs failed = absurd (let e = failed.0 in cc)
commit_rose commit_fault.Disk old new before after runs failed = failed.2

pub commit_settles : (count : ℕ) (old new : Log) (before after : DiskState) → Committed count old new before after → Belongs new after → IsSettledOn before after old.records
commit_settles count old new before after made belongs =
    (subst (λ (rs : List Record). Told after (λ held. IsJust held rs)) made.records (idle_just new after belongs made.goes_on (made.stable ∙ ap length (sym made.records))), made.faults)

-- ---- what `uv-init` did

module _ (project server : List ℕ) (input : Input) (file : File) (bytes : List ℕ) (o : Outcome) where
  abbrev plain_init : Option Command
  plain_init = Some (command_of.Init project server [])

  begun_cause : (fault : Fault) → IsCaused plain_init input file bytes o fault → IsCaused (asks (uv.Init project server)) input file bytes o fault
  begun_cause fault_is.Disk h = record { opened = refl; rose = h.rose; moment = h.moment }
  begun_cause fault_is.Usage h = h
  begun_cause fault_is.Input h = absurd (let r = h.read in cc)
  begun_cause fault_is.Link h = h
  begun_cause (fault_is.Damaged name found) h = h
  begun_cause fault_is.Memory h = tt

  begun_by : (result : Due) (read : List ℕ) (moment : ℕ) → ActsBy plain_init input file result read moment bytes o → ActsBy (asks (uv.Init project server)) input file result read moment bytes o
  begun_by (Ok answer) read moment h = record {
    input_told = h.input_told;
    file_told = h.file_told;
    outcome = h.outcome;
    answer = h.answer;
    plain = h.plain;
    cause = tt;
    end = λ z reads_it. absurd (cc);
    contents = h.contents;
    touches = record { kept = h.touches.kept; any_moment = h.touches.any_moment; keeps = h.touches.keeps };
    durable = h.durable;
    trimmed = λ last opened begun. absurd (cc);
    spared = h.spared;
    steady = h.steady;
    input_steady = h.input_steady;
  }
  begun_by (Err fault) read moment h = record {
    input_told = h.input_told;
    file_told = h.file_told;
    outcome = h.outcome;
    answer = tt;
    plain = tt;
    cause = begun_cause fault h.cause;
    end = λ z reads_it. absurd (cc);
    contents = h.contents;
    touches = record { kept = h.touches.kept; any_moment = h.touches.any_moment; keeps = h.touches.keeps };
    durable = h.durable;
    trimmed = λ last opened begun. absurd (cc);
    spared = h.spared;
    steady = h.steady;
    input_steady = h.input_steady;
  }

timed_as : (project server : List ℕ) (clock : Clock) (answered : Bool) (read : List ℕ) (moment : ℕ) (bytes : List ℕ) → IsTimed (Some (command_of.Init project server [])) clock answered read moment bytes → IsTimed (asks (uv.Init project server)) clock answered read moment bytes
timed_as project server clock answered read moment bytes (inl taken) = absurd taken.0
timed_as project server clock answered read moment bytes (inr none) = inr none

answered_as : (project server : List ℕ) (source : Input) (clock : Clock) (result : Due) (read : List ℕ) (moment : ℕ) (bytes : List ℕ)
    → IsTimedBy (Some (command_of.Init project server [])) source clock result read moment bytes → IsTimedBy (asks (uv.Init project server)) source clock result read moment bytes
answered_as project server source clock (Ok answer) read moment bytes timed = timed_as project server clock true read moment bytes timed
answered_as project server source clock (Err fault_is.Disk) read moment bytes (inl none) = inl none
answered_as project server source clock (Err fault_is.Disk) read moment bytes (inr timed) = inr (timed_as project server clock true read moment bytes timed)
answered_as project server source clock (Err fault_is.Usage) read moment bytes timed = timed_as project server clock false read moment bytes timed
answered_as project server source clock (Err fault_is.Input) read moment bytes none = none
answered_as project server source clock (Err fault_is.Link) read moment bytes timed = timed_as project server clock false read moment bytes timed
answered_as project server source clock (Err (fault_is.Damaged name found)) read moment bytes timed = timed_as project server clock false read moment bytes timed
answered_as project server source clock (Err fault_is.Memory) read moment bytes timed = timed_as project server clock false read moment bytes timed

pub begun_acted : (project server : List ℕ) (input : Input) (clock : Clock) (file : File) (result : Due) → HasActed (Some (command_of.Init project server [])) input clock file result → HasActed (asks (uv.Init project server)) input clock file result
begun_acted project server input clock file result h =
    (h.0, h.1, h.2, h.3, begun_by project server input file h.2 h.3 result h.0 h.1 h.4, answered_as project server input clock result h.0 h.1 h.2 h.5)

-- ---- an input that is too long

too_long_done : (path : List ℕ) (m : Map) (moment : ℕ) (read : List ℕ) → nat_lt (2 ^ 27) (length read) ≡ true → add_done m path moment read ≡ says (report.refused (codes "input too long"))
too_long_done path m moment read long =
    ap (λ (long : Bool). if long then says (report.refused (codes "input too long")) else put_done m (record { path = path; moment = moment; bytes = Some read })) long

no_both : (b : Bool) → b ≡ true → b ≡ false → ⊥
no_both b t f = let e = sym t ∙ f in cc

pub long_appended : {D : Type 0} (path : List ℕ) (input : Input) (clock : Option (List ℕ)) (bytes : List ℕ) (before : Whole D) → IsUv before.seen.log.records before.seen.map → (answer : Printed) → IsInput input None → answer ≡ too_long
    → IsAppended (asks (uv.Add path)) input (still clock) bytes (loaded_store before) (loaded_store before) answer
long_appended path input clock bytes before map_is answer long is =
    told_appended (uv.Add path) input (still clock) bytes before long.0 0 (report.refused (codes "input too long")) answer is long.1
    (λ file honest. done_of (λ m. add_done m path 0 long.0) bytes before.seen.log.records before.seen.map (says (report.refused (codes "input too long"))) (too_long_done path before.seen.map 0 long.0 long.2) file map_is)
    (λ file. none_due (asks (uv.Add path)) clock true long.0 0 bytes (λ due. no_both _ long.2 due.1)) (λ z reads_it. absurd (cc)) long.3

-- ---- a path that isn't there

absent : (path : List ℕ) (m : Map) (moment : ℕ) (o : Option (List ℕ)) → file_in (value_at m path) ≡ o → is_some o ≡ false → remove_done m path moment ≡ says (report.no_file path)
absent path m moment (Some held) e none = absurd (cc)
absent path m moment None e none = rw (e) refl

not_there : (bytes : List ℕ) (records other : List Record) (m n : Map) (path : List ℕ) → IsFileOf bytes records → IsUv records m → is_some (file_in (value_at m path)) ≡ false → IsFileOf bytes other → IsUv other n → IsTrue (is_some (file_in (value_at n path))) → ⊥
not_there bytes records other m n path is map_is none other_is other_map some =
    let same = records_read_one_way.one_map records n m (subst (λ (rs : List Record). IsUv rs n) (one_file bytes other records other_is is) other_map) map_is in
    no_both _ (subst (λ (x : Map). IsTrue (is_some (file_in (value_at x path)))) same some) none

pub absent_appended : {D : Type 0} (path : List ℕ) (source : SourceState) (clock : Option (List ℕ)) (bytes : List ℕ) (before : Whole D) → IsUv before.seen.log.records before.seen.map → (answer : Printed) → is_some (file_in (value_at before.seen.map path)) ≡ false
    → answer ≡ said_printed (report.no_file path) → IsAppended (asks (uv.Remove path)) (record { before = source; after = source }) (still clock) bytes (loaded_store before) (loaded_store before) answer
absent_appended path source clock bytes before map_is answer none is =
    let read = some_bytes source.left in
    told_appended (uv.Remove path) (record { before = source; after = source }) (still clock) bytes before read.0 0 (report.no_file path) answer is read.1
    (λ file honest. done_of (λ m. remove_done m path 0) bytes before.seen.log.records before.seen.map (says (report.no_file path)) (absent path before.seen.map 0 (file_in (value_at before.seen.map path)) refl none) file map_is)
    (λ file. none_due (asks (uv.Remove path)) clock true read.0 0 bytes (λ due. not_there bytes before.seen.log.records due.1.0 before.seen.map due.0 path file map_is none due.1.1 due.1.2 due.2)) (λ z reads_it. absurd (cc)) refl

-- ---- what is shown

pub list_stores_none : (m : Map) → list_done m ≡ says (list_done m).said
list_stores_none m = refl

cat_by : (m : Map) (path : List ℕ) (o : Option (List ℕ)) → file_in (value_at m path) ≡ o → cat_done m path ≡ says (cat_done m path).said
cat_by m path None e = rw (e) refl
cat_by m path (Some held) e = rw (e) refl

pub cat_stores_none : (m : Map) (path : List ℕ) → cat_done m path ≡ says (cat_done m path).said
cat_stores_none m path = cat_by m path (file_in (value_at m path)) refl

module _ {D : Type 0} (asked : Unversioned) (loads : Loads (asks asked)) (does : Map → Done)
    (is_outcome : (read : List ℕ) (moment : ℕ) (bytes : List ℕ) (o : Outcome) → IsLoaded (IsUvOf does) bytes o → IsUvOutcome asked read moment bytes o)
    (unasked : (read bytes : List ℕ) → TakesMoment (asks asked) read bytes → ⊥) (stores_none : (m : Map) → does m ≡ says (does m).said) (unread : (uv_use asked).reads ≡ false)
    (source : SourceState) (clock : Option (List ℕ)) (file left : DiskState) (s : Whole D) (opened_is : IsOpened file left (loaded_store s)) (map_is : IsUv s.seen.log.records s.seen.map)
    (moments : IsModelled left → LeavesOnly left left (BeforeOrAll s.seen.log)) (file_reads : (held : List ℕ) → IsTrue file.is_model → file.contents ≡ Some held → file.images held) where
  abbrev shown_input : Input
  shown_input = record { before = source; after = source }

  shown_appended : (answer : Printed) → answer ≡ said_printed (does s.seen.map).said → IsAppended (asks asked) shown_input (still clock) opened_is.stands.0 (loaded_store s) (loaded_store s) answer
  shown_appended answer is =
      let read = some_bytes source.left in
      let bytes = opened_is.stands.0 in
      told_appended asked shown_input (still clock) bytes s read.0 0 (does s.seen.map).said answer is read.1
      (λ file honest. is_outcome read.0 0 bytes (uv_outcome (says (does s.seen.map).said)) (done_of does bytes s.seen.log.records s.seen.map (says (does s.seen.map).said) (stores_none s.seen.map) file map_is))
      (λ file. none_due (asks asked) clock true read.0 0 bytes (unasked read.0 bytes)) (λ z reads_it. absurd (no_both _ reads_it unread)) refl

  pub shown_acted : (result : Due) → IsToldAs (does s.seen.map) result → HasActed (asks asked) shown_input (still clock) (both file left) result
  shown_acted (Ok answer) is = idle_acted (asks asked) loads shown_input (still clock) file left (loaded_store s) opened_is answer (shown_appended answer is) moments file_reads
  shown_acted (Err fault) is = subst (λ (f : Fault). HasActed (asks asked) shown_input (still clock) (both file left) (Err f)) (sym is) (memory_acted (asks asked) loads shown_input file left (loaded_store s) opened_is refl clock)

-- ---- what is used

pub uv_opens : (asked : Unversioned) → command_opens (command_of.Unversioned asked) ≡ false → ⊥
uv_opens (uv.Init project server) e = cc
uv_opens (uv.Add path) e = cc
uv_opens (uv.Remove path) e = cc
uv_opens uv.List e = cc
uv_opens (uv.Cat path) e = cc
uv_opens (uv.Sync peer) e = cc

pub uv_alone : (asked : Unversioned) → command_meets (command_of.Unversioned asked) ≡ false → (uv_use asked).merges ≡ false
uv_alone (uv.Init project server) e = refl
uv_alone (uv.Add path) e = refl
uv_alone (uv.Remove path) e = refl
uv_alone uv.List e = refl
uv_alone (uv.Cat path) e = refl
uv_alone (uv.Sync peer) e = e
