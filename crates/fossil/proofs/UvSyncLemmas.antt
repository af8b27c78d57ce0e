-- What a sync of unversioned files comes to.
use Rattle.std.proofs.Common.{◌≡◌, ◌≢◌, ◌⊎◌, inl, inr, ℕ, Bool, true, false, List, [], ◌∷◌, ◌++◌, length, map, Some, Result, Ok, Err, IsTrue, refl, sym, ap, subst, ◌∙◌}
use Rattle.std.specs.Prelude.{codes, decimal, if◌then◌else◌}
use Rattle.fsl_disk.specs.Disk.{DiskState, IsModelled, Keeps, LeavesOnly}
use Rattle.fsl_record.specs.declared.Record.{Record}
use Rattle.fsl_journal.specs.File.{IsFileOf}
use Rattle.fsl_journal.specs.Journal.{HeldOrSame, IsSpared}
use Rattle.fsl_journal.proofs.Unique.{one_file}
use Rattle.fsl_uv.specs.declared.Entry.{Entry}
use Rattle.fsl_uv.specs.declared.SyncFault.{SyncFault}
use Rattle.fsl_uv.specs.declared.SyncFault.TheVariants as sync_fault
use Rattle.fsl_uv.specs.declared.UvLoadFault.{UvLoadFault}
use Rattle.fsl_uv.specs.declared.UvLoadFault.TheVariants as load_fault
use Rattle.fsl_uv.specs.Entries.{Version}
use Rattle.fsl_uv.specs.Maps.{merge, is_over}
use Rattle.fsl_uv.specs.Laws.{Agree}
use Rattle.fsl_uv.specs.Syncing.{synced_here, synced_there}
use Rattle.fsl_uv.specs.Stores.{Seen, Whole, IsUv, IsStore, OpenFailed, blob_of}
use Rattle.fsl_uv.specs.Exchanging as exchanging
use Rattle.fsl_uv.specs.Exchanging.{Took, Lost, gets, gives}
use Rattle.fsl_uv.specs.Reports as report
use Rattle.fsl_uv.specs.Reports.{Done, received, sent, sync_done, not_unversioned, other_project}
use Rattle.fsl_uv.proofs.OneMap.{records_read_one_way}
use Rattle.fsl_uv.proofs.SyncLemmas.{sync_merges}
use Rattle.fsl_outside.specs.Streams.{SinkState}
use Rattle.fsl_words.specs.declared.Command.{Command}
use Rattle.fsl_words.specs.declared.Command.TheVariants as command_of
use Rattle.fsl_words.specs.declared.Unversioned.{Unversioned}
use Rattle.fsl_words.specs.declared.Unversioned.TheVariants as uv
use Rattle.fossil.proofs.PrintedLemmas.{due_of}
use Rattle.fossil.specs.UvCalls.{IsNoStoreAs, IsNoStoreDue}
use Rattle.fossil.specs.Uses.{command_syncs, command_clones, command_merges, command_meets}
use Rattle.fossil.specs.Printed.{Printed, refused, disk_fault, no_memory}
use Rattle.fossil.specs.Outcome.{printed_of, not_repository}
use Rattle.fossil.specs.Run.{File, Output, Agrees, IsWritten}
use Rattle.fossil.specs.Acts.{KeepsUnreadable}
use Rattle.fossil.specs.Due.{printed, IsDue, Due}
use Rattle.fossil.specs.Syncs.{no_peer}
use Rattle.fossil.specs.Synced.{IsUntouched}
use Rattle.fossil.specs.Unversioned.{said_printed}
use Rattle.fossil.specs.UvSyncs.{Part, aside, kept, takes, cut, UvSync, synced_by, unsynced, IsSyncOfStores, IsSyncWithFile, IsUvSync, IsLeftAs, IsSteady, IsAnswer, AreMerged, HasMerged, MergesIf}
use Rattle.fossil.specs.UvMerging.{counted, IsUvSyncDue, IsReady, Talks}
use Rattle.fossil.proofs.InputLemmas.{some_bytes}
use Rattle.fossil.proofs.FileLemmas.{both, agrees}
use Rattle.fossil.proofs.LoadLemmas.{KeepsBetween}
use Rattle.fossil.proofs.SyncedLemmas.{untouched, said_one, IsNoMerge}
use Rattle.fossil.proofs.UvSyncOutcomes.{some_uv_sync}
use Rattle.fossil.proofs.UvFileLemmas.{idle_left, takes_none, kept_left, takes_left, took_faults, lost_faults, cut_left, aside_left, no_entry_left}

-- ---- the outcome of two maps

abbrev Map : Type 0
Map = List (List ℕ × Version)

module _ (u v : Map) where
  abbrev counts_text : List ℕ
  counts_text = codes "received " ++ decimal (length (received u v)) ++ codes "\nsent " ++ decimal (length (sent u v)) ++ 10 ∷ []

  -- no map is above a limit
  abbrev done_both : Done
  done_both = record { said = report.printed counts_text; here = received u v; there = sent u v }

  -- the peer's is
  abbrev done_here : Done
  done_here = record { said = report.refused (codes "full"); here = received u v; there = [] }

  -- the one here is
  abbrev done_none : Done
  done_none = report.says (report.refused (codes "full"))

  both_done : is_over (synced_here u v) ≡ false → is_over (synced_there u v) ≡ false → sync_done u v ≡ done_both
  both_done e f = λ i. if (e i) then done_none else (if (f i) then done_here else done_both)

  here_done : is_over (synced_here u v) ≡ false → is_over (synced_there u v) ≡ true → sync_done u v ≡ done_here
  here_done e f = λ i. if (e i) then done_none else (if (f i) then done_here else done_both)

  none_done : is_over (synced_here u v) ≡ true → sync_done u v ≡ done_none
  none_done e = λ i. if (e i) then done_none else (if is_over (synced_there u v) then done_here else done_both)

  -- unless the map here is above a limit, the same is stored here
  here_stored : is_over (synced_here u v) ≡ false → (synced_by (sync_done u v)).here ≡ takes (map blob_of (received u v))
  here_stored e =
      ap (λ (d : Done). takes (map blob_of d.here)) (λ i. if (e i) then done_none else (if is_over (synced_there u v) then done_here else done_both)) ∙ either (is_over (synced_there u v))
    where
      either : (b : Bool) → takes (map blob_of (if b then done_here else done_both).here) ≡ takes (map blob_of (received u v))
      either true = refl
      either false = refl

  counts_said : (counts : ℕ × ℕ) → counts.0 ≡ length (received u v) → counts.1 ≡ length (sent u v) → counted counts.0 counts.1 ≡ said_printed done_both.said
  counts_said counts e f = λ i. counted (e i) (f i)

-- ---- parts

same_takes : (a b : List Record) → takes a ≡ takes b → a ≡ b
same_takes a b e = cc

no_takes_aside : (a : List Record) → aside ≡ takes a → ⊥
no_takes_aside a e = cc

no_takes_kept : (a : List Record) → kept ≡ takes a → ⊥
no_takes_kept a e = cc

no_takes_cut : (a b : List Record) → cut a ≡ takes b → ⊥
no_takes_cut a b e = cc

no_kept_aside : kept ≡ aside → ⊥
no_kept_aside e = cc

no_aside_takes : (a : List Record) → takes a ≡ aside → ⊥
no_aside_takes a e = cc

no_aside_cut : (a : List Record) → cut a ≡ aside → ⊥
no_aside_cut a e = cc

some_blobs : (entries : List Entry) → entries ≢ [] → map blob_of entries ≢ []
some_blobs [] some none = some refl
some_blobs (e ∷ entries) some none = absurd (cc)

-- ---- whatever the parts are

module _ (file peer : File) (d : Due) (bytes others : List ℕ) (file_told : Agrees file.before.contents bytes) (peer_told : Agrees peer.before.contents others) where
  abbrev Merged : Type 0
  Merged = HasMerged file peer (λ o. printed d ≡ o)

  abbrev Tells : Printed → Type 0
  Tells o = printed d ≡ o

  abbrev Untouched : Part → Type 0
  Untouched here = here ≡ aside → IsUntouched peer

  abbrev IsThere : Part → Type 0
  IsThere here = (here ≡ aside → ⊥) → (records : List Record) × IsFileOf bytes records

  by_answer : (s : UvSync) (here there : Part) → IsUvSync bytes others s → IsAnswer s file peer here there Tells → IsLeftAs here file bytes → IsLeftAs there peer others → Untouched here → IsThere here
      → (s.printed.status ≡ 0 → (more back : List Record) → here ≡ takes more → there ≡ takes back → AreMerged bytes others more back) → Merged
  by_answer s here there is answer left peer_left unasked opened merged =
      (bytes, others, s, here, there, record { file_told = file_told; peer_told = peer_told; outcome = is; answer = answer; here_left = left; there_left = peer_left; unasked = unasked; opened = opened; merged = merged })

  -- the outcome is told, or want of memory in its place
  told_or_short : (s : UvSync) → IsDue s.printed d → IsSteady file → IsSteady peer → IsAnswer s file peer s.here s.there Tells
  told_or_short s (inl told) steady peer_steady = inl (refl, refl, steady, peer_steady, told)
  told_or_short s (inr told) steady peer_steady = inr (inr (inr (inr (refl, inr refl), steady, peer_steady, told)))

  bare_or_short : (printed : Printed) (here there : Part) → (here ≡ aside) ⊎ (here ≡ kept) → (there ≡ aside) ⊎ (there ≡ kept) → IsDue printed d → IsSteady file → IsSteady peer
      → IsAnswer (unsynced printed here there) file peer here there Tells
  bare_or_short printed here there bare peer_bare (inl told) steady peer_steady = inl (refl, refl, steady, peer_steady, told)
  bare_or_short printed here there bare peer_bare (inr told) steady peer_steady = inr (inr (inr (inl (bare, peer_bare), steady, peer_steady, told)))

three : ◌≡◌ {A = ℕ} 3 0 → ⊥
three e = cc

-- ---- two stores

module _ {D P : Type 0} (state : D → DiskState) (other : P → DiskState) (file peer : DiskState) (here after : Whole D) (there left : Whole P)
    (ready : IsReady file (state here.disk) here.seen) (peer_ready : IsReady peer (other there.disk) there.seen)
    (store : IsStore (state after.disk) after.seen) (peer_store : IsStore (other left.disk) left.seen)
    (file_reads : (held : List ℕ) → IsTrue file.is_model → file.contents ≡ Some held → file.images held)
    (after_reads : (held : List ℕ) → IsTrue (state after.disk).is_model → (state after.disk).contents ≡ Some held → (state after.disk).images held)
    (peer_reads : (held : List ℕ) → IsTrue peer.is_model → peer.contents ≡ Some held → peer.images held)
    (left_reads : (held : List ℕ) → IsTrue (other left.disk).is_model → (other left.disk).contents ≡ Some held → (other left.disk).images held) (d : Due) where
  abbrev u : Map
  u = here.seen.map

  abbrev v : Map
  v = there.seen.map

  abbrev bytes : List ℕ
  bytes = ready.opened.stands.0

  abbrev others : List ℕ
  others = peer_ready.opened.stands.0

  file_told : Agrees file.contents bytes
  file_told = agrees file.contents bytes ready.opened.stands.1

  peer_told : Agrees peer.contents others
  peer_told = agrees peer.contents others peer_ready.opened.stands.1

  abbrev x : File
  x = both file (state after.disk)

  abbrev y : File
  y = both peer (other left.disk)

  abbrev Came : Type 0
  Came = HasMerged x y (λ o. printed d ≡ o)

  abbrev more : List Record
  more = map blob_of (received u v)

  abbrev back : List Record
  back = map blob_of (sent u v)

  of_stores : (s : UvSync) → IsSyncOfStores here.seen.config u there.seen.config v s → IsUvSync bytes others s
  of_stores s is = inr (
    here.seen.log.records,
    ready.opened.stands.2,
    inr (
      here.seen.config,
      u,
      (ready.store.config, ready.store.map),
      inr (there.seen.log.records, peer_ready.opened.stands.2, inr (there.seen.config, v, (peer_ready.store.config, peer_ready.store.map), is)),
    ),
  )

  -- ---- what is left of each

  here_kept : after ≡ here → IsLeftAs kept x bytes
  here_kept same = subst (λ (w : Whole D). IsLeftAs kept (both file (state w.disk)) bytes) (sym same) (kept_left file (state here.disk) here.seen ready bytes)

  there_kept : left ≡ there → IsLeftAs kept y others
  there_kept same = subst (λ (w : Whole P). IsLeftAs kept (both peer (other w.disk)) others) (sym same) (kept_left peer (other there.disk) there.seen peer_ready others)

  here_steady : after ≡ here → IsSteady x
  here_steady same = ap (λ (w : Whole D). (state w.disk).faults) same ∙ ready.opened.faults

  there_steady : left ≡ there → IsSteady y
  there_steady same = ap (λ (w : Whole P). (other w.disk).faults) same ∙ peer_ready.opened.faults

  abbrev TookHere : Type 0
  TookHere = Took state here (gets here there) after

  abbrev TookThere : Type 0
  TookThere = Took other there (gives here there) left

  here_took : TookHere → IsLeftAs (takes more) x bytes
  here_took took = takes_left state file here after (gets here there) ready store file_reads after_reads bytes took

  there_took : TookThere → IsLeftAs (takes back) y others
  there_took took = takes_left other peer there left (gives here there) peer_ready peer_store peer_reads left_reads others took

  here_faults : TookHere → IsSteady x
  here_faults took = took_faults state file here after (gets here there) ready store file_reads after_reads bytes took

  there_faults : TookThere → IsSteady y
  there_faults took = took_faults other peer there left (gives here there) peer_ready peer_store peer_reads left_reads others took

  by_parts : (s : UvSync) (a b : Part) → IsUvSync bytes others s → IsAnswer s x y a b (λ o. printed d ≡ o) → IsLeftAs a x bytes → IsLeftAs b y others → (a ≡ aside → ⊥)
      → (s.printed.status ≡ 0 → (more back : List Record) → a ≡ takes more → b ≡ takes back → AreMerged bytes others more back) → Came
  by_parts s a b is answer left_here left_there opened merged = by_answer x y d bytes others file_told peer_told s a b is answer left_here left_there (λ e. absurd (opened e)) (λ there. (here.seen.log.records, ready.opened.stands.2)) merged

  -- ---- stores of two projects

  differ : there.seen.config.project ≢ here.seen.config.project → after ≡ here → left ≡ there → IsDue (said_printed (other_project there.seen.config.project)) d → Came
  differ differs same peer_same due =
      let text = said_printed (other_project there.seen.config.project) in
      let s = unsynced text kept kept in
      by_parts s kept kept (of_stores s (inl (differs, refl)))
      (bare_or_short x y d bytes others file_told peer_told text kept kept (inr refl) (inr refl) due (here_steady same) (there_steady peer_same)) (here_kept same) (there_kept peer_same) no_kept_aside
      (λ zero a b e f. absurd (no_takes_kept a e))

  -- ---- stores of one

  module _ (project : there.seen.config.project ≡ here.seen.config.project) where
    by_done : (done : Done) → sync_done u v ≡ done → IsUvSync bytes others (synced_by done)
    by_done done e = of_stores (synced_by done) (inr (project, ap synced_by (sym e)))

    full_first : is_over (synced_here u v) ≡ true → after ≡ here → left ≡ there → IsDue (refused (codes "full")) d → Came
    full_first over same peer_same due =
        let s = synced_by (done_none u v) in
        by_parts s s.here s.there (by_done (done_none u v) (none_done u v over)) (told_or_short x y d bytes others file_told peer_told s due (here_steady same) (there_steady peer_same))
        (takes_none file (state after.disk) bytes (here_kept same)) (takes_none peer (other left.disk) others (there_kept peer_same)) (no_aside_takes []) (λ zero a b e f. absurd (three zero))

    full_then : TookHere → is_over (synced_there u v) ≡ true → left ≡ there → IsDue (refused (codes "full")) d → Came
    full_then took over peer_same due =
        let s = synced_by (done_here u v) in
        by_parts s s.here s.there (by_done (done_here u v) (here_done u v took.commits.fits over)) (told_or_short x y d bytes others file_told peer_told s due (here_faults took) (there_steady peer_same))
        (here_took took) (takes_none peer (other left.disk) others (there_kept peer_same)) (no_aside_takes more) (λ zero a b e f. absurd (three zero))

    -- both files stand for stores of the merge
    merges : TookHere → TookThere → (a b : List Record) → takes more ≡ takes a → takes back ≡ takes b → AreMerged bytes others a b
    merges took peer_took a b e f old olds m n holds peer_holds agree =
        let records = one_file bytes here.seen.log.records old ready.opened.stands.2 holds.0 in
        let peer_records = one_file others there.seen.log.records olds peer_ready.opened.stands.2 peer_holds.0 in
        let one : u ≡ m = records_read_one_way.one_map old u m (subst (λ (rs : List Record). IsUv rs u) records ready.store.map) holds.1 in
        let two : v ≡ n = records_read_one_way.one_map olds v n (subst (λ (rs : List Record). IsUv rs v) peer_records peer_ready.store.map) peer_holds.1 in
        let agrees_here : Agree u v = subst (λ (w : Map). Agree w v) (sym one) (subst (λ (w : Map). Agree m w) (sym two) agree) in
        let both_maps : merge u v ≡ merge m n = λ i. merge (one i) (two i) in
        let here_records : after.seen.log.records ≡ old ++ a = took.commits.records ∙ (λ i. records i ++ same_takes more a e i) in
        let there_records : left.seen.log.records ≡ olds ++ b = peer_took.commits.records ∙ (λ i. peer_records i ++ same_takes back b f i) in
        let here_map : after.seen.map ≡ merge m n = took.commits.map ∙ sync_merges.here u v agrees_here ∙ both_maps in
        let there_map : left.seen.map ≡ merge m n = peer_took.commits.map ∙ sync_merges.there u v agrees_here ∙ both_maps in (
          subst (λ (rs : List Record). IsUv rs (merge m n)) here_records (subst (λ (w : Map). IsUv after.seen.log.records w) here_map store.map),
          subst (λ (rs : List Record). IsUv rs (merge m n)) there_records (subst (λ (w : Map). IsUv left.seen.log.records w) there_map peer_store.map),
        )

    whole : (counts : ℕ × ℕ) → counts.0 ≡ length (received u v) → counts.1 ≡ length (sent u v) → TookHere → TookThere → IsDue (counted counts.0 counts.1) d → Came
    whole counts e f took peer_took due =
        let s = synced_by (done_both u v) in
        by_parts s s.here s.there (by_done (done_both u v) (both_done u v took.commits.fits peer_took.commits.fits))
        (told_or_short x y d bytes others file_told peer_told s (subst (λ (p : Printed). IsDue p d) (counts_said u v counts e f) due) (here_faults took) (there_faults peer_took)) (here_took took)
        (there_took peer_took) (no_aside_takes more) (λ zero a b. merges took peer_took a b)

    lost_first : Lost state here (gets here there) after → left ≡ there → printed d ≡ disk_fault → Came
    lost_first lost peer_same told =
        let s = synced_by (sync_done u v) in
        by_parts s (cut more) kept (by_done (sync_done u v) refl)
        (inr (inl (inr ((more, here_stored u v lost.commits.fits, some_blobs (received u v) lost.due, refl), refl), lost_faults state file here after (gets here there) ready store file_reads after_reads bytes lost, there_steady peer_same, told)))
        (cut_left state file here after (gets here there) ready store file_reads after_reads bytes lost) (there_kept peer_same) (no_aside_cut more) (λ zero a b e f. absurd (no_takes_cut more a e))

    lost_then : TookHere → Lost other there (gives here there) left → printed d ≡ disk_fault → Came
    lost_then took lost told =
        let s = synced_by (done_both u v) in
        by_parts s s.here (cut back) (by_done (done_both u v) (both_done u v took.commits.fits lost.commits.fits))
        (inr (inr (inl (inr (refl, (back, refl, some_blobs (sent u v) lost.due, refl)), here_faults took, lost_faults other peer there left (gives here there) peer_ready peer_store peer_reads left_reads others lost, told))))
        (here_took took) (cut_left other peer there left (gives here there) peer_ready peer_store peer_reads left_reads others lost) (no_aside_takes more) (λ zero a b e f. absurd (no_takes_cut back b f))

    short_first : after ≡ here → left ≡ there → printed d ≡ no_memory → Came
    short_first same peer_same told =
        let s = synced_by (sync_done u v) in
        by_parts s kept kept (by_done (sync_done u v) refl) (inr (inr (inr (inl (inr refl, inr refl), here_steady same, there_steady peer_same, told)))) (here_kept same) (there_kept peer_same) no_kept_aside
        (λ zero a b e f. absurd (no_takes_kept a e))

    short_then : TookHere → left ≡ there → printed d ≡ no_memory → Came
    short_then took peer_same told =
        let s = synced_by (sync_done u v) in
        by_parts s (takes more) kept (by_done (sync_done u v) refl) (inr (inr (inr (inr (sym (here_stored u v took.commits.fits), inl refl), here_faults took, there_steady peer_same, told)))) (here_took took)
        (there_kept peer_same) (no_aside_takes more) (λ zero a b e f. absurd (no_takes_kept b f))

    made_comes : (made : Result (ℕ × ℕ) SyncFault) → exchanging.Syncs state other here there made after left → IsUvSyncDue made d → Came
    made_comes (Ok counts) ((e, took), (f, peer_took)) due = whole counts e f took peer_took due
    made_comes (Err sync_fault.Full) (peer_same, inl (over, same)) due = full_first over same peer_same due
    made_comes (Err sync_fault.Full) (peer_same, inr (took, over)) due = full_then took over peer_same due
    made_comes (Err sync_fault.Disk) (inl (lost, peer_same)) due = lost_first lost peer_same due
    made_comes (Err sync_fault.Disk) (inr (took, lost)) due = lost_then took lost due
    made_comes (Err sync_fault.Memory) (peer_same, inl same) due = short_first same peer_same due
    made_comes (Err sync_fault.Memory) (peer_same, inr took) due = short_then took peer_same due

  pub stores_come : Talks state other here there after left d → Came
  stores_come (inl (differs, same, peer_same, due)) = differ differs same peer_same due
  stores_come (inr (project, (made, syncs, due))) = made_comes project made syncs due

-- ---- the peer's file isn't opened

module _ (file mid : DiskState) (s : Seen) (ready : IsReady file mid s) (peer peer_left : DiskState) (spared : IsSpared peer peer_left) (between : KeepsBetween peer peer_left) (unreadable : KeepsUnreadable peer peer_left)
    (harmless : IsModelled peer → LeavesOnly peer peer_left (HeldOrSame peer)) (keeps : Keeps peer peer_left) (d : Due) where
  abbrev held : List ℕ
  held = ready.opened.stands.0

  held_told : Agrees file.contents held
  held_told = agrees file.contents held ready.opened.stands.1

  abbrev Alone : Type 0
  Alone = HasMerged (both file mid) (both peer peer_left) (λ o. printed d ≡ o)

  of_file : (others : List ℕ) (t : UvSync) → IsSyncWithFile s.config s.map others t → IsUvSync held others t
  of_file peers t is = inr (s.log.records, ready.opened.stands.2, inr (s.config, s.map, (ready.store.config, ready.store.map), is))

  alone_by : (others : List ℕ) → Agrees peer.contents others → (t : UvSync) (b : Part) → IsUvSync held others t → IsAnswer t (both file mid) (both peer peer_left) kept b (λ o. printed d ≡ o)
      → IsLeftAs b (both peer peer_left) others → Alone
  alone_by others told t b is answer left =
      by_answer (both file mid) (both peer peer_left) d held others held_told told t kept b is answer (kept_left file mid s ready held) left (λ e. absurd (no_kept_aside e)) (λ there. (s.log.records, ready.opened.stands.2)) (λ zero a c e f. absurd (no_takes_kept a e))

  pub no_peer_comes : (fault : UvLoadFault) → OpenFailed fault peer peer_left → IsNoStoreAs no_peer fault d → Alone
  no_peer_comes load_fault.Disk failed due =
      let others = some_bytes peer.contents in
      let t = some_uv_sync held others.0 in
      alone_by others.0 others.1 t.0 aside t.1 (inr (inr (inl (inl (refl, refl), ready.opened.faults, failed, ap printed due)))) (aside_left peer peer_left load_fault.Disk failed spared between unreadable harmless keeps others.0)
  no_peer_comes (load_fault.NotRepository at) failed due =
      let others = failed.2.0 in
      let told = agrees peer.contents others failed.2.1 in
      let t = unsynced (no_peer at) kept aside in
      alone_by others told t aside (of_file others t (inl (at, failed.2.2, refl)))
      (bare_or_short (both file mid) (both peer peer_left) d held others held_told told (no_peer at) kept aside (inr refl) (inl refl) (due_of (no_peer at) d due) ready.opened.faults failed.0.faults)
      (aside_left peer peer_left (load_fault.NotRepository at) failed spared between unreadable harmless keeps others)
  no_peer_comes (load_fault.NotEntry name) failed due =
      let others = failed.2.0 in
      let told = agrees peer.contents others failed.2.1 in
      let text = said_printed (not_unversioned name) in
      let t = unsynced text kept kept in
      alone_by others told t kept (of_file others t (inr (failed.1, failed.2.2, inl (name, failed.3, refl))))
      (bare_or_short (both file mid) (both peer peer_left) d held others held_told told text kept kept (inr refl) (inr refl) (due_of text d due) ready.opened.faults failed.0.faults)
      (no_entry_left peer peer_left (load_fault.NotEntry name) failed spared between unreadable harmless keeps others name refl)
  no_peer_comes load_fault.Memory failed due =
      let others = some_bytes peer.contents in
      let t = some_uv_sync held others.0 in
      alone_by others.0 others.1 t.0 aside t.1 (inr (inr (inr (inl (inr refl, inl refl), ready.opened.faults, failed.faults, ap printed due)))) (aside_left peer peer_left load_fault.Memory failed spared between unreadable harmless keeps others.0)

-- ---- the file here isn't opened

module _ (file file_left : DiskState) (spared : IsSpared file file_left) (between : KeepsBetween file file_left) (unreadable : KeepsUnreadable file file_left)
    (harmless : IsModelled file → LeavesOnly file file_left (HeldOrSame file)) (keeps : Keeps file file_left) (peer : DiskState)
    (no_other : IsTrue peer.is_model → (c : List ℕ) → peer.since peer.moment c → peer.images c) (d : Due) where
  abbrev theirs : (b : List ℕ) × Agrees peer.contents b
  theirs = some_bytes peer.contents

  abbrev First : Type 0
  First = HasMerged (both file file_left) (both peer peer) (λ o. printed d ≡ o)

  first_by : (own : List ℕ) → Agrees file.contents own → (t : UvSync) (a : Part) → IsUvSync own theirs.0 t → IsAnswer t (both file file_left) (both peer peer) a aside (λ o. printed d ≡ o)
      → IsLeftAs a (both file file_left) own → ((a ≡ aside → ⊥) → (records : List Record) × IsFileOf own records) → First
  first_by own told t a is answer left opened =
      by_answer (both file file_left) (both peer peer) d own theirs.0 told theirs.1 t a aside is answer left (idle_left peer no_other theirs.0) (λ e. untouched peer) opened (λ zero b c e f. absurd (no_takes_aside c f))

  pub no_file_comes : (fault : UvLoadFault) → OpenFailed fault file file_left → IsNoStoreDue fault d → First
  no_file_comes load_fault.Disk failed due =
      let own = some_bytes file.contents in
      let t = some_uv_sync own.0 theirs.0 in
      first_by own.0 own.1 t.0 aside t.1 (inr (inl (inl (refl, refl), failed, refl, ap printed due))) (aside_left file file_left load_fault.Disk failed spared between unreadable harmless keeps own.0) (λ there. absurd (there refl))
  no_file_comes (load_fault.NotRepository at) failed due =
      let own = failed.2.0 in
      let told = agrees file.contents own failed.2.1 in
      let text = printed_of (not_repository at) in
      first_by own told (unsynced text aside aside) aside (inl (at, failed.2.2, refl))
      (bare_or_short (both file file_left) (both peer peer) d own theirs.0 told theirs.1 text aside aside (inl refl) (inl refl) (due_of text d due) failed.0.faults refl)
      (aside_left file file_left (load_fault.NotRepository at) failed spared between unreadable harmless keeps own) (λ there. absurd (there refl))
  no_file_comes (load_fault.NotEntry name) failed due =
      let own = failed.2.0 in
      let told = agrees file.contents own failed.2.1 in
      let text = said_printed (not_unversioned name) in
      first_by own told (unsynced text kept aside) kept (inr (failed.1, failed.2.2, inl (name, failed.3, refl)))
      (bare_or_short (both file file_left) (both peer peer) d own theirs.0 told theirs.1 text kept aside (inr refl) (inl refl) (due_of text d due) failed.0.faults refl)
      (no_entry_left file file_left (load_fault.NotEntry name) failed spared between unreadable harmless keeps own name refl) (λ there. (failed.1, failed.2.2))
  no_file_comes load_fault.Memory failed due =
      let own = some_bytes file.contents in
      let t = some_uv_sync own.0 theirs.0 in
      first_by own.0 own.1 t.0 aside t.1 (inr (inr (inr (inl (inl refl, inl refl), failed.faults, refl, ap printed due)))) (aside_left file file_left load_fault.Memory failed spared between unreadable harmless keeps own.0) (λ there. absurd (there refl))

-- ---- the printing

answered_as : (s : UvSync) (file peer : File) (here there : Part) (P Q : Printed → Type 0) → ((o : Printed) → P o → Q o) → IsAnswer s file peer here there P → IsAnswer s file peer here there Q
answered_as s file peer here there P Q turn (inl (e, f, steady, peer_steady, told)) = inl (e, f, steady, peer_steady, turn s.printed told)
answered_as s file peer here there P Q turn (inr (inl (why, rose, steady, told))) = inr (inl (why, rose, steady, turn disk_fault told))
answered_as s file peer here there P Q turn (inr (inr (inl (why, steady, rose, told)))) = inr (inr (inl (why, steady, rose, turn disk_fault told)))
answered_as s file peer here there P Q turn (inr (inr (inr (why, steady, peer_steady, told)))) = inr (inr (inr (why, steady, peer_steady, turn no_memory told)))

-- what is due was printed
pub merged_printed : (file peer : File) (d : Due) (out : Output) (status : ℕ) → HasMerged file peer (λ o. printed d ≡ o) → IsWritten (printed d) out status → HasMerged file peer (λ o. IsWritten o out status)
merged_printed file peer d out status (bytes, others, s, here, there, m) written =
    let turn : (o : Printed) → printed d ≡ o → IsWritten o out status = λ o e. subst (λ (p : Printed). IsWritten p out status) e written in (
      bytes,
      others,
      s,
      here,
      there,
      record {
        file_told = m.file_told;
        peer_told = m.peer_told;
        outcome = m.outcome;
        answer = answered_as s file peer here there (λ o. printed d ≡ o) (λ o. IsWritten o out status) turn m.answer;
        here_left = m.here_left;
        there_left = m.there_left;
        unasked = m.unasked;
        opened = m.opened;
        merged = m.merged;
      },
    )

-- words for which there was no memory
pub idle_merged : (file peer : DiskState) (out : Output) (status : ℕ) → (IsTrue file.is_model → (c : List ℕ) → file.since file.moment c → file.images c)
    → (IsTrue peer.is_model → (c : List ℕ) → peer.since peer.moment c → peer.images c) → IsWritten no_memory out status
    → HasMerged (both file file) (both peer peer) (λ o. IsWritten o out status)
idle_merged file peer out status no_other no_other_peer written =
    let own = some_bytes file.contents in
    let others = some_bytes peer.contents in
    let t = some_uv_sync own.0 others.0 in (
      own.0,
      others.0,
      t.0,
      aside,
      aside,
      record {
        file_told = own.1;
        peer_told = others.1;
        outcome = t.1;
        answer = inr (inr (inr (inl (inl refl, inl refl), refl, refl, written)));
        here_left = idle_left file no_other own.0;
        there_left = idle_left peer no_other_peer others.0;
        unasked = λ e. untouched peer;
        opened = λ there. absurd (there refl);
        merged = λ zero a b e f. absurd (no_takes_aside a e);
      },
    )

-- ---- commands

-- another command is no such sync
pub no_merge : (a b : Command) → a ≡ b → command_merges b ≡ false → IsNoMerge a
no_merge a b same is path e = let h : true ≡ false = sym (ap command_merges e) ∙ ap command_merges same ∙ is in absurd (cc)

same_asked : (a b : Unversioned) → command_of.Unversioned a ≡ command_of.Unversioned b → a ≡ b
same_asked a b e = cc

-- nor is a command that has no unversioned files, nor another one that has
pub no_merge_else : (command : Command) → ((asked : Unversioned) → command ≡ command_of.Unversioned asked → ⊥) → IsNoMerge command
no_merge_else command not_so path e = not_so (uv.Sync path) e

pub no_merge_other : (command : Command) (asked : Unversioned) → command ≡ command_of.Unversioned asked → ((path : List ℕ) → asked ≡ uv.Sync path → ⊥) → IsNoMerge command
no_merge_other command asked is not_so path e = not_so path (same_asked asked (uv.Sync path) (sym is ∙ e))

-- none of them syncs or clones
never_syncs : (asked : Unversioned) → command_syncs (command_of.Unversioned asked) ≡ false
never_syncs (uv.Init project server) = refl
never_syncs (uv.Add path) = refl
never_syncs (uv.Remove path) = refl
never_syncs uv.List = refl
never_syncs (uv.Cat path) = refl
never_syncs (uv.Sync path) = refl

pub never_clones : (asked : Unversioned) → command_clones (command_of.Unversioned asked) ≡ false
never_clones (uv.Init project server) = refl
never_clones (uv.Add path) = refl
never_clones (uv.Remove path) = refl
never_clones uv.List = refl
never_clones (uv.Cat path) = refl
never_clones (uv.Sync path) = refl

pub merge_alone : (a : Command) (asked : Unversioned) → a ≡ command_of.Unversioned asked → IsTrue (command_syncs a) → ⊥
merge_alone a asked same asks = let e : true ≡ false = sym asks ∙ ap command_syncs same ∙ never_syncs asked in cc

-- and but for the sync none meets a peer
pub uv_alone : (asked : Unversioned) → ((path : List ℕ) → asked ≡ uv.Sync path → ⊥) → command_meets (command_of.Unversioned asked) ≡ false
uv_alone (uv.Init project server) other = refl
uv_alone (uv.Add path) other = refl
uv_alone (uv.Remove path) other = refl
uv_alone uv.List other = refl
uv_alone (uv.Cat path) other = refl
uv_alone (uv.Sync path) other = absurd (other path refl)

module _ (command : Command) (file peer : DiskState × DiskState) (out : SinkState × SinkState) (status : ℕ) where
  pub not_merged : IsNoMerge command → MergesIf (Some command) file peer out status
  not_merged no_merge path said = absurd (no_merge path (said_one command (command_of.Unversioned (uv.Sync path)) said))
