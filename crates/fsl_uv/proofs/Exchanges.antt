-- What the steps of a sync leave.
use Rattle.std.proofs.Common.{◌≡◌, ◌⊎◌, inl, inr, ℕ, false, List, [], ◌++◌, length, map, take, Result, Ok, Err, None, Some, refl, sym, ap, subst, ◌∙◌}
use Rattle.std.proofs.lemmas.List.{append-nil, take_at}
use Rattle.fsl_order.specs.Causes.{Rose}
use Rattle.fsl_disk.specs.Disk.{DiskState, IsModelled, Keeps, LeavesOnly}
use Rattle.fsl_disk.proofs.Moments.{weaker}
use Rattle.fsl_record.specs.declared.Record.{Record}
use Rattle.fsl_journal.specs.declared.CommitFault.{CommitFault}
use Rattle.fsl_journal.specs.declared.CommitFault.TheVariants as commit_fault
use Rattle.fsl_journal.specs.File.{IsFileOf}
use Rattle.fsl_journal.specs.Journal.{Committed, CommitFailed, WritesGroup}
use Rattle.fsl_journal.specs.Log.{Log, committed, BeforeOrAll}
use Rattle.fsl_uv.specs.declared.Card.{Card}
use Rattle.fsl_uv.specs.declared.ApplyFault.{ApplyFault}
use Rattle.fsl_uv.specs.declared.ApplyFault.TheVariants as apply_fault
use Rattle.fsl_uv.specs.declared.SyncFault.{SyncFault}
use Rattle.fsl_uv.specs.declared.SyncFault.TheVariants as sync_fault
use Rattle.fsl_uv.specs.Entries.{Version}
use Rattle.fsl_uv.specs.Maps.{is_over}
use Rattle.fsl_uv.specs.Cards.{IsMessage, message_text}
use Rattle.fsl_uv.specs.Syncing.{offered, answered, given, peer_answer, applied}
use Rattle.fsl_uv.specs.Stores.{Seen, Whole, IsUv, IsApplied, IsSettled, Answers, blob_of}
use Rattle.fsl_uv.specs.Exchanging.{taken, with_taken, log_taken, Commits, Took, Takes, gets, gives, Syncs}
use Rattle.fsl_uv.proofs.OneWay.{messages_read_one_way}
use Rattle.fsl_uv.proofs.Talking.{stores_talk}

-- what a message that was applied left
record Applied (before mid : Seen) (cards : List Card) (count : ℕ) : Type 0 where
  fits : is_over (applied before.map cards) ≡ false
  many : count ≡ length (taken before cards)
  records : mid.log.records ≡ with_taken before cards
  stable : mid.log.stable ≡ before.log.stable
  runs : mid.log.stopped ≡ None
  map : mid.map ≡ applied before.map cards
  config : mid.config ≡ before.config
  log : mid.log ≡ log_taken before cards

applied-as : (before mid : Seen) (message : List ℕ) (cards : List Card) (count : ℕ) → IsMessage message cards → IsApplied before message (Ok count) mid → Applied before mid cards count
applied-as before mid message cards count is (runs, others, reads, fits, many, left) =
    let same : others ≡ cards = messages_read_one_way message others cards reads is in
    subst (λ (cs : List Card). Applied before mid cs count) same
    (record {
      fits = fits;
      many = many;
      records = ap (λ (s : Seen). s.log.records) left;
      stable = ap (λ (s : Seen). s.log.stable) left;
      runs = ap (λ (s : Seen). s.log.stopped) left ∙ runs;
      map = ap (λ (s : Seen). s.map) left;
      config = ap (λ (s : Seen). s.config) left;
      log = ap (λ (s : Seen). s.log) left;
    })

module _ {D : Type 0} (state : D → DiskState) (before mid after : Whole D) (message : List ℕ) (cards : List Card) (count : ℕ) (settled : IsSettled before.seen.log) (is : IsMessage message cards)
    (step : IsApplied before.seen message (Ok count) mid.seen) (disk : mid.disk ≡ before.disk) (map_same : after.seen.map ≡ mid.seen.map) (config_same : after.seen.config ≡ mid.seen.config)
    (keeps : Keeps (state mid.disk) (state after.disk)) (moments : IsModelled (state mid.disk) → LeavesOnly (state mid.disk) (state after.disk) (BeforeOrAll mid.seen.log)) where
  is_applied : Applied before.seen mid.seen cards count
  is_applied = applied-as before.seen mid.seen message cards count is step

  old_records : committed mid.seen.log ≡ before.seen.log.records
  old_records =
      (λ i. take ((is_applied.stable ∙ settled.1) i) (is_applied.records i))
      ∙ take_at before.seen.log.records (map blob_of (taken before.seen cards)) (length before.seen.log.records) refl

  either : (c : List ℕ) → BeforeOrAll mid.seen.log c → IsFileOf c before.seen.log.records ⊎ IsFileOf c (with_taken before.seen cards)
  either c (inl h) = inl (subst (λ (rs : List Record). IsFileOf c rs) old_records h)
  either c (inr h) = inr (subst (λ (rs : List Record). IsFileOf c rs) is_applied.records h)

  commits : after.seen.log.records ≡ mid.seen.log.records → Commits state before cards after
  commits records = record {
    fits = is_applied.fits;
    records = records ∙ is_applied.records;
    map = map_same ∙ is_applied.map;
    config = config_same ∙ is_applied.config;
    keeps = subst (λ (d : D). Keeps (state d) (state after.disk)) disk keeps;
    any_moment = λ modelled.
        subst (λ (d : D). LeavesOnly (state d) (state after.disk) (λ c. IsFileOf c before.seen.log.records ⊎ IsFileOf c (with_taken before.seen cards))) disk
        (weaker (state mid.disk) (state after.disk) (BeforeOrAll mid.seen.log) (λ c. IsFileOf c before.seen.log.records ⊎ IsFileOf c (with_taken before.seen cards)) either
        (moments (subst (λ (d : D). IsModelled (state d)) (sym disk) modelled)));
  }

  no_more : taken before.seen cards ≡ [] → IsSettled mid.seen.log
  no_more none =
      let records : mid.seen.log.records ≡ before.seen.log.records = is_applied.records ∙ ap (λ es. before.seen.log.records ++ map blob_of es) none ∙ append-nil before.seen.log.records in
      (is_applied.runs, is_applied.stable ∙ settled.1 ∙ ap length (sym records))

  done_as : (n : ℕ) → Committed n mid.seen.log after.seen.log (state mid.disk) (state after.disk)
      → Committed (length (with_taken before.seen cards)) (log_taken before.seen cards) after.seen.log (state before.disk) (state after.disk)
  done_as n done =
      let counted = subst (λ (k : ℕ). Committed k mid.seen.log after.seen.log (state mid.disk) (state after.disk)) done.all done in
      let logged = subst (λ (l : Log). Committed (length l.records) l after.seen.log (state mid.disk) (state after.disk)) is_applied.log counted in
      subst (λ (d : D). Committed (length (with_taken before.seen cards)) (log_taken before.seen cards) after.seen.log (state d) (state after.disk)) disk logged

  pub took : (n : ℕ) → Committed n mid.seen.log after.seen.log (state mid.disk) (state after.disk)
      → (IsModelled (state mid.disk) → (c : List ℕ) → (state after.disk).images c → IsFileOf c mid.seen.log.records) → WritesGroup mid.seen.log (state mid.disk) (state after.disk)
      → (mid.seen.log.stable ≡ length mid.seen.log.records → after.disk ≡ mid.disk) → Takes state before cards (Ok count) after
  took n done lasts writes idle = (
    is_applied.many,
    record {
      commits = commits done.records;
      settled = (done.goes_on, done.stable ∙ ap length (sym done.records));
      faults = done.faults ∙ ap (λ (d : D). (state d).faults) disk;
      lasts = λ modelled c left. subst (λ (rs : List Record). IsFileOf c rs) is_applied.records (lasts (subst (λ (d : D). IsModelled (state d)) (sym disk) modelled) c left);
      done = done_as n done;
      written = subst (λ (l : Log). WritesGroup l (state before.disk) (state after.disk)) is_applied.log (subst (λ (d : D). WritesGroup mid.seen.log (state d) (state after.disk)) disk writes);
      idle = λ none. idle (no_more none).1 ∙ disk;
    },
  )

  pub lost : (fault : CommitFault) (n : ℕ) (result : Result ℕ CommitFault) → result ≡ Err fault → (IsSettled mid.seen.log → result ≡ Ok n) → CommitFailed fault mid.seen.log after.seen.log (state mid.disk) (state after.disk)
      → Takes state before cards (Err sync_fault.Disk) after
  lost (commit_fault.Stopped faults) n result failed nothing f = absurd (let e = sym is_applied.runs ∙ f.0 in cc)
  lost commit_fault.Disk n result failed nothing f = record {
    commits = commits (ap (λ (l : Log). l.records) f.1);
    due = λ none. let e = sym (nothing (no_more none)) ∙ failed in cc;
    rose = subst (λ (d : D). Rose (state d).faults (state after.disk).faults) disk f.2;
    stopped = f.1 ∙ ap (λ (l : Log). record l { stopped = Some (state after.disk).faults }) is_applied.log;
  }

-- a message that wasn't applied
module _ {D : Type 0} (state : D → DiskState) (before after : Whole D) (message : List ℕ) (disk : after.disk ≡ before.disk) where
  pub too-full : (cards : List Card) → IsMessage message cards → (bytes count : ℕ) → IsApplied before.seen message (Err (apply_fault.Full bytes count)) after.seen → Takes state before cards (Err sync_fault.Full) after
  too-full cards is bytes count (runs, others, reads, over, bytes_is, count_is, left) =
      let same : others ≡ cards = messages_read_one_way message others cards reads is in
      (ap (λ (cs : List Card). is_over (applied before.seen.map cs)) (sym same) ∙ over, λ i. record { disk = disk i; seen = left i })

  same-seen : (fault : ApplyFault) → IsApplied before.seen message (Err fault) after.seen → after.seen ≡ before.seen
  same-seen (apply_fault.Stopped faults) step = step.1
  same-seen (apply_fault.Line line) step = step.2
  same-seen (apply_fault.NameWrong kept found) step = step.2
  same-seen (apply_fault.Full bytes count) step = step.6
  same-seen apply_fault.Memory step = step.1

  pub stays : (fault : ApplyFault) → IsApplied before.seen message (Err fault) after.seen → after ≡ before
  stays fault step = λ i. record { disk = disk i; seen = same-seen fault step i }

-- ---- what is said

-- the answer to an offer, and what is given for an answer
pub answer-due : (records : List Record) (u v : List (List ℕ × Version)) (offer answer : List ℕ) → IsUv records u → offer ≡ message_text (offered u) → Answers (answered v) offer answer → answer ≡ message_text (peer_answer u v)
answer-due records u v offer answer is offer_is (cards, reads, text) =
    let same : cards ≡ offered u = messages_read_one_way offer cards (offered u) reads ((stores_talk.offer records u is).0, offer_is) in
    text ∙ ap (λ (cs : List Card). message_text (answered v cs)) same

pub give-due : (u : List (List ℕ × Version)) (message text : List ℕ) → Answers (given u) message text → (cards : List Card) → IsMessage message cards → text ≡ message_text (given u cards)
give-due u message text (others, reads, same_text) cards is =
    same_text ∙ ap (λ (cs : List Card). message_text (given u cs)) (messages_read_one_way message others cards reads is)

pub given-reads : (records : List Record) (u : List (List ℕ × Version)) (cards : List Card) (text : List ℕ) → IsUv records u → text ≡ message_text (given u cards) → IsMessage text (given u cards)
given-reads records u cards text is text_is = ((stores_talk.back records u cards is).0, text_is)

pub answer-reads : (records others : List Record) (u v : List (List ℕ × Version)) (text : List ℕ) → IsUv records u → IsUv others v → text ≡ message_text (peer_answer u v) → IsMessage text (peer_answer u v)
answer-reads records others u v text is_u is_v text_is = ((stores_talk.answer records others u v is_u is_v).0, text_is)

-- ---- the whole

module _ {D P : Type 0} (state : D → DiskState) (other : P → DiskState) (here after : Whole D) (there left : Whole P) where
  -- what is given once the answer was taken in is what was given before
  gave : Took state here (gets here there) after → given after.seen.map (gets here there) ≡ gives here there
  gave took = ap (λ (m : List (List ℕ × Version)). given m (gets here there)) took.commits.map ∙ stores_talk.same here.seen.map there.seen.map

  module _ (first second : Result ℕ SyncFault) (here_takes : Takes state here (gets here there) first after) (there_takes : Takes other there (given after.seen.map (gets here there)) second left) where
    pub synced-all : (received sent : ℕ) → first ≡ Ok received → second ≡ Ok sent → Syncs state other here there (Ok (received, sent)) after left
    synced-all received sent one two =
        let took = subst (λ (r : Result ℕ SyncFault). Takes state here (gets here there) r after) one here_takes in
        let back = subst (λ (r : Result ℕ SyncFault). Takes other there (given after.seen.map (gets here there)) r left) two there_takes in
        (took, subst (λ (cs : List Card). Takes other there cs (Ok sent) left) (gave took.1) back)

    by-fault : (fault : SyncFault) → Took state here (gets here there) after → Takes other there (gives here there) (Err fault) left → Syncs state other here there (Err fault) after left
    by-fault sync_fault.Full took back = (back.1, inr (took, back.0))
    by-fault sync_fault.Disk took back = inr (took, back)
    by-fault sync_fault.Memory took back = (back, inr took)

    pub synced-half : (received : ℕ) (fault : SyncFault) → first ≡ Ok received → second ≡ Err fault → Syncs state other here there (Err fault) after left
    synced-half received fault one two =
        let took = subst (λ (r : Result ℕ SyncFault). Takes state here (gets here there) r after) one here_takes in
        let back = subst (λ (r : Result ℕ SyncFault). Takes other there (given after.seen.map (gets here there)) r left) two there_takes in
        by-fault fault took.1 (subst (λ (cs : List Card). Takes other there cs (Err fault) left) (gave took.1) back)

-- nothing is put in at the other store
pub synced-none : {D P : Type 0} (state : D → DiskState) (other : P → DiskState) (here after : Whole D) (there : Whole P) (fault : SyncFault) → Takes state here (gets here there) (Err fault) after
    → Syncs state other here there (Err fault) after there
synced-none state other here after there sync_fault.Full took = (refl, inl took)
synced-none state other here after there sync_fault.Disk took = inl (took, refl)
synced-none state other here after there sync_fault.Memory took = (refl, inl took)
