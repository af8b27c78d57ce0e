-- What a run of a command that syncs says of its files, and of what it prints.
use Rattle.std.proofs.Common.{◌≡◌, ◌⊎◌, inl, inr, ⊎_elim, ℕ, Bool, true, false, List, [], ◌++◌, length, Option, Some, None, is_some, IsTrue, refl, sym, ap, subst, ◌∙◌}
use Rattle.std.specs.Prelude.{◌==◌, ◌||◌, if◌then◌else◌}
use Rattle.std.proofs.lemmas.List.{append-nil}
use Rattle.fsl_order.specs.Causes.{Rose}
use Rattle.fsl_record.specs.declared.Record.{Record}
use Rattle.fsl_outside.specs.Connections.{Connection, LinkState}
use Rattle.fsl_disk.specs.Disk.{DiskState, IsModelled, Told, Keeps, LeavesOnly}
use Rattle.fsl_disk.proofs.Moments.{started, weaker, and_then, modelled_after, told_contents}
use Rattle.fsl_journal.specs.File.{IsFileOf}
use Rattle.fsl_journal.specs.Journal.{HeldOrSame}
use Rattle.fsl_journal.proofs.Unique.{one_file}
use Rattle.fsl_repo.specs.Machine.{State}
use Rattle.fsl_repo.specs.Whole.{Whole, IsWholeOn, is_modelled, front as committed_front}
use Rattle.fsl_http.specs.Responses.{IsBrokenOff, IsLeft}
use Rattle.fsl_pull.specs.Dialled.{Rounds, Breaks, Grows}
use Rattle.fsl_pull.specs.Kept.{all_of_them, StandsForSome, IsKeptAtAnyMoment}
use Rattle.fsl_pull.proofs.KeptLemmas.{none_of_them}
use Rattle.fsl_words.specs.declared.Command.{Command}
use Rattle.fsl_words.specs.declared.Command.TheVariants as command_of
use Rattle.fsl_words.specs.declared.Unversioned.TheVariants as uv
use Rattle.fossil.specs.declared.commands.sync.Way.{Way}
use Rattle.fossil.specs.declared.commands.sync.Way.TheVariants as way
use Rattle.fossil.specs.Printed.{Printed}
use Rattle.fossil.specs.Uses.{command_syncs, command_clones, command_merges, command_scrubs, command_meets, command_asks_peer}
use Rattle.fossil.specs.Outcome.{Outcome, printed_of}
use Rattle.fossil.specs.Run.{File, Output, Agrees, IsWritten}
use Rattle.fossil.specs.Acts.{file_of, KeepsImages}
use Rattle.fossil.specs.Due.{printed, Due}
use Rattle.fossil.specs.Synced.{Read, Objects, IsSyncOutcome, AreCommitsSoFar, AreCommits, IsDue, IsCutOff, IsFileDue, HasFailed, objects_of, IsAnswer, IsDamaged, IsFaulted, Far, AreCutOff, AreMade, reached, StandsForAll, StandsAsFar, StandsOrWasLeft, IsFileLeft, IsWholeAtAnyMoment, IsDurable, IsPeerKept, IsUntouched, SyncsBy, HasSynced}
use Rattle.fossil.specs.Syncing.{command_by}
use Rattle.fossil.proofs.InputLemmas.{some_bytes}
use Rattle.fossil.proofs.FileLemmas.{both, some_same, agreed, quiet_none}
use Rattle.fossil.proofs.PrintedLemmas.{ends}
use Rattle.fossil.proofs.TakenLemmas.{Start, IsAt, IsFailedAt}
use Rattle.fossil.proofs.SoundLemmas.{sent_as}

-- ---- what a file stands for

-- it stands for the records that were there and these commits, and so does each image
pub record Holds (left : DiskState) (base : List Record) (commits : List (List Record)) : Type 0 where
  pub contents : Told left (λ held. IsFileOf held (base ++ all_of_them commits))
  pub durable : IsModelled left → (c : List ℕ) → left.images c → IsFileOf c (base ++ all_of_them commits)

-- the file of a repository that runs
pub holds : {D : Type 0} (left : DiskState) (r : Whole D) (base : Start) (commits : List (List Record)) → IsWholeOn left r → IsAt base r.seen.state commits → Holds left base.records commits
holds left r base commits whole h = record {
  contents = λ held told. subst (λ (rs : List Record). IsFileOf held rs) h.stands (whole.belongs.reads h.runs held told).0.file;
  durable = λ modelled c image. subst (λ (rs : List Record). IsFileOf c rs) h.stands (whole.exact h.runs modelled c image);
}

-- each image stands for these records and the commits that were made, or for those with the due one too
abbrev pub HoldsEither : DiskState → List Record → Far → Type 0
HoldsEither left base far = IsModelled left → (c : List ℕ) → left.images c → IsFileOf c (base ++ all_of_them far.done) ⊎ IsFileOf c (base ++ all_of_them far.due)

either_of : (base : Start) (s : State) (far : Far) (c : List ℕ) → IsFailedAt base s far.done far.due → IsFileOf c (committed_front s) ⊎ IsFileOf c s.records
    → IsFileOf c (base.records ++ all_of_them far.done) ⊎ IsFileOf c (base.records ++ all_of_them far.due)
either_of base s far c h (inl is) = inl (subst (λ (rs : List Record). IsFileOf c rs) h.before is)
either_of base s far c h (inr is) = inr (subst (λ (rs : List Record). IsFileOf c rs) h.all is)

-- the file of a repository whose commit failed
pub holds_either : {D : Type 0} (left : DiskState) (r : Whole D) (base : Start) (far : Far) → IsWholeOn left r → IsFailedAt base r.seen.state far.done far.due → HoldsEither left base.records far
holds_either left r base far whole h modelled c image = either_of base r.seen.state far c h (whole.belongs.stands modelled c image)

-- it stands for the commits that were made; where one failed, each image does so with it or without it
abbrev pub IsLeftSo : DiskState → DiskState → List Record → ℕ → Far → Type 0
IsLeftSo file left base status far = Holds left base far.done ⊎ ((status ≡ 4) × Rose file.faults left.faults × HoldsEither left base far)

-- all of these commits were made
abbrev pub made_all : List (List Record) → Far
made_all commits = record { done = commits; due = commits }

same_either : (commits : List (List Record)) (b : Bool) → (if b then commits else commits) ≡ commits
same_either commits true = refl
same_either commits false = refl

pub reached_all : (status : ℕ) (commits : List (List Record)) → reached status (made_all commits) ≡ commits
reached_all status commits = same_either commits (status == 4)

-- nothing was committed, and the bytes stand for what was there
pub as_old_so_far : (status : ℕ) (old : List Record) (bytes : List ℕ) → IsFileOf bytes old → StandsAsFar status old (made_all []) bytes
as_old_so_far status old bytes is = inl (subst (λ (rs : List Record). IsFileOf bytes rs) (sym (append-nil old)) is)

module _ (file left : DiskState) (bytes : List ℕ) (base : List Record) (told : Agrees file.contents bytes) (stands : IsFileOf bytes base) (keeps : Keeps file left) where
  base_is : (old : List Record) → IsFileOf bytes old → base ≡ old
  base_is old are = one_file bytes base old stands are

  as_old : (old : List Record) (commits : List (List Record)) (held : List ℕ) → IsFileOf bytes old → IsFileOf held (base ++ all_of_them commits) → StandsForAll old commits held
  as_old old commits held are h = subst (λ (b : List Record). IsFileOf held (b ++ all_of_them commits)) (base_is old are) h

  as_either : (status : ℕ) (old : List Record) (far : Far) (held : List ℕ) → IsFileOf bytes old → status ≡ 4 → IsFileOf held (base ++ all_of_them far.done) ⊎ IsFileOf held (base ++ all_of_them far.due) → StandsAsFar status old far held
  as_either status old far held are four (inl h) = inl (as_old old far.done held are h)
  as_either status old far held are four (inr h) = inr (four, as_old old far.due held are h)

  pub contents_left : (left_reads : (held : List ℕ) → IsTrue left.is_model → left.contents ≡ Some held → left.images held) (status : ℕ) (far : Far) → IsLeftSo file left base status far → IsFileLeft (both file left) bytes status far
  contents_left left_reads status far (inl h) old held file_told left_told are known = inl (as_old old far.done held are (h.contents held left_told))
  contents_left left_reads status far (inr (four, rose, h)) old held file_told left_told are known =
      let model = known four rose in
      let modelled : IsModelled file = record { tells = ap is_some file_told; model = model } in
      as_either status old far held are four (h (modelled_after file left keeps modelled) held (left_reads held (keeps.model ∙ model) left_told))

  pub durable_left : (status : ℕ) (far : Far) → IsLeftSo file left base status far → IsDurable (both file left) bytes status far
  durable_left status far (inl h) modelled file_told old are c image = inl (inl (as_old old far.done c are (h.durable (modelled_after file left keeps modelled) c image)))
  durable_left status far (inr (four, rose, h)) modelled file_told old are c image = inl (as_either status old far c are four (h (modelled_after file left keeps modelled) c image))

  -- the moments of the load, and those of the sync behind it
  pub moments_left : (mid : DiskState) (commits : List (List Record)) → Keeps file mid → KeepsImages file mid → (IsModelled mid → (c : List ℕ) → mid.images c → IsFileOf c base)
      → ((held : List ℕ) → IsTrue file.is_model → file.contents ≡ Some held → file.images held) → IsKeptAtAnyMoment base mid left commits → IsWholeAtAnyMoment (both file left) commits
  moments_left mid commits keeps_mid stays exact file_reads kept modelled old are =
      let t = told_contents file modelled in
      let same : bytes ≡ t.0 = agreed file.contents bytes t.0 told t.1 in
      let old_is : base ≡ old = one_file t.0 base old (subst (λ (b : List ℕ). IsFileOf b base) same stands) (are t.0 (file_reads t.0 modelled.model t.1)) in
      let after : IsModelled mid = modelled_after file mid keeps_mid modelled in
      and_then file mid left (StandsForSome old commits)
      (weaker file mid (λ c. IsFileOf c old) (StandsForSome old commits) (none_of_them old commits) (stays modelled old are))
      (subst (λ (b : List Record). LeavesOnly mid left (StandsForSome b commits)) old_is (kept after (exact after)))

-- the moments of the load alone
pub moments_loaded : (file left : DiskState) (commits : List (List Record)) → KeepsImages file left → IsWholeAtAnyMoment (both file left) commits
moments_loaded file left commits stays modelled old are = weaker file left (λ c. IsFileOf c old) (StandsForSome old commits) (none_of_them old commits) (stays modelled old are)

-- ---- a dial and a peer that aren't used

pub none_grown : (o : Option (List Connection)) → Grows o o [] []
none_grown None = refl
none_grown (Some connections) = ([], sym (append-nil connections), ([], refl, tt, tt))

pub untouched : (file : DiskState) → IsUntouched (both file file)
untouched file = record { quiet = quiet_none file; moment = refl; faults = refl }

pub peer_idle : (peer : DiskState) → (IsTrue peer.is_model → (c : List ℕ) → peer.since peer.moment c → peer.images c) → IsPeerKept (both peer peer)
peer_idle peer no_other = record {
  contents = inr (λ bytes told old are held held_told. subst (λ (b : List ℕ). IsFileOf b old) (some_same (sym told ∙ held_told)) are);
  spared = inl refl;
  any_moment = λ modelled old are. started peer (λ c. IsFileOf c old) (no_other modelled.model) are;
  harmless = λ modelled. started peer (HeldOrSame peer) (no_other modelled.model) (λ c image. inl image);
  unreadable = λ bytes told at fails. quiet_none peer;
  keeps = record { tells = refl; model = refl };
}

-- ---- the printing

module _ (command : Command) (x : Objects) (broken : List Connection) (r : Read) (commits : List (List Record)) (P Q : Printed → Type 0) (turn : (o : Printed) → P o → Q o) where
  faulted_as : IsFaulted command r broken commits x P → IsFaulted command r broken commits x Q
  faulted_as (inl (none, failed, tells)) = inl (none, failed, turn _ tells)
  faulted_as (inr (inl (rose, cut, tells))) = inr (inl (rose, cut, turn _ tells))
  faulted_as (inr (inr (inl (cut, tells)))) = inr (inr (inl (cut, turn _ tells)))
  faulted_as (inr (inr (inr (name, found, none, is, tells)))) = inr (inr (inr (name, found, none, is, turn _ tells)))

  answered_as : IsAnswer command r broken commits x P → IsAnswer command r broken commits x Q
  answered_as (inl (o, none, is, same, tells)) = inl (o, none, is, same, turn (printed_of o) tells)
  answered_as (inr fault) = inr (faulted_as fault)

not_four : ◌≡◌ {A = ℕ} 0 4 → ⊥
not_four e = cc

module _ (command : Command) (x : Objects) (rounds : Rounds) (broken : List Connection) (r : Read) (commits : List (List Record)) (P Q : Printed → Type 0) (turn : (o : Printed) → P o → Q o) where
  same_status : (n status : ℕ) → status ≡ n → SyncsBy command x P n rounds broken r commits → SyncsBy command x Q status rounds broken r commits
  same_status n status e s = subst (λ (m : ℕ). SyncsBy command x Q m rounds broken r commits) (sym e) (record {
    file_told = s.file_told;
    peer_told = s.peer_told;
    rounds_are = s.rounds_are;
    honest = s.honest;
    peer_honest = s.peer_honest;
    led = s.led;
    answer = answered_as command x broken r commits P Q turn s.answer;
    far = s.far;
    are_made = s.are_made;
    contents = s.contents;
    kept = s.kept;
    any_moment = s.any_moment;
    durable = s.durable;
    keeps = s.keeps;
    peer = s.peer;
    unasked = s.unasked;
    disk = s.disk;
    dial = s.dial;
  })

  -- where the status is neither 4 nor 9 nothing is cut off
  as_six : (old : List Record) (far : Far) (bytes : List ℕ) → StandsAsFar 0 old far bytes → StandsAsFar 6 old far bytes
  as_six old far bytes (inl h) = inl h
  as_six old far bytes (inr (four, h)) = absurd (not_four four)

  durable_six : (old : List Record) (far : Far) (c : List ℕ) → StandsOrWasLeft x.file 0 old far c → StandsOrWasLeft x.file 6 old far c
  durable_six old far c (inl h) = inl (as_six old far c h)
  durable_six old far c (inr (inl nine, none, image)) = absurd (cc)
  durable_six old far c (inr (inr (four, rose), none, image)) = absurd (not_four four)

  cut_status : (n status : ℕ) → n ≡ 0 → status ≡ 6 → SyncsBy command x P n rounds broken r commits → SyncsBy command x Q status rounds broken r commits
  cut_status n status z six s =
      let at_zero : SyncsBy command x P 0 rounds broken r commits = subst (λ (m : ℕ). SyncsBy command x P m rounds broken r commits) z s in
      subst (λ (m : ℕ). SyncsBy command x Q m rounds broken r commits) (sym six)
      (record {
        file_told = at_zero.file_told;
        peer_told = at_zero.peer_told;
        rounds_are = at_zero.rounds_are;
        honest = at_zero.honest;
        peer_honest = at_zero.peer_honest;
        led = at_zero.led;
        answer = answered_as command x broken r commits P Q turn at_zero.answer;
        far = at_zero.far;
        are_made = at_zero.are_made;
        contents = λ old held file_told left_told are known. as_six old at_zero.far held (at_zero.contents old held file_told left_told are (λ four rose. absurd (cc)));
        kept = at_zero.kept;
        any_moment = at_zero.any_moment;
        durable = λ modelled file_told old are c image. durable_six old at_zero.far c (at_zero.durable modelled file_told old are c image);
        keeps = at_zero.keeps;
        peer = at_zero.peer;
        unasked = at_zero.unasked;
        disk = λ other. at_zero.disk (λ four. absurd (cc));
        dial = λ other. at_zero.dial (λ seven. absurd (cc));
      })

-- what is due was printed
pub synced_printed : (command : Command) (x : Objects) (d : Due) (out : Output) (status : ℕ) → HasSynced command x (λ o. printed d ≡ o) (printed d).status → IsWritten (printed d) out status
    → HasSynced command x (λ o. IsWritten o out status) status
synced_printed command x d out status (rounds, broken, grows, (r, commits, s)) written =
    let turn : (o : Printed) → printed d ≡ o → IsWritten o out status = λ o e. subst (λ (p : Printed). IsWritten p out status) e written in (
      rounds,
      broken,
      grows,
      (
        r,
        commits,
        ⊎_elim (λ e. same_status command x rounds broken r commits (λ o. printed d ≡ o) (λ o. IsWritten o out status) turn (printed d).status status e s)
            (λ p. cut_status command x rounds broken r commits (λ o. printed d ≡ o) (λ o. IsWritten o out status) turn (printed d).status status p.0 p.1 s) (ends (printed d) status out written),
      ),
    )

-- ---- a sync over a dial, which uses no peer's file

-- a reading with other bytes in the place of the peer's
abbrev pub with_peer : List ℕ → Bool → Read → Read
with_peer bytes kind r = record { file = r.file; peer = bytes; honest = r.honest; peer_honest = kind; rounds = r.rounds }

-- nothing that is said of a command speaks of the peer's file
pub record IsApart (command : Command) : Type 1 where
  pub alone : IsTrue (command_asks_peer command) → ⊥
  pub outcome : (bytes : List ℕ) (kind : Bool) (r : Read) (o : Outcome) → IsSyncOutcome command r o → IsSyncOutcome command (with_peer bytes kind r) o
  pub so_far : (bytes : List ℕ) (kind : Bool) (r : Read) (commits : List (List Record)) → AreCommitsSoFar command r commits → AreCommitsSoFar command (with_peer bytes kind r) commits
  pub due : (bytes : List ℕ) (kind : Bool) (r : Read) (body : List ℕ) → IsDue command r body → IsDue command (with_peer bytes kind r) body
  pub cut_off : (bytes : List ℕ) (kind : Bool) (r : Read) (commits : List (List Record)) (far : Far) → AreCutOff command r commits far → AreCutOff command (with_peer bytes kind r) commits far
  pub file_due : (bytes : List ℕ) (kind : Bool) (r : Read) (commits : List (List Record)) (peer other : File) → IsFileDue command r commits peer → IsFileDue command (with_peer bytes kind r) commits other
  pub damaged : (bytes : List ℕ) (kind : Bool) (r : Read) (commits : List (List Record)) (name found : List ℕ) → IsDamaged command r commits name found →
      IsDamaged command (with_peer bytes kind r) commits name found

pub apart_by : (w : Way) (address : List ℕ) (login : Option (List ℕ × List ℕ)) → IsApart (command_by w address login)
apart_by way.Pull address login = record {
  alone = λ asks. absurd (cc);
  outcome = λ bytes kind r o h. h;
  so_far = λ bytes kind r commits h. h;
  due = λ bytes kind r body h. h;
  cut_off = λ bytes kind r commits far h. h;
  file_due = λ bytes kind r commits peer other h. h;
  damaged = λ bytes kind r commits name found h. h;
}
apart_by way.Push address login = record {
  alone = λ asks. absurd (cc);
  outcome = λ bytes kind r o h. h;
  so_far = λ bytes kind r commits h. h;
  due = λ bytes kind r body h. h;
  cut_off = λ bytes kind r commits far h. h;
  file_due = λ bytes kind r commits peer other h. h;
  damaged = λ bytes kind r commits name found h. h;
}

module _ (command : Command) (apart : IsApart command) (file peer other : DiskState × DiskState) (still : IsUntouched (file_of other)) (dial : LinkState × LinkState) (Tells : Printed → Type 0) where
  abbrev there : List ℕ
  there = (some_bytes (other.0).contents).0

  abbrev kind : Bool
  kind = is_modelled other.0

  -- no disk but that of its own file fails
  own_failed : (r : Read) (commits : List (List Record)) → HasFailed command r commits (objects_of file peer dial) → HasFailed command (with_peer there kind r) commits (objects_of file other dial)
  own_failed r commits (inl (rose, alone, due)) = inl (rose, (λ asks. absurd (apart.alone asks)), apart.file_due there kind r commits (file_of peer) (file_of other) due)
  own_failed r commits (inr (asks, rose, same, none)) = absurd (apart.alone asks)

  own_cut : (r : Read) (BreaksOff : Breaks) (broken : List Connection) (more : ℕ) → IsCutOff command r BreaksOff broken more → IsCutOff command (with_peer there kind r) BreaksOff broken more
  own_cut r BreaksOff broken more h = record {
    due = ((h.due).0, apart.due there kind r (h.due).0 (h.due).1);
    few = h.few;
    sent = sent_as BreaksOff broken (IsDue command r) (IsDue command (with_peer there kind r)) (apart.due there kind r) h.sent;
  }

  own_made : (r : Read) (status : ℕ) (broken : List Connection) (commits : List (List Record)) (far : Far) → AreMade command r status broken commits far → AreMade command (with_peer there kind r) status broken commits far
  own_made r status broken commits far (inl whole) = inl whole
  own_made r status broken commits far (inr (cut, none, off)) = inr (cut, none, apart.cut_off there kind r commits far off)

  own_faulted : (r : Read) (broken : List Connection) (commits : List (List Record)) → IsFaulted command r broken commits (objects_of file peer dial) Tells → IsFaulted command (with_peer there kind r) broken commits (objects_of file other dial) Tells
  own_faulted r broken commits (inl (none, failed, tells)) = inl (none, own_failed r commits failed, tells)
  own_faulted r broken commits (inr (inl (rose, cut, tells))) = inr (inl (rose, own_cut r IsBrokenOff broken 1 cut, tells))
  own_faulted r broken commits (inr (inr (inl (inl none, tells)))) = inr (inr (inl (inl none, tells)))
  own_faulted r broken commits (inr (inr (inl (inr cut, tells)))) = inr (inr (inl (inr (own_cut r IsLeft broken (length broken) cut), tells)))
  own_faulted r broken commits (inr (inr (inr (name, found, none, is, tells)))) = inr (inr (inr (name, found, none, apart.damaged there kind r commits name found is, tells)))

  own_answer : (r : Read) (broken : List Connection) (commits : List (List Record)) → IsAnswer command r broken commits (objects_of file peer dial) Tells → IsAnswer command (with_peer there kind r) broken commits (objects_of file other dial) Tells
  own_answer r broken commits (inl (o, none, is, same, tells)) = inl (o, none, apart.outcome there kind r o is, same, tells)
  own_answer r broken commits (inr fault) = inr (own_faulted r broken commits fault)

  own_commits : (r : Read) (commits : List (List Record)) → AreCommits command r commits → AreCommits command (with_peer there kind r) commits
  own_commits r commits (inl (o, is, same)) = inl (o, apart.outcome there kind r o is, same)
  own_commits r commits (inr so_far) = inr (apart.so_far there kind r commits so_far)

  own_led : (r : Read) (rounds : Rounds) (commits : List (List Record)) → AreCommits command r commits ⊎ ((rounds ≡ []) × (commits ≡ [])) → AreCommits command (with_peer there kind r) commits ⊎ ((rounds ≡ []) × (commits ≡ []))
  own_led r rounds commits (inl are) = inl (own_commits r commits are)
  own_led r rounds commits (inr none) = inr none

  -- so what is said of it is said beside whatever peer
  pub other_peer : (status : ℕ) → HasSynced command (objects_of file peer dial) Tells status → HasSynced command (objects_of file other dial) Tells status
  other_peer status (rounds, broken, grows, (r, commits, s)) = (
    rounds,
    broken,
    grows,
    (
      with_peer there kind r,
      commits,
      record {
        file_told = s.file_told;
        peer_told = (some_bytes (other.0).contents).1;
        rounds_are = s.rounds_are;
        honest = s.honest;
        peer_honest = refl;
        led = own_led r rounds commits s.led;
        answer = own_answer r broken commits s.answer;
        far = s.far;
        are_made = own_made r status broken commits s.far s.are_made;
        contents = s.contents;
        kept = s.kept;
        any_moment = s.any_moment;
        durable = s.durable;
        keeps = s.keeps;
        peer = λ asks. absurd (apart.alone asks);
        unasked = λ told refused. still;
        disk = λ other. ((s.disk other).0, λ asks. absurd (apart.alone asks));
        dial = s.dial;
      },
    ),
  )

-- ---- words

pub said_one : (a b : Command) → Some a ≡ Some b → a ≡ b
said_one a b e = cc

pub none_or_some : (a : Command) → None ≡ Some a → ⊥
none_or_some a e = cc

-- a command that meets a peer isn't one that meets none
pub alone_meets : (a b : Command) → a ≡ b → command_meets b ≡ true → command_meets a ≡ false → ⊥
alone_meets a b same is not_so = let e : true ≡ false = sym is ∙ ap command_meets (sym same) ∙ not_so in cc

-- a clone doesn't sync
pub clone_alone : (a : Command) (address server : List ℕ) (fields : List (List ℕ)) → a ≡ command_of.Clone address server fields → IsTrue (command_syncs a) → ⊥
clone_alone a address server fields same asks = let e : true ≡ false = sym asks ∙ ap command_syncs same in cc

-- a command other than these meets no peer
abbrev pub IsNoPull : Command → Type 0
IsNoPull command = (address : List ℕ) (login : Option (List ℕ × List ℕ)) → command ≡ command_of.Pull address login → ⊥

abbrev pub IsNoPush : Command → Type 0
IsNoPush command = (address : List ℕ) (login : Option (List ℕ × List ℕ)) → command ≡ command_of.Push address login → ⊥

abbrev pub IsNoClone : Command → Type 0
IsNoClone command = (address server : List ℕ) (fields : List (List ℕ)) → command ≡ command_of.Clone address server fields → ⊥

abbrev pub IsNoLocal : Command → Type 0
IsNoLocal command = (path : List ℕ) → command ≡ command_of.PullLocal path → ⊥

abbrev pub IsNoMerge : Command → Type 0
IsNoMerge command = (path : List ℕ) → command ≡ command_of.Unversioned (uv.Sync path) → ⊥

abbrev pub IsNoScrub : Command → Type 0
IsNoScrub command = (path : List ℕ) → command ≡ command_of.Scrub path → ⊥

pub is_alone : (command : Command) → IsNoPull command → IsNoPush command → IsNoClone command → IsNoLocal command → IsNoMerge command → IsNoScrub command → command_meets command ≡ false
is_alone (command_of.Init project server fields) no_pull no_push no_clone no_local no_merge no_scrub = refl
is_alone command_of.Ingest no_pull no_push no_clone no_local no_merge no_scrub = refl
is_alone command_of.Put no_pull no_push no_clone no_local no_merge no_scrub = refl
is_alone (command_of.Shun name) no_pull no_push no_clone no_local no_merge no_scrub = refl
is_alone (command_of.Unshun name) no_pull no_push no_clone no_local no_merge no_scrub = refl
is_alone (command_of.Ask question) no_pull no_push no_clone no_local no_merge no_scrub = refl
is_alone (command_of.Serve address users workers requests) no_pull no_push no_clone no_local no_merge no_scrub = refl
is_alone (command_of.Checkin parent user comment) no_pull no_push no_clone no_local no_merge no_scrub = refl
is_alone (command_of.Export prefix) no_pull no_push no_clone no_local no_merge no_scrub = refl
is_alone (command_of.Verify prefix) no_pull no_push no_clone no_local no_merge no_scrub = refl
is_alone (command_of.Scrub path) no_pull no_push no_clone no_local no_merge no_scrub = absurd (no_scrub path refl)
is_alone (command_of.Unversioned (uv.Init project server)) no_pull no_push no_clone no_local no_merge no_scrub = refl
is_alone (command_of.Unversioned (uv.Add path)) no_pull no_push no_clone no_local no_merge no_scrub = refl
is_alone (command_of.Unversioned (uv.Remove path)) no_pull no_push no_clone no_local no_merge no_scrub = refl
is_alone (command_of.Unversioned uv.List) no_pull no_push no_clone no_local no_merge no_scrub = refl
is_alone (command_of.Unversioned (uv.Cat path)) no_pull no_push no_clone no_local no_merge no_scrub = refl
is_alone (command_of.Unversioned (uv.Sync path)) no_pull no_push no_clone no_local no_merge no_scrub = absurd (no_merge path refl)
is_alone (command_of.Gen count reversed) no_pull no_push no_clone no_local no_merge no_scrub = refl
is_alone (command_of.Pull address login) no_pull no_push no_clone no_local no_merge no_scrub = absurd (no_pull address login refl)
is_alone (command_of.Push address login) no_pull no_push no_clone no_local no_merge no_scrub = absurd (no_push address login refl)
is_alone (command_of.Clone address server fields) no_pull no_push no_clone no_local no_merge no_scrub = absurd (no_clone address server fields refl)
is_alone (command_of.PullLocal path) no_pull no_push no_clone no_local no_merge no_scrub = absurd (no_local path refl)

-- one that syncs meets a peer
syncs_meets : (command : Command) → IsTrue (command_syncs command) → command_meets command ≡ true
syncs_meets command asks = (λ i. (asks i) || (command_clones command || (command_merges command || command_scrubs command)))

pub not_alone : (command : Command) → IsNoPull command → IsNoPush command → IsNoClone command → IsNoLocal command → IsNoMerge command → IsNoScrub command → IsTrue (command_syncs command) → ⊥
not_alone command no_pull no_push no_clone no_local no_merge no_scrub asks =
    let e : true ≡ false = sym (syncs_meets command asks) ∙ is_alone command no_pull no_push no_clone no_local no_merge no_scrub in cc
