-- Two runs of `pull-local` that pulled from each other.
use Rattle.std.specs.Prelude.{◌≡◌, ℕ, suc, ◌≤◌, Bool, true, false, List, [], ◌∷◌, ◌++◌, length, take, flat_map, Option, Some, None, Result, Ok, Err}
use Rattle.std.proofs.Common.{refl, sym, ap, subst, ◌∙◌, inl, inr, arith}
use Rattle.std.proofs.lemmas.List.{take_all}
use Rattle.fsl_record.specs.declared.Record.{Record}
use Rattle.fsl_journal.specs.File.{IsFileOf}
use Rattle.fsl_journal.specs.Laws.{IsOneFile}
use Rattle.fsl_blobs.specs.Fold.{Contents, contents}
use Rattle.fsl_cross.specs.declared.Item.{Item}
use Rattle.fsl_repo.specs.Machine.{State, AreItems, now}
use Rattle.fsl_repo.specs.Whole.{opened, front}
use Rattle.fsl_repo.proofs.SomeArrival.{some_items}
use Rattle.fsl_pull.specs.declared.PullFault.{PullFault}
use Rattle.fsl_pull.specs.declared.PullFault.TheVariants as fault
use Rattle.fsl_pull.specs.Rounds.{End}
use Rattle.fsl_pull.specs.Kept.{all_of_them}
use Rattle.fsl_pull.specs.Locals.{LocalRounds, IsLocalPull}
use Rattle.fsl_pull.proofs.CommitsLaw.{syncs_commit}
use Rattle.fsl_pull.proofs.CommitsAllLaw.{syncs_commit_all}
use Rattle.fsl_words.specs.declared.Question.{Question}
use Rattle.fsl_words.specs.declared.Question.TheVariants.{Cat, Receipt, Timeline, Leaves, Tags, Tip, Files, Wiki, Ticket, Thread, Phantoms, Info, Branches, Pages, Tickets, Threads}
use Rattle.fsl_query.specs.declared.Refused.{Refused}
use Rattle.fsl_query.specs.Reports.{report, content, IsReadContent, IsReport}
use Rattle.fossil.specs.Printed.{Printed}
use Rattle.fossil.specs.Outcome.{Outcome, not_repository}
use Rattle.fossil.specs.Run.{after_commits}
use Rattle.fossil.specs.Syncs.{Honesty, IsLocalOutcome, IsLocalOutcomeOn, end_printed, with_commits, no_peer}
use Rattle.fossil.specs.Synced.{Read, honesty, IsLoadedBy}
use Rattle.laws_pulls.specs.Shown.{is_of_file, ShowTheSame}
use Rattle.laws_pulls.specs.Pulls.{PullsWell, AreAlike, EachWay}
use Rattle.laws_pulls.specs.Runs.{behind, RunsWell, AnswerTheSame, RunsShowTheSame, RunsEachWay}
use Rattle.laws_pulls.proofs.Gaining.{not_true}
use Rattle.laws_pulls.proofs.Both.{each_way}

-- ---- status 0 is an end without a fault

printed_is : (p q : Printed) → ◌≡◌ {A = Option Printed} (Some p) (Some q) → p ≡ q
printed_is p q e = cc

not_zero : {P : Type 0} (n : ℕ) (p q : Printed) → ◌≡◌ {A = Option Printed} (Some p) (Some q) → p.status ≡ suc n → q.status ≡ 0 → P
not_zero n p q e some none = let is : p.status ≡ q.status = ap (λ (x : Printed). x.status) (printed_is p q e) in absurd (omega (arith, is, some, none))

nothing_printed : {P : Type 0} (q : Printed) → ◌≡◌ {A = Option Printed} None (Some q) → P
nothing_printed q e = absurd (no q e)
  where
    no : (q : Printed) → ◌≡◌ {A = Option Printed} None (Some q) → ⊥
    no q e = cc

well_by : (f : Option PullFault) (rounds stored : ℕ) (q : Printed) → end_printed f rounds stored ≡ Some q → q.status ≡ 0 → f ≡ None
well_by None rounds stored q e zero = refl
well_by (Some (fault.NotEmpty len)) rounds stored q e zero = not_zero 2 _ q e refl zero
well_by (Some (fault.NotRepository at)) rounds stored q e zero = nothing_printed q e
well_by (Some (fault.Project found)) rounds stored q e zero = not_zero 2 _ q e refl zero
well_by (Some (fault.Stopped faults)) rounds stored q e zero = nothing_printed q e
well_by (Some fault.Link) rounds stored q e zero = nothing_printed q e
well_by (Some fault.Disk) rounds stored q e zero = nothing_printed q e
well_by (Some (fault.Damaged name found)) rounds stored q e zero = nothing_printed q e
well_by (Some (fault.Peer why)) rounds stored q e zero = not_zero 7 _ q e refl zero
well_by (Some (fault.TooLarge name size)) rounds stored q e zero = not_zero 2 _ q e refl zero
well_by (Some (fault.Full name)) rounds stored q e zero = not_zero 2 _ q e refl zero
well_by (Some (fault.Missing name)) rounds stored q e zero = not_zero 9 _ q e refl zero
well_by (Some fault.Rounds) rounds stored q e zero = not_zero 10 _ q e refl zero
well_by (Some fault.Memory) rounds stored q e zero = nothing_printed q e

-- ---- a run and its pull

-- the pull that a run made, between the states of the two files, and what is behind it
record Ran (old there : List Record) (o : Outcome) : Type 0 where
  faults : ℕ
  kind : Bool
  peer_faults : ℕ
  last : End
  pulls : PullsWell (opened old faults kind) (opened there peer_faults true) last
  left : now last.state ≡ contents (behind old o)

wrong_status : {P : Type 0} (n : ℕ) (o x : Outcome) → o ≡ x → x.status ≡ suc n → o.status ≡ 0 → P
wrong_status n o x e some zero = let is : o.status ≡ x.status = ap (λ (y : Outcome). y.status) e in absurd (omega (arith, is, some, zero))

at_most_all : {X : Type 0} (xs : List X) → length xs ≤ length xs
at_most_all xs = omega arith

-- what a pull leaves are the old records and those of its commits
left_by : (s peer : State) (rounds : LocalRounds) (e : End) → s.committed ≡ length s.records → IsLocalPull s peer rounds e → e.fault ≡ None → e.state.records ≡ s.records ++ all_of_them e.commits
left_by s peer rounds e committed h well =
    let commits = syncs_commit.local s peer rounds e (subst (λ (n : ℕ). n ≤ length s.records) (sym committed) (at_most_all s.records)) h in
    let all : e.state.committed ≡ length e.state.records = syncs_commit_all.local s peer rounds e h well in
    sym (take_all (length e.state.records) e.state.records (at_most_all e.state.records)) ∙ ap (λ (n : ℕ). take n e.state.records) (sym all) ∙ commits
    ∙ ap (λ (rs : List Record). rs ++ all_of_them e.commits) (ap (λ (n : ℕ). take n s.records) committed ∙ take_all (length s.records) s.records (at_most_all s.records))

all_commits : (old : List Record) (commits : List (List Record)) → old ++ all_of_them commits ≡ after_commits old commits (length commits)
all_commits old commits = ap (λ (cs : List (List Record)). old ++ flat_map (λ (c : List Record). c) cs) (sym (take_all (length commits) commits (at_most_all commits)))

ran_on : (old there : List Record) (kind : Bool) (o : Outcome) → IsLocalOutcomeOn (kind, true) there old o → o.status ≡ 0 → Ran old there o
ran_on old there kind o (faults, peer_faults, rounds, (e, pulls, (printed, is, same))) zero =
    let well : e.fault ≡ None = well_by e.fault (length rounds) e.count printed is (sym (ap (λ (x : Outcome). x.status) same) ∙ zero) in
    record {
      faults = faults;
      kind = kind;
      peer_faults = peer_faults;
      last = e;
      pulls = record { honest = refl; rounds = rounds; pulls = pulls; well = well };
      left = ap contents (left_by (opened old faults kind) (opened there peer_faults true) rounds e refl pulls well ∙ all_commits old e.commits ∙ ap (behind old) (sym same));
    }

module _ (one_file : IsOneFile) where
  ran_local : (old there : List Record) (r : Read) (o : Outcome) → IsFileOf r.peer there → r.peer_honest ≡ true → IsLocalOutcome (honesty r) r.peer old o → o.status ≡ 0 → Ran old there o
  ran_local old there r o file honest (inl (at, fails, is)) zero = wrong_status 1 o (with_commits (no_peer at) []) is refl zero
  ran_local old there r o file honest (inr (records, other, on)) zero =
      ran_on old there r.honest o
      (subst (λ (b : Bool). IsLocalOutcomeOn (r.honest, b) there old o) honest
      (subst (λ (rs : List Record). IsLocalOutcomeOn (honesty r) rs old o) (one_file r.peer records there other file) on)) zero

  ran_loaded : (old there : List Record) (r : Read) (o : Outcome) → IsFileOf r.file old → IsFileOf r.peer there → r.peer_honest ≡ true → IsLoadedBy (IsLocalOutcome (honesty r) r.peer) r o → o.status ≡ 0 → Ran old there o
  ran_loaded old there r o file peer honest (inl (at, fails, none, is)) zero = wrong_status 1 o (not_repository at) is refl zero
  ran_loaded old there r o file peer honest (inr (records, other, by)) zero =
      ran_local old there r o peer honest (subst (λ (rs : List Record). IsLocalOutcome (honesty r) r.peer rs o) (one_file r.file records old other file) by) zero

  ran : (old there : List Record) (o : Outcome) → RunsWell old there o → Ran old there o
  ran old there o h = ran_loaded old there h.read o h.file h.peer h.honest h.outcome.1 h.well

-- ---- answers

by_items : (c d : Contents) → ShowTheSame c d → (question : Question) → is_of_file question ≡ false → (result : Result (List ℕ) Refused) → (xs : List Item) × AreItems c.held xs × (result ≡ report c xs question)
    → (ys : List Item) × AreItems d.held ys × (result ≡ report d ys question)
by_items c d same question told result (xs, are, is) = let ys = some_items d.held in (ys.0, ys.1, is ∙ same.reports question told xs ys.0 are ys.1)

same_content : (c d : Contents) → ShowTheSame c d → (prefix : List ℕ) → content c prefix ≡ content d prefix
same_content c d same prefix = let xs = some_items c.held in let ys = some_items d.held in same.reports (Cat prefix) refl xs.0 ys.0 xs.1 ys.1

answered : (honest : Bool) (c d : Contents) → ShowTheSame c d → (question : Question) → is_of_file question ≡ false → (result : Result (List ℕ) Refused) → IsReport honest c question result → IsReport honest d question result
answered honest c d same (Cat prefix) told result h = subst (λ (due : Result (List ℕ) Refused). IsReadContent honest due result) (same_content c d same prefix) h
answered honest c d same (Receipt prefix) told result h = not_true (sym told)
answered honest c d same (Timeline count) told result h = by_items c d same (Timeline count) told result h
answered honest c d same Leaves told result h = by_items c d same Leaves told result h
answered honest c d same (Tags prefix) told result h = by_items c d same (Tags prefix) told result h
answered honest c d same (Tip symbol) told result h = by_items c d same (Tip symbol) told result h
answered honest c d same (Files prefix) told result h = by_items c d same (Files prefix) told result h
answered honest c d same (Wiki title) told result h = by_items c d same (Wiki title) told result h
answered honest c d same (Ticket prefix) told result h = by_items c d same (Ticket prefix) told result h
answered honest c d same (Thread prefix) told result h = by_items c d same (Thread prefix) told result h
answered honest c d same Phantoms told result h = by_items c d same Phantoms told result h
answered honest c d same Info told result h = not_true (sym told)
answered honest c d same Branches told result h = by_items c d same Branches told result h
answered honest c d same Pages told result h = by_items c d same Pages told result h
answered honest c d same (Tickets fields) told result h = by_items c d same (Tickets fields) told result h
answered honest c d same Threads told result h = by_items c d same Threads told result h

turned : (c d : Contents) → ShowTheSame c d → ShowTheSame d c
turned c d same = record { held = sym same.held; reports = λ question told xs ys mine theirs. sym (same.reports question told ys xs theirs mine) }

answer_the_same : (a b : List Record) → ShowTheSame (contents a) (contents b) → AnswerTheSame a b
answer_the_same a b same =
    record {
      there = λ honest question o told h. (h.0, answered honest (contents a) (contents b) same question told h.0 h.1, h.2);
      back = λ honest question o told h. (h.0, answered honest (contents b) (contents a) (turned (contents a) (contents b) same) question told h.0 h.1, h.2);
    }

-- ---- the law

pub runs_each_way : IsOneFile → RunsEachWay
runs_each_way one_file a b one two alike first second =
    let p = ran one_file a b one first in
    let q = ran one_file b (behind a one) two second in
    let shown =
    each_way (opened a p.faults p.kind) (opened b p.peer_faults true) (opened b q.faults q.kind) (opened (behind a one) q.peer_faults true) p.last q.last alike p.pulls refl (sym p.left) q.pulls in
    let same =
    subst (λ (c : Contents). ShowTheSame c (contents (behind b two))) p.left (subst (λ (c : Contents). ShowTheSame (now (p.last).state) c) q.left shown) in
    record { shown = same; answered = answer_the_same (behind a one) (behind b two) same }
