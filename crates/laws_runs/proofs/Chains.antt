-- Runs one after the other.
use Rattle.std.proofs.Common.{◌≡◌, ◌⊎◌, inl, inr, ℕ, Bool, true, false, ◌++◌, List, [], ◌∷◌, Some, IsTrue, refl, sym, ap, subst, ◌∙◌, append_assoc}
use Rattle.std.proofs.lemmas.List.{append-nil}
use Rattle.fsl_disk.specs.Disk.{IsModelled, Told, Only}
use Rattle.fsl_disk.proofs.Moments.{modelled_after, told_contents}
use Rattle.fsl_record.specs.declared.Record.{Record}
use Rattle.fsl_journal.specs.File.{IsFileOf}
use Rattle.fsl_journal.specs.Laws.{IsSomeFile}
use Rattle.fossil.specs.Outcome.{said}
use Rattle.fossil.specs.Run.{StandsFor, IsWritten, after_commits, is_done, opens_file}
use Rattle.fossil.specs.Acts.{output_of}
use Rattle.fossil.specs.Synced.{reached}
use Rattle.laws_runs.specs.declared.session.Session.{Session}
use Rattle.laws_runs.specs.declared.session.Past.{Past}
use Rattle.laws_runs.specs.Stands.{Step, Stands, IsSettled, IsBehind}
use Rattle.laws_runs.specs.Runs.{States, IsRun, IsEndedBy, IsRunOf, AreRuns, AreCommitsOf, AreSteps, IsCovered, AreCovered, IsFirm, AreFirm, StandThrough, AllSurvive, words_of, ran_of, is_sure, is_killed}
use Rattle.laws_runs.proofs.Steps.{Lasts, Passes, Steps, run_lasts, run_passes, settled_one, is_its_file, sure_done, firm_steps, ended_steps}
use Rattle.laws_runs.proofs.SyncSteps.{sync_lasts, sync_passes}

-- one run more
module _ {S K P N C D : Type 0} (states : States S K P N C D) (mid : D) (s : Session S K P N C) (p : Past S K P N C D) (last : D) where
  pub more_runs : (first : D) (sessions : List (Session S K P N C)) (pasts : List (Past S K P N C D)) → AreRuns states first sessions pasts mid → IsRunOf states mid s p last
      → AreRuns states first (sessions ++ s ∷ []) (pasts ++ p ∷ []) last
  more_runs first [] [] same run = (last, subst (λ d. IsRunOf states d s p last) same run, refl)
  more_runs first [] (x ∷ pasts) so_far run = absurd so_far
  more_runs first (x ∷ sessions) [] so_far run = absurd so_far
  more_runs first (x ∷ sessions) (y ∷ pasts) so_far run = (so_far.0, so_far.1, more_runs so_far.0 sessions pasts so_far.2 run)

module _ {S K P N C D : Type 0} (states : States S K P N C D)
    (reads : (d : D) (held : List ℕ) → IsTrue (states.disk d).is_model → (states.disk d).contents ≡ Some held → (states.disk d).images held)
    (only_now : (d : D) (c : List ℕ) → IsTrue (states.disk d).is_model → (states.disk d).since (states.disk d).moment c → (states.disk d).images c)
    (some_file : IsSomeFile) where
  -- what a run that had these commits did of its file, over what was settled, and where it was done over what read as a repository
  record HasDone (p : Past S K P N C D) (commits : List (List Record)) : Type 0 where
    modelled : IsModelled (states.disk p.ended.value)
    passes : (old : List Record) → IsSettled old (states.disk p.began.value).images
        → Passes old commits (is_done p.status) (states.disk p.began.value) (states.disk p.ended.value)
    lasts : (old : List Record) → Told (states.disk p.began.value) (λ held. IsFileOf held old) → IsTrue (opens_file (words_of p.handed.value)) → is_done p.status ≡ true
        → Lasts old commits (states.disk p.ended.value)

  -- its commits, and what it did
  abbrev HasPassed : Past S K P N C D → Type 0
  HasPassed p = (commits : List (List Record)) × AreCommitsOf states p commits × (IsModelled (states.disk p.began.value) → HasDone p commits)

  module _ (first : D) (s : Session S K P N C) (p : Past S K P N C D) (left : D) (run : IsRunOf states first s p left) where
    passed : IsCovered (said (words_of p.handed.value)) → HasPassed p
    passed (inl alone) =
        let r = run.run.runs alone in (
          r.3.commits,
          inl (r.0, r.1, r.2, r.3, r.4, refl),
          λ modelled. record {
            modelled = modelled_after (states.disk p.began.value) (states.disk p.ended.value) r.4.keeps modelled;
            passes =
                run_passes states.disk reads only_now some_file (said (words_of p.handed.value)) _ _ _ p.began.value p.ended.value p.status r.0 r.1 r.2 r.3 r.4
                run.run.untouched modelled;
            lasts =
                run_lasts states.disk reads only_now some_file (said (words_of p.handed.value)) _ _ _ p.began.value p.ended.value p.status r.0 r.1 r.2 r.3 r.4
                run.run.untouched modelled;
          },
        )
    passed (inr syncs) =
        let r = run.run.synced syncs.0 syncs.1 syncs.2 in
        let s = r.3.2 in (
          reached p.status s.far,
          inr (syncs.0, syncs.1, (r.0, r.1, r.2, (r.3.0, r.3.1, s, refl))),
          λ modelled. record {
            modelled = modelled_after (states.disk p.began.value) (states.disk p.ended.value) s.keeps modelled;
            passes =
                sync_passes syncs.0 (states.disk p.began.value) (states.disk p.ended.value) (states.peer p.handed.value.peer, states.peer p.session.peer)
                (states.dial p.handed.value.dial, states.dial p.session.dial)
                (λ o. IsWritten o (output_of (states.out p.handed.value.out, states.out p.session.out)) p.status) p.status r.0 r.1 r.3.0 r.3.1 s some_file modelled
                (λ held told. reads p.began.value held modelled.model told) (λ c since. only_now p.began.value c modelled.model since);
            lasts = λ old file opened done.
                sync_lasts syncs.0 (states.disk p.began.value) (states.disk p.ended.value) (states.peer p.handed.value.peer, states.peer p.session.peer)
                (states.dial p.handed.value.dial, states.dial p.session.dial)
                (λ o. IsWritten o (output_of (states.out p.handed.value.out, states.out p.session.out)) p.status) p.status r.0 r.1 r.3.0 r.3.1 s some_file modelled
                (λ held told. reads p.began.value held modelled.model told) (λ c since. only_now p.began.value c modelled.model since) old file done;
          },
        )

    is_covered : IsCovered (said (words_of s)) → IsCovered (said (words_of p.handed.value))
    is_covered covered = subst (λ (x : Session S K P N C). IsCovered (said (words_of x))) (sym run.handed) covered

    -- what a killed process left and the system made stable is settled
    made_stable : (old : List Record) → IsModelled (states.disk p.began.value) → Told (states.disk p.began.value) (λ held. StandsFor old held)
        → (held : List ℕ) × Only held (states.disk p.began.value).images → IsSettled old (states.disk p.began.value).images
    made_stable old modelled stands one =
        let told = told_contents (states.disk p.began.value) modelled in
        settled_one old (states.disk p.began.value).images one.0 one.1
        (subst (λ b. StandsFor old b) (one.1 told.0 (reads p.began.value told.0 modelled.model told.1)) (stands told.0 told.1))

    module _ (has : HasPassed p) (old : List Record) (modelled : IsModelled (states.disk p.began.value)) where
      did : HasDone p has.0
      did = has.2 modelled

      over_settled : IsSettled old (states.disk p.began.value).images → Steps old has.0 p.handed.value.end p.status (states.disk left)
      over_settled settled =
          ended_steps states.disk only_now old has.0 p.status p.began.value p.ended.value left did.modelled (did.passes old settled) p.handed.value.end run.ended

      -- what is left behind its end
      stepped : (killed : Bool) → Stands killed old (states.disk p.began.value) → IsFirm states killed p → Steps old has.0 p.handed.value.end p.status (states.disk left)
      stepped false settled firm = over_settled settled
      stepped true stands (inl one) = over_settled (made_stable old modelled stands one)
      stepped true stands (inr firm) =
          firm_steps states.disk only_now old has.0 p.status p.began.value p.ended.value left did.modelled p.handed.value.end firm.2
          (did.lasts old (λ held told. is_its_file old held (stands held told) (firm.0 held told)) firm.1 (sure_done p.handed.value.end p.status firm.2)) run.ended

  -- the commits of each run, and how the file goes through them
  abbrev HasChain : List (Session S K P N C) → List (Past S K P N C D) → D → D → Type 0
  HasChain sessions pasts first last =
      AreCovered sessions → (steps : List Step) × AreSteps states pasts steps
      × ((killed : Bool) (old : List Record) → IsModelled (states.disk first) → Stands killed old (states.disk first) → StandThrough states killed old pasts steps last)

  chained : (sessions : List (Session S K P N C)) (pasts : List (Past S K P N C D)) (first last : D) → AreRuns states first sessions pasts last
      → HasChain sessions pasts first last
  chained [] [] first last same covered = ([], tt, λ killed old modelled stands. subst (λ d. Stands killed old (states.disk d)) (sym same) stands)
  chained [] (p ∷ pasts) first last runs covered = absurd runs
  chained (s ∷ sessions) [] first last runs covered = absurd runs
  chained (s ∷ sessions) (p ∷ pasts) first last runs covered =
      let left = runs.0 in
      let now = passed first s p left runs.1 (is_covered first s p left runs.1 covered.0) in
      let later = chained sessions pasts left last runs.2 covered.1 in (
        record { commits = now.0; sure = is_sure p.handed.value.end p.status } ∷ later.0,
        (now.1, refl, later.1),
        λ killed old modelled stands.
            let is = subst (λ d. IsModelled (states.disk d)) (sym runs.1.began) modelled in
            let here = subst (λ d. Stands killed old (states.disk d)) (sym runs.1.began) stands in (
              here,
              λ firm.
                  let one = stepped first s p left runs.1 now old is killed here firm in (
                    one.0,
                    one.1,
                    one.2,
                    later.2 (is_killed p.handed.value.end) (after_commits old now.0 one.0) (runs.1.modelled (now.2 is).modelled) one.3,
                  ),
            ),
      )

  -- what stands in the end
  in_the_end : (killed : Bool) (old : List Record) (pasts : List (Past S K P N C D)) (steps : List Step) (last : D) → StandThrough states killed old pasts steps last
      → AreFirm states killed pasts → (records : List Record) × IsBehind old steps records × IsSettled records (states.disk last).images
  in_the_end killed old [] [] last stands none = (old, refl, subst (λ b. Stands b old (states.disk last)) none stands)
  in_the_end killed old [] (step ∷ steps) last through firm = absurd through
  in_the_end killed old (p ∷ pasts) [] last through firm = absurd through
  in_the_end killed old (p ∷ pasts) (step ∷ steps) last through firm =
      let now = through.1 firm.0 in
      let rest = in_the_end (is_killed p.handed.value.end) (after_commits old step.commits now.0) pasts steps last now.3 firm.1 in
      (rest.0, (now.0, now.1, now.2, rest.1), rest.2)

  pub all_survive : (sessions : List (Session S K P N C)) (pasts : List (Past S K P N C D)) (first last : D) → AreRuns states first sessions pasts last
      → AllSurvive states first sessions pasts last
  all_survive sessions pasts first last runs covered =
      let chain = chained sessions pasts first last runs covered in (
        chain.0,
        chain.1,
        λ old modelled settled.
            let through = chain.2 false old modelled settled in
            (through, λ firm. in_the_end false old pasts chain.0 last through firm),
      )

-- one run and its end, by what the calls say
pub is_run_of : {S K P N C D : Type 0} (states : States S K P N C D) (first : D) (s : Session S K P N C) (p : Past S K P N C D) (left mid since : D) → p.handed.value ≡ s
    → p.began.value ≡ first → p.ended.value ≡ mid → since ≡ first → IsRun states s p.session first (ran_of p) → IsEndedBy states.disk s.end p.status since mid left
    → (IsModelled (states.disk mid) → IsModelled (states.disk left)) → IsRunOf states first s p left
is_run_of {S = S} {K = K} {P = P} {N = N} {C = C} states first s p left mid since handed began ended is_since run end modelled = record {
  handed = handed;
  began = began;
  run =
      subst (λ h. IsRun states h p.session p.began.value (ran_of p)) (sym handed) (subst (λ d. IsRun states s p.session d (ran_of p)) (sym began) run);
  ended =
      subst (λ (h : Session S K P N C). IsEndedBy states.disk h.end p.status p.began.value p.ended.value left) (sym handed)
      (subst (λ d. IsEndedBy states.disk s.end p.status d p.ended.value left) (is_since ∙ sym began)
      (subst (λ d. IsEndedBy states.disk s.end p.status since d left) (sym ended) end));
  modelled = subst (λ d. IsModelled (states.disk d) → IsModelled (states.disk left)) (sym ended) modelled;
}

-- ---- a list of sessions from which each is taken in turn

-- runs of the first of these sessions led to this disk, and the others are left
pub record HaveRun {S K P N C D : Type 0} (states : States S K P N C D) (first : D) (all rest : List (Session S K P N C)) (pasts : List (Past S K P N C D)) (now : D) : Type 0 where
  pub done : List (Session S K P N C)
  pub split : all ≡ done ++ rest
  pub runs : AreRuns states first done pasts now

pub none_run : {S K P N C D : Type 0} (states : States S K P N C D) (first : D) (all rest : List (Session S K P N C)) → rest ≡ all → HaveRun states first all rest [] first
none_run states first all rest same = record { done = []; split = sym same; runs = refl }

pub one_run : {S K P N C D : Type 0} (states : States S K P N C D) (first : D) (all rest more : List (Session S K P N C)) (pasts : List (Past S K P N C D)) (now : D)
    (s : Session S K P N C) (p : Past S K P N C D) (left : D) → rest ≡ s ∷ more → HaveRun states first all rest pasts now → IsRunOf states now s p left
    → HaveRun states first all more (pasts ++ p ∷ []) left
one_run states first all rest more pasts now s p left next so_far run = record {
  done = so_far.done ++ s ∷ [];
  split = so_far.split ∙ ap (λ xs. so_far.done ++ xs) next ∙ sym (append_assoc so_far.done (s ∷ []) more);
  runs = more_runs states now s p left first so_far.done pasts so_far.runs run;
}

pub all_run : {S K P N C D : Type 0} (states : States S K P N C D) (first : D) (all rest : List (Session S K P N C)) (pasts : List (Past S K P N C D)) (now : D) → rest ≡ []
    → HaveRun states first all rest pasts now → AreRuns states first all pasts now
all_run states first all rest pasts now none so_far =
    subst (λ xs. AreRuns states first xs pasts now) (sym (so_far.split ∙ ap (λ xs. so_far.done ++ xs) none ∙ append-nil so_far.done)) so_far.runs
