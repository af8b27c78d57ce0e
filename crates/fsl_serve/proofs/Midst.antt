-- What a crash leaves in the midst of a history.
use Rattle.std.proofs.Common.{◌≡◌, inl, inr, ℕ, ◌≤◌, List, [], ◌∷◌, ◌++◌, length, take, drop, IsTrue, refl, sym, ap, ◌∙◌, subst, append_assoc, take-append-drop, take-take}
use Rattle.std.proofs.lemmas.List.{append-nil, take-append-le}
use Rattle.fsl_disk.specs.Disk.{DiskState, IsModelled, LeavesOnly, Keeps}
use Rattle.fsl_disk.proofs.Moments.{started, and_then, weaker, quiet_moments}
use Rattle.fsl_record.specs.declared.Record.{Record}
use Rattle.fsl_journal.specs.File.{IsFileOf}
use Rattle.fsl_journal.specs.Log.{StandsBetween, BeforeOrAll}
use Rattle.fsl_repo.specs.declared.Event.{Event}
use Rattle.fsl_repo.specs.declared.Event.TheVariants as event
use Rattle.fsl_repo.specs.declared.Answer.{Answer}
use Rattle.fsl_repo.specs.Laters.{step_later, later_self, later_through}
use Rattle.fsl_repo.specs.Onward.{MayStep, DiskStep, IsLaterOn}
use Rattle.fsl_repo.specs.Whole.{Whole, IsWholeOn, front, log_of}
use Rattle.fsl_turn.specs.Told.{Runs}
use Rattle.fsl_serve.specs.Calls.{Call}
use Rattle.fsl_serve.specs.Ordered.{steps_by}
use Rattle.fsl_serve.specs.Midst.{StandsInTheMidst}

pub still_modelled : (before after : DiskState) → Keeps before after → IsModelled before → IsModelled after
still_modelled before after keeps m = record { tells = keeps.tells ∙ m.tells; model = keeps.model ∙ m.model }

-- more behind, and less in front
higher : (low high higher more : List Record) (c : List ℕ) → higher ≡ high ++ more → StandsBetween low high c → StandsBetween low higher c
higher low high top more c is s =
    (s.0, s.1, record { more = s.2.more; front = (s.2.front.0 ++ more, is ∙ ap (λ (w : List Record). w ++ more) s.2.front.1 ∙ append_assoc s.0 s.2.front.0 more) })

lower : (low low2 more high : List Record) (c : List ℕ) → low2 ≡ low ++ more → StandsBetween low2 high c → StandsBetween low high c
lower low low2 more high c is s =
    (s.0, s.1, record { more = (more ++ s.2.more.0, s.2.more.1 ∙ ap (λ (w : List Record). w ++ s.2.more.0) is ∙ append_assoc low more s.2.more.0); front = s.2.front })

-- a longer front of a longer list begins with the front
fronts : (n k : ℕ) (xs ys more : List Record) → n ≤ k → n ≤ length xs → ys ≡ xs ++ more → take k ys ≡ take n xs ++ drop n (take k ys)
fronts n k xs ys more le within is =
    sym (take-append-drop n (take k ys))
    ∙ ap (λ (w : List Record). w ++ drop n (take k ys)) (take-take n k ys le ∙ ap (λ (w : List Record). take n w) is ∙ take-append-le n xs more within)

module _ {D : Type 0} (tells : D → DiskState) (only_now : (d : D) (c : List ℕ) → IsTrue (tells d).is_model → (tells d).since (tells d).moment c → (tells d).images c) where
  pub on : (a b : Whole D) (made : List Call) → Runs (steps_by tells) a made b → IsLaterOn (tells a.disk) (tells b.disk) a b
  on a b [] runs = subst (λ (x : Whole D). IsLaterOn (tells a.disk) (tells x.disk) a x) (sym runs) (later_self (tells a.disk) a)
  on a b (c ∷ cs) runs =
      later_through (tells a.disk) (tells runs.0.disk) (tells b.disk) a runs.0 b (step_later tells a c.0 c.1 runs.0 runs.1) (on runs.0 b cs runs.2)

  module _ (a b : Whole D) (e : Event) (r : Answer) (step : MayStep (tells a.disk) (tells b.disk) a e r b) (m : IsModelled (tells a.disk)) (top more : List Record) (is : top ≡ a.seen.state.records ++ more) where
    abbrev all : List Record
    all = a.seen.state.records

    abbrev low : List Record
    low = front a.seen.state

    abbrev P : List ℕ → Type 0
    P c = StandsBetween low top c

    here : (c : List ℕ) → (tells a.disk).images c → P c
    here c left = higher low all top more c is (step.old_whole.images m c left)

    parts : low ++ drop a.seen.state.committed all ≡ all
    parts = take-append-drop a.seen.state.committed all

    by_commit : (c : List ℕ) → BeforeOrAll (log_of a) c → P c
    by_commit c (inl x) =
        (low, x, record { more = ([], sym (append-nil low)); front = (drop a.seen.state.committed all ++ more, is ∙ ap (λ (w : List Record). w ++ more) (sym parts) ∙ append_assoc low (drop a.seen.state.committed all) more) })
    by_commit c (inr y) = (all, y, record { more = (drop a.seen.state.committed all, sym parts); front = (more, is) })

    still : b.disk ≡ a.disk → LeavesOnly (tells a.disk) (tells b.disk) P
    still same =
        subst (λ (x : D). LeavesOnly (tells a.disk) (tells x) P) (sym same) (started (tells a.disk) P (λ c. only_now a.disk c m.model) here)

    by_event : (e : Event) → DiskStep e (tells a.disk) (tells b.disk) (log_of a) (b.disk ≡ a.disk) → LeavesOnly (tells a.disk) (tells b.disk) P
    by_event event.Commit q = weaker (tells a.disk) (tells b.disk) (BeforeOrAll (log_of a)) P by_commit (q.0 m)
    by_event (event.Build ask) q = quiet_moments (tells a.disk) (tells b.disk) P q m.model (λ c. only_now a.disk c m.model) here
    by_event (event.Arrive name bytes private) q = still q
    by_event (event.Receive name bytes private receipt) q = still q
    by_event (event.Announce name) q = still q
    by_event (event.Shun name) q = still q
    by_event (event.Unshun name) q = still q
    by_event event.Cluster q = still q

    one : LeavesOnly (tells a.disk) (tells b.disk) P
    one = by_event e step.disk

  pub midst : StandsInTheMidst tells
  midst first last [] w m runs =
      subst (λ (x : Whole D). LeavesOnly (tells first.disk) (tells x.disk) (StandsBetween (front first.seen.state) x.seen.state.records)) (sym runs)
      (started (tells first.disk) (StandsBetween (front first.seen.state) first.seen.state.records) (λ c. only_now first.disk c m.model) (λ c left. w.images m c left))
  midst first last (c ∷ cs) w m runs =
      let mid = runs.0 in
      let step = runs.1 in
      let later = step_later tells first c.0 c.1 mid step in
      let far = on first last (c ∷ cs) runs in
      let top = last.seen.state.records in
      let longer = fronts first.seen.state.committed mid.seen.state.committed first.seen.state.records mid.seen.state.records later.seen.more later.committed step.old_whole.seen.committed later.seen.records in
      and_then (tells first.disk) (tells mid.disk) (tells last.disk) (StandsBetween (front first.seen.state) top)
      (one first mid c.0 c.1 step m top far.seen.more far.seen.records)
      (weaker (tells mid.disk) (tells last.disk) (StandsBetween (front mid.seen.state) top) (StandsBetween (front first.seen.state) top)
      (λ x. lower (front first.seen.state) (front mid.seen.state) (drop first.seen.state.committed (front mid.seen.state)) top x longer)
      (midst mid last cs step.new_whole (still_modelled (tells first.disk) (tells mid.disk) step.keeps m) runs.2))
