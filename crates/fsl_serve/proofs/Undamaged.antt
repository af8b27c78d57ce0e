-- No content is found damaged over a disk that tells its contents and meets the disk model.
use Rattle.std.proofs.Common.{◌≡◌, ◌⊎◌, inl, inr, ℕ, Bool, true, false, ◌&&◌, List, [], ◌∷◌, Err, refl, ap, sym, ◌∙◌, subst}
use Rattle.std.specs.Prelude.{Result}
use Rattle.std.specs.List.{list_any}
use Rattle.std.proofs.lemmas.Bool.{or_from}
use Rattle.fsl_disk.specs.Disk.{DiskState, IsModelled, Keeps}
use Rattle.fsl_repo.specs.declared.Ask.{Ask}
use Rattle.fsl_repo.specs.declared.Event.{Event}
use Rattle.fsl_repo.specs.declared.Event.TheVariants as event
use Rattle.fsl_repo.specs.declared.Answer.{Answer}
use Rattle.fsl_repo.specs.declared.Answer.TheVariants as answer
use Rattle.fsl_repo.specs.declared.BuildFault.{BuildFault}
use Rattle.fsl_repo.specs.declared.BuildFault.TheVariants as build_fault
use Rattle.fsl_repo.specs.Machine.{State}
use Rattle.fsl_repo.specs.Replies.{IsBuilt, BuildStep}
use Rattle.fsl_repo.specs.Onward.{Step, MayStep}
use Rattle.fsl_repo.specs.Whole.{Whole, is_modelled}
use Rattle.fsl_serve.specs.Calls.{told}
use Rattle.fsl_serve.specs.Damage.{finds_damage, tells_damage, NoneInSessions, NoneSince}

abbrev is_false : Bool → Type 0
is_false false = Unit {0}
is_false true = ⊥

not_both : {X : Type 0} (b : Bool) → b ≡ true → b ≡ false → X
not_both b p q = absurd (subst is_false (sym q ∙ p) tt)

honest : (disk : DiskState) → IsModelled disk → is_modelled disk ≡ true
honest disk m = ap (λ (b : Bool). b && disk.is_model) m.tells ∙ m.model

still_honest : (before after : DiskState) → Keeps before after → IsModelled before → IsModelled after
still_honest before after keeps m = record { tells = keeps.tells ∙ m.tells; model = keeps.model ∙ m.model }

-- ---- one step

module _ (s : State) (ask : Ask) (r : Result (List ℕ) BuildFault) (is : s.honest ≡ true) where
  by_built : IsBuilt s ask r → finds_damage r ≡ false
  by_built (inl x) = ap finds_damage x.4
  by_built (inr y) = not_both s.honest is y.3.never

  by_answer : IsBuilt s ask r ⊎ (r ≡ Err build_fault.Memory) → finds_damage r ≡ false
  by_answer (inl b) = by_built b
  by_answer (inr m) = ap finds_damage m

  by_build : (new : State) → BuildStep s ask r new → finds_damage r ≡ false
  by_build new (inl p) = by_answer p.0
  by_build new (inr p) = ap finds_damage p.2

by_step : (s : State) (e : Event) (a : Answer) (new : State) → s.honest ≡ true → Step s e a new → tells_damage a ≡ false
by_step s e (answer.Arrive r) new is p = refl
by_step s e (answer.Receive r) new is p = refl
by_step s e (answer.Announce r) new is p = refl
by_step s e (answer.Shun r) new is p = refl
by_step s e (answer.Unshun r) new is p = refl
by_step s e (answer.Cluster r) new is p = refl
by_step s e (answer.Commit r) new is p = refl
by_step s (event.Arrive name bytes private) (answer.Build r) new is p = absurd p
by_step s (event.Receive name bytes private receipt) (answer.Build r) new is p = absurd p
by_step s (event.Announce name) (answer.Build r) new is p = absurd p
by_step s (event.Shun name) (answer.Build r) new is p = absurd p
by_step s (event.Unshun name) (answer.Build r) new is p = absurd p
by_step s event.Cluster (answer.Build r) new is p = absurd p
by_step s event.Commit (answer.Build r) new is p = absurd p
by_step s (event.Build ask) (answer.Build r) new is p = by_build s ask r is new p

by_may : {D : Type 0} (before after : DiskState) (old new : Whole D) (e : Event) (a : Answer) → IsModelled before → MayStep before after old e a new → tells_damage a ≡ false
by_may before after old new e a m p = by_step old.seen.state e a new.seen.state (p.old_whole.honest ∙ honest before m) p.step

-- ---- many

module _ {D : Type 0} (tells : D → DiskState) where
  pub none_in_sessions : NoneInSessions tells
  none_in_sessions all [] may = refl
  none_in_sessions all (c ∷ cs) may =
      let m = may.0 in
      or_from (tells_damage c.1) (list_any tells_damage (told cs)) (by_may (tells m.old.disk) (tells m.new.disk) m.old m.new c.0 c.1 (all m.old.disk) m.step)
      (none_in_sessions all cs may.1)

  pub none_since : NoneSince tells
  none_since first last [] m runs = refl
  none_since first last (c ∷ cs) m runs =
      or_from (tells_damage c.1) (list_any tells_damage (told cs)) (by_may (tells first.disk) (tells runs.0.disk) first runs.0 c.0 c.1 m runs.1)
      (none_since runs.0 last cs (still_honest (tells first.disk) (tells runs.0.disk) runs.1.keeps m) runs.2)
