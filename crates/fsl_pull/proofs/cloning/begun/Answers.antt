use Rattle.std.proofs.Common.{◌≡◌, ℕ, List, [], ◌∷◌, Some, refl, inl, sym, subst, ◌∙◌}
use Rattle.std.specs.Prelude.{IfOk, IfErr}
use Rattle.fsl_disk.specs.Disk.{LeavesOnly}
use Rattle.fsl_repo.specs.Whole.{is_modelled}
use Rattle.fsl_pull.specs.Clones.{config_of, first_record}
use Rattle.fsl_pull.specs.CloneCalls.{NoneOr}
use Rattle.fsl_pull.specs.CloneTurns.{IsMadeBy, IsUnmadeBy, made_disk}
use Rattle.fsl_pull.proofs.CloneMaking.{unbegun_by, begun_by, untouched_moments, untouched_left}
use Rattle.fsl_pull.proofs.cloning.begun.Goals as goal

some_one : (a b : List ℕ) → Some a ≡ Some b → a ≡ b
some_one a b e = cc

pub returns-in-None-clause-fault : goal.returns-in-None-clause-fault
returns-in-None-clause-fault g c = (refl, sym c.project_in.ensures ∙ c.in-None.is, refl)

pub returns-in-None-clause-moments : goal.returns-in-None-clause-moments
returns-in-None-clause-moments g c = λ project is emptied. untouched_moments (g.D.Disk.state c.args.disk) (first_record project c.args.server c.args.fields.now ∷ []) (λ f model left. g.met.D.Disk.only_now c.args.disk f model left) emptied

pub returns-in-Err-clause-fault : goal.returns-in-Err-clause-fault
returns-in-Err-clause-fault g c = (c.in-Some.project, sym c.project_in.ensures ∙ c.in-Some.is, inl (untouched_left (g.D.Disk.state c.args.disk)))

pub returns-in-Err-clause-moments : goal.returns-in-Err-clause-moments
returns-in-Err-clause-moments g c = λ project is emptied. untouched_moments (g.D.Disk.state c.args.disk) (first_record project c.args.server c.args.fields.now ∷ []) (λ f model left. g.met.D.Disk.only_now c.args.disk f model left) emptied

pub returns-clause-begun : goal.returns-clause-begun
returns-clause-begun g c =
    begun_by g.D.Disk.state c.args.server c.args.fields.now c.args.cards.now c.in-Some.project c.args.disk (sym c.project_in.ensures ∙ c.in-Some.is) (g.D.Disk.state c.args.disk).faults (is_modelled (g.D.Disk.state c.args.disk)) c.made.result
    (subst (λ (fs : List (List ℕ)). IfOk c.made.result (λ repo. IsMadeBy (config_of c.in-Some.project c.args.server fs) (g.D.Disk.state c.args.disk).faults (is_modelled (g.D.Disk.state c.args.disk)) repo.seen)) (c.in-Ok.ensures ∙ c.items.ensures) c.made.ensures.made)

pub returns-clause-fault : goal.returns-clause-fault
returns-clause-fault g c =
    unbegun_by g.D.Disk.state c.args.server c.args.fields.now c.args.cards.now c.in-Some.project c.args.disk (sym c.project_in.ensures ∙ c.in-Some.is) c.made.result
    (subst (λ (fs : List (List ℕ)). IfErr c.made.result (λ failed. IsUnmadeBy (config_of c.in-Some.project c.args.server fs) (g.D.Disk.state c.args.disk) (g.D.Disk.state failed.0) failed.1)) (c.in-Ok.ensures ∙ c.items.ensures) c.made.ensures.fault)

pub returns-clause-moments : goal.returns-clause-moments
returns-clause-moments g c = λ project is emptied.
    subst (λ (p : List ℕ). LeavesOnly (g.D.Disk.state c.args.disk) (g.D.Disk.state (made_disk c.made.result)) (NoneOr (first_record p c.args.server c.args.fields.now ∷ []))) (some_one c.in-Some.project project (sym c.in-Some.is ∙ c.project_in.ensures ∙ is))
    (subst (λ (fs : List (List ℕ)). LeavesOnly (g.D.Disk.state c.args.disk) (g.D.Disk.state (made_disk c.made.result)) (NoneOr (first_record c.in-Some.project c.args.server fs ∷ []))) (c.in-Ok.ensures ∙ c.items.ensures) (c.made.ensures.moments emptied))
