-- Calls told one after another.
use Rattle.std.proofs.Common.{◌≡◌, List, [], ◌∷◌, ◌++◌, Some, None, refl, ap, sym, ◌∙◌, subst, append_assoc}
use Rattle.std.specs.Prelude.{Option, IfSome}
use Rattle.std.proofs.lemmas.List.{append-nil}
use Rattle.fsl_disk.specs.Disk.{DiskState}
use Rattle.fsl_repo.specs.declared.Event.{Event}
use Rattle.fsl_repo.specs.declared.Answer.{Answer}
use Rattle.fsl_serve.specs.Calls.{Call, Gains, AllMay, May}

all_may_append : {D : Type 0} (tells : D → DiskState) (xs ys : List Call) → AllMay tells xs → AllMay tells ys → AllMay tells (xs ++ ys)
all_may_append tells [] ys p q = q
all_may_append tells (x ∷ xs) ys p q = (p.0, all_may_append tells xs ys p.1 q)

-- one call
pub gains_one : {D : Type 0} {tells : D → DiskState} (o p : Option (List Call)) (e : Event) (a : Answer) → May tells e a → IfSome o (λ calls. (made : List Call) × (p ≡ Some (calls ++ made)) × (made ≡ (e, a) ∷ [])) → Gains tells o p (λ made. made ≡ (e, a) ∷ [])
gains_one None p e a may told = ((e, a) ∷ [], tt, (may, tt), refl)
gains_one (Some calls) p e a may told = ((e, a) ∷ [], told.1 ∙ ap (λ (m : List Call). Some (calls ++ m)) told.2, (may, tt), refl)

-- no call yet
pub gains_none : {D : Type 0} {tells : D → DiskState} (o : Option (List Call)) (P : List Call → Type 0) → P [] → Gains tells o o P
gains_none None P p = ([], tt, tt, p)
gains_none (Some calls) P p = ([], ap Some (sym (append-nil calls)), tt, p)

tells_more : (o p q : Option (List Call)) (xs ys : List Call) → IfSome o (λ calls. p ≡ Some (calls ++ xs)) → IfSome p (λ calls. q ≡ Some (calls ++ ys)) → IfSome o (λ calls. q ≡ Some (calls ++ (xs ++ ys)))
tells_more None p q xs ys h k = tt
tells_more (Some calls) p q xs ys h k =
    let F : Option (List Call) → Type 0 = λ o. IfSome o (λ calls. q ≡ Some (calls ++ ys)) in
    let k' = subst F h k in k' ∙ ap Some (append_assoc calls xs ys)

-- the calls of two stretches
pub gains_more : {D : Type 0} {tells : D → DiskState} (o p q : Option (List Call)) (P Q R : List Call → Type 0) → Gains tells o p P → Gains tells p q Q → ((xs ys : List Call) → P xs → Q ys → R (xs ++ ys)) → Gains tells o q R
gains_more {tells = tells} o p q P Q R h k go = (h.0 ++ k.0, tells_more o p q h.0 k.0 h.1 k.1, all_may_append tells h.0 k.0 h.2 k.2, go h.0 k.0 h.3 k.3)

-- weaker
pub gains_weaker : {D : Type 0} {tells : D → DiskState} (o p : Option (List Call)) (P R : List Call → Type 0) → Gains tells o p P → ((xs : List Call) → P xs → R xs) → Gains tells o p R
gains_weaker o p P R h go = (h.0, h.1, h.2, go h.0 h.3)
