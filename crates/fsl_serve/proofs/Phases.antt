-- Phases one after another.
use Rattle.std.proofs.Common.{◌≡◌, List, [], ◌∷◌, ◌++◌, Some, None, refl, ap, sym, ◌∙◌, subst, append_assoc}
use Rattle.std.specs.Prelude.{Option}
use Rattle.fsl_repo.specs.declared.Event.{Event}
use Rattle.fsl_repo.specs.declared.Answer.{Answer}
use Rattle.fsl_serve.specs.declared.said.Halt.{Halt}
use Rattle.fsl_serve.specs.declared.said.Halt.TheVariants as halt
use Rattle.fsl_serve.specs.Calls.{Call, asked, told, halt_of, GoOn, Phase}
use Rattle.fsl_serve.specs.Calls.Phase.{all, upto, short}

pub go_on_append : (xs ys : List Call) → GoOn xs → GoOn ys → GoOn (xs ++ ys)
go_on_append [] ys p q = q
go_on_append (x ∷ xs) ys p q = (p.0, go_on_append xs ys p.1 q)

pub asked_append : (xs ys : List Call) → asked (xs ++ ys) ≡ asked xs ++ asked ys
asked_append [] ys = refl
asked_append (x ∷ xs) ys = ap (λ w. x.0 ∷ w) (asked_append xs ys)

pub told_append : (xs ys : List Call) → told (xs ++ ys) ≡ told xs ++ told ys
told_append [] ys = refl
told_append (x ∷ xs) ys = ap (λ w. x.1 ∷ w) (told_append xs ys)

-- what is due beyond two stretches
pub due_more : (due due' rest : List Event) (xs ys : List Call) → due ≡ asked xs → due' ≡ asked ys ++ rest → due ++ due' ≡ asked (xs ++ ys) ++ rest
due_more due due' rest xs ys p q = rw (p, q, asked_append xs ys) (sym (append_assoc (asked xs) (asked ys) rest))

pub due_both : (due due' : List Event) (xs ys : List Call) → due ≡ asked xs → due' ≡ asked ys → due ++ due' ≡ asked (xs ++ ys)
due_both due due' xs ys p q = rw (p, q, asked_append xs ys) refl

pub phase_none : Phase [] [] None
phase_none = all tt refl refl

pub phase_no_memory : (due : List Event) → Phase due [] (Some halt.Memory)
phase_no_memory due = short due tt refl refl

pub phase_one : (e : Event) (a : Answer) (h : Option Halt) → h ≡ halt_of a → Phase (e ∷ []) ((e, a) ∷ []) h
phase_one e a None p = all (sym p, tt) refl refl
phase_one e a (Some h) p = upto [] (e, a) [] h refl tt refl (sym p) refl

abbrev pub goes_on : Option Halt → Type 0
goes_on None = Unit {0}
goes_on (Some h) = ⊥

-- where all was made
pub done_of : (due : List Event) (xs : List Call) → Phase due xs None → GoOn xs × (due ≡ asked xs)
done_of due xs (all g d e) = (g, d)
done_of due xs (upto front call rest h m g d q e) = absurd (subst goes_on e tt)
done_of due xs (short rest g d e) = absurd (subst goes_on e tt)

-- a stretch after one that was made whole
pub phase_more : (due due' : List Event) (xs ys : List Call) (h : Option Halt) → Phase due xs None → Phase due' ys h → Phase (due ++ due') (xs ++ ys) h
phase_more due due' xs ys h p q = go q
  where
    w : GoOn xs × (due ≡ asked xs)
    w = done_of due xs p

    go : Phase due' ys h → Phase (due ++ due') (xs ++ ys) h
    go (all g d e) = all (go_on_append xs ys w.0 g) (due_both due due' xs ys w.1 d) e
    go (upto front call rest k m g d r e) =
        upto (xs ++ front) call rest k (ap (λ z. xs ++ z) m ∙ sym (append_assoc xs front (call ∷ []))) (go_on_append xs front w.0 g) (due_more due due' rest xs ys w.1 d) r e
    go (short rest g d e) = short rest (go_on_append xs ys w.0 g) (due_more due due' rest xs ys w.1 d) e

-- a stretch that ended early, of more that was due
pub phase_cut : (due more : List Event) (xs : List Call) (h : Halt) → Phase due xs (Some h) → Phase (due ++ more) xs (Some h)
phase_cut due more xs h (all g d e) = absurd (subst goes_on (sym e) tt)
phase_cut due more xs h (upto front call rest k m g d r e) = upto front call (rest ++ more) k m g (ap (λ z. z ++ more) d ∙ append_assoc (asked xs) rest more) r e
phase_cut due more xs h (short rest g d e) = short (rest ++ more) g (ap (λ z. z ++ more) d ∙ append_assoc (asked xs) rest more) e
