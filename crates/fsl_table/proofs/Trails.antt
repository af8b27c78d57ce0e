-- A table is as before itself, and as before what was as before; one change more at the end of a trail, and the last one taken back.
use Rattle.std.proofs.Common.{ℕ, ◌≤◌, List, [], ◌∷◌, ◌++◌, refl, ◌∙◌, arith}
use Rattle.fsl_order.specs.TableState.{TableState, Change, IsAsBefore, AreAtMost}
use Rattle.fsl_table.specs.Trail.{AreAllAtMost, Leads}

trans-le : (a b c : ℕ) → a ≤ b → b ≤ c → a ≤ c
trans-le a b c p q = omega (arith, p, q)

self-le : (a : ℕ) → a ≤ a
self-le a = omega arith

pub at_most-self : (xs : List ℕ) → AreAtMost xs xs
at_most-self [] = tt
at_most-self (x ∷ xs) = (self-le x, at_most-self xs)

pub at_most-trans : (xs ys zs : List ℕ) → AreAtMost xs ys → AreAtMost ys zs → AreAtMost xs zs
at_most-trans [] [] [] p q = tt
at_most-trans (x ∷ xs) (y ∷ ys) (z ∷ zs) p q = (trans-le x y z p.0 q.0, at_most-trans xs ys zs p.1 q.1)
at_most-trans [] (y ∷ ys) zs p q = elim p [ ]
at_most-trans (x ∷ xs) [] zs p q = elim p [ ]
at_most-trans [] [] (z ∷ zs) p q = elim q [ ]
at_most-trans (x ∷ xs) (y ∷ ys) [] p q = elim q [ ]

pub all_at_most-self : (xss : List (List ℕ)) → AreAllAtMost xss xss
all_at_most-self [] = tt
all_at_most-self (xs ∷ xss) = (at_most-self xs, all_at_most-self xss)

pub all_at_most-trans : (xss yss zss : List (List ℕ)) → AreAllAtMost xss yss → AreAllAtMost yss zss → AreAllAtMost xss zss
all_at_most-trans [] [] [] p q = tt
all_at_most-trans (xs ∷ xss) (ys ∷ yss) (zs ∷ zss) p q = (at_most-trans xs ys zs p.0 q.0, all_at_most-trans xss yss zss p.1 q.1)
all_at_most-trans [] (ys ∷ yss) zss p q = elim p [ ]
all_at_most-trans (xs ∷ xss) [] zss p q = elim p [ ]
all_at_most-trans [] [] (zs ∷ zss) p q = elim q [ ]
all_at_most-trans (xs ∷ xss) (ys ∷ yss) [] p q = elim q [ ]

pub as_before-self : {F : Type 0} (t : TableState F) → IsAsBefore t t
as_before-self t = record { facts = refl; spare = at_most-self t.spare }

pub as_before-trans : {F : Type 0} (a b c : TableState F) → IsAsBefore a b → IsAsBefore b c → IsAsBefore a c
as_before-trans a b c p q = record { facts = q.facts ∙ p.facts; spare = at_most-trans a.spare b.spare c.spare p.spare q.spare }

-- a change more
pub leads-push : {F : Type 0} (first : TableState F) (us : List (Change F)) (u : Change F) → Leads first us u.before → Leads first (us ++ u ∷ []) u.after
leads-push first [] u h = (h, as_before-self u.after)
leads-push first (v ∷ us) u h = (h.0, leads-push v.after us u h.1)

-- the last change may be taken back ..
pub leads-last : {F : Type 0} (first : TableState F) (us : List (Change F)) (u : Change F) (now : TableState F) → Leads first (us ++ u ∷ []) now → IsAsBefore u.after now
leads-last first [] u now h = h.1
leads-last first (v ∷ us) u now h = leads-last v.after us u now h.1

-- .. and then the trail is that of the others
pub leads-pop : {F : Type 0} (first : TableState F) (us : List (Change F)) (u : Change F) (now new : TableState F) → Leads first (us ++ u ∷ []) now → IsAsBefore u.before new → Leads first us new
leads-pop first [] u now new h back = as_before-trans first u.before new h.0 back
leads-pop first (v ∷ us) u now new h back = (h.0, leads-pop v.after us u now new h.1 back)

-- a call that failed stands in no way
pub leads-later : {F : Type 0} (first : TableState F) (us : List (Change F)) (now new : TableState F) → Leads first us now → IsAsBefore now new → Leads first us new
leads-later first [] now new h e = as_before-trans first now new h e
leads-later first (v ∷ us) now new h e = (h.0, leads-later v.after us now new h.1 e)
