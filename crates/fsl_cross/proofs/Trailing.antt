-- A change more at the end of a trail, the last one taken back, and what a call leaves of a trail.
use Rattle.std.proofs.Common.{◌≡◌, ℕ, ◌≤◌, List, [], ◌∷◌, ◌++◌, length, refl, sym, ap, ◌∙◌, subst, arith, Result, Ok, Err}
use Rattle.std.specs.Prelude.{OnOk, OnErr}
use Rattle.fsl_order.specs.TableState.{TableState, Change, IsAsBefore}
use Rattle.fsl_order.specs.Rows.{ListsChanged}
use Rattle.fsl_ticket.specs.Seen as ticket
use Rattle.fsl_ticket.specs.declared.Fact.{Fact}
use Rattle.fsl_table.proofs.Trails.{at_most-self, as_before-self, as_before-trans}
use Rattle.fsl_cross.specs.Chained.{tickets-chain}
use Rattle.fsl_cross.specs.Trails.{LeadsBy, Leads, Led, TicketsLead, TicketsLed, AreTold}

module _ {S U : Type 0} (IsGood : S → S → Type 0) (before after : U → S) where
  -- a change more
  pub by-push : (first : S) (us : List U) (u : U) (now : S) → LeadsBy IsGood before after first us (before u) → IsGood (after u) now → LeadsBy IsGood before after first (us ++ u ∷ []) now
  by-push first [] u now h e = (h, e)
  by-push first (v ∷ us) u now h e = (h.0, by-push (after v) us u now h.1 e)

  -- the last change may be taken back ..
  pub by-last : (first : S) (us : List U) (u : U) (now : S) → LeadsBy IsGood before after first (us ++ u ∷ []) now → IsGood (after u) now
  by-last first [] u now h = h.1
  by-last first (v ∷ us) u now h = by-last (after v) us u now h.1

  module _ (chain : (a b c : S) → IsGood a b → IsGood b c → IsGood a c) where
    -- .. and then the trail is that of the others
    pub by-pop : (first : S) (us : List U) (u : U) (now new : S) → LeadsBy IsGood before after first (us ++ u ∷ []) now → IsGood (before u) new → LeadsBy IsGood before after first us new
    by-pop first [] u now new h back = chain first (before u) new h.0 back
    by-pop first (v ∷ us) u now new h back = (h.0, by-pop (after v) us u now new h.1 back)

    -- a state that is as good stands in no way
    pub by-later : (first : S) (us : List U) (now new : S) → LeadsBy IsGood before after first us now → IsGood now new → LeadsBy IsGood before after first us new
    by-later first [] now new h e = chain first now new h e
    by-later first (v ∷ us) now new h e = (h.0, by-later (after v) us now new h.1 e)

-- ---- of a table of facts

pub as_before-is : {F : Type 0} (a b : TableState F) → a ≡ b → IsAsBefore a b
as_before-is a b e = subst (IsAsBefore a) e (as_before-self a)

pub leads-later : {F : Type 0} (first : TableState F) (us : List (Change F)) (now new : TableState F) → Leads first us now → IsAsBefore now new → Leads first us new
leads-later first us now new h e = by-later IsAsBefore (λ u. u.before) (λ u. u.after) as_before-trans first us now new h e

-- a call that failed
pub failed-led : {F : Type 0} (t0 t1 : TableState F) (us : List (Change F)) → IsAsBefore t0 t1 → Led t0 us t1 us
failed-led t0 t1 us e first h = leads-later first us t0 t1 h e

-- a change that was kept, or taken back for want of memory
pub kept-led : {F X E : Type 0} (r : Result X E) (t0 t1 t2 : TableState F) (us vs : List (Change F)) (u : Change F) → u.before ≡ t0 → u.after ≡ t1
    → OnOk r (t2 ≡ t1) → OnOk r (vs ≡ us ++ u ∷ []) → OnErr r (vs ≡ us) → OnErr r (IsAsBefore u.before t2) → Led t0 us t2 vs
kept-led (Ok x) t0 t1 t2 us vs u before after same push _ _ = λ first h.
    subst (λ l. Leads first l t2) (sym push)
    (by-push IsAsBefore (λ (u : Change _). u.before) (λ (u : Change _). u.after) first us u t2 (subst (Leads first us) (sym before) h) (as_before-is u.after t2 (after ∙ sym same)))
kept-led (Err e) t0 t1 t2 us vs u before after _ _ same back = λ first h.
    subst (λ l. Leads first l t2) (sym same) (leads-later first us t0 t2 h (subst (λ t. IsAsBefore t t2) before back))

-- .. tells of its rows
pub kept-told : {F Row X E : Type 0} (row : List F → List ℕ → Row) (r : Result X E) (us vs : List (Change F)) (u : Change F) (old new : TableState F) → u.before ≡ old → u.after ≡ new
    → ListsChanged (row old.facts) (row new.facts) u.changed → OnOk r (vs ≡ us ++ u ∷ []) → OnOk r (AreTold row us → AreTold row vs)
kept-told {F = F} row (Ok x) us vs u old new before after lists push = λ told. subst (AreTold row) (sym push) (more us told)
  where
    one : ListsChanged (row u.before.facts) (row u.after.facts) u.changed
    one = subst (λ (t : TableState F). ListsChanged (row t.facts) (row u.after.facts) u.changed) (sym before) (subst (λ (t : TableState F). ListsChanged (row old.facts) (row t.facts) u.changed) (sym after) lists)

    more : (us : List (Change F)) → AreTold row us → AreTold row (us ++ u ∷ [])
    more [] t = (one, tt)
    more (v ∷ us) t = (t.0, more us t.1)
kept-told row (Err e) us vs u old new before after lists push = tt

-- the facts that a change leaves, where it was kept
pub kept-facts : {F X E : Type 0} (r : Result X E) (t1 t2 : TableState F) (fs : List F) → t1.facts ≡ fs → OnOk r (t2 ≡ t1) → OnOk r (t2.facts ≡ fs)
kept-facts (Ok x) t1 t2 fs facts same = ap (λ (t : TableState _). t.facts) same ∙ facts
kept-facts (Err e) t1 t2 fs facts same = tt

-- .. and is the only one, where there was none
pub kept-single : {U X E : Type 0} (r : Result X E) (us vs : List U) (u : U) → OnOk r (vs ≡ us ++ u ∷ []) → OnOk r (us ≡ [] → length vs ≤ 1)
kept-single (Ok x) us vs u push = λ none. let one : length vs ≡ 1 = ap length (push ∙ ap (λ l. l ++ u ∷ []) none) in omega (arith, one)
kept-single (Err e) us vs u push = tt

pub none-single : {U : Type 0} (us : List U) → us ≡ [] → length us ≤ 1
none-single us none = let no : length us ≡ 0 = ap length none in omega (arith, no)

-- ---- of the table of tickets

pub tickets-same : (a b : ticket.Seen) → a ≡ b → ticket.IsAsBefore a b
tickets-same a b e = subst (ticket.IsAsBefore a) e (record { fields = refl; facts = refl; spare = at_most-self a.spare })

pub tickets-later : (first : ticket.Seen) (us : List ticket.Change) (now new : ticket.Seen) → TicketsLead first us now → ticket.IsAsBefore now new → TicketsLead first us new
tickets-later first us now new h e = by-later ticket.IsAsBefore (λ (u : ticket.Change). u.before) (λ (u : ticket.Change). u.after) tickets-chain first us now new h e

pub tickets-failed : (t0 t1 : ticket.Seen) (us : List ticket.Change) → ticket.IsAsBefore t0 t1 → TicketsLed t0 us t1 us
tickets-failed t0 t1 us e first h = tickets-later first us t0 t1 h e

pub tickets-kept : {X E : Type 0} (r : Result X E) (t0 t1 t2 : ticket.Seen) (us vs : List ticket.Change) (u : ticket.Change) → u.before ≡ t0 → u.after ≡ t1
    → OnOk r (t2 ≡ t1) → OnOk r (vs ≡ us ++ u ∷ []) → OnErr r (vs ≡ us) → OnErr r (ticket.IsAsBefore u.before t2) → TicketsLed t0 us t2 vs
tickets-kept (Ok x) t0 t1 t2 us vs u before after same push _ _ = λ first h.
    subst (λ l. TicketsLead first l t2) (sym push)
    (by-push ticket.IsAsBefore (λ (u : ticket.Change). u.before) (λ (u : ticket.Change). u.after) first us u t2 (subst (TicketsLead first us) (sym before) h) (tickets-same u.after t2 (after ∙ sym same)))
tickets-kept (Err e) t0 t1 t2 us vs u before after _ _ same back = λ first h.
    subst (λ l. TicketsLead first l t2) (sym same) (tickets-later first us t0 t2 h (subst (λ t. ticket.IsAsBefore t t2) before back))

pub tickets-facts : {X E : Type 0} (r : Result X E) (t1 t2 : ticket.Seen) (fs : List Fact) → t1.facts ≡ fs → OnOk r (t2 ≡ t1) → OnOk r (t2.facts ≡ fs)
tickets-facts (Ok x) t1 t2 fs facts same = ap (λ (t : ticket.Seen). t.facts) same ∙ facts
tickets-facts (Err e) t1 t2 fs facts same = tt

pub tickets-fields : {X E : Type 0} (r : Result X E) (t1 t2 : ticket.Seen) (fs : List (List ℕ)) → t1.fields ≡ fs → OnOk r (t2 ≡ t1) → OnOk r (t2.fields ≡ fs)
tickets-fields (Ok x) t1 t2 fs fields same = ap (λ (t : ticket.Seen). t.fields) same ∙ fields
tickets-fields (Err e) t1 t2 fs fields same = tt
