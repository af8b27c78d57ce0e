-- What the other passes know, while one makes its turn.
use Rattle.std.proofs.Common.{◌≡◌, ◌≢◌, ℕ, ◌+◌, ◌==◌, List, [], ◌∷◌, ◌++◌, length, Option as Maybe, Bool, refl, sym, ap, ◌∙◌, subst, arith, eq-eqb, ne_eqb, if◌then◌else◌, length-append, append-nil, append_assoc}
use Rattle.fsl_history.specs.declared.view.Tale.{Tale}
use Rattle.fsl_history.specs.declared.view.Stage.{Stage}
use Rattle.fsl_history.specs.declared.view.Stage.TheVariants.{Idle, Waits, Serves, Holds, Ahead}
use Rattle.fsl_history.specs.declared.view.View.{View}
use Rattle.fsl_history.specs.declared.view.View.TheVariants.{Keeper, Pass, Spent}
use Rattle.fsl_history.specs.Entries.{Entry, calls_by, Grows}
use Rattle.fsl_history.specs.Rule.{Phase, home, IsQueued, IsAt, IsTold, Knows}
use Rattle.fsl_history.specs.Plays.{after_load, drawn, IsCalled}
use Rattle.fsl_history.proofs.Lists.{calls_by-append, calls_by-other, prefix_on}

abbrev pub head_or : {X : Type 0} → List X → X → X
head_or [] d = d
head_or (x ∷ xs) d = x

-- the seats of tickets, with one more
abbrev pub holder_with : ℕ → ℕ → (ℕ → ℕ) → ℕ → ℕ
holder_with k id holder n = if n == k then id else holder n

pub holder_with-here : (k id : ℕ) (holder : ℕ → ℕ) (n : ℕ) → n ≡ k → holder_with k id holder n ≡ id
holder_with-here k id holder n e = subst (λ (b : Bool). (if b then id else holder n) ≡ id) (sym (eq-eqb n k e)) refl

pub holder_with-else : (k id : ℕ) (holder : ℕ → ℕ) (n : ℕ) → n ≢ k → holder_with k id holder n ≡ holder n
holder_with-else k id holder n e = subst (λ (b : Bool). (if b then id else holder n) ≡ holder n) (sym (ne_eqb n k e)) refl

-- one pass alone has the ticket of the turn
pub apart : (turn most : ℕ) (holder : ℕ → ℕ) (id j k : ℕ) → holder turn ≡ id → j ≢ id → IsQueued turn most holder j k → k ≢ turn
apart turn most holder id j k mine other q e = other (sym q.held ∙ ap holder e ∙ mine)

-- what another seat knows, after an entry of this one
pub told_on : {E A : Type 0} (log : List (Entry E A)) (made : ℕ) (seats : ℕ → ℕ) (id j number : ℕ) (u : Tale E A) (e : E) (a : A) → seats number ≡ id → j ≢ id → IsTold log made seats j u → IsTold (log ++ (number, e, a) ∷ []) made seats j u
told_on log made seats id j number u e a mine other told =
    let ne : u.number ≢ number = λ same. other (sym told.seat ∙ ap seats same ∙ mine) in
    record {
      number = told.number;
      seat = told.seat;
      tale = record {
        seen = prefix_on u.seen log ((number, e, a) ∷ []) told.tale.seen;
        mine = calls_by-append u.number log ((number, e, a) ∷ []) ∙ ap (λ l. calls_by u.number log ++ l) (calls_by-other u.number number e a ne) ∙ append-nil (calls_by u.number log) ∙ told.tale.mine;
        own = told.tale.own;
      };
    }

module _ {M E A : Type 0} where
  -- what other passes are at, where tickets are queued as before
  queued_on : (turn drawn drawn' : ℕ) (holder holder' : ℕ → ℕ) (phase : Phase M E A) (j : ℕ) → ((k : ℕ) → IsQueued turn drawn holder j k → IsQueued turn drawn' holder' j k)
      → (st : Stage M E A) → IsAt turn drawn holder phase j st → IsAt turn drawn' holder' phase j st
  queued_on turn drawn drawn' holder holder' phase j on Idle a = tt
  queued_on turn drawn drawn' holder holder' phase j on (Waits k) a = (on k a.0, a.1)
  queued_on turn drawn drawn' holder holder' phase j on (Serves k) a = (on k a.0, a.1, a.2)
  queued_on turn drawn drawn' holder holder' phase j on (Holds k m) a = (on k a.0, a.1, a.2)
  queued_on turn drawn drawn' holder holder' phase j on (Ahead k e r) a = (on k a.0, a.1, a.2)

  -- what other passes are at, where the machine moves
  others_on : (turn drawn : ℕ) (holder : ℕ → ℕ) (phase phase' : Phase M E A) (id j : ℕ) → holder turn ≡ id → j ≢ id → (st : Stage M E A) → IsAt turn drawn holder phase j st → IsAt turn drawn holder phase' j st
  others_on turn drawn holder phase phase' id j mine other Idle a = tt
  others_on turn drawn holder phase phase' id j mine other (Waits k) a = (a.0, λ e. absurd (apart turn drawn holder id j k mine other a.0 e))
  others_on turn drawn holder phase phase' id j mine other (Serves k) a = absurd (apart turn drawn holder id j k mine other a.0 a.1)
  others_on turn drawn holder phase phase' id j mine other (Holds k m) a = absurd (apart turn drawn holder id j k mine other a.0 a.1)
  others_on turn drawn holder phase phase' id j mine other (Ahead k e r) a = absurd (apart turn drawn holder id j k mine other a.0 a.1)

  -- what other passes are at, after the turn
  others_next : (turn turn' drawn : ℕ) (holder : ℕ → ℕ) (phase : Phase M E A) (id j : ℕ) → turn' ≡ turn + 1 → holder turn ≡ id → j ≢ id → (st : Stage M E A) → IsAt turn drawn holder phase j st → IsAt turn' drawn holder home j st
  others_next turn turn' drawn holder phase id j next mine other Idle a = tt
  others_next turn turn' drawn holder phase id j next mine other (Waits k) a =
      let q = a.0 in
      let from = q.from in
      let n : k ≢ turn = apart turn drawn holder id j k mine other q in
      (record { from = omega arith; below = q.below; held = q.held }, λ _. refl)
  others_next turn turn' drawn holder phase id j next mine other (Serves k) a = absurd (apart turn drawn holder id j k mine other a.0 a.1)
  others_next turn turn' drawn holder phase id j next mine other (Holds k m) a = absurd (apart turn drawn holder id j k mine other a.0 a.1)
  others_next turn turn' drawn holder phase id j next mine other (Ahead k e r) a = absurd (apart turn drawn holder id j k mine other a.0 a.1)

module _ {M E A : Type 0} where
  -- the same of all that another seat knows
  pub know_queued : (log : List (Entry E A)) (drawn drawn' : ℕ) (holder holder' : ℕ → ℕ) (phase : Phase M E A) (made : ℕ) (seats : ℕ → ℕ) (j : ℕ) → ((k : ℕ) → IsQueued (length log) drawn holder j k → IsQueued (length log) drawn' holder' j k)
      → (u : View M E A) → Knows log drawn holder phase made seats j u → Knows log drawn' holder' phase made seats j u
  know_queued log drawn drawn' holder holder' phase made seats j on (Keeper m b) k = k
  know_queued log drawn drawn' holder holder' phase made seats j on (Pass t' l' st) k = (k.0, queued_on (length log) drawn drawn' holder holder' phase j on st k.1)
  know_queued log drawn drawn' holder holder' phase made seats j on Spent k = tt

  pub know_moved : (log : List (Entry E A)) (drawn : ℕ) (holder : ℕ → ℕ) (phase phase' : Phase M E A) (made : ℕ) (seats : ℕ → ℕ) (id j : ℕ) → holder (length log) ≡ id → j ≢ id
      → (u : View M E A) → Knows log drawn holder phase made seats j u → Knows log drawn holder phase' made seats j u
  know_moved log drawn holder phase phase' made seats id j mine other (Keeper m b) k = k
  know_moved log drawn holder phase phase' made seats id j mine other (Pass t l st) k = (k.0, others_on (length log) drawn holder phase phase' id j mine other st k.1)
  know_moved log drawn holder phase phase' made seats id j mine other Spent k = tt

module _ {M E A : Type 0} where
  pub know_next : (log : List (Entry E A)) (most : ℕ) (holder : ℕ → ℕ) (phase : Phase M E A) (made : ℕ) (seats : ℕ → ℕ) (id j number : ℕ) (e : E) (a : A) → holder (length log) ≡ id → seats number ≡ id → j ≢ id
      → (u : View M E A) → Knows log most holder phase made seats j u → Knows (log ++ (number, e, a) ∷ []) most holder home made seats j u
  know_next log most holder phase made seats id j number e a mine own other (Keeper m b) k = k
  know_next log most holder phase made seats id j number e a mine own other (Pass t l st) k =
      (told_on log made seats id j number t e a own other k.0, others_next (length log) (length (log ++ (number, e, a) ∷ [])) most holder phase id j (length-append log ((number, e, a) ∷ [])) mine other st k.1)
  know_next log most holder phase made seats id j number e a mine own other Spent k = tt

module _ {M E A : Type 0} where
  pub its_turn : (n k : ℕ) → n ≡ k → after_load {M = M} {E = E} {A = A} n k ≡ Serves k
  its_turn n k e = let s : Stage M E A = Serves k in let t : Stage M E A = Waits k in subst (λ (b : Bool). (if b then s else t) ≡ s) (sym (eq-eqb n k e)) refl

  pub not_yet : (n k : ℕ) → n ≢ k → after_load {M = M} {E = E} {A = A} n k ≡ Waits k
  not_yet n k e = let s : Stage M E A = Serves k in let t : Stage M E A = Waits k in subst (λ (b : Bool). (if b then s else t) ≡ t) (sym (ne_eqb n k e)) refl

-- a pass that made one more call has grown
pub called_grows : {M E A : Type 0} (may : M → E → A → M → Type 0) (count : M → ℕ) (first : Maybe M) (p q : Tale E A) (e : E) (a : A) → IsCalled may count first p q e a → Grows p q
called_grows may count first p q e a called =
    record {
      number = called.number;
      seen = (called.between ++ (p.number, e, a) ∷ [], sym (append_assoc p.seen called.between ((p.number, e, a) ∷ [])) ∙ sym called.seen);
      mine = ((e, a) ∷ [], sym called.mine);
    }
