-- Histories as plain data: one entry for each turn.
use lib.ListN.{get_elem?}
use mathlib.Core.Option.{some}
use Rattle.std.specs.Prelude.{◌≡◌, ℕ, ◌+◌, ◌==◌, List, [], ◌∷◌, ◌++◌, ⊤, map, length, suc, zero, if◌then◌else◌, Option, Some, None}
use Rattle.std.proofs.Common.{refl, sym, ap, ◌∙◌, append_assoc, append-nil, ◌≤◌, get_or, arith}
use mathlib.Core.List.{IsPrefix}
use Rattle.atomic_table.specs.Seated.{TableId}
use Rattle.fsl_turn.specs.Told.{Runs}
use Rattle.fsl_history.specs.declared.view.Tale.{Tale}

-- the number of the pass that made the turn, the event and the answer
abbrev pub Entry : Type 0 → Type 0 → Type 0
Entry E A = ℕ × E × A

-- the name of no table
abbrev pub no_table : TableId
no_table = record { words = 0; slots = 0; views_name = 0; atom = 0; block = 0; offset = 0; slot_names = [] }

module _ {E A : Type 0} where
  -- the event and the answer of an entry
  abbrev pub call_of : Entry E A → E × A
  call_of e = (e.1, e.2)

  -- all calls, in their order
  abbrev pub calls_in : List (Entry E A) → List (E × A)
  calls_in log = map call_of log

  -- the calls of one pass, in their order
  abbrev pub calls_by : ℕ → List (Entry E A) → List (E × A)
  calls_by n [] = []
  calls_by n (e ∷ es) = if n == e.0 then call_of e ∷ calls_by n es else calls_by n es

-- the history leads from the first state to the last, one step for each entry
abbrev pub IsHistory : {M E A : Type 0} → (M → E → A → M → Type 0) → M → List (Entry E A) → M → Type 0
IsHistory step first log last = Runs step first (calls_in log) last

-- what the pass has seen is a beginning of the history, which has all entries with its number: these are its calls
pub record IsTaleOf {E A : Type 0} (log : List (Entry E A)) (t : Tale E A) : Type 0 where
  pub seen : IsPrefix t.seen log
  pub mine : calls_by t.number log ≡ t.mine
  pub own : calls_by t.number t.seen ≡ t.mine

abbrev pub AllTales : {E A : Type 0} → List (Entry E A) → List (Tale E A) → Type 0
AllTales log [] = ⊤
AllTales log (t ∷ ts) = IsTaleOf log t × AllTales log ts

abbrev pub nobody : {E A : Type 0} → Tale E A
nobody = record { number = 0; seen = []; mine = []; share = 0 }

-- a pass that has seen nothing
abbrev pub newcomer : {E A : Type 0} → ℕ → Tale E A
newcomer number = record { number = number; seen = []; mine = []; share = 0 }

-- the passes with the numbers below n
abbrev pub newcomers : {E A : Type 0} → ℕ → List (Tale E A)
newcomers zero = []
newcomers (suc n) = newcomers n ++ newcomer n ∷ []

abbrev pub shares_in : {E A : Type 0} → List (Tale E A) → ℕ
shares_in [] = 0
shares_in (t ∷ ts) = t.share + shares_in ts

-- the first of these states, each with its count
abbrev pub first_state : {M : Type 0} → List (M × ℕ) → Option M
first_state [] = None
first_state (b ∷ bs) = Some b.0

pub first_state-is : {M : Type 0} (births : List (M × ℕ)) (m : M) → map (λ b. b.0) births ≡ m ∷ [] → first_state births ≡ Some m
first_state-is [] m e = absurd (let n : 0 ≡ 1 = ap (λ (l : List _). length l) e in omega (arith, n))
first_state-is {M} (b ∷ bs) m e = ap (λ (l : List M). Some (get_or l 0 m)) e

-- no two of these passes have one number
abbrev pub AreApart : {E A : Type 0} → List (Tale E A) → Type 0
AreApart {E} {A} ts = (i j : ℕ) (t u : Tale E A) → get_elem? ts i ≡ some t → get_elem? ts j ≡ some u → t.number ≡ u.number → i ≡ j

-- one history leads from the first state to the last. Its entries are the calls of these passes, whose numbers are those below their count,
-- each beginning with what the pass has seen, and the shares add up to the rise of the count
pub record IsFinished {M E A : Type 0} (may : M → E → A → M → Type 0) (count : M → ℕ) (first : M) (passes : List (Tale E A)) (last : M) : Type 0 where
  pub log : List (Entry E A)
  pub history : IsHistory may first log last
  pub tales : AllTales log passes
  pub numbers : (n : ℕ) → length passes ≤ n → calls_by n log ≡ []
  pub apart : AreApart passes
  pub share : shares_in passes + count first ≡ count last

-- the same from the state that the table was made with
pub record IsClosed {M E A : Type 0} (may : M → E → A → M → Type 0) (count : M → ℕ) (births : List (M × ℕ)) (back : List (Tale E A)) (last : M) : Type 0 where
  pub first : M
  pub born : map (λ b. b.0) births ≡ first ∷ []
  pub begun : map (λ b. b.1) births ≡ count first ∷ []
  pub finished : IsFinished may count first back last

-- the same pass, which has seen more and made more calls
pub record Grows {E A : Type 0} (p q : Tale E A) : Type 0 where
  pub number : q.number ≡ p.number
  pub seen : IsPrefix p.seen q.seen
  pub mine : IsPrefix p.mine q.mine

through : {X : Type 0} (xs ys zs : List X) → IsPrefix xs ys → IsPrefix ys zs → IsPrefix xs zs
through xs ys zs p q = (p.0 ++ q.0, sym (append_assoc xs p.0 q.0) ∙ (λ i. p.1 i ++ q.0) ∙ q.1)

pub grows_self : {E A : Type 0} (p : Tale E A) → Grows p p
grows_self p = record { number = refl; seen = ([], append-nil p.seen); mine = ([], append-nil p.mine) }

pub grows_through : {E A : Type 0} (p q r : Tale E A) → Grows p q → Grows q r → Grows p r
grows_through p q r a b = record { number = b.number ∙ a.number; seen = through p.seen q.seen r.seen a.seen b.seen; mine = through p.mine q.mine r.mine a.mine b.mine }
