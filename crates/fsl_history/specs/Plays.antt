-- What each step tells.
use Rattle.std.specs.Prelude.{◌≡◌, ℕ, ◌+◌, ◌-◌, ◌==◌, List, [], ◌∷◌, ◌++◌, length, Option as Maybe, Some, IfSome, if◌then◌else◌}
use mathlib.Core.List.{IsPrefix}
use Rattle.atomic_table.specs.Table.{Me, Step}
use Rattle.fsl_history.specs.declared.view.Tale.{Tale}
use Rattle.fsl_history.specs.declared.view.Stage.{Stage}
use Rattle.fsl_history.specs.declared.view.Stage.TheVariants.{Idle, Waits, Serves, Holds, Ahead}
use Rattle.fsl_history.specs.declared.view.View.{View}
use Rattle.fsl_history.specs.declared.view.View.TheVariants.{Keeper, Pass, Spent}
use Rattle.fsl_history.specs.Entries.{Entry, calls_by, IsHistory, newcomer}
use Rattle.fsl_history.specs.Rule.{most_turns}

abbrev pub Sat : Type 0 → Type 0 → Type 0 → Type 0
Sat M E A = Me (Maybe M) (View M E A)

module _ {M E A : Type 0} where
  -- a pass that holds nothing
  abbrev pub sat : Tale E A → ℕ → Stage M E A → Sat M E A
  sat t left stage = (Pass t left stage, [])

  -- a pass that has the slot out, with this in it
  abbrev pub served : Tale E A → ℕ → Stage M E A → Maybe M → Sat M E A
  served t left stage x = (Pass t left stage, (0, x) ∷ [])

  abbrev pub after_load : ℕ → ℕ → Stage M E A
  after_load n k = if n == k then Serves k else Waits k

  abbrev pub Draws : ℕ → Sat M E A → View M E A → Type 0
  Draws n me' (Pass t left stage) = me' ≡ sat t (left - 1) (Waits n)
  Draws n me' v = Unit {0}

  -- the ticket is the number found
  abbrev pub drawn : Step (Maybe M) → Sat M E A → ℕ → Sat M E A → Type 0
  drawn st me n me' = Draws n me' me.0

  abbrev pub Awaits : ℕ → Sat M E A → View M E A → Type 0
  Awaits n me' (Pass t left (Waits k)) = me' ≡ sat t left (after_load n k)
  Awaits n me' v = Unit {0}

  -- it is this pass's turn where the number found is its ticket
  abbrev pub awaited : Step (Maybe M) → Sat M E A → ℕ → Sat M E A → Type 0
  awaited st me n me' = Awaits n me' me.0

  -- the pass with this ticket has the machine out, as it took it
  abbrev pub HasOut : ℕ → Tale E A → ℕ → Sat M E A → Type 0
  HasOut k t left me = (m : M) × (me ≡ served t left (Holds k m) (Some m))

  -- the machine that it has out made this step since then
  abbrev pub HasStepped : (M → E → A → M → Type 0) → ℕ → Tale E A → ℕ → E → A → Sat M E A → Type 0
  HasStepped may k t left e a me = (m : M) × (m' : M) × may m e a m' × (me ≡ served t left (Holds k m) (Some m'))

  abbrev pub Takes : Sat M E A → View M E A → Type 0
  Takes me' (Pass t left (Serves k)) = HasOut k t left me'
  Takes me' v = Unit {0}

  -- the machine is out, and this pass has it
  abbrev pub taken : Step (Maybe M) → Sat M E A → ℕ → Sat M E A → Type 0
  taken st me n me' = Takes me' me.0

  abbrev pub Gives : E × A → Sat M E A → View M E A → Type 0
  Gives c me' (Pass t left (Holds k m)) = me' ≡ sat t left (Ahead k c.0 c.1)
  Gives c me' v = Unit {0}

  -- the machine is back, after the step of this call
  abbrev pub given : Maybe (E × A) → Step (Maybe M) → Sat M E A → ℕ → Sat M E A → Type 0
  given call st me n me' = IfSome call (λ c. Gives c me' me.0)

  -- where the machine that it has out made this step, it gives it back and names the step
  abbrev pub GoesAhead : (M → E → A → M → Type 0) → ℕ → Tale E A → ℕ → E → A → Sat M E A → Sat M E A → Type 0
  GoesAhead may k t left e a me me' = HasStepped may k t left e a me → me' ≡ sat t left (Ahead k e a)

  -- where the first state is known, this is a history that leads from it to that state
  abbrev pub Leads : (M → E → A → M → Type 0) → Maybe M → List (Entry E A) → M → Type 0
  Leads step first log last = IfSome first (λ f. IsHistory step f log last)

  -- behind what the pass had seen others alone made turns, which led to one state; there its own step came, by which the count rose so
  pub record IsCalled (may : M → E → A → M → Type 0) (count : M → ℕ) (first : Maybe M) (t t' : Tale E A) (e : E) (a : A) : Type 0 where
    pub between : List (Entry E A)
    pub before : M
    pub after : M
    pub number : t'.number ≡ t.number
    pub seen : t'.seen ≡ (t.seen ++ between) ++ (t.number, e, a) ∷ []
    pub mine : t'.mine ≡ t.mine ++ (e, a) ∷ []
    pub alone : calls_by t.number between ≡ []
    pub met : Leads may first (t.seen ++ between) before
    pub step : may before e a after
    pub left : Leads may first t'.seen after
    pub share : t'.share + count before ≡ t.share + count after

  -- the pass made this call, and has no ticket
  abbrev pub HasCalled : (M → E → A → M → Type 0) → (M → ℕ) → Maybe M → Tale E A → ℕ → E → A → Sat M E A → Type 0
  HasCalled may count first t left e a me = (t' : Tale E A) × IsCalled may count first t t' e a × (me ≡ sat t' left Idle)

  -- from where it has no ticket it comes to have made this call
  abbrev pub MakesTurn : (M → E → A → M → Type 0) → (M → ℕ) → Maybe M → Tale E A → ℕ → E → A → Sat M E A → Sat M E A → Type 0
  MakesTurn may count first t left e a me me' = me ≡ sat t left Idle → HasCalled may count first t (left - 1) e a me'

  -- from where it gave the machine back it comes to have made this call
  abbrev pub EndsTurn : (M → E → A → M → Type 0) → (M → ℕ) → Maybe M → Tale E A → ℕ → ℕ → E → A → Sat M E A → Sat M E A → Type 0
  EndsTurn may count first t left k e a me me' = me ≡ sat t left (Ahead k e a) → HasCalled may count first t left e a me'

  abbrev pub Releases : (M → E → A → M → Type 0) → (M → ℕ) → Maybe M → Sat M E A → View M E A → Type 0
  Releases may count first me' (Pass t left (Ahead k e a)) = HasCalled may count first t left e a me'
  Releases may count first me' v = Unit {0}

  -- the turn has its entry, behind all that this pass had seen and what others did since then
  abbrev pub released : (M → E → A → M → Type 0) → (M → ℕ) → Maybe M → Step (Maybe M) → Sat M E A → ℕ → Sat M E A → Type 0
  released may count first st me n me' = Releases may count first me' me.0

  -- the pass has seen the history so far, in which its own calls alone have its number, and made no call
  pub record IsShown (may : M → E → A → M → Type 0) (first : Maybe M) (t t' : Tale E A) (n : ℕ) : Type 0 where
    pub state : M
    pub number : t'.number ≡ t.number
    pub seen : IsPrefix t.seen t'.seen
    pub length : length t'.seen ≡ n
    pub mine : t'.mine ≡ t.mine
    pub own : calls_by t'.number t'.seen ≡ t'.mine
    pub met : Leads may first t'.seen state
    pub share : t'.share ≡ t.share

  -- the pass has seen so many turns, and has no ticket
  abbrev pub HasLooked : (M → E → A → M → Type 0) → Maybe M → Tale E A → ℕ → ℕ → Sat M E A → Type 0
  HasLooked may first t left n me = (t' : Tale E A) × IsShown may first t t' n × (me ≡ sat t' left Idle)

  abbrev pub Looks : (M → E → A → M → Type 0) → Maybe M → ℕ → Sat M E A → View M E A → Type 0
  Looks may first n me' (Pass t left Idle) = HasLooked may first t left n me'
  Looks may first n me' v = Unit {0}

  abbrev pub looked : (M → E → A → M → Type 0) → Maybe M → Step (Maybe M) → Sat M E A → ℕ → Sat M E A → Type 0
  looked may first st me n me' = Looks may first n me' me.0

  abbrev pub after_issue : View M E A → View M E A
  after_issue (Keeper made back) = Keeper (made + 1) back
  after_issue (Pass t left stage) = Pass t left stage
  after_issue Spent = Spent

  abbrev pub issued : View M E A → View M E A
  issued (Keeper made back) = Pass (newcomer made) most_turns Idle
  issued (Pass t left stage) = Spent
  issued Spent = Spent

  abbrev pub gathered_in : ℕ → List (Tale E A) → View M E A → View M E A
  gathered_in made back (Keeper m b) = Keeper made back
  gathered_in made back (Pass t left stage) = Keeper made (back ++ t ∷ [])
  gathered_in made back Spent = Keeper made back

  abbrev pub gathered : View M E A → View M E A → View M E A
  gathered (Keeper made back) w = gathered_in made back w
  gathered (Pass t left stage) w = Pass t left stage
  gathered Spent w = Spent
