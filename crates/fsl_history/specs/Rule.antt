-- The rule of the table: its two words, the machine in its slot, and what each seat knows.
use Rattle.std.specs.Prelude.{◌≡◌, ℕ, ◌+◌, ◌-◌, ◌*◌, ◌<◌, ◌≤◌, List, [], ◌∷◌, map, length, Option as Maybe, Some}
use mathlib.Core.Option.{Option, none, some}
use lib.ListN.{get_elem?}
use Rattle.atomic_table.specs.Table.{State}
use Rattle.fsl_history.specs.declared.view.Tale.{Tale}
use Rattle.fsl_history.specs.declared.view.Stage.{Stage}
use Rattle.fsl_history.specs.declared.view.Stage.TheVariants.{Idle, Waits, Serves, Holds, Ahead}
use Rattle.fsl_history.specs.declared.view.View.{View}
use Rattle.fsl_history.specs.declared.view.View.TheVariants.{Keeper, Pass, Spent}
use Rattle.fsl_history.specs.Entries.{Entry, calls_by, IsHistory, IsTaleOf, AreApart, shares_in, nobody}

-- the most turns of one pass, and the most passes
abbrev pub most_turns : ℕ
most_turns = 288230376151711744

abbrev pub keeper : {M E A : Type 0} → ℕ → List (Tale E A) → View M E A
keeper made back = Keeper made back

-- where the machine is: in its slot; out of it, since it was so; or in its slot after a step that has no entry yet
pub data Phase (M E A : Type 0) : Type 0 where
  home : Phase M E A
  out : M → Phase M E A
  ahead : E → A → Phase M E A

-- the ticket k of the seat id is neither used nor drawn by another
pub record IsQueued (turn drawn : ℕ) (holder : ℕ → ℕ) (id k : ℕ) : Type 0 where
  pub from : turn ≤ k
  pub below : k < drawn
  pub held : holder k ≡ id

-- the seat id has this number, and what it knows is so
pub record IsTold {E A : Type 0} (log : List (Entry E A)) (made : ℕ) (seats : ℕ → ℕ) (id : ℕ) (t : Tale E A) : Type 0 where
  pub number : t.number < made
  pub seat : seats t.number ≡ id
  pub tale : IsTaleOf log t

module _ {M E A : Type 0} where
  -- what the pass knows whose view this is
  abbrev pub tale_in : View M E A → Tale E A
  tale_in (Keeper made back) = nobody
  tale_in (Pass t left stage) = t
  tale_in Spent = nobody

  -- what those had seen that came back to this keeper
  abbrev pub back_in : View M E A → List (Tale E A)
  back_in (Keeper made back) = back
  back_in (Pass t left stage) = []
  back_in Spent = []

  abbrev pub total : (View M E A → ℕ) → List (View M E A) → ℕ
  total f [] = 0
  total f (v ∷ vs) = f v + total f vs

  -- 1 for a pass that isn't back
  abbrev pub lives : View M E A → ℕ
  lives (Keeper made back) = 0
  lives (Pass t left stage) = 1
  lives Spent = 0

  abbrev pub has_ticket : Stage M E A → ℕ
  has_ticket Idle = 0
  has_ticket (Waits k) = 1
  has_ticket (Serves k) = 1
  has_ticket (Holds k m) = 1
  has_ticket (Ahead k e a) = 1

  -- 1 for a pass that has a ticket
  abbrev pub tickets : View M E A → ℕ
  tickets (Keeper made back) = 0
  tickets (Pass t left stage) = has_ticket stage
  tickets Spent = 0

  -- the turns that are left to a pass, and to those that the keeper may make
  abbrev pub room : View M E A → ℕ
  room (Keeper made back) = (16 - made) * most_turns
  room (Pass t left stage) = left
  room Spent = 0

  -- the share of a pass, or of those that came back
  abbrev pub shares : View M E A → ℕ
  shares (Keeper made back) = shares_in back
  shares (Pass t left stage) = t.share
  shares Spent = 0

  -- what a pass is at fits where the machine is
  abbrev pub IsAt : ℕ → ℕ → (ℕ → ℕ) → Phase M E A → ℕ → Stage M E A → Type 0
  IsAt turn drawn holder phase id Idle = Unit {0}
  IsAt turn drawn holder phase id (Waits k) = IsQueued turn drawn holder id k × (k ≡ turn → phase ≡ home)
  IsAt turn drawn holder phase id (Serves k) = IsQueued turn drawn holder id k × (k ≡ turn) × (phase ≡ home)
  IsAt turn drawn holder phase id (Holds k m) = IsQueued turn drawn holder id k × (k ≡ turn) × (phase ≡ out m)
  IsAt turn drawn holder phase id (Ahead k e a) = IsQueued turn drawn holder id k × (k ≡ turn) × (phase ≡ ahead e a)

  -- what a seat knows is so: the first alone is the keeper's
  abbrev pub Knows : List (Entry E A) → ℕ → (ℕ → ℕ) → Phase M E A → ℕ → (ℕ → ℕ) → ℕ → View M E A → Type 0
  Knows log drawn holder phase made seats id (Keeper m b) = id ≡ 0
  Knows log drawn holder phase made seats id (Pass t left stage) = IsTold log made seats id t × IsAt (length log) drawn holder phase id stage
  Knows log drawn holder phase made seats id Spent = Unit {0}

  -- the slot has the machine as the history left it, or after the one step that has no entry yet; or nothing
  abbrev pub IsHomed : (M → E → A → M → Type 0) → List (Option (Maybe M)) → M → Phase M E A → Type 0
  IsHomed step homes state home = homes ≡ some (Some state) ∷ []
  IsHomed step homes state (out m) = (homes ≡ none ∷ []) × (m ≡ state)
  IsHomed step homes state (ahead e a) = (m : M) × (homes ≡ some (Some m) ∷ []) × step state e a m

  -- There is one history, of as many turns as the first word says. The second word is the number of tickets drawn
  pub record Ruled (step : M → E → A → M → Type 0) (count : M → ℕ) (births : List (M × ℕ)) (s : State (Maybe M) (View M E A)) : Type 0 where
    pub log : List (Entry E A)
    pub drawn : ℕ
    pub first : M
    pub state : M
    pub phase : Phase M E A
    -- which seat has the ticket, and which has the pass of that number, 0 once it is back
    pub holder : ℕ → ℕ
    pub seats : ℕ → ℕ
    pub made : ℕ
    pub back : List (Tale E A)
    pub born : map (λ b. b.0) births ≡ first ∷ []
    pub begun : map (λ b. b.1) births ≡ count first ∷ []
    pub words : s.words ≡ length log ∷ drawn ∷ []
    pub history : IsHistory step first log state
    pub homed : IsHomed step s.homes state phase
    pub free : length log ≡ drawn → phase ≡ home
    pub waiting : length log + total tickets s.views ≡ drawn
    pub roomy : drawn + total room s.views ≤ 16 * most_turns
    pub shared : total shares s.views + count first ≡ count state
    pub few : made ≤ 16
    pub unmade : (n : ℕ) → made ≤ n → calls_by n log ≡ []
    pub keeping : get_elem? s.views 0 ≡ some (Keeper made back)
    pub living : total lives s.views + length back ≡ made
    pub returned : (k : ℕ) (t : Tale E A) → get_elem? back k ≡ some t → IsTold log made seats 0 t
    pub apart : AreApart back
    pub each_view : (id : ℕ) (v : View M E A) → get_elem? s.views id ≡ some v → Knows log drawn holder phase made seats id v
