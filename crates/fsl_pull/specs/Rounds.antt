-- A sync as a list of rounds: what a round is, when the rounds go on, and when they are at their end.
use Rattle.std.specs.Prelude.{◌≡◌, ◌≢◌, ℕ, ◌+◌, ◌≤◌, ◌⊎◌, List, [], ◌∷◌, ◌++◌, length, Option, Some}
use Rattle.fsl_record.specs.declared.Record.{Record}
use Rattle.fsl_repo.specs.Machine.{State}
use Rattle.fsl_pull.specs.declared.PullFault.{PullFault}
use Rattle.fsl_pull.specs.declared.PullFault.TheVariants as fault

-- a round: what was asked, and what came
pub record Round (Q A : Type 0) : Type 0 where
  pub request : Q
  pub reply : A

-- where a sync stands before a round: the repository, the records of each commit so far, the count of what was stored or sent, and what the sync
-- remembers of the rounds before
pub record Point (M : Type 0) : Type 0 where
  pub state : State
  pub commits : List (List Record)
  pub count : ℕ
  pub memory : M

-- the end of a sync: its fault, where it has one, and what it leaves
pub record End : Type 0 where
  pub fault : Option PullFault
  pub count : ℕ
  pub state : State
  pub commits : List (List Record)

-- a round is followed by another one, or is the last
pub data Then (M : Type 0) : Type 0 where
  goes_on : Point M → Then M
  ends : End → Then M

-- what is said of a round, by where the sync stands before it
abbrev pub Course : Type 0 → Type 0 → Type 0 → Type 1
Course M Q A = Point M → Round Q A → Then M → Type 0

-- none of the rounds is the end, and behind them the sync stands here
abbrev pub GoOn : {M Q A : Type 0} → Course M Q A → Point M → List (Round Q A) → Point M → Type 0
GoOn R p [] q = q ≡ p
GoOn {M} R p (r ∷ rounds) q = (m : Point M) × R p r (goes_on m) × GoOn R m rounds q

-- the last of the rounds is the end, and no other is
abbrev pub EndsIn : {M Q A : Type 0} → Course M Q A → Point M → List (Round Q A) → End → Type 0
EndsIn R p [] e = ⊥
EndsIn {M} R p (r ∷ rounds) e = ((rounds ≡ []) × R p r (ends e)) ⊎ ((m : Point M) × R p r (goes_on m) × EndsIn R m rounds e)

-- the sync was given up here
abbrev pub given_up : {M : Type 0} → PullFault → Point M → End
given_up why p = record { fault = Some why; count = p.count; state = p.state; commits = p.commits }

-- a sync over a network has its end within 100,000 rounds, or is given up behind so many
abbrev pub most_rounds : ℕ
most_rounds = 100000

abbrev pub IsSync : {M Q A : Type 0} → Course M Q A → Point M → List (Round Q A) → End → Type 0
IsSync {M} R p rounds e =
    ((length rounds ≤ most_rounds) × EndsIn R p rounds e)
    ⊎ ((length rounds ≡ most_rounds) × ((q : Point M) × GoOn R p rounds q × (e ≡ given_up fault.Rounds q)))

-- ---- a sync that a fault of the outside or want of memory cuts off

-- a last round that was read whole and taken in part, of which this is said by where the sync stood before it and by the repository that it leaves
abbrev pub Broken : Type 0 → Type 0 → Type 0 → Type 1
Broken M Q A = Point M → Round Q A → State → Type 0

-- what a sync asks next, by where it stands
abbrev pub Asks : Type 0 → Type 0 → Type 1
Asks M Q = Point M → Q → Type 0

-- the repository behind a round
abbrev pub state_of : {M : Type 0} → Then M → State
state_of (goes_on p) = p.state
state_of (ends e) = e.state

-- the last of the rounds was taken whole, and then its commit failed: the records are there, those before the round are committed, and the repository
-- is stopped
pub record CommitFailed {M Q A : Type 0} (R : Course M Q A) (p : Point M) (rounds : List (Round Q A)) (left : State) : Type 0 where
  pub front : List (Round Q A)
  pub last : Round Q A
  pub whole : rounds ≡ front ++ last ∷ []
  pub point : Point M
  pub go : GoOn R p front point
  pub step : Then M
  pub is_round : R point last step
  -- the commit is behind all arrivals: a round that a fault ended before its commit has none
  pub is_due : (state_of step).committed ≡ length (state_of step).records
  -- and there is something to commit
  pub some : point.state.committed ≢ length (state_of step).records
  pub state : left ≡ record (state_of step) { committed = point.state.committed; stopped = Some left.faults; faults = left.faults }

-- the rounds went on, and nothing of a further one was taken. `Sent` is said of what was asked in that one; a further one is within the limit
pub record IsLeftOff {M Q A : Type 0} (R : Course M Q A) (Sent : Point M → Type 0) (more : ℕ) (p : Point M) (rounds : List (Round Q A))
    (left : State) : Type 0 where
  pub point : Point M
  pub go : GoOn R p rounds point
  pub few : length rounds + more ≤ most_rounds
  pub sent : Sent point
  pub state : left ≡ point.state

-- the last of the rounds was read whole, and some of its cards were taken
pub record IsTakenInPart {M Q A : Type 0} (R : Course M Q A) (B : Broken M Q A) (p : Point M) (rounds : List (Round Q A)) (left : State) : Type 0 where
  pub front : List (Round Q A)
  pub last : Round Q A
  pub whole : rounds ≡ front ++ last ∷ []
  pub point : Point M
  pub go : GoOn R p front point
  pub few : length rounds ≤ most_rounds
  pub broke : B point last left
