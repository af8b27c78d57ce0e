-- What the code says of the cards that it takes.
use Rattle.std.specs.Prelude.{◌≡◌, ◌⊎◌, ℕ, Bool, List, [], ◌∷◌, ◌++◌, Option, Some, None, Result, Ok, Err, ⊤, false, MatchBool}
use Rattle.fsl_record.specs.declared.Record.{Record}
use Rattle.fsl_wire.specs.declared.WireCard.{WireCard}
use Rattle.fsl_repo.specs.declared.Arrival.{Arrival}
use Rattle.fsl_repo.specs.declared.ArriveFault.{ArriveFault}
use Rattle.fsl_repo.specs.declared.ArriveFault.TheVariants as arrive_fault
use Rattle.fsl_repo.specs.Machine.{State, IsArrival, arrived}
use Rattle.fsl_repo.specs.Whole.{Seen, blobs}
use Rattle.fsl_pull.specs.declared.PeerFault.TheVariants as peer
use Rattle.fsl_pull.specs.declared.PullFault.{PullFault}
use Rattle.fsl_pull.specs.declared.PullFault.TheVariants as fault
use Rattle.fsl_pull.specs.Arrivals.{Taken, Takes, stopped_by, is_onward, stored_in, any_moved}

-- a fault that is the end of a sync: what is wrong with what came, or what the repository says of it
abbrev pub IsRefusal : PullFault → Type 0
IsRefusal (fault.NotEmpty len) = ⊥
IsRefusal (fault.NotRepository at) = ⊥
IsRefusal fault.Link = ⊥
IsRefusal fault.Disk = ⊥
IsRefusal (fault.Damaged name found) = ⊥
IsRefusal fault.Memory = ⊥
IsRefusal why = ⊤

-- one arrival: its answer, with the state that is due then, or want of memory, which changes nothing
abbrev pub IsArrived : Seen → List ℕ → List ℕ → Result Arrival ArriveFault → Seen → Type 0
IsArrived old name bytes result new =
    (new.loaded ≡ old.loaded)
    × ((IsArrival old.state name bytes false result × (new.state ≡ arrived old.state name None bytes false result))
    ⊎ ((result ≡ Err arrive_fault.Memory) × (new.state ≡ old.state)))

-- the first number that says where a clone goes on is looked at
abbrev pub GoesOnFrom : Option ℕ → ℕ → Result (Unit {0}) PullFault → Option ℕ → Type 0
GoesOnFrom None next result from = (result ≡ Ok tt) × (from ≡ None)
GoesOnFrom (Some asked) next result from =
    MatchBool (is_onward asked next) ((result ≡ Ok tt) × (from ≡ None)) (result ≡ Err (fault.Peer (peer.Sequence next)))

-- arrivals append records, as many blobs as are stored, and change nothing else but the announced names
pub record Appends (old new : Seen) (done : List Arrival) : Type 0 where
  pub loaded : new.loaded ≡ old.loaded
  pub more : List Record
  pub records : new.state.records ≡ old.state.records ++ more
  pub committed : new.state.committed ≡ old.state.committed
  pub stopped : new.state.stopped ≡ old.state.stopped
  pub faults : new.state.faults ≡ old.state.faults
  pub stored : blobs more ≡ stored_in done

-- the cards were taken, and none of them is wrong: whatever cards follow, they are taken from here on
pub record TakesTo (s : State) (due : Option ℕ) (cards : List WireCard) (left : State) (due_left : Option ℕ) (done : List Arrival) : Type 0 where
  pub go : (rest : List WireCard) (t : Taken) → Takes left due_left rest t → Takes s due (cards ++ rest) (record t { arrivals = done ++ t.arrivals })

-- the cards were taken, and whether they stored or published an artifact is told
pub record TakesSome (old : Seen) (due : Option ℕ) (cards : List WireCard) (moved : Bool) (new : Seen) (due_left : Option ℕ) : Type 0 where
  pub done : List Arrival
  pub takes : TakesTo old.state due cards new.state due_left done
  pub is_moved : moved ≡ any_moved done
  pub appends : Appends old new done

-- this card is wrong, whatever follows it
pub record StopsAt (old : Seen) (due : Option ℕ) (card : WireCard) (why : PullFault) (new : Seen) : Type 0 where
  pub refusal : IsRefusal why
  pub takes : (rest : List WireCard) → Takes old.state due (card ∷ rest) (stopped_by old.state why)
  pub state : new.state ≡ old.state
  pub loaded : new.loaded ≡ old.loaded

-- one card
abbrev pub TakesCard : Seen → Option ℕ → WireCard → Result Bool PullFault → Seen → Option ℕ → Type 0
TakesCard old due card (Ok moved) new due_left = TakesSome old due (card ∷ []) moved new due_left
TakesCard old due card (Err why) new due_left =
    StopsAt old due card why new ⊎ ((why ≡ fault.Memory) × (new.state ≡ old.state) × (new.loaded ≡ old.loaded))

-- all cards of a list, up to the first that is wrong
pub record TakesUpTo (old : Seen) (due : Option ℕ) (cards : List WireCard) (why : PullFault) (new : Seen) : Type 0 where
  pub refusal : IsRefusal why
  pub done : List Arrival
  pub takes : Takes old.state due cards (record { state = new.state; arrivals = done; fault = Some why })
  pub appends : Appends old new done

-- want of memory: some first cards were taken
pub record TakesFront (old : Seen) (due : Option ℕ) (cards : List WireCard) (new : Seen) : Type 0 where
  pub front : List WireCard
  pub rest : List WireCard
  pub whole : cards ≡ front ++ rest
  pub due_left : Option ℕ
  pub done : List Arrival
  pub takes : TakesTo old.state due front new.state due_left done
  pub appends : Appends old new done

abbrev pub TakesAll : Seen → Option ℕ → List WireCard → Result Bool PullFault → Seen → Type 0
TakesAll old due cards (Ok moved) new = (due_left : Option ℕ) × TakesSome old due cards moved new due_left
TakesAll old due cards (Err why) new = TakesUpTo old due cards why new ⊎ ((why ≡ fault.Memory) × TakesFront old due cards new)
