-- What contracts see of a link: the bytes of a connection in both directions, and the connections before it.
use Rattle.std.specs.Prelude.{◌≡◌, ℕ, ◌<◌, List, [], ◌∷◌, ◌++◌, length, take, Option, Some, None, ⊤, Result, MatchResult}
use Rattle.fsl_outside.specs.Memory.{next}

-- a connection: the bytes read from it, those left in it, those it took, and how many reads and writes on it failed
pub record Connection : Type 0 where
  pub read : List ℕ
  pub left : List ℕ
  pub taken : List ℕ
  pub failed : ℕ

-- what no read and no write changes: the connections before the present one, where they are told, and a door's counts
pub record Standing : Type 0 where
  pub earlier : Option (List Connection)
  pub accept_faults : ℕ
  pub closings : ℕ

pub record LinkState : Type 0 where
  -- the present connection, where there is one and it is told
  pub present : Option Connection
  pub standing : Standing
  -- how many reads, writes and connects failed, up to the last value of u64
  pub faults : ℕ

-- a connection that has begun and gives those bytes
abbrev pub fresh : List ℕ → Connection
fresh bytes = record { read = []; left = bytes; taken = []; failed = 0 }

-- P of the connection before and after, where it is told; what isn't told stays so
abbrev pub Between : Option Connection → Option Connection → (Connection → Connection → Type 0) → Type 0
Between None None P = ⊤
Between None (Some new) P = ⊥
Between (Some old) None P = ⊥
Between (Some old) (Some new) P = P old new

-- those bytes moved from what was left to what was read, and nothing else changed
pub record IsRead (old new : Connection) (bytes : List ℕ) : Type 0 where
  pub left : old.left ≡ bytes ++ new.left
  pub read : new.read ≡ old.read ++ bytes
  pub taken : new.taken ≡ old.taken
  pub failed : new.failed ≡ old.failed

-- one call failed, and nothing else changed
abbrev pub IsFailed : Connection → Connection → Type 0
IsFailed old new = new ≡ record old { failed = next old.failed }

-- the connection took those bytes, and nothing else changed
abbrev pub IsSent : Connection → Connection → List ℕ → Type 0
IsSent old new bytes = new ≡ record old { taken = old.taken ++ bytes }

-- a read: with room, 0 is the end
abbrev pub LinkReads : {E : Type 0} → Option Connection → Option Connection → Result ℕ E → List ℕ → Type 0
LinkReads old new r into =
    Between old new (λ c d. MatchResult r (λ n. IsRead c d (take n into) × (n ≡ 0 → 0 < length into → d.left ≡ [])) (λ _. IsFailed c d))

-- a write
abbrev pub LinkWrites : {E : Type 0} → Option Connection → Option Connection → Result ℕ E → List ℕ → Type 0
LinkWrites old new r piece = Between old new (λ c d. MatchResult r (λ n. IsSent c d (take n piece)) (λ _. IsFailed c d))

-- the list of all connections, the present one last
abbrev pub listed : Option (List Connection) → Option Connection → Option (List Connection)
listed None present = None
listed (Some earlier) None = Some earlier
listed (Some earlier) (Some present) = Some (earlier ++ present ∷ [])

-- a connection that has just begun: no byte was read or taken and no call failed
pub record IsBegun (c : Connection) : Type 0 where
  pub read : c.read ≡ []
  pub taken : c.taken ≡ []
  pub failed : c.failed ≡ 0

-- the present connection, where it is told, has just begun
abbrev pub HasBegun : Option Connection → Type 0
HasBegun None = ⊤
HasBegun (Some c) = IsBegun c

-- where the connections before it are told, the present one is told
abbrev pub IsTold : Option (List Connection) → Option Connection → Type 0
IsTold None present = ⊤
IsTold (Some earlier) None = ⊥
IsTold (Some earlier) (Some present) = ⊤
