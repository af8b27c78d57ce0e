-- What the code says of a pull from another repository.
use Rattle.std.specs.Prelude.{◌≡◌, ◌⊎◌, ℕ, Bool, false, IsTrue, List, [], ◌∷◌, ◌++◌, map, option_to_list, Option, Some, None, Result, Ok, Err, if◌then◌else◌}
use Rattle.std.specs.Str.{bytes_eq}
use Rattle.fsl_disk.specs.Disk.{DiskState}
use Rattle.fsl_wire.specs.declared.WireCard.{WireCard}
use Rattle.fsl_repo.specs.Machine.{State, now}
use Rattle.fsl_repo.specs.Whole.{Seen, front}
use Rattle.fsl_pull.specs.declared.PullFault.{PullFault}
use Rattle.fsl_pull.specs.declared.Pulled.{Pulled}
use Rattle.fsl_pull.specs.Requests.{file_card}
use Rattle.fsl_pull.specs.Reading.{CantRead}
use Rattle.fsl_pull.specs.Reads.{FileFails}
use Rattle.fsl_pull.specs.Pushes.{AreRead, is_public}
use Rattle.fsl_pull.specs.Locals.{IsLocalReply}
use Rattle.fsl_pull.specs.Taking.{TakesCard, TakesSome, TakesAll}
use Rattle.fsl_pull.specs.PullTurns.{IsTaken, none_missing}
use Rattle.fsl_pull.specs.Kept.{IsKeptAtAnyMoment}
use Rattle.fsl_pull.specs.Calls.{IsLocalCall, IsStuck}

-- of some names the files of those before this one are taken as they were read, and that of this one isn't read
pub record StopsBefore (why : PullFault) (peer : State) (asked : List (List ℕ)) (old new : Seen) (peer_new : State) : Type 0 where
  pub front : List (List ℕ)
  pub name : List ℕ
  pub rest : List (List ℕ)
  pub whole : asked ≡ front ++ name ∷ rest
  pub public : IsTrue (is_public (now peer) name)
  pub files : List (List ℕ × List ℕ)
  pub read : AreRead peer front files
  pub moved : Bool
  pub takes : TakesSome old None (map file_card files) moved new None
  pub cant : CantRead why peer name peer_new

-- a file is taken, and where there is none nothing changes
abbrev pub TakesOne : Seen → Option (List ℕ × List ℕ) → Result Bool PullFault → Seen → Type 0
TakesOne old None result new = (result ≡ Ok false) × (new ≡ old)
TakesOne old (Some file) result new = TakesCard old None (file_card file) result new None

-- the file of a name that the peer holds public is taken as it is read, or isn't read, and nothing is taken
abbrev pub TakesGiven : State → List ℕ → Seen → Result Bool PullFault → Seen → State → Type 0
TakesGiven peer name old result new peer_new =
    ((file : Option (List ℕ × List ℕ)) × AreRead peer (name ∷ []) (option_to_list file) × TakesOne old file result new × (peer_new ≡ peer))
    ⊎ ((why : PullFault) × (result ≡ Err why) × FileFails why peer name peer_new × (new ≡ old))

-- files are taken, up to the first that is wrong
abbrev pub TakesFiles : Seen → List (List ℕ × List ℕ) → Result Bool PullFault → Seen → Type 0
TakesFiles old files (Ok moved) new = TakesSome old None (map file_card files) moved new None
TakesFiles old files (Err why) new = TakesAll old None (map file_card files) (Err why) new

-- the files of those of these names that the peer holds public are taken as they are read, up to the first that is wrong or isn't read
abbrev pub TakesAsked : State → List (List ℕ) → Seen → Result Bool PullFault → Seen → State → Type 0
TakesAsked peer asked old result new peer_new =
    ((files : List (List ℕ × List ℕ)) × AreRead peer asked files × TakesFiles old files result new × (peer_new ≡ peer))
    ⊎ ((why : PullFault) × (result ≡ Err why) × StopsBefore why peer asked old new peer_new)

-- one round that asks for these names: what the peer gives is taken, and committed; or a file of it isn't read
abbrev pub IsLocalTurned : State → List (List ℕ) → List (List ℕ) → DiskState → DiskState → Seen → Seen → Type 0
    → Result (Option (List (List ℕ))) PullFault → State → Type 0
IsLocalTurned peer told asked before after old new Still result peer_new =
    ((reply : List WireCard) × IsLocalReply peer told asked reply × IsTaken none_missing asked reply before after old new Still result × (peer_new ≡ peer))
    ⊎ ((why : PullFault) × (result ≡ Err why) × IsStuck why peer told asked old.state new.state peer_new × Still)

-- the project code of a peer, where it is another one
abbrev pub other_code : List ℕ → List ℕ → Option (List ℕ)
other_code mine theirs = if bytes_eq mine theirs then None else Some theirs

-- one call of `pull_local`: its answer, and what its disk may leave at each moment of it
abbrev pub IsPulledFrom : DiskState → DiskState → Seen → Seen → Seen → Seen → Result Pulled PullFault → Type 0
IsPulledFrom before after old new peer peer_new result =
    IsLocalCall old.state new.state peer.state peer_new.state (IsKeptAtAnyMoment (front old.state) before after) result
