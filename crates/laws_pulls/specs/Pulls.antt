-- Laws of pulls from another repository: one way, and each way.
use Rattle.std.specs.Prelude.{◌≡◌, ℕ, true, List, None}
use Rattle.fsl_blobs.specs.Fold.{Contents}
use Rattle.fsl_repo.specs.Machine.{State, now, configured}
use Rattle.fsl_pull.specs.Rounds.{End}
use Rattle.fsl_pull.specs.Locals.{LocalRounds, IsLocalPull}
use Rattle.laws_pulls.specs.Shown.{AreMadeBy, ClustersCome, Agree, IsOpen, GainsAll, ShowTheSame}

-- a pull that ended well, over a peer's disk that tells its contents and meets the disk model
pub record PullsWell (s peer : State) (e : End) : Type 0 where
  pub honest : peer.honest ≡ true
  pub rounds : LocalRounds
  pub pulls : IsLocalPull s peer rounds e
  pub well : e.fault ≡ None

-- Law. It leaves all that was held, and each public artifact of the peer whose name isn't shunned, where no name has two contents, no clusters make a circle,
-- and no cluster of the peer is private or shunned here
abbrev pub OneWay : Type 0
OneWay =
    (s peer : State) (e : End) → Agree (now s) (now peer) → (made : List ℕ → ℕ) → AreMadeBy made (now peer) → ClustersCome (now peer) (now s) →
    PullsWell s peer e → GainsAll (now s) (now peer) (now e.state)

-- what two repositories meet before they pull from each other: all is public, nothing is shunned, the configured fields are the same, no name has two
-- contents, and no clusters make a circle
pub record AreAlike (a b : Contents) : Type 0 where
  pub first : IsOpen a
  pub second : IsOpen b
  pub fields : configured a ≡ configured b
  pub agree : Agree a b
  pub made : List ℕ → ℕ
  pub first_made : AreMadeBy made a
  pub second_made : AreMadeBy made b

-- Law. One pulls from the other, and then the other from the one, as it is behind the first pull. Where both pulls end well, both show the same. The states
-- between the pulls may be those of files that are opened again
abbrev pub EachWay : Type 0
EachWay =
    (a b c d : State) (e f : End) → AreAlike (now a) (now b) → PullsWell a b e → now c ≡ now b → now d ≡ now e.state → PullsWell c d f →
    ShowTheSame (now e.state) (now f.state)

pub record PulledShowTheSame : Type 0 where
  pub one_way : OneWay
  pub each_way : EachWay
