-- When files and messages are refused, and when a sync is refused for a limit.
use Rattle.std.specs.Prelude.{◌≡◌, ◌≢◌, ◌⊎◌, ℕ, List, Ok, Err}
use Rattle.fsl_record.specs.declared.Record.{Record}
use Rattle.fsl_uv.specs.declared.ApplyFault.TheVariants as apply_fault
use Rattle.fsl_uv.specs.declared.Card.{Card}
use Rattle.fsl_uv.specs.declared.UvMessageFault.{UvMessageFault}
use Rattle.fsl_uv.specs.declared.UvMessageFault.TheVariants as message_fault
use Rattle.fsl_uv.specs.Entries.{Version}
use Rattle.fsl_uv.specs.Cards.{IsMessage}
use Rattle.fsl_uv.specs.Laws.{Agree}
use Rattle.fsl_uv.specs.Stores.{Seen, IsUv, IsNoEntry, IsMessageFault, IsApplied}
use Rattle.fsl_uv.specs.Syncing.{given, peer_answer}

-- Records have one map at most, and one first Blob that is no entry, and not both.
pub record RecordsReadOneWay : Type 0 where
  pub one_map : (records : List Record) (m n : List (List ℕ × Version)) → IsUv records m → IsUv records n → m ≡ n
  pub one_name : (records : List Record) (one other : List ℕ) → IsNoEntry records one → IsNoEntry records other → one ≡ other
  pub not_both : (records : List Record) (m : List (List ℕ × Version)) (name : List ℕ) → IsUv records m → ¬ (IsNoEntry records name)

-- Records have a map or such a Blob.
abbrev pub RecordsReadSomeWay : Type 0
RecordsReadSomeWay = (records : List Record) → ((m : List (List ℕ × Version)) × IsUv records m) ⊎ ((name : List ℕ) × IsNoEntry records name)

-- why a message doesn't read, want of memory aside
abbrev pub FailsBy : List ℕ → UvMessageFault → Type 0
FailsBy message fault = (fault ≢ message_fault.Memory) × IsMessageFault message fault

-- A message fails in one way, and not where it has cards.
pub record MessagesFailOneWay : Type 0 where
  pub one_fault : (message : List ℕ) (one other : UvMessageFault) → FailsBy message one → FailsBy message other → one ≡ other
  pub not_both : (message : List ℕ) (cards : List Card) (fault : UvMessageFault) → IsMessage message cards → ¬ (FailsBy message fault)

-- And each has cards, or fails.
abbrev pub MessagesReadSomeWay : Type 0
MessagesReadSomeWay = (message : List ℕ) → ((cards : List Card) × IsMessage message cards) ⊎ ((fault : UvMessageFault) × FailsBy message fault)

-- Where the answer of the peer was applied here, what is given for it isn't `Full` at the peer. So a sync that is refused for a
-- limit is refused here, before anything was put in at the peer.
abbrev pub FullComesFirst : Type 0
FullComesFirst =
    (here there after left : Seen) (answer back : List ℕ) (stored bytes count : ℕ) → Agree here.map there.map
    → IsMessage answer (peer_answer here.map there.map) → IsApplied here answer (Ok stored) after
    → IsMessage back (given here.map (peer_answer here.map there.map)) → ¬ (IsApplied there back (Err (apply_fault.Full bytes count)) left)
