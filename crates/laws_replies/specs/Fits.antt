-- A reply with the notices of a session fits a message.
use Rattle.std.specs.Prelude.{ℕ, ◌<◌, ◌≤◌, List, [], length}
use Rattle.std.specs.List.{AllByRecursion}
use Rattle.fsl_text.specs.Escapes.{escape}
use Rattle.fsl_text.specs.Limits.{most_of_message}
use Rattle.fsl_wire.specs.declared.Caps.{Caps}
use Rattle.fsl_wire.specs.declared.WireCard.{WireCard}
use Rattle.fsl_answer.specs.Replies.{reply_text}
use Rattle.fsl_answer.specs.Contents.{State, lists_of}
use Rattle.fsl_answer.specs.Keeps.{IsState}
use Rattle.fsl_answer.specs.Fits.{IsWithin}

-- the longest notice that a session makes says a wrong name: as it is written it has 53 bytes
abbrev pub AreNotices : List (List ℕ) → Type 0
AreNotices notices = AllByRecursion (λ n. length (escape n) ≤ 53) notices

-- ---- a law

-- however many such notices there are, the reply is shorter than a message may be
abbrev pub SessionRepliesFit : Type 0
SessionRepliesFit = (s : State) (message : List WireCard) (caps : Caps) (notices : List (List ℕ)) → IsState s → IsWithin s [] → AreNotices notices
    → length (reply_text (lists_of s message caps notices)) < most_of_message
