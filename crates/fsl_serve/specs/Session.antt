-- The events of a session, and the bodies that stand in place of a reply.
use Rattle.std.specs.Prelude.{ℕ, ◌||◌, Bool, true, false, not, List, [], ◌∷◌, ◌++◌, filter_map, Option, Some, None, option_to_list, Err, codes, decimal, if◌then◌else◌}
use Rattle.std.specs.List.{list_any}
use Rattle.fsl_name.specs.Name.{name_text}
use Rattle.fsl_record.specs.Receipts.{Brought}
use Rattle.fsl_wire.specs.declared.Caps.{Caps}
use Rattle.fsl_wire.specs.declared.WireCard.{WireCard}
use Rattle.fsl_wire.specs.declared.WireCard.TheVariants as cards
use Rattle.fsl_login.specs.Logins.{nobody}
use Rattle.fsl_answer.specs.declared.reasons.Refusal.{Refusal}
use Rattle.fsl_answer.specs.Refusals.{is_push, refusal_text}
use Rattle.fsl_answer.specs.Contents.{is_pull}
use Rattle.fsl_answer.specs.Replies.{error_line}
use Rattle.fsl_repo.specs.declared.ArriveFault.TheVariants as arrive_fault
use Rattle.fsl_repo.specs.declared.Event.{Event}
use Rattle.fsl_repo.specs.declared.Event.TheVariants as event
use Rattle.fsl_repo.specs.declared.Answer.{Answer}
use Rattle.fsl_repo.specs.declared.Answer.TheVariants as answer

-- ---- bodies

-- for a message whose line with this number doesn't read
abbrev pub malformed_body : ℕ → List ℕ
malformed_body n = error_line (codes "malformed line " ++ decimal n)

-- for a login that isn't accepted
abbrev pub login_body : List ℕ
login_body = error_line (codes "login failed")

-- for a message that is refused
abbrev pub refusal_body : Refusal → List ℕ
refusal_body r = error_line (refusal_text r)

-- ---- events

-- an arrival for a file card with the session's receipt, private where it is marked
abbrev pub arrival_of : Brought → Bool → WireCard → Option Event
arrival_of receipt marked (cards.File name bytes) = Some (event.Receive name bytes marked receipt)
arrival_of receipt marked card = None

-- a private card marks the next file card
abbrev pub mark_after : Bool → WireCard → Bool
mark_after marked (cards.File name bytes) = false
mark_after marked cards.Private = true
mark_after marked card = marked

-- the arrivals of a message, in order
abbrev pub arrivals : Brought → Bool → List WireCard → List Event
arrivals receipt marked [] = []
arrivals receipt marked (card ∷ rest) = option_to_list (arrival_of receipt marked card) ++ arrivals receipt (mark_after marked card) rest

-- the user of the first login card, or `nobody`
abbrev pub login_in : List WireCard → List ℕ
login_in [] = nobody
login_in (cards.Login user nonce signature tail line ∷ rest) = user
login_in (card ∷ rest) = login_in rest

-- the receipt of a session's arrivals: who sent the message, and the moment that the clock answered
abbrev pub receipt_of : List WireCard → ℕ → Brought
receipt_of message moment = record { login = login_in message; moment = moment }

-- an announcement for an igot card; a flagged one needs `x`
abbrev pub announcement : Caps → WireCard → Option Event
announcement caps (cards.Igot name private) = if not private || caps.private then Some (event.Announce name) else None
announcement caps card = None

-- what an arrival that isn't taken adds to the reply
abbrev pub notice : Event → Answer → Option (List ℕ)
notice (event.Receive name bytes private receipt) (answer.Receive (Err (arrive_fault.TooLarge size))) = Some (codes "too large " ++ name_text name)
notice (event.Receive name bytes private receipt) (answer.Receive (Err (arrive_fault.NameWrong found))) = Some (codes "wrong name " ++ name_text name)
notice (event.Receive name bytes private receipt) (answer.Receive (Err (arrive_fault.Full size count wants))) = Some (codes "full " ++ name_text name)
notice e a = None

-- the notices of events with their answers, in order
abbrev pub notices : List Event → List Answer → List (List ℕ)
notices [] told = []
notices (e ∷ rest) [] = []
notices (e ∷ rest) (a ∷ told) = option_to_list (notice e a) ++ notices rest told

abbrev pub where_so : {X : Type 0} → Bool → List X → List X
where_so true xs = xs
where_so false xs = []

-- the events of a session before it builds: arrivals, announcements where a push card stands, the cluster where a pull card stands
abbrev pub first_events : List WireCard → Caps → Brought → List Event
first_events message caps receipt =
    arrivals receipt false message
    ++ where_so (list_any is_push message) (filter_map (announcement caps) message)
    ++ where_so (list_any is_pull message) (event.Cluster ∷ [])

-- the events of a session; its answers begin with those of its arrivals
abbrev pub events : List WireCard → Caps → Brought → List Answer → List Event
events message caps receipt told =
    first_events message caps receipt
    ++ event.Build (record { caps = caps; message = message; notices = notices (arrivals receipt false message) told }) ∷ event.Commit ∷ []
