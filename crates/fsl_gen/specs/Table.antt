-- What the artifact of a number is. The names of the other artifacts are given by their numbers.
use Rattle.std.specs.Prelude.{ℕ, ◌+◌, ◌-◌, ◌*◌, ◌/◌, ◌%◌, ◌==◌, nat_lt, List, [], ◌∷◌, ◌++◌, Option, Some, None, true, false, if◌then◌else◌, codes, decimal, slice_index_or}
use Rattle.fsl_name.specs.Name.{name_of}
use Rattle.fsl_name.specs.declared.reference.Ref.{Ref}
use Rattle.fsl_name.specs.declared.reference.Ref.TheVariants.{Own}
use Rattle.fsl_date.specs.Moment.{civil_ms}
use Rattle.fsl_card.specs.Writing.{sealed_text}
use Rattle.fsl_grammar.specs.declared.Prefix.{Prefix}
use Rattle.fsl_grammar.specs.declared.Prefix.TheVariants.{Once, Cancel, Propagate}
use Rattle.fsl_grammar.specs.declared.TagCard.{TagCard}
use Rattle.fsl_manifest.specs.declared.Manifest.{Manifest}
use Rattle.fsl_manifest.specs.Writing.{manifest_cards}
use Rattle.fsl_forms.specs.declared.control.Control.{Control}
use Rattle.fsl_forms.specs.declared.ticket.TicketChange.{TicketChange}
use Rattle.fsl_forms.specs.declared.ticket.Ticket.{Ticket}
use Rattle.fsl_forms.specs.declared.forum.Forum.{Forum}
use Rattle.fsl_forms.specs.Writing.{control_cards, ticket_cards, forum_cards}

-- ---- what every artifact has

-- a word with a number behind it
abbrev pub numbered : List ℕ → ℕ → List ℕ
numbered word n = word ++ decimal n

-- a second for each artifact, from 2020-01-01T00:00:00 on
unfoldable pub date_at : ℕ → ℕ
date_at i =
    civil_ms (record { year = 2020; month = 1; day = 1; hour = 0; minute = 0; second = 0; milli = 0 }) + 1000 * i

-- u0, u1 and u2 in turn
abbrev pub user_at : ℕ → List ℕ
user_at i = numbered (codes "u") (i % 3)

-- ---- check-ins

-- the check-in before it
abbrev pub parents_at : (ℕ → List ℕ) → ℕ → List Ref
parents_at name_at i = if nat_lt i 4 then [] else Own (name_at (i - 4)) ∷ []

-- a tag on the artifact itself
abbrev pub own_tag : Prefix → List ℕ → Option (List ℕ) → TagCard
own_tag prefix tag value = record { prefix = prefix; tag = tag; target = None; value = value }

-- the symbolic name of the branch before the k-th ends, where there is one
abbrev pub ends_branch_before : ℕ → List TagCard
ends_branch_before k = if k == 0 then [] else own_tag Cancel (numbered (codes "sym-b") (k - 1)) None ∷ []

-- the k-th branch begins, with a symbolic name of its own
abbrev pub begins_branch : ℕ → List TagCard
begins_branch k =
    own_tag Propagate (codes "branch") (Some (numbered (codes "b") k))
    ∷ own_tag Propagate (numbered (codes "sym-b") k) None
    ∷ ends_branch_before k

abbrev pub tags_at : ℕ → List TagCard
tags_at i = if i % 40 == 0 then begins_branch (i / 40) else []

abbrev pub checkin_at : (ℕ → List ℕ) → ℕ → Manifest
checkin_at name_at i =
    record {
      baseline = None;
      comment = numbered (codes "check-in ") i;
      date = date_at i;
      files = [];
      mime = None;
      parents = parents_at name_at i;
      picks = [];
      checksum = None;
      tags = tags_at i;
      user = user_at i;
    }

-- ---- tags on check-ins

abbrev pub mark : List ℕ → TagCard
mark target = record { prefix = Once; tag = codes "mark"; target = Some (Own target); value = None }

abbrev pub control_at : (ℕ → List ℕ) → ℕ → Control
control_at name_at i = record { date = date_at i; tags = mark (name_at (i - 1)) ∷ []; user = user_at i }

-- ---- tickets

abbrev pub appended : List ℕ → TicketChange
appended value = record { append = true; field = codes "comment"; value = Some value }

abbrev pub replaced : TicketChange
replaced = record { append = false; field = codes "status"; value = Some (codes "open") }

-- the id of the k-th ticket is the name of its number
abbrev pub ticket_id : ℕ → List ℕ
ticket_id k = name_of (decimal k)

abbrev pub ticket_at : ℕ → Ticket
ticket_at i =
    record {
      date = date_at i;
      changes = appended (numbered (codes "x") i) ∷ replaced ∷ [];
      id = ticket_id (i / 40);
      user = user_at i;
    }

-- ---- forum posts

abbrev pub placed_at : Option (List ℕ) → Option (List ℕ) → Option (List ℕ) → ℕ → Forum
placed_at root title reply i =
    record {
      date = date_at i;
      root = root;
      title = title;
      reply = reply;
      mime = None;
      prior = None;
      user = user_at i;
      text = numbered (codes "post ") i;
    }

-- the first post of the k-th thread has its title, and each other one answers the post before it
abbrev pub post_at : (ℕ → List ℕ) → ℕ → Forum
post_at name_at i =
    let k = i / 40 in
    if i % 40 == 3 then placed_at None (Some (numbered (codes "thread ") k)) None i
    else placed_at (Some (name_at (40 * k + 3))) None (Some (name_at (i - 4))) i

-- ---- the table

-- the text of an artifact: by the remainder by 4 a check-in, a mark on one, a change of a ticket or a post
unfoldable pub text_in_table : (ℕ → List ℕ) → ℕ → List ℕ
text_in_table name_at i =
    if i % 4 == 0 then sealed_text (manifest_cards (checkin_at name_at i))
    else if i % 4 == 1 then sealed_text (control_cards (control_at name_at i))
    else if i % 4 == 2 then sealed_text (ticket_cards (ticket_at i))
    else sealed_text (forum_cards (post_at name_at i))

-- the name at a place in a list
abbrev pub name_among : List (List ℕ) → ℕ → List ℕ
name_among names i = slice_index_or names i []
