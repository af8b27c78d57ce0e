-- The seven kinds beside manifests: which value the cards of a structural text are.
use Rattle.std.specs.Prelude.{ℕ, ◌==◌, ◌&&◌, ◌||◌, Bool, true, false, not, List, [], ◌∷◌, Option, Some, None, option_map, is_some, is_none, if◌then◌else◌, IsTrue}
use Rattle.std.specs.List.{list_all}
use Rattle.fsl_text.specs.Bytes.{is_empty}
use Rattle.fsl_text.specs.Escapes.{unescape}
use Rattle.fsl_name.specs.Name.{name_in}
use Rattle.fsl_name.specs.Ref.{ref_in}
use Rattle.fsl_date.specs.Moment.{date_in}
use Rattle.fsl_card.specs.declared.types.Card.{Card}
use Rattle.fsl_grammar.specs.declared.Prefix.{Prefix}
use Rattle.fsl_grammar.specs.declared.Prefix.TheVariants.{Once}
use Rattle.fsl_grammar.specs.declared.TagCard.{TagCard}
use Rattle.fsl_grammar.specs.Letters.{has_letters, cluster_letters, control_letters, wiki_letters, ticket_letters, attachment_letters, technote_letters, forum_letters}
use Rattle.fsl_grammar.specs.Forms.{HasOne, HasAtMostOne, HasEach, HasParents, HasBody, hash_form, ref_form, text_form, date_form, user_form, tag_form, given, ◌>>=◌}
use Rattle.fsl_forms.specs.declared.cluster.Cluster.{Cluster}
use Rattle.fsl_forms.specs.declared.control.Control.{Control}
use Rattle.fsl_forms.specs.declared.wiki.Wiki.{Wiki}
use Rattle.fsl_forms.specs.declared.ticket.TicketChange.{TicketChange}
use Rattle.fsl_forms.specs.declared.ticket.Ticket.{Ticket}
use Rattle.fsl_forms.specs.declared.attachment.Attachment.{Attachment}
pub use Rattle.fsl_forms.specs.declared.attachment.Attached.{Attached}
use Rattle.fsl_forms.specs.declared.technote.Technote.{Technote}
pub use Rattle.fsl_forms.specs.declared.technote.Event.{Event}
use Rattle.fsl_forms.specs.declared.forum.Forum.{Forum}

-- ---- forms

-- A file target ?hash?
abbrev pub attached_form : List (List ℕ) → Option Attached
attached_form (file ∷ target ∷ []) = Some (record { file = unescape file; target = unescape target; source = None })
attached_form (file ∷ target ∷ source ∷ []) =
    option_map (λ r. record { file = unescape file; target = unescape target; source = Some r }) (ref_in source)
attached_form args = None

-- the time of a technote, and its id
abbrev pub event_in : List ℕ → List ℕ → Option Event
event_in date hash = do
  time ← date_in date
  id ← name_in hash
  Some (record { time = time; id = id })

-- E date hash
abbrev pub event_form : List (List ℕ) → Option Event
event_form (date ∷ hash ∷ []) = event_in date hash
event_form args = None

-- a `+` before the field appends; a field is never empty
abbrev pub change_in : List ℕ → Option (List ℕ) → Option TicketChange
change_in [] value = None
change_in (b ∷ rest) value =
    if b == 43 then given (not (is_empty rest)) (record { append = true; field = rest; value = value })
    else Some (record { append = false; field = b ∷ rest; value = value })

-- J name ?value?
abbrev pub change_form : List (List ℕ) → Option TicketChange
change_form (name ∷ []) = change_in (unescape name) None
change_form (name ∷ value ∷ []) = change_in (unescape name) (Some (unescape value))
change_form args = None

-- ---- kinds

pub record IsCluster (cards : List Card) (c : Cluster) : Type 0 where
  pub letters : IsTrue (has_letters cluster_letters cards)
  pub members : HasEach cards 77 ref_form c.members  -- M

-- each tag of a control artifact names its target
abbrev pub names_target : TagCard → Bool
names_target t = is_some t.target

pub record IsControl (cards : List Card) (c : Control) : Type 0 where
  pub letters : IsTrue (has_letters control_letters cards)
  pub date : HasOne cards 68 date_form c.date  -- D
  pub tags : HasEach cards 84 tag_form c.tags  -- T
  pub user : HasOne cards 85 user_form c.user  -- U
  pub targets : IsTrue (list_all names_target c.tags)

pub record IsWiki (cards : List Card) (w : Wiki) : Type 0 where
  pub letters : IsTrue (has_letters wiki_letters cards)
  pub comment : HasAtMostOne cards 67 text_form w.comment  -- C
  pub date : HasOne cards 68 date_form w.date  -- D
  pub title : HasOne cards 76 text_form w.title  -- L
  pub mime : HasAtMostOne cards 78 text_form w.mime  -- N
  pub parents : HasParents cards w.parents  -- P
  pub user : HasOne cards 85 user_form w.user  -- U
  pub text : HasBody cards w.text  -- W

pub record IsTicket (cards : List Card) (t : Ticket) : Type 0 where
  pub letters : IsTrue (has_letters ticket_letters cards)
  pub date : HasOne cards 68 date_form t.date  -- D
  pub changes : HasEach cards 74 change_form t.changes  -- J
  pub id : HasOne cards 75 hash_form t.id  -- K
  pub user : HasOne cards 85 user_form t.user  -- U

pub record IsAttachment (cards : List Card) (a : Attachment) : Type 0 where
  pub letters : IsTrue (has_letters attachment_letters cards)
  pub attached : HasOne cards 65 attached_form (record { file = a.file; target = a.target; source = a.source })  -- A
  pub comment : HasAtMostOne cards 67 text_form a.comment  -- C
  pub date : HasOne cards 68 date_form a.date  -- D
  pub mime : HasAtMostOne cards 78 text_form a.mime  -- N
  pub user : HasAtMostOne cards 85 user_form a.user  -- U

-- each tag of a technote is a `+` on itself
abbrev pub is_own_tag : TagCard → Bool
is_own_tag t = is_once t.prefix && is_none t.target
  where
    is_once : Prefix → Bool
    is_once Once = true
    is_once _ = false

pub record IsTechnote (cards : List Card) (n : Technote) : Type 0 where
  pub letters : IsTrue (has_letters technote_letters cards)
  pub comment : HasAtMostOne cards 67 text_form n.comment  -- C
  pub date : HasOne cards 68 date_form n.date  -- D
  pub event : HasOne cards 69 event_form (record { time = n.time; id = n.id })  -- E
  pub mime : HasAtMostOne cards 78 text_form n.mime  -- N
  pub parents : HasParents cards n.parents  -- P
  pub tags : HasEach cards 84 tag_form n.tags  -- T
  pub user : HasAtMostOne cards 85 user_form n.user  -- U
  pub text : HasBody cards n.text  -- W
  pub own : IsTrue (list_all is_own_tag n.tags)

-- a post has a title and answers nothing, or it has a root and answers a post, and no title
abbrev pub begins_or_replies : Forum → Bool
begins_or_replies f =
    (is_some f.title && is_none f.reply) || (is_none f.title && is_some f.root && is_some f.reply)

pub record IsForum (cards : List Card) (f : Forum) : Type 0 where
  pub letters : IsTrue (has_letters forum_letters cards)
  pub date : HasOne cards 68 date_form f.date  -- D
  pub root : HasAtMostOne cards 71 hash_form f.root  -- G
  pub title : HasAtMostOne cards 72 text_form f.title  -- H
  pub reply : HasAtMostOne cards 73 hash_form f.reply  -- I
  pub mime : HasAtMostOne cards 78 text_form f.mime  -- N
  pub prior : HasAtMostOne cards 80 hash_form f.prior  -- P
  pub user : HasOne cards 85 user_form f.user  -- U
  pub text : HasBody cards f.text  -- W
  pub place : IsTrue (begins_or_replies f)
