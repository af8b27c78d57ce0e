-- What a message is as one of files, by its cards.
use Rattle.std.proofs.Common.{◌≡◌, ◌⊎◌, inl, inr, ℕ, suc, ◌+◌, ◌<◌, ◌≤◌, Bool, true, false, not, cond, List, [], ◌∷◌, ◌++◌, length, map, position, Option, Some, None, refl, sym, ap, subst, ◌∙◌, arith, append_assoc}
use Rattle.std.specs.Prelude.{nat_lt, slice_get, find}
use Rattle.std.specs.Option.{option_map}
use Rattle.std.specs.List.{position_or_len}
use Rattle.std.proofs.lemmas.List.{append-nil}
use Rattle.fsl_text.proofs.Bytewise.{none_past}
use Rattle.fsl_wire.specs.declared.WireCard.{WireCard}
use Rattle.fsl_wire.specs.declared.WireCard.TheVariants as wire_card
use Rattle.fsl_wire.specs.declared.WireFault.{WireFault}
use Rattle.fsl_wire.specs.declared.WireFault.TheVariants as faults
use Rattle.fsl_wire.specs.Messages.{IsNumberedMessage, IsMessage, IsLineOf, IsFirstFault, IsReadFault}
use Rattle.fsl_wire.specs.Drafts.{bare, IsBareMessage}
use Rattle.fsl_wire.proofs.OneWay.{reads_one_way}
use Rattle.fsl_wire.proofs.BareLemmas.{position_bare}
use Rattle.fossil.specs.declared.reading.message.MessageFile.{MessageFile}
use Rattle.fossil.specs.declared.reading.message.MessageFault.TheVariants as fault_is
use Rattle.fossil.specs.Printed.{Printed, bad_line, not_a_file}
use Rattle.fossil.specs.Messages.{fault_line, is_other, other_line, files_of, IsFileList, IsMessageRefused, IsFaultOf, unread_as}

abbrev Lines : Type 0
Lines = List (ℕ × WireCard)

abbrev cards_in : Lines → List WireCard
cards_in lines = map (λ l. l.1) lines

abbrev files_in : Lines → List MessageFile
files_in lines = files_of false (cards_in lines)

some_is : {X : Type 0} (a b : X) → Some a ≡ Some b → a ≡ b
some_is a b e = cc

-- ---- one message

pub one_files : (message : List ℕ) (a b : List MessageFile) → IsFileList message a → IsFileList message b → a ≡ b
one_files message a b h k = h.3 ∙ ap files_in (reads_one_way.one_numbering message h.0 k.0 h.1 k.1) ∙ sym k.3

no_fault : (message : List ℕ) (lines : Lines) (fault : WireFault) → IsNumberedMessage message lines → IsFirstFault message fault → ⊥
no_fault message lines fault h k = reads_one_way.not_both message (cards_in lines) fault (lines, h, refl) k

one_other : (message : List ℕ) (a b : Lines) → IsNumberedMessage message a → IsNumberedMessage message b → other_line a ≡ other_line b
one_other message a b h k = ap other_line (reads_one_way.one_numbering message a b h k)

all_files : (message : List ℕ) (a b : Lines) (n : ℕ) → IsNumberedMessage message a → IsNumberedMessage message b → other_line a ≡ Some n → other_line b ≡ None → ⊥
all_files message a b n h k some none = let same = one_other message a b h k in cc

pub one_refused : (message : List ℕ) (a b : Printed) → IsMessageRefused message a → IsMessageRefused message b → a ≡ b
one_refused message a b (inl h) (inl k) = h.2 ∙ ap (λ (f : WireFault). bad_line (fault_line f)) (reads_one_way.one_fault message h.0 k.0 h.1 k.1) ∙ sym k.2
one_refused message a b (inl h) (inr k) = absurd (no_fault message k.0 h.0 k.2 h.1)
one_refused message a b (inr h) (inl k) = absurd (no_fault message h.0 k.0 h.2 k.1)
one_refused message a b (inr h) (inr k) = h.4 ∙ ap not_a_file (some_is h.1 k.1 (sym h.3 ∙ one_other message h.0 k.0 h.2 k.2 ∙ k.3)) ∙ sym k.4

pub not_both : (message : List ℕ) (files : List MessageFile) (refusal : Printed) → IsFileList message files → IsMessageRefused message refusal → ⊥
not_both message files refusal h (inl k) = no_fault message h.0 k.0 h.1 k.1
not_both message files refusal h (inr k) = all_files message k.0 h.0 k.1 k.2 h.1 k.3 h.2

-- ---- some message

abbrev pub IsSomeMessage : List ℕ → Type 0
IsSomeMessage message = ((files : List MessageFile) × IsFileList message files) ⊎ ((refusal : Printed) × IsMessageRefused message refusal)

by_cards : (message : List ℕ) (lines : Lines) → IsNumberedMessage message lines → (o : Option ℕ) → other_line lines ≡ o → IsSomeMessage message
by_cards message lines is None e = inl (files_in lines, (lines, is, e, refl))
by_cards message lines is (Some n) e = inr (not_a_file n, inr (lines, n, is, e, refl))

by_lines : (message : List ℕ) → ((cards : List WireCard) × IsMessage message cards) ⊎ ((fault : WireFault) × IsFirstFault message fault) → IsSomeMessage message
by_lines message (inl h) = by_cards message h.1.0 h.1.1 (other_line h.1.0) refl
by_lines message (inr h) = inr (bad_line (fault_line h.0), inl (h.0, h.1, refl))

pub some_message : (message : List ℕ) → IsSomeMessage message
some_message message = by_lines message (reads_one_way.some message)

-- a refusal has status 3
pub refused_status : (message : List ℕ) (refusal : Printed) → IsMessageRefused message refusal → refusal.status ≡ 3
refused_status message refusal (inl h) = ap (λ (p : Printed). p.status) h.2
refused_status message refusal (inr h) = ap (λ (p : Printed). p.status) h.4

-- ---- the first card that is none of files

abbrev first_of : Lines → ℕ
first_of lines = position_or_len is_other (cards_in lines)

at_first : (lines : Lines) (n : ℕ) → slice_get (map (λ l. l.0) lines) (first_of lines) ≡ Some n → other_line lines ≡ Some n
at_first [] n e = absurd (cc)
at_first (l ∷ lines) n e =
    elim (is_other l.1) as (λ b.
    slice_get (l.0 ∷ map (λ x. x.0) lines) (cond (not b) (1 + first_of lines) 0) ≡ Some n → option_map (λ x. x.0) (cond b (Some l) (find (λ x. is_other (x.1)) lines)) ≡ Some n) [
      | true ↦ λ f. f
      | false ↦ λ f.
          let up : 1 + first_of lines ≡ suc (first_of lines) = omega arith in
          at_first lines n (subst (λ (k : ℕ). slice_get (l.0 ∷ map (λ x. x.0) lines) k ≡ Some n) up f)
    ] e

past_all : (lines : Lines) → length (cards_in lines) ≤ first_of lines → other_line lines ≡ None
past_all [] h = refl
past_all (l ∷ lines) h =
    elim (is_other l.1) as (λ b.
    suc (length (cards_in lines)) ≤ cond (not b) (1 + first_of lines) 0 → option_map (λ x. x.0) (cond b (Some l) (find (λ x. is_other (x.1)) lines)) ≡ None) [
      | true ↦ λ f. absurd (omega (arith, f))
      | false ↦ λ f. past_all lines (omega (arith, f))
    ] h

some_at : (i n m : ℕ) → cond (nat_lt i n) (Some i) None ≡ Some m → m ≡ i
some_at i n m h = grind (arith)

some_in : (i n m : ℕ) → cond (nat_lt i n) (Some i) None ≡ Some m → m < n
some_in i n m h = grind (arith)

pub place_in : (cards : List WireCard) (place : ℕ) → position is_other cards ≡ Some place → place < length cards
place_in cards place e = some_in (position_or_len is_other cards) (length cards) place e

whole_other : (message : List ℕ) (cards : List WireCard) (place n : ℕ) → IsMessage message cards → position is_other cards ≡ Some place → IsLineOf message place n → IsFaultOf message (fault_is.NotFile n)
whole_other message cards place n is found (lines, numbered, here) =
    let same : is.0 ≡ lines = reads_one_way.one_numbering message is.0 lines is.1 numbered in
    let of_lines : cards ≡ cards_in lines = is.2 ∙ ap cards_in same in
    let at : place ≡ first_of lines = some_at _ _ place (sym (ap (position is_other) of_lines) ∙ found) in
    (lines, numbered, at_first lines n (ap (slice_get (map (λ l. l.0) lines)) (sym at) ∙ here))

whole_files : (message : List ℕ) (cards : List WireCard) (files : List MessageFile) → IsMessage message cards → position is_other cards ≡ None → files ≡ files_of false cards → IsFileList message files
whole_files message cards files is none e =
    let past = none_past (first_of is.0) (length (cards_in is.0)) (sym (ap (position is_other) is.2) ∙ none) in
    (is.0, is.1, past_all is.0 past, e ∙ ap (files_of false) is.2)

-- a login is none of files, whatever its tail
other_bare : (c : WireCard) → is_other (bare c) ≡ is_other c
other_bare (wire_card.Login u n s t l) = refl
other_bare (wire_card.Push s p) = refl
other_bare (wire_card.Pull s p) = refl
other_bare (wire_card.Clone f) = refl
other_bare (wire_card.CloneSeqno n) = refl
other_bare (wire_card.File n b) = refl
other_bare wire_card.Private = refl
other_bare (wire_card.Igot n p) = refl
other_bare (wire_card.Gimme n) = refl
other_bare (wire_card.Error t) = refl
other_bare (wire_card.Message t) = refl
other_bare wire_card.SendPrivate = refl

files_bare : (marked : Bool) (cards : List WireCard) → files_of marked (map bare cards) ≡ files_of marked cards
files_bare marked [] = refl
files_bare marked (wire_card.Login u n s t l ∷ cards) = files_bare marked cards
files_bare marked (wire_card.Push s p ∷ cards) = files_bare marked cards
files_bare marked (wire_card.Pull s p ∷ cards) = files_bare marked cards
files_bare marked (wire_card.Clone f ∷ cards) = files_bare marked cards
files_bare marked (wire_card.CloneSeqno n ∷ cards) = files_bare marked cards
files_bare marked (wire_card.File n b ∷ cards) = ap (λ (fs : List MessageFile). record { name = n; bytes = b; private = marked } ∷ fs) (files_bare false cards)
files_bare marked (wire_card.Private ∷ cards) = files_bare true cards
files_bare marked (wire_card.Igot n p ∷ cards) = files_bare marked cards
files_bare marked (wire_card.Gimme n ∷ cards) = files_bare marked cards
files_bare marked (wire_card.Error t ∷ cards) = files_bare marked cards
files_bare marked (wire_card.Message t ∷ cards) = files_bare marked cards
files_bare marked (wire_card.SendPrivate ∷ cards) = files_bare marked cards

-- the same place in the bare message and in the whole one
other_in : (cards whole : List WireCard) (place : Option ℕ) → cards ≡ map bare whole → position is_other cards ≡ place → position is_other whole ≡ place
other_in cards whole place e at = sym (position_bare is_other other_bare whole) ∙ sym (ap (position is_other) e) ∙ at

pub other_fault : (message : List ℕ) (cards : List WireCard) (place n : ℕ) → IsBareMessage message cards → position is_other cards ≡ Some place → IsLineOf message place n → IsFaultOf message (fault_is.NotFile n)
other_fault message cards place n (whole, is, e) found line = whole_other message whole place n is (other_in cards whole (Some place) e found) line

pub files_read : (message : List ℕ) (cards : List WireCard) (files : List MessageFile) → IsBareMessage message cards → position is_other cards ≡ None → files ≡ files_of false cards → IsFileList message files
files_read message cards files (whole, is, e) none f = whole_files message whole files is (other_in cards whole None e none) (f ∙ ap (files_of false) e ∙ files_bare false whole)

pub read_fault : (message : List ℕ) (fault : WireFault) → IsReadFault message fault → IsFaultOf message (unread_as fault)
read_fault message (faults.Unknown n) is = (faults.Unknown n, is, refl)
read_fault message (faults.Args n) is = (faults.Args n, is, refl)
read_fault message (faults.Delta n) is = (faults.Delta n, is, refl)
read_fault message (faults.Size n) is = (faults.Size n, is, refl)
read_fault message (faults.Short n) is = (faults.Short n, is, refl)
read_fault message faults.Memory is = tt

-- ---- the files of cards

pub first_card : (file : MessageFile) (files new : List MessageFile) (name bytes : List ℕ) (marked : Bool) (rest : List WireCard) → file ≡ record { name = name; bytes = bytes; private = marked } → new ≡ files ++ file ∷ []
    → new ++ files_of false rest ≡ files ++ files_of marked (wire_card.File name bytes ∷ rest)
first_card file files new name bytes marked rest is grown =
    ap (λ (fs : List MessageFile). fs ++ files_of false rest) grown ∙ append_assoc files (file ∷ []) (files_of false rest) ∙ ap (λ (f : MessageFile). files ++ f ∷ files_of false rest) is

pub other_card : (marked : Bool) (card : WireCard) (rest : List WireCard) → ((name bytes : List ℕ) → card ≡ wire_card.File name bytes → ⊥) → (card ≡ wire_card.Private → ⊥) → files_of marked rest ≡ files_of marked (card ∷ rest)
other_card marked (wire_card.Login user nonce signature tail line) rest file private = refl
other_card marked (wire_card.Push server project) rest file private = refl
other_card marked (wire_card.Pull server project) rest file private = refl
other_card marked (wire_card.Clone from) rest file private = refl
other_card marked (wire_card.CloneSeqno next) rest file private = refl
other_card marked (wire_card.File name bytes) rest file private = absurd (file name bytes refl)
other_card marked wire_card.Private rest file private = absurd (private refl)
other_card marked (wire_card.Igot name flag) rest file private = refl
other_card marked (wire_card.Gimme name) rest file private = refl
other_card marked (wire_card.Error text) rest file private = refl
other_card marked (wire_card.Message text) rest file private = refl
other_card marked wire_card.SendPrivate rest file private = refl

-- one card more
pub card_read : (cards rest new : List WireCard) (files more : List MessageFile) (card : WireCard) (marked next : Bool) → files ++ files_of marked rest ≡ files_of false cards → rest ≡ card ∷ new
    → ((after : List WireCard) → more ++ files_of next after ≡ files ++ files_of marked (card ∷ after)) → more ++ files_of next new ≡ files_of false cards
card_read cards rest new files more card marked next so_far split add =
    add new ∙ ap (λ (cs : List WireCard). files ++ files_of marked cs) (sym split) ∙ so_far

pub all_read : (cards rest : List WireCard) (files : List MessageFile) (marked : Bool) → files ++ files_of marked rest ≡ files_of false cards → rest ≡ [] → files ≡ files_of false cards
all_read cards rest files marked so_far none = sym (append-nil files) ∙ ap (λ (cs : List WireCard). files ++ files_of marked cs) (sym none) ∙ so_far
