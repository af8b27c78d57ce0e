-- Rounds that go on bring something new: those of a pull and of a clone; those of a push stand apart.
use Rattle.std.specs.Prelude.{◌≡◌, ℕ, ◌<◌, ◌⊎◌, ◌==◌, ◌||◌, ◌&&◌, nat_lt, Bool, true, false, not, List, [], ◌∷◌, Option, Some, None, Result, Ok, Err, MatchBool, MatchOption, if◌then◌else◌}
use Rattle.std.specs.List.{list_all}
use Rattle.std.proofs.Common.{refl, sym, ap, subst, ◌∙◌, inl, inr}
use Rattle.std.proofs.lemmas.Bool.{ltb-true}
use Rattle.fsl_order.specs.Names.{has}
use Rattle.fsl_wire.specs.declared.WireCard.{WireCard}
use Rattle.fsl_wire.specs.declared.WireCard.TheVariants as cards
use Rattle.fsl_repo.specs.Machine.{State, now, arrived}
use Rattle.fsl_http.specs.Responses.{Exchanged}
use Rattle.fsl_pull.specs.declared.PeerFault.{PeerFault}
use Rattle.fsl_pull.specs.declared.PeerFault.TheVariants as peer
use Rattle.fsl_pull.specs.declared.PullFault.{PullFault}
use Rattle.fsl_pull.specs.declared.PullFault.TheVariants as fault
use Rattle.fsl_pull.specs.Rounds.{Round, Point, End, Then, goes_on, ends}
use Rattle.fsl_pull.specs.Replies.{IsReplyRead, announced_in, sequel_in}
use Rattle.fsl_pull.specs.Arrivals.{Taken, Takes, AreWants, any_moved, arrival_fault, stopped_by, is_onward}
use Rattle.fsl_pull.specs.Pulls.{next_names, is_end, missing, missing_fault, pull_then, behind, ended, uncommitted, unread, IsPullReply}
use Rattle.fsl_pull.specs.Clones.{Cloning, project_in, first_record, begun_with, clone_then, IsCloned, IsBegun, IsCloneReply}
use Rattle.fsl_pull.specs.Laws.{SyncsMoveOn}
use Rattle.fsl_pull.proofs.Settled.{Told}
use Rattle.fsl_pull.proofs.TakesLemmas.{FileTaken}
use Rattle.fsl_pull.proofs.MovesOn.{one_fails, pushes_move_on}

abbrev Names : Type 0
Names = List (List ℕ)

-- ---- a pull

abbrev on : Point Names → Then Names
on p = goes_on p

not_last : (p : Point Names) (e : End) → on p ≡ ends e → ⊥
not_last p e h = cc

point_is : (p q : Point Names) → on p ≡ on q → p ≡ q
point_is p q h = cc

-- an arrival moved, or a name is next that wasn't asked for
abbrev Brings : Names → Taken → Names → Type 0
Brings asked t next = (any_moved t.arrivals ≡ true) ⊎ ((name : List ℕ) × (has next name ≡ true) × (has asked name ≡ false))

brings : (asked next : Names) (t : Taken) (b : Bool) → any_moved t.arrivals ≡ b → is_end asked t next ≡ false → Brings asked t next
brings asked next t true is last = inl is
brings asked next t false is last =
    let one = one_fails (has asked) next (sym (ap (λ (b : Bool). not b && list_all (has asked) next) is) ∙ last) in inr (one.name, one.among, one.fails)

by_end : (p q : Point Names) (t : Taken) (next : Names) (e : End) (b : Bool) → is_end p.memory t next ≡ b → on q ≡ (if b then ends e else goes_on (behind p t next)) → Brings p.memory t q.memory
by_end p q t next e true is h = absurd (not_last q e h)
by_end p q t next e false is h =
    subst (λ (x : Point Names). Brings p.memory t x.memory) (sym (point_is q (behind p t next) h)) (brings p.memory next t (any_moved t.arrivals) refl is)

by_fault : (p q : Point Names) (reply : List WireCard) (t : Taken) (o : Option PullFault) → MatchOption o ((w : Names) × AreWants t.state w × (on q ≡ pull_then p reply t w)) (λ why. on q ≡ ends (uncommitted p t why)) → Brings p.memory t q.memory
by_fault p q reply t None h =
    let next = next_names (now t.state) h.0 (announced_in reply) in
    by_end p q t next (ended p t (missing_fault (missing next (announced_in reply)))) (is_end p.memory t next) refl h.2
by_fault p q reply t (Some why) h = absurd (not_last q (uncommitted p t why) h)

abbrev Moves : Point Names → Point Names → Round (List ℕ) Exchanged → Type 0
Moves p q r = (reply : List WireCard) × IsReplyRead r.reply (Ok reply) × ((t : Taken) × Takes p.state None reply t × Brings p.memory t q.memory)

by_read : (p q : Point Names) (r : Round (List ℕ) Exchanged) (read : Result (List WireCard) PeerFault) → IsReplyRead r.reply read → IsPullReply p read (goes_on q) → Moves p q r
by_read p q r (Ok reply) is h = (reply, is, (h.0, h.1, by_fault p q reply h.0 (h.0).fault h.2))
by_read p q r (Err why) is h = absurd (not_last q (unread p why) h)

-- ---- a clone

abbrev clones : Point Cloning → Then Cloning
clones p = goes_on p

not_whole : (p : Point Cloning) (e : End) → clones p ≡ ends e → ⊥
not_whole p e h = cc

place_is : (p q : Point Cloning) → clones p ≡ clones q → p ≡ q
place_is p q h = cc

abbrev number : ℕ → Option ℕ
number n = Some n

no_number : (n : ℕ) → None ≡ number n → ⊥
no_number n e = cc

number_is : (a b : ℕ) → number a ≡ number b → a ≡ b
number_is a b e = cc

some_fault : (why : PullFault) (t : Taken) (s : State) → t ≡ stopped_by s why → t.fault ≡ None → ⊥
some_fault why t s e none = is_some why (sym (ap (λ (x : Taken). x.fault) e) ∙ none)
  where
    is_some : (w : PullFault) → Some w ≡ None → ⊥
    is_some w h = cc

-- the first number that says where a clone goes on was looked at
abbrev GoesOnward : ℕ → List WireCard → Taken → Type 0
GoesOnward from reply t = t.fault ≡ None → (next : ℕ) → sequel_in reply ≡ Some next → is_onward from next ≡ true

file_onward : (s : State) (name bytes : List ℕ) (from : ℕ) (rest : List WireCard) (t : Taken) (answer : Told) → ((s2 : State) (more : Taken) → Takes s2 (Some from) rest more → GoesOnward from rest more) → FileTaken s name bytes (Some from) rest t answer → GoesOnward from rest t
file_onward s name bytes from rest t (Ok a) others h none next is = others (arrived s name None bytes false (Ok a)) h.0 h.1 (sym (ap (λ (x : Taken). x.fault) h.2) ∙ none) next is
file_onward s name bytes from rest t (Err why) others h none next is = absurd (some_fault (arrival_fault name why) t s h none)

sequel_onward : (b : Bool) (s : State) (rest : List WireCard) (t : Taken) (why : PullFault) → MatchBool b (Takes s None rest t) (t ≡ stopped_by s why) → t.fault ≡ None → b ≡ true
sequel_onward true s rest t why h none = refl
sequel_onward false s rest t why h none = absurd (some_fault why t s h none)

onward : (s : State) (from : ℕ) (reply : List WireCard) (t : Taken) → Takes s (Some from) reply t → GoesOnward from reply t
onward s from [] t h none next is = absurd (no_number next is)
onward s from (cards.File name bytes ∷ rest) t h none next is = file_onward s name bytes from rest t h.0 (λ s2 more. onward s2 from rest more) h.2 none next is
onward s from (cards.CloneSeqno n ∷ rest) t h none next is =
    subst (λ (m : ℕ). is_onward from m ≡ true) (number_is n next is) (sequel_onward (is_onward from n) s rest t (fault.Peer (peer.Sequence n)) h none)
onward s from (cards.Login user nonce signature tail line ∷ rest) t h none next is = onward s from rest t h none next is
onward s from (cards.Push server project ∷ rest) t h none next is = onward s from rest t h none next is
onward s from (cards.Pull server project ∷ rest) t h none next is = onward s from rest t h none next is
onward s from (cards.Clone place ∷ rest) t h none next is = onward s from rest t h none next is
onward s from (cards.Private ∷ rest) t h none next is = onward s from rest t h none next is
onward s from (cards.Igot name private ∷ rest) t h none next is = onward s from rest t h none next is
onward s from (cards.Gimme name ∷ rest) t h none next is = onward s from rest t h none next is
onward s from (cards.Error text ∷ rest) t h none next is = onward s from rest t h none next is
onward s from (cards.Message text ∷ rest) t h none next is = onward s from rest t h none next is
onward s from (cards.SendPrivate ∷ rest) t h none next is = onward s from rest t h none next is

-- the number 0 is the end, so another one is greater than the place before it
greater : (from next : ℕ) → (next == 0) ≡ false → is_onward from next ≡ true → from < next
greater from next some is = ltb-true from next (sym (ap (λ (b : Bool). b || nat_lt from next) some) ∙ is)

by_number : (p q : Point Cloning) (t : Taken) (from next : ℕ) (b : Bool) → (next == 0) ≡ b → is_onward from next ≡ true → clones q ≡ (if b then ends (ended p t None) else goes_on (behind p t (record { begun = true; from = next }))) → from < q.memory.from
by_number p q t from next true last is h = absurd (not_whole q (ended p t None) h)
by_number p q t from next false last is h =
    subst (λ (x : Point Cloning). from < x.memory.from) (sym (place_is q (behind p t (record { begun = true; from = next })) h)) (greater from next last is)

by_sequel : (p q : Point Cloning) (t : Taken) (from : ℕ) (o : Option ℕ) → ((next : ℕ) → o ≡ Some next → is_onward from next ≡ true) → clones q ≡ clone_then p t o → from < q.memory.from
by_sequel p q t from None is h = absurd (not_whole q (uncommitted p t (fault.Peer peer.NoSequence)) h)
by_sequel p q t from (Some next) is h = by_number p q t from next (next == 0) refl (is next refl) h

by_taken : (p q : Point Cloning) (reply : List WireCard) (t : Taken) (o : Option PullFault) → t.fault ≡ o → Takes p.state (Some p.memory.from) reply t → MatchOption o (clones q ≡ clone_then p t (sequel_in reply)) (λ why. clones q ≡ ends (uncommitted p t why)) → p.memory.from < q.memory.from
by_taken p q reply t None none takes h = by_sequel p q t p.memory.from (sequel_in reply) (onward p.state p.memory.from reply t takes none) h
by_taken p q reply t (Some why) none takes h = absurd (not_whole q (uncommitted p t why) h)

cloned_on : (p q : Point Cloning) (reply : List WireCard) → IsCloned p reply (goes_on q) → p.memory.from < q.memory.from
cloned_on p q reply h = by_taken p q reply h.0 (h.0).fault refl h.1 h.2

module _ (server : List ℕ) (fields : List (List ℕ)) (p q : Point Cloning) where
  begun_on : (reply : List WireCard) (o : Option (List ℕ)) → MatchOption o (clones q ≡ ends (unread p peer.NoPush)) (λ project. IsCloned (begun_with p (first_record project server fields)) reply (goes_on q)) → p.memory.from < q.memory.from
  begun_on reply None h = absurd (not_whole q (unread p peer.NoPush) h)
  begun_on reply (Some project) h = cloned_on (begun_with p (first_record project server fields)) q reply h

  either_on : (reply : List WireCard) (b : Bool) → MatchBool b (IsCloned p reply (goes_on q)) (IsBegun server fields p reply (goes_on q)) → p.memory.from < q.memory.from
  either_on reply true h = cloned_on p q reply h
  either_on reply false h = begun_on reply (project_in reply) h

  read_on : (read : Result (List WireCard) PeerFault) → IsCloneReply server fields p read (goes_on q) → p.memory.from < q.memory.from
  read_on (Ok reply) h = either_on reply p.memory.begun h
  read_on (Err why) h = absurd (not_whole q (unread p why) h)

-- ---- all of them

pub syncs_move_on : SyncsMoveOn
syncs_move_on =
    record {
      pull = λ login p q r h. by_read p q r h.1.0 h.1.1 h.1.2;
      push = pushes_move_on;
      clone = λ server fields login p q r h. read_on server fields p q h.1.0 h.1.2;
    }
