-- A push moves on: of two rounds that follow each other, neither of them the last, one sent a file that no round before it sent.
use Rattle.std.specs.Prelude.{◌≡◌, ℕ, zero, suc, ◌+◌, ◌||◌, ◌&&◌, Bool, true, false, List, [], ◌∷◌, length, take, map, filter, filter_map, cond, Option, Some, None, Result, Ok, Err, MatchOption, if◌then◌else◌}
use Rattle.std.specs.List.{list_all}
use Rattle.std.specs.Str.{bytes_eq}
use Rattle.std.specs.Cmp.Lexicographic.{bytes_decides}
use Rattle.std.proofs.Common.{refl, sym, ap, subst, ◌∙◌, arith}
use Rattle.std.proofs.lemmas.List.{append-nil}
use Rattle.std.proofs.lemmas.Bool.{or_right}
use Rattle.fsl_order.specs.Names.{has}
use Rattle.fsl_order.specs.Rows.{ascending}
use Rattle.fsl_order.proofs.AscendingLemmas.{has-ascending}
use Rattle.fsl_wire.specs.declared.WireCard.{WireCard}
use Rattle.fsl_answer.specs.Contents.{each_once}
use Rattle.fsl_answer.specs.Replies.{taken, taken_after}
use Rattle.fsl_blobs.specs.Fold.{Contents}
use Rattle.fsl_repo.specs.Machine.{now}
use Rattle.fsl_http.specs.Responses.{Exchanged}
use Rattle.fsl_pull.specs.declared.Login.{Login}
use Rattle.fsl_pull.specs.declared.PeerFault.{PeerFault}
use Rattle.fsl_pull.specs.declared.PeerFault.TheVariants as peer
use Rattle.fsl_pull.specs.declared.PullFault.{PullFault}
use Rattle.fsl_pull.specs.declared.PullFault.TheVariants as fault
use Rattle.fsl_pull.specs.Rounds.{Round, Point, End, Then, goes_on, ends}
use Rattle.fsl_pull.specs.Requests.{file_card}
use Rattle.fsl_pull.specs.Replies.{asked_in, files_in}
use Rattle.fsl_pull.specs.Arrivals.{Taken}
use Rattle.fsl_pull.specs.Pulls.{unread}
use Rattle.fsl_pull.specs.Pushes.{Sending, public_file, is_public, due_files, within_budget, files_to_send, names_of, asked_here, sent_on, push_ended, quiet_then, push_then, push_uncommitted, IsPushReply, PushRound}
use Rattle.fsl_pull.proofs.NextLemmas.{passes, from_passing, has_first, has_second}
use Rattle.fsl_pull.proofs.LocalLaw.{sends}
use Rattle.fsl_pull.proofs.SentLemmas.{names_filtered}

abbrev Names : Type 0
Names = List (List ℕ)

abbrev Files : Type 0
Files = List (List ℕ × List ℕ)

no : {P : Type 0} → false ≡ true → P
no e = absurd cc

-- ---- a round that went on

abbrev on : Point Sending → Then Sending
on p = goes_on p

not_last : (p : Point Sending) (e : End) → on p ≡ ends e → ⊥
not_last p e h = cc

point_is : (p q : Point Sending) → on p ≡ on q → p ≡ q
point_is p q h = cc

-- the files of it were sent; and where there were none, a name is asked for that is public here and wasn't sent
record WentOn (p q : Point Sending) (files : Files) : Type 0 where
  reply : List WireCard
  taken : Taken
  is : q ≡ sent_on p reply taken files
  unsent : files ≡ [] → list_all (has p.memory.sent) (asked_here (now taken.state) reply) ≡ false

not_empty : (f : List ℕ × List ℕ) (fs : Files) → f ∷ fs ≡ [] → ⊥
not_empty f fs e = cc

by_files : (p q : Point Sending) (reply : List WireCard) (t : Taken) (files : Files) → on q ≡ push_then p reply t files → WentOn p q files
by_files p q reply t (f ∷ fs) e = record { reply = reply; taken = t; is = point_is q _ e; unsent = λ none. absurd (not_empty f fs none) }
by_files p q reply t [] e = by_here (asked_here (now t.state) reply) refl e
  where
    by_all : (least : List ℕ) (more : Names) (b : Bool) → list_all (has p.memory.sent) (asked_here (now t.state) reply) ≡ b
        → on q ≡ (if b then ends (push_ended p t (Some (fault.Peer (peer.Again least)))) else goes_on (sent_on p reply t [])) → WentOn p q []
    by_all least more true is k = absurd (not_last q _ k)
    by_all least more false is k = record { reply = reply; taken = t; is = point_is q _ k; unsent = λ none. is }

    by_here : (here : Names) → asked_here (now t.state) reply ≡ here → on q ≡ quiet_then p reply t here → WentOn p q []
    by_here [] same k = absurd (not_last q _ k)
    by_here (least ∷ more) same k = by_all least more (list_all (has p.memory.sent) (least ∷ more)) (ap (list_all (has p.memory.sent)) same) k

by_fault : (p q : Point Sending) (files : Files) (reply : List WireCard) (t : Taken) (o : Option PullFault) → MatchOption o (on q ≡ push_then p reply t files) (λ why. on q ≡ ends (push_uncommitted p t why)) → WentOn p q files
by_fault p q files reply t None h = by_files p q reply t files h
by_fault p q files reply t (Some why) h = absurd (not_last q _ h)

by_read : (p q : Point Sending) (files : Files) (read : Result (List WireCard) PeerFault) → IsPushReply p files read (goes_on q) → WentOn p q files
by_read p q files (Ok reply) h = by_fault p q files reply h.0 (h.0).fault h.2
by_read p q files (Err why) h = absurd (not_last q (unread p why) h)

went_on : (login : Option Login) (p q : Point Sending) (r : Round (List ℕ) Exchanged) → PushRound login p r (goes_on q) → WentOn p q (files_to_send (now p.state) p.memory)
went_on login p q r h = by_read p q (files_to_send (now p.state) p.memory) h.3.0 h.3.2

-- ---- a name that is asked for and wasn't sent is due

pub record Stands (names : Names) (p : List ℕ → Bool) : Type 0 where
  pub name : List ℕ
  pub among : has names name ≡ true
  pub fails : p name ≡ false

itself : (x : List ℕ) (xs : Names) → has (x ∷ xs) x ≡ true
itself x xs = ap (λ (b : Bool). b || has xs x) ((bytes_decides x x).1 refl)

-- where not all pass, one fails
pub one_fails : (p : List ℕ → Bool) (xs : Names) → list_all p xs ≡ false → Stands xs p
one_fails p [] e = absurd (all_none e)
  where
    all_none : true ≡ false → ⊥
    all_none f = cc
one_fails p (x ∷ xs) e =
    elim (p x) as (λ b. p x ≡ b → (b && list_all p xs) ≡ false → Stands (x ∷ xs) p) [
      | true ↦ λ is rest.
          let more = one_fails p xs rest in
          record { name = more.name; among = or_right (bytes_eq more.name x) (has xs more.name) more.among; fails = more.fails }
      | false ↦ λ is rest. record { name = x; among = itself x xs; fails = is }
    ] refl e

-- a name that wasn't seen is among those that are taken once
once : (seen xs : Names) (n : List ℕ) → has xs n ≡ true → has seen n ≡ false → has (each_once seen xs) n ≡ true
once seen [] n h new = no h
once seen (x ∷ xs) n h new =
    elim (bytes_eq n x) as (λ same. bytes_eq n x ≡ same → has (each_once seen (x ∷ xs)) n ≡ true) [
      | true ↦ λ is.
          let here : has seen x ≡ false = ap (has seen) (sym ((bytes_decides n x).0 is)) ∙ new in
          subst (λ (b : Bool). has (cond b (each_once seen xs) (x ∷ each_once (x ∷ seen) xs)) n ≡ true) (sym here) (ap (λ (b : Bool). b || has (each_once (x ∷ seen) xs) n) is)
      | false ↦ λ is.
          let later : has xs n ≡ true = sym (ap (λ (b : Bool). b || has xs n) is) ∙ h in
          let unseen : has (x ∷ seen) n ≡ false = ap (λ (b : Bool). b || has seen n) is ∙ new in
          elim (has seen x) as (λ b. has (cond b (each_once seen xs) (x ∷ each_once (x ∷ seen) xs)) n ≡ true) [
            | true ↦ once seen xs n later new
            | false ↦ or_right (bytes_eq n x) (has (each_once (x ∷ seen) xs) n) (once (x ∷ seen) xs n later unseen)
          ]
    ] refl

-- the budget takes one at least
one_taken : (n : ℕ) → 1 + n ≡ suc n
one_taken n = omega arith

budget_takes : (files : Files) → (files ≡ [] → ⊥) → within_budget files ≡ [] → ⊥
budget_takes [] some none = some refl
budget_takes (f ∷ fs) some none =
    let more : ℕ = taken_after (0 + length f.1 + 64) (map (λ (g : List ℕ × List ℕ). length g.1) fs) in
    not_empty f (take more fs) (sym (ap (λ (n : ℕ). take n (f ∷ fs)) (one_taken more)) ∙ none)

-- of names one of which is public some file is due
some_due : (c : Contents) (names : Names) (n : List ℕ) → has names n ≡ true → is_public c n ≡ true → filter_map (public_file c) names ≡ [] → ⊥
some_due c names n among public none = none_sent (filter_map (public_file c) names) none (sends c names n among public)
  where
    none_sent : (files : Files) → files ≡ [] → has (files_in (map file_card files)) n ≡ true → ⊥
    none_sent files e h = no (subst (λ (fs : Files). has (files_in (map file_card fs)) n ≡ true) e h)

due_next : (c : Contents) (sent gimmes : Names) → list_all (has sent) (ascending (filter (is_public c) gimmes)) ≡ false → files_to_send c (record { sent = sent; gimmes = gimmes }) ≡ [] → ⊥
due_next c sent gimmes e =
    let one = one_fails (has sent) (ascending (filter (is_public c) gimmes)) e in
    let listed : has (filter (is_public c) gimmes) one.name ≡ true = sym (has-ascending (filter (is_public c) gimmes) one.name) ∙ one.among in
    budget_takes (due_files c (record { sent = sent; gimmes = gimmes }))
    (some_due c (each_once sent gimmes) one.name (once sent gimmes one.name (from_passing (is_public c) gimmes one.name listed) one.fails) (passes (is_public c) gimmes one.name listed))

-- ---- what is sent wasn't sent before

once_new : (seen xs : Names) (n : List ℕ) → has (each_once seen xs) n ≡ true → has seen n ≡ false
once_new seen [] n h = no h
once_new seen (x ∷ xs) n h =
    elim (has seen x) as (λ b. has seen x ≡ b → has (cond b (each_once seen xs) (x ∷ each_once (x ∷ seen) xs)) n ≡ true → has seen n ≡ false) [
      | true ↦ λ is k. once_new seen xs n k
      | false ↦ λ is k.
          elim (bytes_eq n x) as (λ b. bytes_eq n x ≡ b → (b || has (each_once (x ∷ seen) xs) n) ≡ true → has seen n ≡ false) [
            | true ↦ λ same rest. ap (has seen) ((bytes_decides n x).0 same) ∙ is
            | false ↦ λ same rest. sym (ap (λ (b : Bool). b || has seen n) same) ∙ once_new (x ∷ seen) xs n rest
          ] refl k
    ] refl h

same_first : (f g : List ℕ × List ℕ) (fs gs : Files) → g ∷ gs ≡ f ∷ fs → g ≡ f
same_first f g fs gs e = cc

first_listed : (k : ℕ) (files : Files) (f : List ℕ × List ℕ) (fs : Files) → take k files ≡ f ∷ fs → has (names_of files) f.0 ≡ true
first_listed zero files f fs e = absurd (not_empty f fs (sym e))
first_listed (suc k) [] f fs e = absurd (not_empty f fs (sym e))
first_listed (suc k) (g ∷ files) f fs e = subst (λ (x : List ℕ × List ℕ). has (names_of (g ∷ files)) x.0 ≡ true) (same_first f g fs (take k files) e) (itself g.0 (names_of files))

first_new : (c : Contents) (m : Sending) (f : List ℕ × List ℕ) (fs : Files) → files_to_send c m ≡ f ∷ fs → has m.sent f.0 ≡ false
first_new c m f fs e =
    let due = due_files c m in
    let listed : has (names_of due) f.0 ≡ true = first_listed (taken (map (λ (g : List ℕ × List ℕ). length g.1) due)) due f fs e in
    let once_listed = subst (λ (ns : Names). has ns f.0 ≡ true) (names_filtered c (each_once m.sent m.gimmes)) listed in
    once_new m.sent m.gimmes f.0 (from_passing (is_public c) (each_once m.sent m.gimmes) f.0 once_listed)

-- ---- two rounds

-- what is sent behind a round without files
after_none : (p m : Point Sending) → WentOn p m [] → files_to_send (now m.state) m.memory ≡ [] → ⊥
after_none p m w none = due_next (now w.taken.state) p.memory.sent (asked_in w.reply) (w.unsent refl) (by_point none)
  where
    by_point : files_to_send (now m.state) m.memory ≡ [] → files_to_send (now w.taken.state) (record { sent = p.memory.sent; gimmes = asked_in w.reply }) ≡ []
    by_point e =
        subst (λ (sent : Names). files_to_send (now w.taken.state) (record { sent = sent; gimmes = asked_in w.reply }) ≡ []) (append-nil p.memory.sent)
        (subst (λ (x : Point Sending). files_to_send (now x.state) x.memory ≡ []) w.is e)

sent_before : (p q : Point Sending) (files : Files) → WentOn p q files → (n : List ℕ) → has p.memory.sent n ≡ true → has q.memory.sent n ≡ true
sent_before p q files w n h = subst (λ (x : Point Sending). has x.memory.sent n ≡ true) (sym w.is) (has_first p.memory.sent (names_of files) n h)

sent_now : (p q : Point Sending) (f : List ℕ × List ℕ) (fs : Files) → WentOn p q (f ∷ fs) → has q.memory.sent f.0 ≡ true
sent_now p q f fs w = subst (λ (x : Point Sending). has x.memory.sent f.0 ≡ true) (sym w.is) (has_second p.memory.sent (f.0 ∷ names_of fs) f.0 (itself f.0 (names_of fs)))

-- a round without files sent none
none_sent : (p m : Point Sending) → WentOn p m [] → (n : List ℕ) → has m.memory.sent n ≡ false → has p.memory.sent n ≡ false
none_sent p m w n h = ap (λ (ns : Names). has ns n) (sym (append-nil p.memory.sent)) ∙ sym (ap (λ (x : Point Sending). has x.memory.sent n) w.is) ∙ h

abbrev pub SendsNew : Point Sending → Point Sending → Type 0
SendsNew p q = (name : List ℕ) × (has q.memory.sent name ≡ true) × (has p.memory.sent name ≡ false)

by_second : (p m q : Point Sending) → WentOn p m [] → (files : Files) → files_to_send (now m.state) m.memory ≡ files → WentOn m q files → SendsNew p q
by_second p m q w [] same v = absurd (after_none p m w same)
by_second p m q w (f ∷ fs) same v = (f.0, sent_now m q f fs v, none_sent p m w f.0 (first_new (now m.state) m.memory f fs same))

by_first : (p m q : Point Sending) (files : Files) → files_to_send (now p.state) p.memory ≡ files → WentOn p m files → WentOn m q (files_to_send (now m.state) m.memory) → SendsNew p q
by_first p m q [] same w v = by_second p m q w (files_to_send (now m.state) m.memory) refl v
by_first p m q (f ∷ fs) same w v =
    (f.0, sent_before m q (files_to_send (now m.state) m.memory) v f.0 (sent_now p m f fs w), first_new (now p.state) p.memory f fs same)

pub pushes_move_on : (login : Option Login) (p m q : Point Sending) (r s : Round (List ℕ) Exchanged) → PushRound login p r (goes_on m) → PushRound login m s (goes_on q) → SendsNew p q
pushes_move_on login p m q r s first second = by_first p m q (files_to_send (now p.state) p.memory) refl (went_on login p m r first) (went_on login m q s second)
