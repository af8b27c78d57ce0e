-- Facts on the answer to a connection.
use Rattle.std.proofs.Common.{◌≡◌, ℕ, ◌<◌, ◌≤◌, Bool, true, false, List, [], ◌∷◌, ◌++◌, length, drop, Option, refl, sym, ap, subst, ◌∙◌, arith, append_assoc, append-nil, inl, inr}
use Rattle.std.specs.Prelude.{◌⊎◌, ◌≢◌, nat_lt, if◌then◌else◌}
use Rattle.std.proofs.lemmas.Bool.Decides.{nat_tests}
use Rattle.httparse.specs.Grammar.{RequestHead}
use Rattle.httparse.proofs.GrammarLemmas.{request_unique, ReadsRequest-append}
use Rattle.fsl_outside.specs.Connections.{Connection, Between, IsRead}
use Rattle.fsl_http.specs.declared.request_head.Verdict.{Verdict}
use Rattle.fsl_http.specs.declared.request_head.Verdict.TheVariants.{Refuse, Length}
use Rattle.fsl_http.specs.declared.head.Front.{Front}
use Rattle.fsl_http.specs.declared.head.Front.TheVariants as front
use Rattle.fsl_http.specs.declared.request.Asked.TheVariants.{Closed, Refused, Body}
use Rattle.fsl_http.specs.Limits.{most_body}
use Rattle.fsl_http.specs.Heads.{IsHeadNeeded, IsHeadRead, ReadsHead, HasWhole}
use Rattle.fsl_http.specs.Bodies.{IsBodyNeeded, IsBody, ReadsBody}
use Rattle.fsl_http.specs.Requests.{IsHead, HasNoHead, IsUnfinished, IsOpen, IsShort, IsWholeHead, IsListed, judge, Answers}
use Rattle.fsl_http.specs.Asking.{IsNeeded, IsAnswered, IsAsked, IsListedAnswer, ended_answer, body_answer}
use Rattle.fsl_http.specs.Replies.{IsStatus}
use Rattle.fsl_http.specs.Reading.{SendsNothing}
use Rattle.fsl_http.proofs.Steps.{Between-twice, Between-map, read_twice, sends_nothing_after, some_front}

head_append : (bytes more rest : List ℕ) (h : RequestHead) → IsHead bytes h rest → IsHead (bytes ++ more) h (rest ++ more)
head_append bytes more rest h is = record { reads = ReadsRequest-append bytes h rest more is.reads; fields = is.fields; size = is.size }

filled : (y : ℕ) (ys : List ℕ) → y ∷ ys ≡ [] → ⊥
filled y ys e = cc

-- ---- no more was read than needed

front_open : (bytes : List ℕ) → (bytes ≢ [] → IsUnfinished bytes) → (bytes ≡ []) ⊎ (IsUnfinished bytes ⊎ IsShort bytes)
front_open [] unfinished = inl refl
front_open (b ∷ bytes) unfinished = inr (inl (unfinished (filled b bytes)))

head_needed : (bytes : List ℕ) → IsHeadNeeded IsUnfinished bytes → IsNeeded bytes
head_needed bytes is = record { front = is.front; last = is.last; few = is.few; whole = is.whole; unsettled = front_open is.front is.none }

body_needed : (bytes more : List ℕ) (len size : ℕ) (x : Verdict) → x ≡ Length size → IsHeadNeeded IsUnfinished bytes → IsWholeHead bytes len x
    → IsBodyNeeded (drop len bytes) more size → IsNeeded (bytes ++ more)
body_needed bytes [] len size x asks needed is body = head_needed (bytes ++ []) (subst (λ (t : List ℕ). IsHeadNeeded IsUnfinished t) (sym (append-nil bytes)) needed)
body_needed bytes (m ∷ more) len size x asks needed is body = record {
  front = bytes ++ body.before;
  last = body.last;
  few = body.few;
  whole = ap (λ (t : List ℕ). bytes ++ t) body.whole ∙ sym (append_assoc bytes body.before body.last);
  unsettled = inr (inr record {
    head = is.head;
    rest = drop len bytes ++ body.before;
    size = size;
    reads = head_append bytes body.before (drop len bytes) is.head is.reads;
    asks = sym is.verdict ∙ asks;
    short = body.short (filled m more);
  });
}

-- what was read up to a head
pub head_moves : (a b : Option Connection) (bytes : List ℕ) (h : Front Verdict) → ReadsHead IsWholeHead HasNoHead IsUnfinished a b bytes h → Between a b (λ c d. IsRead c d bytes)
head_moves a b bytes h r = Between-map {P = λ u v. IsHeadRead IsWholeHead HasNoHead IsUnfinished u v bytes h} {Q = λ u v. IsRead u v bytes} a b (λ u v i. i.moved) r

-- what came behind a head that was read sent nothing
pub head_sends_nothing : (a b c : Option Connection) (bytes : List ℕ) (h : Front Verdict) → ReadsHead IsWholeHead HasNoHead IsUnfinished a b bytes h → SendsNothing b c → SendsNothing a c
head_sends_nothing a b c bytes h r none = sends_nothing_after a b c bytes (head_moves a b bytes h r) none

-- ---- an answer that is in the list

-- the status of a head that is refused
pub listed_status : (bytes : List ℕ) (len status : ℕ) (x : Verdict) (h : Front Verdict) → h ≡ front.Whole len x → x ≡ Refuse status → HasWhole IsWholeHead bytes h → IsStatus status
listed_status bytes len status x h whole refuses is =
    subst (λ (v : Verdict). IsListed v) refuses (subst (λ (k : Front Verdict). HasWhole IsWholeHead bytes k) whole is).0.listed

-- the length that a head asks for
pub listed_length : (bytes : List ℕ) (len size : ℕ) (x : Verdict) (h : Front Verdict) → h ≡ front.Whole len x → x ≡ Length size → HasWhole IsWholeHead bytes h → size ≤ most_body
listed_length bytes len size x h whole asks is =
    subst (λ (v : Verdict). IsListed v) asks (subst (λ (k : Front Verdict). HasWhole IsWholeHead bytes k) whole is).0.listed

pub listed_ended : (bytes : List ℕ) → IsListedAnswer (ended_answer bytes)
listed_ended [] = tt
listed_ended (x ∷ xs) = refl

pub listed_body : (text : List ℕ) (size : ℕ) → length text ≤ size → size ≤ most_body → IsListedAnswer (body_answer text size)
listed_body text size fits most = by_test (nat_lt (length text) size)
  where
    by_test : (t : Bool) → IsListedAnswer (if t then Refused 400 else Body text)
    by_test true = refl
    by_test false = omega (arith, fits, most)

-- ---- a head that is refused

-- all bytes of the connection have the head that was read
left_head : (u v : Connection) (bytes : List ℕ) (len : ℕ) (w : Verdict) → IsRead u v bytes → (is : IsWholeHead bytes len w) → IsHead u.left is.head (drop len bytes ++ v.left)
left_head u v bytes len w moved is =
    subst (λ (t : List ℕ). IsHead t is.head (drop len bytes ++ v.left)) (sym moved.left) (head_append bytes v.left (drop len bytes) is.head is.reads)

same_head : (bytes r q : List ℕ) (h k : RequestHead) → IsHead bytes h r → IsHead bytes k q → h ≡ k
same_head bytes r q h k a b = (request_unique bytes h k r q a.reads b.reads).0

refused : (u v : Connection) (bytes : List ℕ) (len status : ℕ) (w : Verdict) → w ≡ Refuse status → IsRead u v bytes → IsWholeHead bytes len w → IsHeadNeeded IsUnfinished bytes
    → IsAnswered u v (Refused status)
refused u v bytes len status w refuses moved is needed = record {
  needed = head_needed bytes needed;
  bytes = bytes;
  moved = moved;
  answer = (
    inr (inl record { head = is.head; rest = drop len bytes; reads = is.reads; refuses = sym is.verdict ∙ refuses }),
    inr (λ more. inr (inl record { head = is.head; rest = drop len bytes ++ more; reads = head_append bytes more (drop len bytes) is.head is.reads; refuses = sym is.verdict ∙ refuses })),
  );
  end = λ r. absurd (never r.1);
}
  where
    reads : IsHead u.left is.head (drop len bytes ++ v.left)
    reads = left_head u v bytes len w moved is

    clash : (n : ℕ) → Refuse status ≡ Length n → ⊥
    clash n e = cc

    never : IsOpen u.left ⊎ IsShort u.left → ⊥
    never (inl o) = o.none is.head (drop len bytes ++ v.left) reads
    never (inr s) = clash s.size (sym refuses ∙ is.verdict ∙ ap judge (same_head u.left _ _ is.head s.head reads s.reads) ∙ s.asks)

pub ask_refused : (a b : Option Connection) (bytes : List ℕ) (len status : ℕ) (w : Verdict) → w ≡ Refuse status
    → ReadsHead IsWholeHead HasNoHead IsUnfinished a b bytes (front.Whole len w) → IsAsked a b (Refused status)
ask_refused a b bytes len status w refuses r =
    Between-map {P = λ u v. IsHeadRead IsWholeHead HasNoHead IsUnfinished u v bytes (front.Whole len w)} {Q = λ u v. IsAnswered u v (Refused status)} a b
    (λ u v i. refused u v bytes len status w refuses i.moved i.is i.needed) r

-- ---- no head

pub ask_never : (a b : Option Connection) (bytes : List ℕ) → ReadsHead IsWholeHead HasNoHead IsUnfinished a b bytes front.Never → IsAsked a b (Refused 400)
ask_never a b bytes r =
    Between-map {P = λ u v. IsHeadRead IsWholeHead HasNoHead IsUnfinished u v bytes front.Never} {Q = λ u v. IsAnswered u v (Refused 400)} a b
    (λ u v i. record {
      bytes = bytes;
      needed = head_needed bytes i.needed;
      moved = i.moved;
      answer = (
        inl (i.is.1, subst (λ (t : List ℕ). HasNoHead t) (append-nil bytes) (i.is.0 []), refl),
        inr (λ more. inl (some_front bytes more i.is.1, i.is.0 more, refl)),
      );
      end = λ e. absurd (ended u v i.moved i.is.0 e.1);
    }) r
  where
    ended : (u v : Connection) → IsRead u v bytes → ((more : List ℕ) → HasNoHead (bytes ++ more)) → IsOpen u.left ⊎ IsShort u.left → ⊥
    ended u v moved never (inl o) =
        never (v.left ++ o.more) o.head o.rest
        (subst (λ (t : List ℕ). IsHead t o.head o.rest) (ap (λ (t : List ℕ). t ++ o.more) moved.left ∙ append_assoc bytes v.left o.more) o.reads)
    ended u v moved never (inr s) = never v.left s.head s.rest (subst (λ (t : List ℕ). IsHead t s.head s.rest) moved.left s.reads)

-- the bytes ended before a head
pub ask_ended : (a b : Option Connection) (bytes : List ℕ) → ReadsHead IsWholeHead HasNoHead IsUnfinished a b bytes front.Open → IsAsked a b (ended_answer bytes)
ask_ended a b [] r =
    Between-map {P = λ u v. IsHeadRead IsWholeHead HasNoHead IsUnfinished u v [] front.Open} {Q = λ u v. IsAnswered u v Closed} a b
    (λ u v i. record { bytes = []; needed = head_needed [] i.needed; moved = i.moved; answer = (refl, inl i.is.1); end = λ _. i.is.1 }) r
ask_ended a b (x ∷ xs) r =
    Between-map {P = λ u v. IsHeadRead IsWholeHead HasNoHead IsUnfinished u v (x ∷ xs) front.Open} {Q = λ u v. IsAnswered u v (Refused 400)} a b
    (λ u v i. record {
      bytes = x ∷ xs;
      needed = head_needed (x ∷ xs) i.needed;
      moved = i.moved;
      answer = (inl (filled x xs, (i.is.0 (filled x xs)).none, refl), inl i.is.1);
      end = λ _. i.is.1;
    }) r

-- ---- a body

whole : (u v w : Connection) (bytes : List ℕ) (len size : ℕ) (x : Verdict) (text : List ℕ) → x ≡ Length size
    → IsHeadRead IsWholeHead HasNoHead IsUnfinished u v bytes (front.Whole len x) → IsBody v w (drop len bytes) text size → length text ≡ size → IsAnswered u w (Body text)
whole u v w bytes len size x text asks i body full = record {
  needed = body_needed bytes body.bytes len size x asks i.needed i.is body.behind.needed;
  bytes = bytes ++ body.bytes;
  moved = read_twice u v w bytes body.bytes i.moved body.moved;
  answer = (record { head = i.is.head; after = body.behind.after; reads = here; asks = size_is }, inr later);
  end = λ e. absurd e;
}
  where
    size_is : judge i.is.head ≡ Length (length text)
    size_is = sym i.is.verdict ∙ asks ∙ ap (λ (n : ℕ). Length n) (sym full)

    here : IsHead (bytes ++ body.bytes) i.is.head (text ++ body.behind.after)
    here = subst (λ (t : List ℕ). IsHead (bytes ++ body.bytes) i.is.head t) body.behind.whole (head_append bytes body.bytes (drop len bytes) i.is.head i.is.reads)

    later : (more : List ℕ) → Answers ((bytes ++ body.bytes) ++ more) (Body text)
    later more = record {
      head = i.is.head;
      after = body.behind.after ++ more;
      reads = subst (λ (t : List ℕ). IsHead ((bytes ++ body.bytes) ++ more) i.is.head t) (append_assoc text body.behind.after more)
          (head_append (bytes ++ body.bytes) more (text ++ body.behind.after) i.is.head here);
      asks = size_is;
    }

short : (u v w : Connection) (bytes : List ℕ) (len size : ℕ) (x : Verdict) (text : List ℕ) → x ≡ Length size
    → IsHeadRead IsWholeHead HasNoHead IsUnfinished u v bytes (front.Whole len x) → IsBody v w (drop len bytes) text size → length text < size → IsAnswered u w (Refused 400)
short u v w bytes len size x text asks i body few = record {
  needed = body_needed bytes body.bytes len size x asks i.needed i.is body.behind.needed;
  bytes = bytes ++ body.bytes;
  moved = read_twice u v w bytes body.bytes i.moved body.moved;
  answer = (
    inr (inr (
      record {
        head = i.is.head;
        rest = drop len bytes ++ body.bytes;
        size = size;
        reads = head_append bytes body.bytes (drop len bytes) i.is.head i.is.reads;
        asks = sym i.is.verdict ∙ asks;
        short = subst (λ (t : List ℕ). length t < size) (sym all) few;
      },
      refl,
    )),
    inl (body.end few),
  );
  end = λ _. body.end few;
}
  where
    all : drop len bytes ++ body.bytes ≡ text
    all = body.behind.whole ∙ ap (λ (t : List ℕ). text ++ t) (body.behind.rest few) ∙ append-nil text

pub ask_body : (a b c : Option Connection) (bytes : List ℕ) (len size : ℕ) (x : Verdict) (text : List ℕ) → x ≡ Length size
    → ReadsHead IsWholeHead HasNoHead IsUnfinished a b bytes (front.Whole len x) → ReadsBody b c (drop len bytes) size text → IsAsked a c (body_answer text size)
ask_body a b c bytes len size x text asks r body = by_test (nat_lt (length text) size) refl
  where
    by_test : (t : Bool) → nat_lt (length text) size ≡ t → IsAsked a c (if t then Refused 400 else Body text)
    by_test true few =
        Between-twice {P = λ u v. IsHeadRead IsWholeHead HasNoHead IsUnfinished u v bytes (front.Whole len x)} {Q = λ u v. IsBody u v (drop len bytes) text size}
        {R = λ u v. IsAnswered u v (Refused 400)} a b c
        (λ u v w i j. short u v w bytes len size x text asks i j (grind (arith, nat_tests, few))) r body
    by_test false all =
        Between-twice {P = λ u v. IsHeadRead IsWholeHead HasNoHead IsUnfinished u v bytes (front.Whole len x)} {Q = λ u v. IsBody u v (drop len bytes) text size}
        {R = λ u v. IsAnswered u v (Body text)} a b c
        (λ u v w i j. whole u v w bytes len size x text asks i j (let fits = j.behind.fits in grind (arith, nat_tests, all, fits))) r body
