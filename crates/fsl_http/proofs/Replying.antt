-- Facts on the reply that was read.
use Rattle.std.proofs.Common.{◌≡◌, ℕ, ◌<◌, ◌≤◌, Bool, true, false, List, [], ◌∷◌, ◌++◌, length, drop, map, Option, Ok, Err, refl, sym, ap, subst, ◌∙◌, arith, inl, inr, append_assoc, append-nil}
use Rattle.std.specs.Prelude.{◌≢◌, ◌⊎◌, nat_lt, if◌then◌else◌, IfErr, OnOk}
use Rattle.std.proofs.lemmas.Bool.Decides.{nat_tests}
use Rattle.httparse.specs.Grammar.{ResponseHead, ReadsResponse, print_blank, print_version}
use Rattle.httparse.specs.Spans.{name_and_value}
use Rattle.httparse.proofs.GrammarLemmas.{ReadsResponse-append, response_prefix_free, print_response-append}
use Rattle.fsl_outside.specs.Connections.{Connection, Between, IsRead}
use Rattle.fsl_http.specs.declared.limits.TheConstants.{BODY_LIMIT}
use Rattle.fsl_http.specs.declared.head.Front.{Front}
use Rattle.fsl_http.specs.declared.head.Front.TheVariants as front
use Rattle.fsl_http.specs.declared.reply_head.ReplyHead.{ReplyHead}
use Rattle.fsl_http.specs.declared.client.ExchangeFault.{ExchangeFault}
use Rattle.fsl_http.specs.declared.client.ExchangeFault.TheVariants as fault
use Rattle.fsl_http.specs.Heads.{Never, IsHeadNeeded, IsHeadRead, ReadsHead}
use Rattle.fsl_http.specs.Bodies.{IsBodyNeeded, IsBody, ReadsBody}
use Rattle.fsl_http.specs.Responses.{SaysLength, IsReply, HasNoReply, IsUnfinishedReply, IsShortReply, Exchanged, no_head, status, long, short, body, Gives, IsReplyNeeded}
use Rattle.fsl_http.specs.Exchanges.{IsWholeReply, IsReplied, ReadsReply, body_result}
use Rattle.fsl_http.specs.Reading.{SendsNothing}
use Rattle.fsl_http.proofs.Steps.{Between-twice, Between-map, read_twice, sends_nothing_after}

reply_append : (bytes more rest : List ℕ) (h : ResponseHead) (size : ℕ) → IsReply bytes h rest size → IsReply (bytes ++ more) h (rest ++ more) size
reply_append bytes more rest h size is = record { reads = ReadsResponse-append bytes h rest more is.reads; fields = is.fields; long = is.long; says = is.says }

filled : (y : ℕ) (ys : List ℕ) → y ∷ ys ≡ [] → ⊥
filled y ys e = cc

-- ---- no head

-- a head without one length is no reply, whatever follows
pub head_without : (bytes : List ℕ) (h : ResponseHead) (rest : List ℕ) → ReadsResponse bytes h rest
    → ((n : ℕ) → SaysLength (map name_and_value h.fields) n → ⊥) → Never HasNoReply bytes
head_without bytes h rest reads none more k q size is =
    let one = response_prefix_free bytes more h k rest q reads is.reads in
    none size (subst (λ (x : ResponseHead). SaysLength (map name_and_value x.fields) size) (sym one.0) is.says)

-- no bytes are no head
some_byte : (xs ys zs : List ℕ) (y : ℕ) → xs ++ (ys ++ y ∷ zs) ≡ [] → ⊥
some_byte [] [] zs y e = cc
some_byte [] (x ∷ ys) zs y e = cc
some_byte (x ∷ xs) ys zs y e = cc

no_bytes : HasNoReply []
no_bytes h rest size is = some_byte (print_blank h.blank) (print_version h.minor) _ 32 (sym (print_response-append h rest) ∙ sym is.reads.1)

front_lacks : (bytes : List ℕ) → (bytes ≢ [] → IsUnfinishedReply bytes) → HasNoReply bytes
front_lacks [] unfinished = no_bytes
front_lacks (b ∷ bytes) unfinished = (unfinished (filled b bytes)).none

front_open : (bytes : List ℕ) → (bytes ≢ [] → IsUnfinishedReply bytes) → (bytes ≡ []) ⊎ (IsUnfinishedReply bytes ⊎ IsShortReply bytes)
front_open [] unfinished = inl refl
front_open (b ∷ bytes) unfinished = inr (inl (unfinished (filled b bytes)))

head_needed : (bytes : List ℕ) → IsHeadNeeded IsUnfinishedReply bytes → IsReplyNeeded bytes
head_needed bytes is = record { front = is.front; last = is.last; few = is.few; whole = is.whole; unsettled = front_open is.front is.none }

pub is_no_head : (a b : Option Connection) (bytes : List ℕ) (h : Front ReplyHead) → ((len : ℕ) (head : ReplyHead) → h ≡ front.Whole len head → ⊥)
    → ReadsHead IsWholeReply HasNoReply IsUnfinishedReply a b bytes h → Between a b (λ c d. IsReplied c d no_head)
is_no_head a b bytes h none r =
    Between-map {P = λ u v. IsHeadRead IsWholeReply HasNoReply IsUnfinishedReply u v bytes h} {Q = λ u v. IsReplied u v no_head} a b (λ u v i. replied u v h none i) r
  where
    replied : (u v : Connection) (k : Front ReplyHead) → ((len : ℕ) (head : ReplyHead) → k ≡ front.Whole len head → ⊥)
        → IsHeadRead IsWholeReply HasNoReply IsUnfinishedReply u v bytes k → IsReplied u v no_head
    replied u v (front.Whole len head) n i = absurd (n len head refl)
    replied u v front.Never n i = record {
      bytes = bytes;
      moved = i.moved;
      answer = (subst (λ (k : List ℕ). HasNoReply k) (append-nil bytes) (i.is.0 []), inr i.is.0);
      needed = head_needed bytes i.needed;
    }
    replied u v front.Open n i = record { bytes = bytes; moved = i.moved; answer = (front_lacks bytes i.is.0, inl i.is.1); needed = head_needed bytes i.needed }

-- ---- a head that tells all

gives_status : (bytes more : List ℕ) (len : ℕ) (head : ReplyHead) → head.code ≢ 200 → IsWholeReply bytes len head → Gives (bytes ++ more) (status head.code)
gives_status bytes more len head other is = (is.head, _, head.size, reply_append bytes more (drop len bytes) is.head head.size is.reads, (is.code_is, other))

gives_long : (bytes more : List ℕ) (len : ℕ) (head : ReplyHead) → head.code ≡ 200 → BODY_LIMIT < head.size → IsWholeReply bytes len head → Gives (bytes ++ more) (long head.size)
gives_long bytes more len head good big is = (is.head, _, head.size, reply_append bytes more (drop len bytes) is.head head.size is.reads, (is.code_is ∙ good, refl, big))

settle : (u v : Connection) (bytes : List ℕ) (r : Exchanged) → IsRead u v bytes → ((more : List ℕ) → Gives (bytes ++ more) r) → IsReplyNeeded bytes → IsReplied u v r
settle u v bytes r moved stays needed = record {
  bytes = bytes;
  moved = moved;
  answer = (subst (λ (t : List ℕ). Gives t r) (append-nil bytes) (stays []), inr stays);
  needed = needed;
}

pub is_status : (a b : Option Connection) (bytes : List ℕ) (len : ℕ) (head : ReplyHead) → head.code ≢ 200
    → ReadsHead IsWholeReply HasNoReply IsUnfinishedReply a b bytes (front.Whole len head) → Between a b (λ c d. IsReplied c d (status head.code))
is_status a b bytes len head other r =
    Between-map {P = λ u v. IsHeadRead IsWholeReply HasNoReply IsUnfinishedReply u v bytes (front.Whole len head)} {Q = λ u v. IsReplied u v (status head.code)} a b
    (λ u v i. settle u v bytes (status head.code) i.moved (λ more. gives_status bytes more len head other i.is) (head_needed bytes i.needed)) r

pub is_long : (a b : Option Connection) (bytes : List ℕ) (len : ℕ) (head : ReplyHead) → head.code ≡ 200 → BODY_LIMIT < head.size
    → ReadsHead IsWholeReply HasNoReply IsUnfinishedReply a b bytes (front.Whole len head) → Between a b (λ c d. IsReplied c d (long head.size))
is_long a b bytes len head good big r =
    Between-map {P = λ u v. IsHeadRead IsWholeReply HasNoReply IsUnfinishedReply u v bytes (front.Whole len head)} {Q = λ u v. IsReplied u v (long head.size)} a b
    (λ u v i. settle u v bytes (long head.size) i.moved (λ more. gives_long bytes more len head good big i.is) (head_needed bytes i.needed)) r

-- ---- a body

-- what was read of a body was needed
reply_needed : (bytes more : List ℕ) (len : ℕ) (head : ReplyHead) → head.code ≡ 200 → head.size ≤ BODY_LIMIT → IsHeadNeeded IsUnfinishedReply bytes → IsWholeReply bytes len head
    → IsBodyNeeded (drop len bytes) more head.size → IsReplyNeeded (bytes ++ more)
reply_needed bytes [] len head good fits first is needed = head_needed (bytes ++ []) (subst (λ (t : List ℕ). IsHeadNeeded IsUnfinishedReply t) (sym (append-nil bytes)) first)
reply_needed bytes (m ∷ more) len head good fits first is needed = record {
  front = bytes ++ needed.before;
  last = needed.last;
  few = needed.few;
  whole = ap (λ (t : List ℕ). bytes ++ t) needed.whole ∙ sym (append_assoc bytes needed.before needed.last);
  unsettled = inr (inr (
    is.head,
    _,
    head.size,
    reply_append bytes needed.before (drop len bytes) is.head head.size is.reads,
    (is.code_is ∙ good, fits, needed.short (filled m more)),
  ));
}

whole_reply : (bytes more after text : List ℕ) (len : ℕ) (head : ReplyHead) → head.code ≡ 200 → head.size ≤ BODY_LIMIT → length text ≡ head.size → IsWholeReply bytes len head
    → drop len bytes ++ more ≡ text ++ after → Gives (bytes ++ more) (body text)
whole_reply bytes more after text len head good fits full is same =
    (is.head, _, head.size, reply_append bytes more (drop len bytes) is.head head.size is.reads, (is.code_is ∙ good, fits, full, (after, same)))

whole : (u v w : Connection) (bytes text : List ℕ) (len : ℕ) (head : ReplyHead) → head.code ≡ 200 → head.size ≤ BODY_LIMIT
    → IsHeadRead IsWholeReply HasNoReply IsUnfinishedReply u v bytes (front.Whole len head) → IsBody v w (drop len bytes) text head.size → length text ≡ head.size → IsReplied u w (body text)
whole u v w bytes text len head good fits i j full =
    settle u w (bytes ++ j.bytes) (body text) (read_twice u v w bytes j.bytes i.moved j.moved)
    (λ more. subst (λ (t : List ℕ). Gives t (body text)) (sym (append_assoc bytes j.bytes more))
    (whole_reply bytes (j.bytes ++ more) (j.behind.after ++ more) text len head good fits full i.is
    (sym (append_assoc (drop len bytes) j.bytes more) ∙ ap (λ (t : List ℕ). t ++ more) j.behind.whole ∙ append_assoc text j.behind.after more)))
    (reply_needed bytes j.bytes len head good fits i.needed i.is j.behind.needed)

too_short : (u v w : Connection) (bytes text : List ℕ) (len : ℕ) (head : ReplyHead) → head.code ≡ 200 → head.size ≤ BODY_LIMIT
    → IsHeadRead IsWholeReply HasNoReply IsUnfinishedReply u v bytes (front.Whole len head) → IsBody v w (drop len bytes) text head.size → length text < head.size → IsReplied u w (short (length text))
too_short u v w bytes text len head good fits i j few = record {
  bytes = bytes ++ j.bytes;
  moved = read_twice u v w bytes j.bytes i.moved j.moved;
  answer = (
    (i.is.head, _, head.size, reply_append bytes j.bytes (drop len bytes) i.is.head head.size i.is.reads, (i.is.code_is ∙ good, fits, ap length all, few)),
    inl (j.end few),
  );
  needed = reply_needed bytes j.bytes len head good fits i.needed i.is j.behind.needed;
}
  where
    all : drop len bytes ++ j.bytes ≡ text
    all = j.behind.whole ∙ ap (λ (t : List ℕ). text ++ t) (j.behind.rest few) ∙ append-nil text

pub reply_of : (a b c : Option Connection) (bytes text : List ℕ) (len : ℕ) (head : ReplyHead) → head.code ≡ 200 → head.size ≤ BODY_LIMIT
    → ReadsHead IsWholeReply HasNoReply IsUnfinishedReply a b bytes (front.Whole len head) → ReadsBody b c (drop len bytes) head.size text → ReadsReply a c (body_result text head.size)
reply_of a b c bytes text len head good fits h r = by_test (nat_lt (length text) head.size) refl
  where
    by_test : (t : Bool) → nat_lt (length text) head.size ≡ t → ReadsReply a c (if t then Err (fault.Short (length text)) else Ok text)
    by_test true few =
        Between-twice {P = λ u v. IsHeadRead IsWholeReply HasNoReply IsUnfinishedReply u v bytes (front.Whole len head)} {Q = λ u v. IsBody u v (drop len bytes) text head.size}
        {R = λ u w. IsReplied u w (short (length text))} a b c
        (λ u v w i j. too_short u v w bytes text len head good fits i j (grind (arith, nat_tests, few))) h r
    by_test false all =
        Between-twice {P = λ u v. IsHeadRead IsWholeReply HasNoReply IsUnfinishedReply u v bytes (front.Whole len head)} {Q = λ u v. IsBody u v (drop len bytes) text head.size}
        {R = λ u w. IsReplied u w (body text)} a b c
        (λ u v w i j. whole u v w bytes text len head good fits i j (let most = j.behind.fits in grind (arith, nat_tests, all, most))) h r

-- what was sent behind the head of a reply
pub reply_sends_nothing : (a b c : Option Connection) (bytes : List ℕ) (h : Front ReplyHead) → ReadsHead IsWholeReply HasNoReply IsUnfinishedReply a b bytes h → SendsNothing b c → SendsNothing a c
reply_sends_nothing a b c bytes h r none =
    sends_nothing_after a b c bytes (Between-map {P = λ u v. IsHeadRead IsWholeReply HasNoReply IsUnfinishedReply u v bytes h} {Q = λ u v. IsRead u v bytes} a b (λ u v i. i.moved) r) none

-- what came of a body is it, or tells how many bytes there are
pub body_fault : (text : List ℕ) (size : ℕ) (P : ExchangeFault → Type 0) → P (fault.Short (length text)) → IfErr (body_result text size) P
body_fault text size P few = by_test (nat_lt (length text) size)
  where
    by_test : (t : Bool) → IfErr {T = List ℕ} (if t then Err (fault.Short (length text)) else Ok text) P
    by_test true = few
    by_test false = tt

pub body_success : (text : List ℕ) (size : ℕ) (P : Type 0) → P → OnOk (body_result text size) P
body_success text size P holds = by_test (nat_lt (length text) size)
  where
    by_test : (t : Bool) → OnOk {T = List ℕ} {E = ExchangeFault} (if t then Err (fault.Short (length text)) else Ok text) P
    by_test true = tt
    by_test false = holds
