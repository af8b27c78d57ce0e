-- Facts on reads that failed, or whose bytes found no room.
use Rattle.std.proofs.Common.{◌≡◌, ℕ, ◌<◌, List, [], ◌++◌, length, take, Option, Some, None, Err, refl, sym, ap, subst, ◌∙◌, append_assoc, append-nil}
use Rattle.fsl_outside.specs.Memory.{next}
use Rattle.fsl_outside.specs.Connections.{Connection, Between, IsRead, IsFailed}
use Rattle.fsl_http.specs.declared.request.HttpFault.{HttpFault}
use Rattle.fsl_http.specs.declared.request.HttpFault.TheVariants as http
use Rattle.fsl_http.specs.declared.client.ExchangeFault.{ExchangeFault}
use Rattle.fsl_http.specs.declared.reply_head.ReplyHead.{ReplyHead}
use Rattle.fsl_http.specs.declared.head.Front.{Front}
use Rattle.fsl_http.specs.Heads.{IsHeadRead, ReadsHead}
use Rattle.fsl_http.specs.Reading.{IsBroken, Breaks, FailsBy}
use Rattle.fsl_http.specs.Responses.{HasNoReply, IsUnfinishedReply}
use Rattle.fsl_http.specs.Exchanges.{IsWholeReply, IsFaultOf, ReadsReply, BreaksReply, FailsBy as FailsReply}
use Rattle.fsl_http.proofs.Steps.{Between-twice, Between-map, Brings}

broken_by : (c d : Connection) → IsFailed c d → IsBroken c d (next c.failed)
broken_by c d f = record {
  bytes = [];
  left = sym (ap (λ (k : Connection). k.left) f);
  read = ap (λ (k : Connection). k.read) f ∙ sym (append-nil c.read);
  taken = ap (λ (k : Connection). k.taken) f;
  count = ap (λ (k : Connection). k.failed) f;
}

-- a read that failed
pub broken_read : (a b : Option Connection) → Between a b (λ c d. IsFailed c d) → Breaks a b http.Link
broken_read a b moves = Between-map {P = λ c d. IsFailed c d} {Q = λ c d. IsBroken c d (next c.failed)} a b broken_by moves

-- a read whose bytes found no room
pub kept_read : (a b : Option Connection) (n : ℕ) (into : List ℕ) → Brings a b n into → Breaks a b http.Memory
kept_read a b n into moves =
    Between-map {P = λ c d. IsRead c d (take n into) × (n ≡ 0 → 0 < length into → d.left ≡ [])} {Q = λ c d. IsBroken c d c.failed} a b
    (λ c d m. record { bytes = take n into; left = m.0.left; read = m.0.read; taken = m.0.taken; count = m.0.failed }) moves

-- a fault after some bytes
pub breaks_after : (a b c : Option Connection) (x : List ℕ) (e : HttpFault) → Between a b (λ u v. IsRead u v x) → Breaks b c e → Breaks a c e
breaks_after a b c x http.Link m k =
    Between-twice {P = λ u v. IsRead u v x} {Q = λ u v. IsBroken u v (next u.failed)} {R = λ u v. IsBroken u v (next u.failed)} a b c
    (λ u v w i j. record {
      bytes = x ++ j.bytes;
      left = i.left ∙ ap (λ (t : List ℕ). x ++ t) j.left ∙ sym (append_assoc x j.bytes w.left);
      read = j.read ∙ ap (λ (t : List ℕ). t ++ j.bytes) i.read ∙ append_assoc u.read x j.bytes;
      taken = j.taken ∙ i.taken;
      count = j.count ∙ ap next i.failed;
    }) m k
breaks_after a b c x http.Memory m k =
    Between-twice {P = λ u v. IsRead u v x} {Q = λ u v. IsBroken u v u.failed} {R = λ u v. IsBroken u v u.failed} a b c
    (λ u v w i j. record {
      bytes = x ++ j.bytes;
      left = i.left ∙ ap (λ (t : List ℕ). x ++ t) j.left ∙ sym (append_assoc x j.bytes w.left);
      read = j.read ∙ ap (λ (t : List ℕ). t ++ j.bytes) i.read ∙ append_assoc u.read x j.bytes;
      taken = j.taken ∙ i.taken;
      count = j.count ∙ i.failed;
    }) m k

-- want of memory before any read
pub broken_at_once : (a : Option Connection) → Breaks a a http.Memory
broken_at_once None = tt
broken_at_once (Some c) = record { bytes = []; left = refl; read = sym (append-nil c.read); taken = refl; count = refl }

-- the fault of a reading as that of an exchange
pub broken_reply : (a b : Option Connection) (h : HttpFault) (e : ExchangeFault) → IsFaultOf h e → Breaks a b h → BreaksReply a b e
broken_reply a b http.Link e is k = subst (λ (x : ExchangeFault). BreaksReply a b x) (sym is) k
broken_reply a b http.Memory e is k = subst (λ (x : ExchangeFault). BreaksReply a b x) (sym is) k

-- such a fault tells no reply
pub fault_tells_nothing : (a b : Option Connection) (h : HttpFault) (e : ExchangeFault) → IsFaultOf h e → ReadsReply a b (Err e)
fault_tells_nothing a b http.Link e is = subst (λ (x : ExchangeFault). ReadsReply a b (Err x)) (sym is) tt
fault_tells_nothing a b http.Memory e is = subst (λ (x : ExchangeFault). ReadsReply a b (Err x)) (sym is) tt

-- and has the cause that it had
pub fault_counted : (before now : ℕ) (h : HttpFault) (e : ExchangeFault) → IsFaultOf h e → FailsBy before now h → FailsReply before now e
fault_counted before now http.Link e is k = subst (λ (x : ExchangeFault). FailsReply before now x) (sym is) k
fault_counted before now http.Memory e is k = subst (λ (x : ExchangeFault). FailsReply before now x) (sym is) k

-- a fault in the body of a reply, after its head
pub broken_body : (a b c : Option Connection) (bytes : List ℕ) (f : Front ReplyHead) (h : HttpFault) (e : ExchangeFault)
    → ReadsHead IsWholeReply HasNoReply IsUnfinishedReply a b bytes f → IsFaultOf h e → Breaks b c h → BreaksReply a c e
broken_body a b c bytes f h e r is k =
    broken_reply a c h e is
    (breaks_after a b c bytes h
    (Between-map {P = λ u v. IsHeadRead IsWholeReply HasNoReply IsUnfinishedReply u v bytes f} {Q = λ u v. IsRead u v bytes} a b (λ u v i. i.moved) r) k)
