-- Facts on one exchange.
use Rattle.std.proofs.Common.{◌≡◌, ℕ, List, [], ◌++◌, Option, Some, None, Result, Ok, Err, sym, ap, subst, ◌∙◌, inr, append-nil}
use Rattle.std.specs.Prelude.{IfSome, IfErr}
use Rattle.fsl_outside.specs.Memory.{next}
use Rattle.fsl_outside.specs.Connections.{Connection, Standing, LinkState, Between, IsSent, IsBegun, HasBegun, IsTold}
use Rattle.fsl_outside.specs.Accepts.{Begins}
use Rattle.fsl_http.specs.declared.client.ExchangeFault.{ExchangeFault}
use Rattle.fsl_http.specs.declared.client.ExchangeFault.TheVariants as fault
use Rattle.fsl_http.specs.declared.request.HttpFault.TheVariants as http
use Rattle.fsl_http.specs.Sending.{Sends, SendsFront}
use Rattle.fsl_http.specs.Reading.{SendsNothing, Breaks}
use Rattle.fsl_http.specs.Responses.{Exchanged, Settles, IsReplyNeeded, IsExchanged, IsBrokenOff, IsLeft, request_text}
use Rattle.fsl_http.specs.Exchanges.{IsReplied, ReadsReply, BreaksReply, exchanged, Of, HasJoined, IsExchangeOf, CutsOff}

exchanged_on : (b c d : Option Connection) (text : List ℕ) (r : Exchanged) → HasBegun b → Sends b c (request_text text) → SendsNothing c d
    → Between c d (λ u v. IsReplied u v r) → Of d (λ x. IsExchanged x text r)
exchanged_on b c None text r h s q t = tt
exchanged_on b None (Some z) text r h s q t = absurd t
exchanged_on None (Some y) (Some z) text r h s q t = absurd s
exchanged_on (Some x) (Some y) (Some z) text r h s q t = record {
  sent = q ∙ ap (λ (k : Connection). k.taken) s ∙ ap (λ (k : List ℕ). k ++ request_text text) h.taken;
  answer = subst (λ (k : List ℕ). Settles k z.left r) (sym all) t.answer;
  needed = subst (λ (k : List ℕ). IsReplyNeeded k) (sym all) t.needed;
  failed = t.moved.failed ∙ ap (λ (k : Connection). k.failed) s ∙ h.failed;
}
  where
    all : z.read ≡ t.bytes
    all = t.moved.read ∙ ap (λ (k : List ℕ). k ++ t.bytes) (ap (λ (k : Connection). k.read) s ∙ h.read)

one_failed : (n : ℕ) → n ≡ 0 → next n ≡ 1
one_failed n e = ap next e

cut_sending : (b c : Option Connection) (text : List ℕ) → HasBegun b → SendsFront b c (request_text text) → Of c (λ x. IsBrokenOff x text)
cut_sending b None text h s = tt
cut_sending None (Some y) text h s = absurd s
cut_sending (Some x) (Some y) text h s = record {
  rest = s.rest;
  sent = s.whole ∙ ap (λ (k : List ℕ). k ++ s.rest) (sym (ap (λ (k : Connection). k.taken) s.cut ∙ ap (λ (k : List ℕ). k ++ s.front) h.taken));
  failed = ap (λ (k : Connection). k.failed) s.cut ∙ one_failed x.failed h.failed;
}

-- the whole request was taken
all_taken : (x y z : Connection) (text : List ℕ) → IsBegun x → IsSent x y (request_text text) → z.taken ≡ y.taken → z.taken ≡ request_text text
all_taken x y z text h s q = q ∙ ap (λ (k : Connection). k.taken) s ∙ ap (λ (k : List ℕ). k ++ request_text text) h.taken

none_failed : (x y : Connection) (text : List ℕ) → IsBegun x → IsSent x y (request_text text) → y.failed ≡ 0
none_failed x y text h s = ap (λ (k : Connection). k.failed) s ∙ h.failed

cut_reading : (b c d : Option Connection) (text : List ℕ) → HasBegun b → Sends b c (request_text text) → Breaks c d http.Link → Of d (λ x. IsBrokenOff x text)
cut_reading b c None text h s q = tt
cut_reading b None (Some z) text h s q = absurd q
cut_reading None (Some y) (Some z) text h s q = absurd s
cut_reading (Some x) (Some y) (Some z) text h s q = record {
  rest = [];
  sent = sym (append-nil z.taken ∙ all_taken x y z text h s q.taken);
  failed = q.count ∙ one_failed y.failed (none_failed x y text h s);
}

left_reading : (b c d : Option Connection) (text : List ℕ) → HasBegun b → Sends b c (request_text text) → Breaks c d http.Memory → Of d (λ x. IsLeft x text)
left_reading b c None text h s q = tt
left_reading b None (Some z) text h s q = absurd q
left_reading None (Some y) (Some z) text h s q = absurd s
left_reading (Some x) (Some y) (Some z) text h s q = record {
  sent = all_taken x y z text h s q.taken;
  failed = q.count ∙ none_failed x y text h s;
}

-- a connection that was told at its start is told still
told_on : (earlier : Option (List Connection)) (b c : Option Connection) (P : Connection → Connection → Type 0) → IsTold earlier b → Between b c P → IsTold earlier c
told_on None b c P t m = tt
told_on (Some e) None c P t m = absurd t
told_on (Some e) (Some x) None P t m = absurd m
told_on (Some e) (Some x) (Some y) P t m = tt

-- what was said of the list when the connection began holds still, and so do a door's counts
joined_by : (a b d : LinkState) (P : Connection → Type 0) → Begins a b → b.standing.accept_faults ≡ a.standing.accept_faults → b.standing.closings ≡ a.standing.closings
    → d.standing ≡ b.standing → IsTold b.standing.earlier d.present → Of d.present P → HasJoined a d P
joined_by a b d P begins accepts closings same told is = record {
  joined = ap (λ (s : Standing). s.earlier) same ∙ begins.earlier;
  told = subst (λ (s : Standing). IsTold s.earlier d.present) (sym same) told;
  accepts = ap (λ (s : Standing). s.accept_faults) same ∙ accepts;
  closings = ap (λ (s : Standing). s.closings) same ∙ closings;
  is = is;
}

told_through : (b c d : LinkState) (text : List ℕ) → IsTold b.standing.earlier b.present → Sends b.present c.present (request_text text)
    → SendsNothing c.present d.present → IsTold b.standing.earlier d.present
told_through b c d text told sent quiet =
    told_on b.standing.earlier c.present d.present _ (told_on b.standing.earlier b.present c.present _ told sent) quiet

pub exchange_of : (a b c d : LinkState) (text : List ℕ) (result : Result (List ℕ) ExchangeFault) → Begins a b
    → b.standing.accept_faults ≡ a.standing.accept_faults → b.standing.closings ≡ a.standing.closings → c.standing ≡ b.standing → d.standing ≡ c.standing
    → Sends b.present c.present (request_text text) → SendsNothing c.present d.present → ReadsReply c.present d.present result → IfSome (exchanged result) (IsExchangeOf a d text)
exchange_of a b c d text result begins accepts closings same again sent quiet replied = by_reply (exchanged result) replied
  where
    by_reply : (o : Option Exchanged) → IfSome o (λ r. Between c.present d.present (λ u v. IsReplied u v r)) → IfSome o (IsExchangeOf a d text)
    by_reply (Some r) t =
        joined_by a b d (λ x. IsExchanged x text r) begins accepts closings (again ∙ same) (told_through b c d text begins.told sent quiet)
        (exchanged_on b.present c.present d.present text r begins.begun sent quiet t)
    by_reply None t = tt

-- the reading was cut off
pub reading_cut : (a b c d : LinkState) (text : List ℕ) (result : Result (List ℕ) ExchangeFault) → Begins a b
    → b.standing.accept_faults ≡ a.standing.accept_faults → b.standing.closings ≡ a.standing.closings → c.standing ≡ b.standing → d.standing ≡ c.standing
    → Sends b.present c.present (request_text text) → SendsNothing c.present d.present → IfErr result (BreaksReply c.present d.present) → IfErr result (CutsOff a d text)
reading_cut a b c d text result begins accepts closings same again sent quiet broken = by_result result broken
  where
    told : IsTold b.standing.earlier d.present
    told = told_through b c d text begins.told sent quiet

    by_result : (r : Result (List ℕ) ExchangeFault) → IfErr r (BreaksReply c.present d.present) → IfErr r (CutsOff a d text)
    by_result (Ok t) k = tt
    by_result (Err fault.Link) k =
        inr (joined_by a b d (λ x. IsBrokenOff x text) begins accepts closings (again ∙ same) told (cut_reading b.present c.present d.present text begins.begun sent k))
    by_result (Err fault.Memory) k =
        joined_by a b d (λ x. IsLeft x text) begins accepts closings (again ∙ same) told (left_reading b.present c.present d.present text begins.begun sent k)
    by_result (Err fault.Head) k = tt
    by_result (Err (fault.Status n)) k = tt
    by_result (Err (fault.Long n)) k = tt
    by_result (Err (fault.Short n)) k = tt

-- the sending was cut off
pub sending_cut : (a b c : LinkState) (text : List ℕ) → Begins a b → b.standing.accept_faults ≡ a.standing.accept_faults → b.standing.closings ≡ a.standing.closings
    → c.standing ≡ b.standing → SendsFront b.present c.present (request_text text) → CutsOff a c text fault.Link
sending_cut a b c text begins accepts closings same sent =
    inr (joined_by a b c (λ x. IsBrokenOff x text) begins accepts closings same (told_on b.standing.earlier b.present c.present _ begins.told sent)
    (cut_sending b.present c.present text begins.begun sent))
