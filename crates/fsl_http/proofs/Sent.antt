-- Facts on what is sent, piece after piece.
use Rattle.std.proofs.Common.{◌≡◌, ℕ, ◌+◌, ◌-◌, ◌<◌, List, [], ◌∷◌, ◌++◌, length, take, drop, Option, Some, None, sym, ap, subst, ◌∙◌, append_assoc}
use Rattle.std.specs.Prelude.{Result, Ok, Err, OnErr, codes, decimal, get_or}
use Rattle.std.specs.Borrow.{Bor}
use Rattle.std.specs.List.{concat}
use Rattle.std.proofs.lemmas.List.{take-append-drop, take_rest, at_drop_more}
use Rattle.fsl_outside.specs.Memory.{next}
use Rattle.fsl_outside.specs.Connections.{Connection, Between, IsFailed}
use Rattle.fsl_http.specs.Sending.{Sends, SendsFront, IsSentTo, joined}
use Rattle.fsl_http.specs.Replies.{phrase, field_text, body_text, pieces_text, reply_text}
use Rattle.fsl_http.specs.Responses.{request_text}
use Rattle.http.specs.StatusCode.{code_digits}

pub Sends-twice : (a b c : Option Connection) (x y : List ℕ) → Sends a b x → Sends b c y → Sends a c (x ++ y)
Sends-twice None None None x y p q = tt
Sends-twice None None (Some e) x y p q = absurd q
Sends-twice None (Some d) e x y p q = absurd p
Sends-twice (Some c) None e x y p q = absurd p
Sends-twice (Some c) (Some d) None x y p q = absurd q
Sends-twice (Some c) (Some d) (Some e) x y p q =
    q ∙ ap (λ (k : Connection). record k { taken = k.taken ++ y }) p ∙ ap (λ (t : List ℕ). record c { taken = t }) (append_assoc c.taken x y)

-- a piece was sent, and of the next a front
pub SendsFront-after : (a b c : Option Connection) (x y : List ℕ) → Sends a b x → SendsFront b c y → SendsFront a c (x ++ y)
SendsFront-after None None None x y p q = tt
SendsFront-after None None (Some e) x y p q = absurd q
SendsFront-after None (Some d) e x y p q = absurd p
SendsFront-after (Some c) None e x y p q = absurd p
SendsFront-after (Some c) (Some d) None x y p q = absurd q
SendsFront-after (Some c) (Some d) (Some e) x y p q = record {
  front = x ++ q.front;
  rest = q.rest;
  whole = ap (λ (t : List ℕ). x ++ t) q.whole ∙ sym (append_assoc x q.front q.rest);
  cut = q.cut ∙ ap (λ (k : Connection). record k { taken = k.taken ++ q.front; failed = next k.failed }) p
      ∙ ap (λ (t : List ℕ). record c { taken = t; failed = next c.failed }) (append_assoc c.taken x q.front);
}

-- a front of a piece is one of the whole
pub SendsFront-longer : (a b : Option Connection) (x y : List ℕ) → SendsFront a b x → SendsFront a b (x ++ y)
SendsFront-longer None None x y p = tt
SendsFront-longer None (Some d) x y p = absurd p
SendsFront-longer (Some c) None x y p = absurd p
SendsFront-longer (Some c) (Some d) x y p = record {
  front = p.front;
  rest = p.rest ++ y;
  whole = ap (λ (t : List ℕ). t ++ y) p.whole ∙ append_assoc p.front p.rest y;
  cut = p.cut;
}

-- the turn of a loop that writes
pub send_more : (old mid new : Option Connection) (text rest : List ℕ) (n : ℕ) → IsSentTo old mid text rest
    → Sends mid new (take n rest) → IsSentTo old new text (take (length rest - n) (drop n rest))
send_more old mid new text rest n w p = record {
  front = w.front ++ take n rest;
  whole =
      w.whole ∙ ap (λ (l : List ℕ). w.front ++ l) (sym (take-append-drop n rest)) ∙ sym (append_assoc w.front (take n rest) (drop n rest))
      ∙ ap (λ (l : List ℕ). (w.front ++ take n rest) ++ l) (sym (take_rest rest n));
  sent = Sends-twice old mid new w.front (take n rest) w.sent p;
}

-- a call failed after a front was sent
pub send_failed : (old mid new : Option Connection) (text rest : List ℕ) → IsSentTo old mid text rest
    → Between mid new (λ c d. IsFailed c d) → SendsFront old new text
send_failed old mid new text rest w p = by_case old mid new w.sent p
  where
    by_case : (a b c : Option Connection) → Sends a b w.front → Between b c (λ c d. IsFailed c d) → SendsFront a c text
    by_case None None None s q = tt
    by_case None None (Some e) s q = absurd q
    by_case None (Some d) e s q = absurd s
    by_case (Some c) None e s q = absurd s
    by_case (Some c) (Some d) None s q = absurd q
    by_case (Some c) (Some d) (Some e) s q = record {
      front = w.front;
      rest = rest;
      whole = w.whole;
      cut = q ∙ ap (λ (k : Connection). record k { failed = next k.failed }) s;
    }

pub OnErr-always : {T E P : Type 0} (r : Result T E) → P → OnErr r P
OnErr-always (Ok x) p = tt
OnErr-always (Err e) p = p

-- ---- pieces

pieces_next : (pieces : List (Bor (List ℕ))) (i : ℕ) (d : Bor (List ℕ)) → i < length pieces
    → joined (drop i pieces) ≡ (get_or pieces i d).now ++ joined (drop (i + 1) pieces)
pieces_next pieces i d lt = at_drop_more joined pieces i d lt

-- one piece more was sent
pub piece_sent : (old mid new : Option Connection) (text : List ℕ) (pieces : List (Bor (List ℕ))) (i : ℕ) (d : Bor (List ℕ)) → i < length pieces
    → IsSentTo old mid text (joined (drop i pieces)) → Sends mid new (get_or pieces i d).now → IsSentTo old new text (joined (drop (i + 1) pieces))
piece_sent old mid new text pieces i d lt w p = record {
  front = w.front ++ (get_or pieces i d).now;
  whole =
      w.whole ∙ ap (λ (l : List ℕ). w.front ++ l) (pieces_next pieces i d lt)
      ∙ sym (append_assoc w.front (get_or pieces i d).now (joined (drop (i + 1) pieces)));
  sent = Sends-twice old mid new w.front (get_or pieces i d).now w.sent p;
}

-- a call failed after a front of a piece was sent
pub piece_cut : (old mid new : Option Connection) (text : List ℕ) (pieces : List (Bor (List ℕ))) (i : ℕ) (d : Bor (List ℕ)) → i < length pieces
    → IsSentTo old mid text (joined (drop i pieces)) → SendsFront mid new (get_or pieces i d).now → SendsFront old new text
piece_cut old mid new text pieces i d lt w p =
    subst (λ (t : List ℕ). SendsFront old new t) (sym (w.whole ∙ ap (λ (l : List ℕ). w.front ++ l) (pieces_next pieces i d lt)))
    (SendsFront-after old mid new w.front ((get_or pieces i d).now ++ joined (drop (i + 1) pieces)) w.sent
    (SendsFront-longer mid new (get_or pieces i d).now (joined (drop (i + 1) pieces)) p))

-- a reply by its pieces
pub number_piece : (digits phrase field number sent : List ℕ) → number ≡ decimal (length sent)
    → concat (codes "HTTP/1.1 " ∷ digits ∷ codes " " ∷ phrase ∷ codes "\r\n" ∷ field ∷ codes "Content-Length: " ∷ number ∷ codes "\r\nConnection: close\r\n\r\n" ∷ sent ∷ []) ≡ pieces_text digits phrase field sent
number_piece digits phrase field number sent k = ap (λ (t : List ℕ). concat (codes "HTTP/1.1 " ∷ digits ∷ codes " " ∷ phrase ∷ codes "\r\n" ∷ field ∷ codes "Content-Length: " ∷ t ∷ codes "\r\nConnection: close\r\n\r\n" ∷ sent ∷ [])) k

pub reply_pieces : (s : ℕ) (body digits name field sent : List ℕ) → digits ≡ code_digits s → name ≡ phrase s → field ≡ field_text s → sent ≡ body_text s body
    → pieces_text digits name field sent ≡ reply_text s body
unfolding reply_text
reply_pieces s body digits name field sent d n f b =
    ap (λ (t : List ℕ). pieces_text t name field sent) d
    ∙ ap (λ (t : List ℕ). pieces_text (code_digits s) t field sent) n
    ∙ ap (λ (t : List ℕ). pieces_text (code_digits s) (phrase s) t sent) f
    ∙ ap (λ (t : List ℕ). pieces_text (code_digits s) (phrase s) (field_text s) t) b

-- a request by its pieces
pub request_pieces : (body number : List ℕ) → number ≡ decimal (length body)
    → concat (codes "POST /xfer HTTP/1.1\r\nHost: fossil\r\nContent-Type: application/x-fossil-uncompressed\r\nContent-Length: " ∷ number ∷ codes "\r\nConnection: close\r\n\r\n" ∷ body ∷ [])
    ≡ request_text body
unfolding request_text
request_pieces body number k =
    ap (λ (t : List ℕ). concat (codes "POST /xfer HTTP/1.1\r\nHost: fossil\r\nContent-Type: application/x-fossil-uncompressed\r\nContent-Length: " ∷ t ∷ codes "\r\nConnection: close\r\n\r\n" ∷ body ∷ [])) k
