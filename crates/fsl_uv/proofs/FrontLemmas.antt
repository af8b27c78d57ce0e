-- What bytes begin with, by their first line.
use Rattle.std.proofs.Common.{◌≡◌, ℕ, suc, ◌+◌, ◌<◌, ◌≤◌, List, [], ◌∷◌, ◌++◌, length, length-append, drop, option_map, Option, Some, None, refl, sym, ap, subst, ◌∙◌, append_assoc, arith, inl, inr}
use Rattle.std.specs.Prelude.{decimal}
use Rattle.std.specs.List.{AllByRecursion}
use Rattle.std.proofs.lemmas.List.{append-nil, length-drop, drop-drop}
use Rattle.fsl_uv.specs.declared.UvMessageFault.{UvMessageFault}
use Rattle.fsl_uv.specs.declared.UvMessageFault.TheVariants as message_fault
use Rattle.fsl_uv.specs.Stores.{IsMessageFault}
use Rattle.fsl_text.specs.Escapes.{escape}
use Rattle.fsl_name.specs.Name.{name_of}
use Rattle.fsl_date.specs.Moment.{IsMoment}
use Rattle.fsl_uv.specs.declared.Card.{Card}
use Rattle.fsl_uv.specs.declared.Card.TheVariants as card_is
use Rattle.fsl_uv.specs.declared.Entry.{Entry}
use Rattle.fsl_uv.specs.declared.fronts.Front.{Front}
use Rattle.fsl_uv.specs.declared.fronts.Front.TheVariants as front_is
use Rattle.fsl_uv.specs.declared.heads.Head.{Head}
use Rattle.fsl_uv.specs.declared.heads.Head.TheVariants as head_is
use Rattle.fsl_uv.specs.declared.heads.Stamped.{Stamped}
use Rattle.fsl_uv.specs.Entries.{IsEntry, content, hash_text, is_path, most_of_content}
use Rattle.fsl_uv.specs.Cards.{hashed, IsSized, IsCard, card_text, file_text, IsMisnamed, BeginsNoCard, message_text}
use Rattle.fsl_uv.specs.Words.{stamped, IsContent}
use Rattle.fsl_uv.specs.Reading.{IsStamped, stamped_text, IsHead, head_text, IsFront, IsNamedFront, IsFrontBehind, IsFrontFault}
use Rattle.fsl_uv.proofs.Digests.{name-is}
use Rattle.fsl_uv.proofs.Solid.{Lacks, unique, has-byte, solid-space, solid-newline, escape-solid, decimal-solid, one-decimal, one-path}
use Rattle.fsl_uv.proofs.EntryLemmas.{one-stamp, stamp-line, lacks-append}
use Rattle.fsl_uv.proofs.HeadLemmas.{sized-hash, sized-small}

-- ---- a card by its line

hash-same : (b : Option (List ℕ)) → hashed (option_map name_of b) ≡ hash_text b
hash-same None = refl
hash-same (Some b) = refl

abbrev pub stamped_of : Entry → Stamped
stamped_of e = record { path = e.path; moment = e.moment; hash = option_map name_of e.bytes; size = length (content e.bytes) }

abbrev pub head_of : Card → Head
head_of (card_is.Igot path moment hash size) = head_is.Igot (record { path = path; moment = moment; hash = hash; size = size })
head_of (card_is.Gimme path) = head_is.Gimme path
head_of (card_is.File e) = head_is.File (stamped_of e)

abbrev pub tail_of : Card → List ℕ
tail_of (card_is.Igot path moment hash size) = []
tail_of (card_is.Gimme path) = []
tail_of (card_is.File e) = content e.bytes ++ (10 ∷ [])

pub file-is : (path : List ℕ) (moment : ℕ) (hash : Option (List ℕ)) (held : List ℕ)
    → file_text path moment (hashed hash) held ≡ head_text (head_is.File (record { path = path; moment = moment; hash = hash; size = length held })) ++ (10 ∷ (held ++ (10 ∷ [])))
file-is path moment hash held = append_assoc (head_text (head_is.File (record { path = path; moment = moment; hash = hash; size = length held }))) (10 ∷ []) (held ++ (10 ∷ []))

pub card-is : (c : Card) → card_text c ≡ head_text (head_of c) ++ (10 ∷ tail_of c)
card-is (card_is.Igot path moment hash size) = refl
card-is (card_is.Gimme path) = refl
card-is (card_is.File e) = ap (λ h. file_text e.path e.moment h (content e.bytes)) (sym (hash-same e.bytes)) ∙ file-is e.path e.moment (option_map name_of e.bytes) (content e.bytes)

pub sized-of : (b : Option (List ℕ)) → length (content b) ≤ most_of_content → IsSized (option_map name_of b) (length (content b))
sized-of None h = refl
sized-of (Some b) h = (name-is b, h)

pub head-good : (c : Card) → IsCard c → IsHead (head_of c)
head-good (card_is.Igot path moment hash size) h = record { path = h.0; moment = h.1; sized = h.2 }
head-good (card_is.Gimme path) h = h
head-good (card_is.File e) h = record { path = h.path; moment = h.moment; sized = sized-of e.bytes h.size }

stamped-line : (s : Stamped) → IsStamped s → Lacks 10 (stamped_text s)
stamped-line s good =
    lacks-append 10 (escape s.path) (32 ∷ stamped s.moment s.hash (decimal s.size)) (solid-newline (escape s.path) (escape-solid s.path))
    (stamp-line s.moment s.hash (decimal s.size) good.moment (sized-hash s.hash s.size good.sized) (solid-newline (decimal s.size) (decimal-solid s.size (sized-small s.hash s.size good.sized))))

pub head-line : (h : Head) → IsHead h → Lacks 10 (head_text h)
head-line (head_is.Igot s) good = stamped-line s good
head-line (head_is.Gimme path) good = solid-newline (escape path) (escape-solid path)
head-line (head_is.File s) good = stamped-line s good

-- ---- a line is of one head

pub one-stamped : (a b : Stamped) → IsStamped a → IsStamped b → stamped_text a ≡ stamped_text b → a ≡ b
one-stamped a b p q e =
    let first = unique 32 (escape a.path) (stamped a.moment a.hash (decimal a.size)) (escape b.path) (stamped b.moment b.hash (decimal b.size)) (solid-space (escape a.path) (escape-solid a.path)) (solid-space (escape b.path) (escape-solid b.path)) e in
    let second = one-stamp a.moment b.moment a.hash b.hash (decimal a.size) (decimal b.size) p.moment q.moment (sized-hash a.hash a.size p.sized) (sized-hash b.hash b.size q.sized) first.1 in
    let path = one-path a.path b.path first.0 in
    let size = one-decimal a.size b.size (sized-small a.hash a.size p.sized) (sized-small b.hash b.size q.sized) second.2 in
    λ i. record { path = path i; moment = second.0 i; hash = second.1 i; size = size i }

abbrev pub third : List ℕ → ℕ
third (a ∷ b ∷ c ∷ rest) = c
third rest = 0

not-file : (s : Stamped) (h : Head) → IsStamped s → IsHead h → head_text (head_is.File s) ≡ head_text h → h ≡ head_is.File s
not-file s (head_is.Igot t) p q e = absurd (let x : ◌≡◌ {A = ℕ} 102 105 = ap third e in omega (arith, x))
not-file s (head_is.Gimme path) p q e = absurd (let x : ◌≡◌ {A = ℕ} 102 103 = ap third e in omega (arith, x))
not-file s (head_is.File t) p q e = ap head_is.File (sym (one-stamped s t p q (ap (drop 7) e)))

-- ---- bytes by their first line

drop-line : (line behind : List ℕ) → drop (length line + 1) (line ++ 10 ∷ behind) ≡ behind
drop-line [] behind = refl
drop-line (b ∷ line) behind = let e : suc (length line) + 1 ≡ suc (length line + 1) = omega arith in ap (λ n. drop n (b ∷ line ++ 10 ∷ behind)) e ∙ drop-line line behind

module _ (bytes line behind : List ℕ) (lacks : Lacks 10 line) (is : bytes ≡ line ++ 10 ∷ behind) where
  pub card-line : (c : Card) (more : List ℕ) → IsCard c → bytes ≡ card_text c ++ more → (line ≡ head_text (head_of c)) × (behind ≡ tail_of c ++ more)
  card-line c more good e =
      unique 10 line behind (head_text (head_of c)) (tail_of c ++ more) lacks (head-line (head_of c) (head-good c good))
      (sym is ∙ e ∙ ap (λ (t : List ℕ). t ++ more) (card-is c) ∙ append_assoc (head_text (head_of c)) (10 ∷ tail_of c) more)

  abbrev pub misnamed_head : List ℕ → ℕ → List ℕ → List ℕ → Stamped
  misnamed_head path moment kept held = record { path = path; moment = moment; hash = Some kept; size = length held }

  pub misnamed-line : (kept found : List ℕ) (m : IsMisnamed bytes kept found) → IsStamped (misnamed_head m.0 m.1 kept m.2) × (line ≡ head_text (head_is.File (misnamed_head m.0 m.1 kept m.2))) × (behind ≡ (m.2 ++ 10 ∷ []) ++ m.3)
  misnamed-line kept found m =
      let s = misnamed_head m.0 m.1 kept m.2 in
      let good : IsStamped s = record { path = m.4; moment = m.5; sized = (m.6, m.7) } in
      let u = unique 10 line behind (head_text (head_is.File s)) ((m.2 ++ 10 ∷ []) ++ m.3) lacks (head-line (head_is.File s) good)
      (sym is ∙ m.8 ∙ ap (λ (t : List ℕ). t ++ m.3) (file-is m.0 m.1 (Some kept) m.2) ∙ append_assoc (head_text (head_is.File s)) (10 ∷ (m.2 ++ (10 ∷ []))) m.3) in
      (good, u.0, u.1)

  pub no-head : ((h : Head) → IsHead h → line ≡ head_text h → ⊥) → BeginsNoCard bytes
  no-head none = record {
    card = λ c more good e. none (head_of c) (head-good c good) (card-line c more good e).0;
    misnamed = λ kept found m. let l = misnamed-line kept found m in none (head_is.File (misnamed_head m.0 m.1 kept m.2)) l.0 l.1;
  }

  abbrev size_in : Head → ℕ
  size_in (head_is.Igot s) = s.size
  size_in (head_is.Gimme path) = 0
  size_in (head_is.File s) = s.size

  -- a file's line without its content
  pub no-held : (s : Stamped) → IsStamped s → line ≡ head_text (head_is.File s) → ((held rest : List ℕ) → length held ≡ s.size → behind ≡ held ++ 10 ∷ rest → ⊥) → BeginsNoCard bytes
  no-held s good head none = record {
    card = λ c more fine e. of_card c more fine (card-line c more fine e);
    misnamed = λ kept found m.
        let l = misnamed-line kept found m in
        none m.2 m.3 (ap size_in (not-file s (head_is.File (misnamed_head m.0 m.1 kept m.2)) good l.0 (sym head ∙ l.1))) (l.2 ∙ append_assoc m.2 (10 ∷ []) m.3);
  }
    where
      of_card : (c : Card) (more : List ℕ) → IsCard c → (line ≡ head_text (head_of c)) × (behind ≡ tail_of c ++ more) → ⊥
      of_card (card_is.Igot path moment hash size) more fine l = let x : ◌≡◌ {A = ℕ} 102 105 = ap third (sym head ∙ l.0) in omega (arith, x)
      of_card (card_is.Gimme path) more fine l = let x : ◌≡◌ {A = ℕ} 102 103 = ap third (sym head ∙ l.0) in omega (arith, x)
      of_card (card_is.File e) more fine l =
          none (content e.bytes) more (ap size_in (not-file s (head_is.File (stamped_of e)) good (head-good (card_is.File e) fine) (sym head ∙ l.0))) (l.1 ∙ append_assoc (content e.bytes) (10 ∷ []) more)

pub no-newline : (bytes : List ℕ) → Lacks 10 bytes → BeginsNoCard bytes
no-newline bytes lacks = record {
  card = λ c more good e. has-byte 10 (head_text (head_of c)) (tail_of c ++ more)
      (subst (Lacks 10) (e ∙ ap (λ (t : List ℕ). t ++ more) (card-is c) ∙ append_assoc (head_text (head_of c)) (10 ∷ tail_of c) more) lacks);
  misnamed = λ kept found m.
      let s : Stamped = record { path = m.0; moment = m.1; hash = Some kept; size = length m.2 } in
      has-byte 10 (head_text (head_is.File s)) ((m.2 ++ 10 ∷ []) ++ m.3)
      (subst (Lacks 10) (m.8 ∙ ap (λ (t : List ℕ). t ++ m.3) (file-is m.0 m.1 (Some kept) m.2) ∙ append_assoc (head_text (head_is.File s)) (10 ∷ (m.2 ++ (10 ∷ []))) m.3) lacks);
}

-- ---- a front that is a card

drop-text : (text rest : List ℕ) → drop (length text) (text ++ rest) ≡ rest
drop-text [] rest = refl
drop-text (b ∷ text) rest = drop-text text rest

by-text : (bytes : List ℕ) (c : Card) (rest : List ℕ) (n : ℕ) → IsCard c → bytes ≡ card_text c ++ rest → n ≡ length (card_text c) → 0 < n → IsFront bytes (front_is.Card c n)
by-text bytes c rest n good is long some =
    let all = ap length is ∙ length-append (card_text c) rest in
    let left : drop n bytes ≡ rest = (λ i. drop (long i) (is i)) ∙ drop-text (card_text c) rest in
    (good, some, omega (arith, all, long), is ∙ ap (λ r. card_text c ++ r) (sym left))

sized-most : (h : Option (List ℕ)) (n : ℕ) → IsSized h n → n ≤ most_of_content
sized-most None n s = omega (arith, s)
sized-most (Some name) n s = s.1

module _ (bytes line behind : List ℕ) (lacks : Lacks 10 line) (is : bytes ≡ line ++ 10 ∷ behind) where
  -- a card of one line
  of-line : (c : Card) → IsCard c → tail_of c ≡ [] → line ≡ head_text (head_of c) → (f : Front) → f ≡ front_is.Card c (length line + 1) → IsFront bytes f
  of-line c good none head f same =
      let text : card_text c ≡ line ++ 10 ∷ [] = card-is c ∙ (λ i. sym head i ++ 10 ∷ none i) in
      let long = ap length text ∙ length-append line (10 ∷ []) in
      subst (IsFront bytes) (sym same)
      (by-text bytes c behind (length line + 1) good (is ∙ sym (ap (λ (t : List ℕ). t ++ behind) text ∙ append_assoc line (10 ∷ []) behind)) (omega (arith, long)) (omega arith))

  named : (s : Stamped) → IsStamped s → line ≡ head_text (head_is.File s) → (held : List ℕ) → length held ≡ s.size → behind ≡ held ++ 10 ∷ drop (s.size + 1) behind → (f : Front) → IsNamedFront s held (length line + 1 + s.size + 1) f → IsFront bytes f
  named s good head held len split (front_is.Card c n) p =
      let e = p.0 in
      let has = p.4 in
      let size : length (content e.bytes) ≡ s.size = ap length (sym has.content) ∙ len in
      let same : stamped_of e ≡ s = λ i. record { path = p.2 i; moment = p.3 i; hash = sym has.hash i; size = size i } in
      let fine : IsEntry e = record { path = ap is_path p.2 ∙ good.path; moment = subst IsMoment (sym p.3) good.moment; size = omega (arith, size, sized-most s.hash s.size good.sized) } in
      let text : card_text (card_is.File e) ≡ line ++ (10 ∷ (held ++ (10 ∷ []))) =
      card-is (card_is.File e) ∙ (λ i. head_text (head_is.File (same i)) ++ (10 ∷ (sym has.content i ++ (10 ∷ [])))) ∙ ap (λ (t : List ℕ). t ++ (10 ∷ (held ++ (10 ∷ [])))) (sym head) in
      let long = ap length text ∙ length-append line (10 ∷ (held ++ (10 ∷ []))) in
      let inner = length-append held (10 ∷ []) in
      subst (λ (k : Card). IsFront bytes (front_is.Card k n)) (sym p.1)
      (by-text bytes (card_is.File e) (drop (s.size + 1) behind) n fine
      (is ∙ ap (λ (t : List ℕ). line ++ 10 ∷ t) split ∙ sym (ap (λ (t : List ℕ). t ++ drop (s.size + 1) behind) text ∙ append_assoc line (10 ∷ (held ++ (10 ∷ []))) (drop (s.size + 1) behind)
      ∙ ap (λ (t : List ℕ). line ++ 10 ∷ t) (append_assoc held (10 ∷ []) (drop (s.size + 1) behind))))
      (omega (arith, p.5, long, inner, len)) (omega (arith, p.5)))
  named s good head held len split (front_is.Misnamed kept found) p =
      let sized : IsSized (Some kept) s.size = subst (λ h. IsSized h s.size) p.0 good.sized in
      let same : s ≡ record { path = s.path; moment = s.moment; hash = Some kept; size = length held } = λ i. record { path = s.path; moment = s.moment; hash = p.0 i; size = sym len i } in (
        s.path,
        s.moment,
        held,
        drop (s.size + 1) behind,
        good.path,
        good.moment,
        sized.0,
        omega (arith, len, sized.1),
        is ∙ (λ i. (head ∙ ap (λ t. head_text (head_is.File t)) same) i ++ 10 ∷ split i)
            ∙ sym (ap (λ (t : List ℕ). t ++ drop (s.size + 1) behind) (file-is s.path s.moment (Some kept) held)
            ∙ append_assoc (head_text (head_is.File (record { path = s.path; moment = s.moment; hash = Some kept; size = length held }))) (10 ∷ (held ++ (10 ∷ []))) (drop (s.size + 1) behind)
            ∙ ap (λ (t : List ℕ). head_text (head_is.File (record { path = s.path; moment = s.moment; hash = Some kept; size = length held })) ++ 10 ∷ t) (append_assoc held (10 ∷ []) (drop (s.size + 1) behind))),
        p.1,
        p.2,
      )
  named s good head held len split front_is.Bad p = absurd p

  pub front-is : (h : Head) → IsHead h → line ≡ head_text h → (f : Front) → IsFrontBehind h behind (length line + 1) f → IsFront bytes f
  front-is (head_is.Igot s) good head f p = of-line (card_is.Igot s.path s.moment s.hash s.size) (good.path, good.moment, good.sized) refl head f p
  front-is (head_is.Gimme path) good head f p = of-line (card_is.Gimme path) good refl head f p
  front-is (head_is.File s) good head f (inl p) = subst (IsFront bytes) (sym p.0) (no-held bytes line behind lacks is s good head p.1)
  front-is (head_is.File s) good head f (inr p) = named s good head p.0 p.1 p.2 f p.3

-- ---- the content of a line

pub content-fits : (h : Option (List ℕ)) (held : List ℕ) (n : ℕ) → IsSized h n → length held ≡ n → ((name : List ℕ) → h ≡ Some name → name ≡ name_of held) → IsContent h held
content-fits None held n s len named = empty held (omega (arith, len, s))
  where
    empty : (xs : List ℕ) → length xs ≡ 0 → xs ≡ []
    empty [] e = refl
    empty (x ∷ xs) e = absurd (omega (arith, e))
content-fits (Some name) held n s len named = (named name refl, omega (arith, len, s.1))

-- ---- a message, one card more

all-more : (cards : List Card) (c : Card) → AllByRecursion IsCard cards → IsCard c → AllByRecursion IsCard (cards ++ c ∷ [])
all-more [] c all good = (good, tt)
all-more (d ∷ cards) c all good = (all.0, all-more cards c all.1 good)

text-more : (cards : List Card) (c : Card) → message_text (cards ++ c ∷ []) ≡ message_text cards ++ card_text c
text-more [] c = append-nil (card_text c)
text-more (d ∷ cards) c = ap (λ (t : List ℕ). card_text d ++ t) (text-more cards c) ∙ sym (append_assoc (card_text d) (message_text cards) (card_text c))

dropped : (n k : ℕ) (xs : List ℕ) → drop k (drop n xs) ≡ drop (n + k) xs
dropped n k xs = drop-drop k n xs

module _ (message : List ℕ) (cards : List Card) (at : ℕ) (good : AllByRecursion IsCard cards) (layout : message ≡ message_text cards ++ drop at message) (within : at ≤ length message) (rest : List ℕ) (is : rest ≡ drop at message) where
  module _ (new : List Card) (c : Card) (size : ℕ) (pushed : new ≡ cards ++ c ∷ []) (front : IsFront rest (front_is.Card c size)) where
    pub more-good : AllByRecursion IsCard new
    more-good = subst (AllByRecursion IsCard) (sym pushed) (all-more cards c good front.0)

    pub more-layout : message ≡ message_text new ++ drop (at + size) message
    more-layout =
        layout ∙ ap (λ (t : List ℕ). message_text cards ++ t) (sym is ∙ front.3 ∙ ap (λ (t : List ℕ). card_text c ++ drop size t) is ∙ ap (λ (t : List ℕ). card_text c ++ t) (dropped at size message))
        ∙ sym (append_assoc (message_text cards) (card_text c) (drop (at + size) message))
        ∙ ap (λ (t : List ℕ). t ++ drop (at + size) message) (sym (ap message_text pushed ∙ text-more cards c))

    pub more-within : at + size ≤ length message
    more-within = let l = ap length is ∙ length-drop at message in let f = front.2 in omega (arith, l, f, within)

    pub more-length : length new ≡ length cards + 1
    more-length = ap length pushed ∙ length-append cards (c ∷ [])

  pub fails : at < length message → (line : ℕ) → line ≡ length cards + 1 → (fault : UvMessageFault) → IsFrontFault rest line fault → IsMessageFault message fault
  fails left line counted (message_fault.Line n) p =
      (cards, rest, record { good = good; layout = layout ∙ ap (λ (t : List ℕ). message_text cards ++ t) (sym is) }, some, p.1, p.0 ∙ counted)
    where
      nothing : rest ≡ [] → length rest ≡ 0
      nothing e = ap length e

      some : rest ≡ [] → ⊥
      some e = let z = nothing e in let l = ap length is ∙ length-drop at message in omega (arith, z, l, left)
  fails left line counted (message_fault.NameWrong kept found) p = (cards, rest, record { good = good; layout = layout ∙ ap (λ (t : List ℕ). message_text cards ++ t) (sym is) }, p)
  fails left line counted message_fault.Memory p = tt
